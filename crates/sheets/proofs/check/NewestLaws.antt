-- The search for a word among those given: the newest places by remainder at the start and after one word more, the search from there, and what is found by the word's place. Assumes nothing.
use Prim.Native.Nat.{ℕ, zero, suc, ◌+◌, ◌-◌, ◌%◌, ◌<◌, ◌≤◌}
use native.Mathlib.Omega.{arith}
use native.Mathlib.Nat.{mod-lt}
use native.Mathlib.Numerals.{sub-one}
use mathlib.Core.Path.{◌≡◌, refl, sym, ap, subst, ◌∙◌}
use mathlib.Core.Bool.{Bool, true, false}
use mathlib.Core.List.{List}
use Rattle.std.specs.Prelude.{Option, Some, None, unwrap_or}
use lib.Dec.{eqb, leb, ltb}
use lib.ListN.{get_or, get_or-replicate, length-replicate, length-set}
use lib.Seq.{get_or-set_same, get_or-set_other}
use borrow.Author.Tests.{eq-eqb, ne_eqb, eqb-true, eqb-false, leb-true, ltb-true, ltb-false, le-leb, lt-leb}
use Rattle.sheets.specs.Table.{when}
use Rattle.sheets.specs.code.check.Newest.{no_names, with_name, newest_of, search_from, Newest, place_from, as_place, place_found, Placed}
use Rattle.sheets.specs.declared.check.names.Names.{Names}

small : (c : ℕ) → c % 512 < 512
small c = mod-lt c (omega arith)

pub newest-none : Newest no_names 0
newest-none = record {
  sizes = (length-replicate {A = ℕ} 96 0, length-replicate {A = ℕ} 96 255, length-replicate {A = ℕ} 512 0);
  few = omega arith;
  most = λ c. omega (arith, get_or-replicate {A = ℕ} 512 (c % 512) 0 0 (small c));
  is = λ i h. absurd (omega arith);
}

module _ (names : Names) (n : ℕ) (h : Newest names n) where
  -- one word more, at the next place
  pub newest-more : n < 95 → (c k : ℕ) → Newest (with_name names c k (n + 1)) (n + 1)
  newest-more room c k = record {
    sizes = (length-set names.words _ _ ∙ h.sizes.0, length-set names.kinds _ _ ∙ h.sizes.1, length-set names.newest _ _ ∙ h.sizes.2);
    few = omega arith;
    most = most;
    is = λ i l. is i l (eqb i n) refl;
  }
    where
      later : Names
      later = with_name names c k (n + 1)

      at-it : (d : ℕ) → d % 512 ≡ c % 512 → newest_of later d ≡ n + 1
      at-it d e = ap (λ j. get_or later.newest j 0) e ∙ get_or-set_same names.newest (c % 512) (n + 1) 0 (omega (arith, small c, h.sizes.2))

      most : (d : ℕ) → newest_of later d ≤ n + 1
      most d = go (eqb (d % 512) (c % 512)) refl
        where
          go : (b : Bool) → eqb (d % 512) (c % 512) ≡ b → newest_of later d ≤ n + 1
          go true e = omega (arith, at-it d (eqb-true _ _ e))
          go false e = omega (arith, get_or-set_other names.newest (c % 512) (d % 512) (n + 1) 0 (eqb-false _ _ e), h.most d)

      -- a place before it stays one
      before : (i d : ℕ) → i < n → i < newest_of names d → (b : Bool) → eqb (d % 512) (c % 512) ≡ b → i < newest_of later d
      before i d l m true e = omega (arith, at-it d (eqb-true _ _ e))
      before i d l m false e = omega (arith, get_or-set_other names.newest (c % 512) (d % 512) (n + 1) 0 (eqb-false _ _ e))

      is : (i : ℕ) → i < n + 1 → (b : Bool) → eqb i n ≡ b → i < newest_of later (get_or later.words (suc i) 0)
      is i l true e =
          let q : suc i ≡ n + 1 = omega (arith, eqb-true i n e) in
          let d : get_or later.words (suc i) 0 ≡ c = ap (λ j. get_or later.words j 0) q ∙ get_or-set_same names.words (n + 1) c 0 (omega (arith, h.sizes.0)) in
          omega (arith, at-it _ (ap (λ k. k % 512) d))
      is i l false e =
          let q : (i ≡ n → ⊥) = eqb-false i n e in
          let j : i < n = omega arith in
          subst (λ d. i < newest_of later d) (sym (get_or-set_other names.words (n + 1) (suc i) c 0 (λ z. omega arith))) (before i (get_or names.words (suc i) 0) j (h.is i j) (eqb (get_or names.words (suc i) 0 % 512) (c % 512)) refl)

  -- f k is what the search from the place k finds: it passes over each place where another word stands
  pub from-newest : {A : Type 0} (c : ℕ) (f : ℕ → A) → ((k : ℕ) → (get_or names.words (suc k) 0 ≡ c → ⊥) → f k ≡ f (suc k)) → f (newest_of names c) ≡ f n
  from-newest {A} c f over = go n (h.most c) (omega arith)
    where
      by : (k : ℕ) → newest_of names c ≤ suc k → suc k ≤ n → (newest_of names c ≤ k → f (newest_of names c) ≡ f k) → (b : Bool) → ltb k (newest_of names c) ≡ b → f (newest_of names c) ≡ f (suc k)
      by k low high before true e = ap f (omega (arith, ltb-true k (newest_of names c) e))
      by k low high before false e =
          let l : newest_of names c ≤ k = ltb-false k (newest_of names c) e in
          before l ∙ over k (λ q. let z = subst (λ j. k < newest_of names j) q (h.is k (omega arith)) in omega arith)

      go : (k : ℕ) → newest_of names c ≤ k → k ≤ n → f (newest_of names c) ≡ f k
      go zero low high = ap f (omega arith)
      go (suc k) low high = by k low high (λ l. go k l (omega arith)) (ltb k (newest_of names c)) refl

  -- so the word's place is found from there
  pub search_is : (c : ℕ) → search_from names c ≡ newest_of names c
  unfolding search_from
  search_is c = rw (le-leb (newest_of names c) 95 (omega (arith, h.most c, h.few))) refl

  pub place_is : (c j : ℕ) → Placed names c j → j ≡ place_from names.words n c
  unfolding place_from
  place_is c j p = p.is ∙ ap (λ k. place_from names.words k c) (search_is c) ∙ from-newest c (λ k. place_from names.words k c) (λ k q. rw (ne_eqb (get_or names.words (suc k) 0) c q) refl)

-- ---- the place found

-- a word's place is one of the first n
pub at_most : (words : List ℕ) (c n : ℕ) → place_from words n c ≤ n
unfolding place_from
at_most words c zero = omega arith
at_most words c (suc n) = go (eqb (get_or words (suc n) 0) c) (at_most words c n)
  where
    go : (b : Bool) → place_from words n c ≤ n → when b (suc n) (place_from words n c) ≤ suc n
    go true m = omega arith
    go false m = omega arith

module _ (names : Names) (c : ℕ) where
  begins : search_from names c ≤ 95
  unfolding search_from
  begins = go (leb (newest_of names c) 95) refl
    where
      go : (b : Bool) → leb (newest_of names c) 95 ≡ b → when b (newest_of names c) 0 ≤ 95
      go true e = leb-true (newest_of names c) 95 e
      go false e = omega arith

  placed_lem : Placed names c (place_from names.words (search_from names c) c)
  placed_lem = record { most = omega (arith, begins, at_most names.words c (search_from names c)); is = refl }

  module _ (r : Option ℕ) (er : r ≡ place_found names c) where
    placed_as : (k : ℕ) → place_from names.words (search_from names c) c ≡ k → r ≡ as_place k
    unfolding place_found
    placed_as k e = er ∙ ap as_place e

    pub placed-none : r ≡ None → Placed names c 0
    placed-none h = go (place_from names.words (search_from names c) c) refl
      where
        go : (k : ℕ) → place_from names.words (search_from names c) c ≡ k → Placed names c 0
        go zero e = subst (Placed names c) e placed_lem
        go (suc k) e = let i = placed_as (suc k) e in let z : ◌≡◌ {A = ℕ} 0 1 = cc in absurd (omega arith)

    pub placed-some : (j : ℕ) → r ≡ Some j → Placed names c j × (j ≡ 0 → ⊥)
    placed-some j h = go (place_from names.words (search_from names c) c) refl
      where
        go : (k : ℕ) → place_from names.words (search_from names c) c ≡ k → Placed names c j × (j ≡ 0 → ⊥)
        go zero e = let i = placed_as 0 e in let z : ◌≡◌ {A = ℕ} 0 1 = cc in absurd (omega arith)
        go (suc k) e =
            let i = placed_as (suc k) e in
            let q : suc k ≡ j = cc in
            (subst (Placed names c) (e ∙ q) placed_lem, λ z. omega (arith, q))

    pub placed-or : (j : ℕ) → j ≡ unwrap_or r 0 → Placed names c j
    placed-or j ej = subst (Placed names c) (sym ej) (go r refl)
      where
        go : (o : Option ℕ) → r ≡ o → Placed names c (unwrap_or o 0)
        go None e = placed-none e
        go (Some j) e = (placed-some j e).0

-- ---- the search, a place at a time

module _ (words : List ℕ) (c : ℕ) where
  pub place_here : (i : ℕ) → 0 < i → get_or words i 0 ≡ c → i ≡ place_from words i c
  unfolding place_from
  place_here zero pos e = absurd (omega arith)
  place_here (suc n) pos e = rw (eq-eqb (get_or words (suc n) 0) c e) refl

  pub place-before : (i : ℕ) → 0 < i → (get_or words i 0 ≡ c → ⊥) → place_from words (i - 1) c ≡ place_from words i c
  unfolding place_from
  place-before zero pos e = absurd (omega arith)
  place-before (suc n) pos e = rw (ne_eqb (get_or words (suc n) 0) c e, sub-one) refl

  pub place-last : (i : ℕ) → i ≤ 0 → 0 ≡ place_from words i c
  unfolding place_from
  place-last zero h = refl
  place-last (suc n) h = absurd (omega arith)

  -- f k is what the first k words say, `there` what a place holds: the word's place tells it
  pub by_place : {A : Type 0} (there f : ℕ → A) (n : ℕ) → ((k : ℕ) → k < n → f (suc k) ≡ when (eqb (get_or words (suc k) 0) c) (there (suc k)) (f k))
      → f n ≡ when (eqb (place_from words n c) 0) (f 0) (there (place_from words n c))
  unfolding place_from
  by_place there f zero step = refl
  by_place there f (suc n) step = step n (omega arith) ∙ go (eqb (get_or words (suc n) 0) c) (by_place there f n (λ k l. step k (omega arith)))
    where
      go : (b : Bool) → f n ≡ when (eqb (place_from words n c) 0) (f 0) (there (place_from words n c))
          → when b (there (suc n)) (f n) ≡ when (eqb (when b (suc n) (place_from words n c)) 0) (f 0) (there (when b (suc n) (place_from words n c)))
      go true e = rw (ne_eqb (suc n) 0 (λ q. omega arith)) refl
      go false e = e

module _ (names : Names) (c i : ℕ) (e : i ≡ newest_of names c) where
  pub search-none : 95 < i → None ≡ place_found names c
  unfolding search_from place_from place_found
  search-none h = rw (← e, lt-leb i 95 h) refl

  pub search-some : i ≤ 95 → place_from names.words i c ≡ place_from names.words (search_from names c) c
  unfolding search_from
  search-some h = rw (← e, le-leb i 95 h) refl

module _ (names : Names) (c i : ℕ) (e : place_from names.words i c ≡ place_from names.words (search_from names c) c) where
  pub found-here : 0 < i → get_or names.words i 0 ≡ c → Some i ≡ place_found names c
  unfolding place_found
  found-here pos h = go i refl pos ∙ ap as_place (place_here names.words c i pos h ∙ e)
    where
      go : (k : ℕ) → i ≡ k → 0 < k → Some i ≡ as_place i
      go zero ek l = absurd (omega arith)
      go (suc k) ek l = rw ek refl

  pub found-nowhere : i ≤ 0 → None ≡ place_found names c
  unfolding place_found
  found-nowhere h = ap as_place (place-last names.words c i h ∙ e)
