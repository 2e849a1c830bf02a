-- The words of the lines passed, by their codes: the readings, a word's kind, and one line more. Assumes nothing.
use Prim.Native.Nat.{ℕ, zero, suc, ◌+◌, ◌-◌, ◌<◌, ◌≤◌}
use native.Mathlib.Omega.{arith}
use mathlib.Core.Path.{◌≡◌, refl, sym, ap, ◌∙◌, subst}
use mathlib.Core.Bool.{Bool, true, false, ◌||◌, ◌&&◌}
use mathlib.Core.List.{List, [], ◌∷◌, map}
use mathlib.Core.Option.{Option as Maybe, some}
use Rattle.std.specs.Prelude.{Some, None}
use lib.Dec.{T, eqb, leb}
use lib.ListN.{get_or}
use lib.Seq.{get_or-set_same, get_or-set_other}
use mir.Facts.{and_yes}
use mir.Val.{has_key}
use borrow.Author.Tests.{eq-eqb, ne_eqb, eqb-true, eqb-false, leb-true, le-leb, lt-leb}
use Rattle.sheets.specs.Text.{Word, ascii}
use Rattle.sheets.specs.Grammar.{IsWord}
use Rattle.sheets.specs.code.reader.Codes.{word_char, code_from, code_of}
use Rattle.sheets.specs.Kinds.{Kind, number, kind_code}
use Rattle.sheets.specs.Table.{when}
use Rattle.sheets.specs.Lookup.{same_word}
use Rattle.sheets.specs.Names.{Known, or_else, lookup, reading_words, given_on}
use Rattle.sheets.specs.Check.{reading_kinds}
use Rattle.sheets.proofs.reader.CodeLaws.{code-none}
use Rattle.sheets.proofs.check.ReadingLaws.{codes_of, AreWords, reading_codes, readings-are}
use Rattle.sheets.proofs.check.KindExact.{same_word_lem}
use Rattle.sheets.proofs.rows.KindRowLaws.{words-agree, every, of-every}
use Rattle.sheets.specs.code.check.Newest.{with_name, Newest, place_from}
use Rattle.sheets.specs.declared.check.names.Names.{Names}
use Rattle.sheets.proofs.check.NewestLaws.{newest-more, search_is, from-newest, by_place}
use Rattle.sheets.specs.code.rows.KindCodes.{code_if}
use Rattle.sheets.specs.code.check.Walking.{reading_kind, kind_from, kind_found, Stands}

-- ---- the readings

by_codes : (vs : List Word) → AreWords vs → (w : Word) → IsWord w → when (has_key (codes_of vs) (code_of w)) (Some 0) None ≡ code_if (lookup w (map (λ v. given_on 0 v number) vs))
by_codes [] h w hw = refl
by_codes (v ∷ vs) h w hw = rw (words-agree v w h.0 hw) (go (same_word w v) (by_codes vs h.1 w hw))
  where
    go : (b : Bool) → when (has_key (codes_of vs) (code_of w)) (Some 0) None ≡ code_if (lookup w (map (λ v. given_on 0 v number) vs))
        → when (b || has_key (codes_of vs) (code_of w)) (Some 0) None ≡ code_if (or_else b number (lookup w (map (λ v. given_on 0 v number) vs)))
    go true e = refl
    go false e = e

yes-is : (b : Bool) → T b → b ≡ true
yes-is true t = refl
yes-is false t = absurd t

-- what holds of each of the numbers below n
abbrev all_below : (ℕ → Bool) → ℕ → Bool
all_below f zero = true
all_below f (suc n) = f n && all_below f n

below : (f : ℕ → Bool) (n : ℕ) → T (all_below f n) → (i : ℕ) → i < n → T (f i)
below f zero t i h = absurd (omega arith)
below f (suc n) t i h =
    let (p, q) = and_yes (f n) (all_below f n) t in
    go (eqb n i) refl p (below f n q i)
  where
    go : (b : Bool) → eqb n i ≡ b → T (f n) → (i < n → T (f i)) → T (f i)
    go true e p k = subst (λ j. T (f j)) (eqb-true n i e) p
    go false e p k = k (omega (arith, eqb-false n i e))

-- numbers that follow each other, all among the codes
run : (ks : List ℕ) (start end n : ℕ) → end + 1 ≡ start + n → T (all_below (λ i. has_key ks (start + i)) n) → (c : ℕ) → T (leb start c && leb c end) → has_key ks c ≡ true
run ks start end n len t c h =
    let (low, high) = and_yes (leb start c) (leb c end) h in
    let a = leb-true start c (yes-is _ low) in
    let b = leb-true c end (yes-is _ high) in
    let e : start + (c - start) ≡ c = omega arith in
    yes-is _ (subst (λ x. T (has_key ks x)) e (below (λ i. has_key ks (start + i)) n t (c - start) (omega arith)))

-- the codes of r0 and r9, and those of r10 and r15, between which the others' stand
abbrev r0 : ℕ
r0 = code_of (ascii "r0")

abbrev r9 : ℕ
r9 = code_of (ascii "r9")

abbrev r10 : ℕ
r10 = code_of (ascii "r10")

abbrev r15 : ℕ
r15 = code_of (ascii "r15")

abbrev in_ranges : ℕ → Bool
in_ranges c = (leb r0 c && leb c r9) || (leb r10 c && leb c r15)

in-ranges : (ks : List ℕ) → T (every in_ranges ks) → (c : ℕ) → in_ranges c ≡ false → has_key ks c ≡ false
in-ranges ks t c h = go (has_key ks c) refl
  where
    go : (b : Bool) → has_key ks c ≡ b → has_key ks c ≡ false
    go true e = absurd (subst T h (of-every in_ranges ks t c (subst T (sym e) tt)))
    go false e = e

-- the codes of r0 to r9, and those of r10 to r15
ranges-are : (c : ℕ) → in_ranges c ≡ has_key reading_codes c
unfolding word_char code_from
ranges-are c = go (leb r0 c && leb c r9) refl (leb r10 c && leb c r15) refl
  where
    go : (a : Bool) → (leb r0 c && leb c r9) ≡ a → (b : Bool) → (leb r10 c && leb c r15) ≡ b → (a || b) ≡ has_key reading_codes c
    go true e b f = sym (run reading_codes r0 r9 10 refl tt c (subst T (sym e) tt))
    go false e true f = sym (run reading_codes r10 r15 6 refl tt c (subst T (sym f) tt))
    go false e false f = sym (in-ranges reading_codes tt c (rw (e, f) refl))

pub reading-is : (w : Word) → IsWord w → reading_kind (code_of w) ≡ code_if (lookup w reading_kinds)
unfolding reading_kind
reading-is w hw = by_codes reading_words readings-are w hw

module _ (c : ℕ) where
  by-range : (b : Bool) → in_ranges c ≡ b → when b (Some 0) None ≡ reading_kind c
  unfolding reading_kind
  by-range b e = ap (λ x. when x (Some 0) None) (sym e ∙ ranges-are c)

  pub reading-before : c < r0 → None ≡ reading_kind c
  unfolding word_char code_from
  reading-before h = by-range false (rw (lt-leb r0 c h, lt-leb r10 c (omega arith)) refl)

  pub reading-low : r0 ≤ c → c ≤ r9 → Some 0 ≡ reading_kind c
  unfolding word_char code_from
  reading-low l h = by-range true (rw (le-leb r0 c l, le-leb c r9 h) refl)

  pub reading-between : r9 < c → c < r10 → None ≡ reading_kind c
  unfolding word_char code_from
  reading-between l h = by-range false (rw (le-leb r0 c (omega arith), lt-leb c r9 l, lt-leb r10 c h) refl)

  pub reading-high : r10 ≤ c → c ≤ r15 → Some 0 ≡ reading_kind c
  unfolding word_char code_from
  reading-high l h = by-range true (rw (le-leb r0 c (omega arith), lt-leb c r9 (omega arith), le-leb r10 c l, le-leb c r15 h) refl)

  pub reading-behind : r15 < c → None ≡ reading_kind c
  unfolding word_char code_from
  reading-behind h = by-range false (rw (le-leb r0 c (omega arith), lt-leb c r9 (omega arith), le-leb r10 c (omega arith), lt-leb c r15 h) refl)

-- ---- a word's kind by its place: that of its line, or a reading's

module _ (names : Names) (n : ℕ) (c j : ℕ) (e : j ≡ place_from names.words n c) where
  at_place : kind_from names n c ≡ when (eqb j 0) (reading_kind c) (Some (get_or names.kinds j 0))
  unfolding kind_from
  at_place = by_place names.words c (λ k. Some (get_or names.kinds k 0)) (λ k. kind_from names k c) n (λ k l. refl) ∙ ap (λ k. when (eqb k 0) (reading_kind c) (Some (get_or names.kinds k 0))) (sym e)

  pub kind-reading : j ≡ 0 → reading_kind c ≡ kind_from names n c
  kind-reading h = sym (at_place ∙ rw (eq-eqb j 0 h) refl)

  pub kind-there : (j ≡ 0 → ⊥) → Some (get_or names.kinds j 0) ≡ kind_from names n c
  kind-there h = sym (at_place ∙ rw (ne_eqb j 0 h) refl)

-- the search may begin at the newest place for the word's remainder
pub kind-newest : (names : Names) (n : ℕ) → Newest names n → (c : ℕ) → kind_found names c ≡ kind_from names n c
unfolding kind_found kind_from
kind-newest names n h c =
    ap (λ k. kind_from names k c) (search_is names n h c)
    ∙ from-newest names n h c (λ k. kind_from names k c) (λ k e. rw (ne_eqb (get_or names.words (suc k) 0) c e) refl)

-- ---- one line more

-- the lines before the place i stay as they are
kept : (names : Names) (i a b n : ℕ) → n < i → (c : ℕ) → kind_from (with_name names a b i) n c ≡ kind_from names n c
unfolding kind_from
kept names i a b zero h c = refl
kept names i a b (suc n) h c =
    rw (get_or-set_other names.words i (suc n) a 0 (omega arith), get_or-set_other names.kinds i (suc n) b 0 (omega arith), kept names i a b n (omega arith) c) refl

module _ (names : Names) (passed : ℕ) (ps : Known Kind) (st : Stands names passed ps) (room : passed < 95) where
  -- the line's word has the code a, and its kind the code b
  one_more : (a b : ℕ) (v : Word) → IsWord v → kind_from (with_name names a b (passed + 1)) (passed + 1) (code_of v) ≡ when (eqb a (code_of v)) (Some b) (code_if (lookup v ps))
  unfolding kind_from
  one_more a b v hv = go (passed + 1) (omega arith) (omega arith)
    where
      go : (i : ℕ) → i ≡ suc passed → i < 96 → kind_from (with_name names a b i) i (code_of v) ≡ when (eqb a (code_of v)) (Some b) (code_if (lookup v ps))
      go zero e h = absurd (omega arith)
      go (suc n) e h =
          let en : n ≡ passed = omega arith in
          rw (get_or-set_same names.words (suc n) a 0 (omega (arith, st.from.sizes.0)), get_or-set_same names.kinds (suc n) b 0 (omega (arith, st.from.sizes.1)))
          (ap (when (eqb a (code_of v)) (Some b)) (kept names (suc n) a b n (omega arith) (code_of v) ∙ ap (λ m. kind_from names m (code_of v)) en ∙ st.is v hv))

  module _ (w : Word) (hw : IsWord w) (k : Kind) where
    -- the word of a line that is w, of the kind k
    abbrev After : Known Kind → Type 0
    After qs = Stands (with_name names (code_of w) (kind_code k) (passed + 1)) (passed + 1) qs

    named-so : (v : Word) → IsWord v → kind_from (with_name names (code_of w) (kind_code k) (passed + 1)) (passed + 1) (code_of v) ≡ when (same_word v w) (Some (kind_code k)) (code_if (lookup v ps))
    named-so v hv = one_more (code_of w) (kind_code k) v hv ∙ ap (λ b. when b (Some (kind_code k)) (code_if (lookup v ps))) (words-agree w v hw hv)

    -- a let gives the word
    pub stands-given : (i : ℕ) → After (given_on i w k ∷ ps)
    stands-given i = record { from = newest-more names passed st.from room _ _; is = λ v hv. named-so v hv ∙ go (same_word v w) (lookup v ps) }
      where
        go : (b : Bool) (o : Maybe Kind) → when b (Some (kind_code k)) (code_if o) ≡ code_if (or_else b k o)
        go true o = refl
        go false o = refl

    -- a show's word is known
    pub stands-shown : lookup w ps ≡ some k → After ps
    stands-shown e = record { from = newest-more names passed st.from room _ _; is = λ v hv. named-so v hv ∙ go v (same_word v w) refl }
      where
        go : (v : Word) (b : Bool) → same_word v w ≡ b → when b (Some (kind_code k)) (code_if (lookup v ps)) ≡ code_if (lookup v ps)
        go v true h = ap code_if (sym e ∙ ap (λ u. lookup u ps) (sym (same_word_lem v w (subst T (sym h) tt))))
        go v false h = refl

  -- a line that stands for no word
  pub stands-blank : (k : ℕ) → Stands (with_name names (code_of []) k (passed + 1)) (passed + 1) ps
  stands-blank k = record {
    from = newest-more names passed st.from room _ _;
    is = λ v hv. one_more (code_of []) k v hv ∙ ap (λ b. when b (Some k) (code_if (lookup v ps))) (ne_eqb (code_of []) (code_of v) (code-none v hv));
  }
