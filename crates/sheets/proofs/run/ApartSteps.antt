-- Whether the names shown stand apart, as the code tells it: a law for each way out of `is_clear`, `is_clear_below`, the loop of `stand_apart`, and `apart`; and that it is what the definition says. Assumes nothing.
use Rattle.std.specs.Prelude.{Ok, Err}
use Prim.Native.Nat.{ℕ, zero, suc, ◌+◌, ◌-◌, ◌<◌, ◌≤◌}
use native.Mathlib.Numerals.{add-one}
use native.Mathlib.Omega.{arith}
use mathlib.Core.Path.{◌≡◌, refl, sym, ap, ap₂, subst, ◌∙◌}
use mathlib.Core.Logic.{◌⊎◌, inl, inr}
use mathlib.Core.Bool.{Bool, true, false, ◌&&◌, true≢false}
use Rattle.std.proofs.Math.Bool.{and-false}
use mathlib.Core.List.{List, [], ◌∷◌}
use lib.Dec.{eqb, ltb}
use lib.ListN.{length, get_or}
use Rattle.std.specs.Bool.{MatchBool}
use Rattle.std.specs.List.{AllWithin, HoldsAt}
use Rattle.std.specs.Iterator.Adapters.{rev_source, rev_steps}
use Rattle.std.specs.declared.iter.Rev.{Rev}
use Rattle.std.specs.declared.ops.Range.{Range}
use Rattle.std.proofs.iter.runs.Sources.{nat_range_steps_back}
use Rattle.std.proofs.lemmas.Iterator.{YieldsList}
use Rattle.std.proofs.lemmas.Iterator.Splits.{YieldsList-from_shown_while}
use lib.Ieee as Ieee
use lib.Ieee.{Float, binary64}
use lib.Ieee.Fits.{add-fits}
use borrow.Author.Tests.{eqb-true, eqb-false, ltb-true, ltb-false}
use Rattle.numbers.specs.Ops.{◌⊗◌}
use Rattle.numbers.specs.Vec.{squared_norm, norm, vec_sub}
use Rattle.numbers.proofs.FitLaws.{Fits}
use Rattle.numbers.proofs.SquareLaws.{square-decides}
use Rattle.numbers.specs.declared.Vec3.{Vec3}
use Rattle.frames.specs.declared.GeocentricPosition.{GeocentricPosition}
use Rattle.sheets.specs.declared.refusals.Refusal.{Refusal as Code}
use Rattle.sheets.specs.declared.Halt.{Halt}
use Rattle.sheets.specs.Table.{when}
use Rattle.sheets.specs.Limits.{near}
use Rattle.sheets.specs.Aparts.{Fix, distance, stand_apart}
use Rattle.sheets.specs.code.run.Keeping.{Rising, FixAt, FixesKept}
use Rattle.sheets.specs.code.run.Apart.{metres_at, clear_at, clear_below, apart_below, apart_answer}
use Rattle.sheets.proofs.ApartLaws.{distance-comm, clear-two, not-clear, every_two, some-two}
use Rattle.sheets.proofs.Bools.{and_both, and-some}

-- the places below n, from the last one down, as `(0..n).rev()` gives them
pub downward : ℕ → List ℕ
downward zero = []
downward (suc n) = n ∷ downward n

length-downward : (n : ℕ) → length (downward n) ≡ n
unfolding downward
length-downward zero = refl
length-downward (suc n) = ap suc (length-downward n)

place-at : (n k q : ℕ) → k + q + 1 ≡ n → get_or (downward n) k 0 ≡ q
unfolding downward
place-at zero k q e = absurd (omega (arith, e))
place-at (suc n) zero q e = omega (arith, e)
place-at (suc n) (suc k) q e = place-at n k q (omega (arith, e))

pub downward-yielded : {s : Rev (Range ℕ)} (n : ℕ) → rev_source s ≡ record { start = 0; end = n } → YieldsList (rev_steps nat_range_steps_back) (λ x. x) s (downward n)
unfolding downward
downward-yielded {s} n e = subst (λ (k : Range ℕ). YieldsList (rev_steps nat_range_steps_back) (λ x. x) s (downward k.end)) e
    (YieldsList-from_shown_while (rev_steps nat_range_steps_back) (λ x. x) (λ u. downward (rev_source u).end) (λ u. (rev_source u).start ≡ 0)
    (λ u t z p. length-downward (rev_source u).end ∙ omega (arith, z, p.1.0))
    (λ u x t z p. (p.0 ∙ z, ap downward (p.1.2 ∙ add-one (rev_source t).end) ∙ ap (λ k. k ∷ downward (rev_source t).end) (sym p.1.1)))
    s (ap (λ (k : Range ℕ). k.start) e))

module _ (least : Float) (f : List Float) (js : List Bool) where
  -- ---- one place

  module _ (v : Vec3) (j : ℕ) where
    pub clear-shown : get_or js j false ≡ true → Ieee.le least (norm (vec_sub v (metres_at f j))) ≡ clear_at least v f js j
    unfolding clear_at
    clear-shown h = rw h refl

    -- where the squares decide
    pub clear-squared : get_or js j false ≡ true → Fits least → (s : Float) → s ≡ squared_norm (vec_sub v (metres_at f j)) → Ieee.lt (least ⊗ least) s ≡ true → true ≡ clear_at least v f js j
    clear-squared h fl s es l = sym (square-decides least (squared_norm (vec_sub v (metres_at f j))) fl (add-fits binary64 _ _) (ap (Ieee.lt (least ⊗ least)) (sym es) ∙ l)) ∙ clear-shown h

    pub clear-unshown : get_or js j false ≡ false → true ≡ clear_at least v f js j
    unfolding clear_at
    clear-unshown h = rw h refl

  -- ---- the places below

  clear-each : (v : Vec3) (n : ℕ) → ((q : ℕ) → q < n → true ≡ clear_at least v f js q) → true ≡ clear_below least v f js n
  unfolding clear_below
  clear-each v zero h = refl
  clear-each v (suc n) h = ap₂ (λ (a b : Bool). a && b) (h n (omega arith)) (clear-each v n (λ q l. h q (omega arith)))

  clear-broken : (v : Vec3) (q : ℕ) → false ≡ clear_at least v f js q → (n : ℕ) → q < n → false ≡ clear_below least v f js n
  unfolding clear_below
  clear-broken v q h zero l = absurd (omega arith)
  clear-broken v q h (suc n) l = go (eqb q n) refl (clear-broken v q h n)
    where
      go : (b : Bool) → eqb q n ≡ b → (q < n → false ≡ clear_below least v f js n) → false ≡ clear_below least v f js (suc n)
      go true e r = ap (λ (z : Bool). z && clear_below least v f js n) (h ∙ ap (clear_at least v f js) (eqb-true q n e))
      go false e r = let d : (q ≡ n → ⊥) = eqb-false q n e in sym (and-false (clear_at least v f js n)) ∙ ap (λ (z : Bool). clear_at least v f js n && z) (r (omega arith))

  -- what `all` answers of the places below n
  pub clear-decided : (v : Vec3) (n : ℕ) (r : Bool)
      → MatchBool r (AllWithin (λ q. true ≡ clear_at least v f js q) (downward n) 0 (length (downward n))) ((k : ℕ) × (k < length (downward n)) × HoldsAt (λ q. false ≡ clear_at least v f js q) (downward n) k)
      → r ≡ clear_below least v f js n
  clear-decided v n true h = clear-each v n (λ q l. subst (λ j. true ≡ clear_at least v f js j) (place-at n (n - 1 - q) q (omega arith)) (h (n - 1 - q) 0 (omega arith) (omega (arith, length-downward n))))
  clear-decided v n false (k, l, h) =
      let few : k < n = omega (arith, l, length-downward n) in
      clear-broken v (n - 1 - k) (subst (λ j. false ≡ clear_at least v f js j) (place-at n k (n - 1 - k) (omega arith)) (h 0)) n (omega arith)

  -- ---- every two of the places below, from the last one down: p is the place after q

  module _ (p q : ℕ) (ep : p ≡ suc q) where
    pub apart-unshown : get_or js q false ≡ false → apart_below least f js p ≡ apart_below least f js q
    unfolding apart_below
    apart-unshown h = ap (apart_below least f js) ep ∙ ap (λ (z : Bool). when z (clear_below least (metres_at f q) f js q) true && apart_below least f js q) h

    module _ (h : get_or js q false ≡ true) (v : Vec3) (ev : v ≡ metres_at f q) (c : Bool) (ec : c ≡ clear_below least v f js q) where
      apart-is : (b : Bool) → c ≡ b → apart_below least f js p ≡ (b && apart_below least f js q)
      unfolding apart_below
      apart-is b e =
          ap (apart_below least f js) ep
          ∙ ap (λ (z : Bool). when z (clear_below least (metres_at f q) f js q) true && apart_below least f js q) h
          ∙ ap (λ (z : Bool). z && apart_below least f js q) (ap (λ v. clear_below least v f js q) (sym ev) ∙ sym ec ∙ e)

      pub apart_next : c ≡ true → apart_below least f js p ≡ apart_below least f js q
      apart_next e = apart-is true e

      pub apart-not : c ≡ false → apart_below least f js p ≡ false
      apart-not e = apart-is false e

  pub apart-end : (p : ℕ) → p ≤ 0 → apart_below least f js p ≡ true
  unfolding apart_below
  apart-end zero h = refl
  apart-end (suc p) h = absurd (omega arith)

  -- ---- the answer of an apart

  module _ (written : ℕ) (n : Bool) (en : n ≡ near least) where
    pub apart-limit : n ≡ false → Err (Halt.Refused Code.Limit) ≡ apart_answer least f js written
    unfolding apart_answer
    apart-limit h = rw (← en, h) refl

    module _ (h : n ≡ true) (b : Bool) (eb : b ≡ apart_below least f js 96) where
      pub apart-holds : b ≡ true → Ok written ≡ apart_answer least f js written
      unfolding apart_answer
      apart-holds i = rw (← en, h, ← eb, i) refl

      pub apart-close : b ≡ false → Err (Halt.Refused Code.Apart) ≡ apart_answer least f js written
      unfolding apart_answer
      apart-close i = rw (← en, h, ← eb, i) refl

  -- ---- what it tells of two places

  abbrev Far : ℕ → ℕ → Bool
  Far p q = Ieee.le least (norm (vec_sub (metres_at f p) (metres_at f q)))

  below-far : (p m : ℕ) → clear_below least (metres_at f p) f js m ≡ true → (q : ℕ) → q < m → get_or js q false ≡ true → Far p q ≡ true
  unfolding clear_below
  below-far p zero h q l k = absurd (omega arith)
  below-far p (suc m) h q l k =
      let (here, below) = and_both (clear_at least (metres_at f p) f js m) (clear_below least (metres_at f p) f js m) h in
      go (eqb q m) refl here (λ r. below-far p m below q r k)
    where
      go : (b : Bool) → eqb q m ≡ b → clear_at least (metres_at f p) f js m ≡ true → (q < m → Far p q ≡ true) → Far p q ≡ true
      go true e c r = clear-shown (metres_at f p) q k ∙ ap (clear_at least (metres_at f p) f js) (eqb-true q m e) ∙ c
      go false e c r = let n : (q ≡ m → ⊥) = eqb-false q m e in r (omega arith)

  shown-or : (j : ℕ) (x : Bool) → when (get_or js j false) x true ≡ false → (get_or js j false ≡ true) × (x ≡ false)
  shown-or j x h = go (get_or js j false) refl h
    where
      go : (b : Bool) → get_or js j false ≡ b → when b x true ≡ false → (get_or js j false ≡ true) × (x ≡ false)
      go true e h = (e, h)
      go false e h = absurd (true≢false h)

  below-near : (p m : ℕ) → clear_below least (metres_at f p) f js m ≡ false → (q : ℕ) × (q < m) × (get_or js q false ≡ true) × (Far p q ≡ false)
  unfolding clear_at clear_below
  below-near p zero h = absurd (true≢false h)
  below-near p (suc m) h = elim (and-some (clear_at least (metres_at f p) f js m) (clear_below least (metres_at f p) f js m) h) [
    | inl e ↦ let (k, n) = shown-or m _ e in (m, omega arith, k, n)
    | inr e ↦ let (q, l, k, n) = below-near p m e in (q, omega arith, k, n)
  ]

  all-far : (m : ℕ) → apart_below least f js m ≡ true → (p q : ℕ) → q < p → p < m → get_or js p false ≡ true → get_or js q false ≡ true → Far p q ≡ true
  unfolding apart_below
  all-far zero h p q l r i k = absurd (omega arith)
  all-far (suc m) h p q l r i k =
      let (here, below) = and_both (when (get_or js m false) (clear_below least (metres_at f m) f js m) true) (apart_below least f js m) h in
      go (eqb p m) refl here (λ r. all-far m below p q l r i k)
    where
      go : (b : Bool) → eqb p m ≡ b → when (get_or js m false) (clear_below least (metres_at f m) f js m) true ≡ true → (p < m → Far p q ≡ true) → Far p q ≡ true
      go true e c ih =
          let em : p ≡ m = eqb-true p m e in
          let all = sym (ap (λ (z : Bool). when z (clear_below least (metres_at f m) f js m) true) (ap (λ j. get_or js j false) (sym em) ∙ i)) ∙ c in
          ap (λ p. Far p q) em ∙ below-far m m all q (omega (arith, em, l)) k
      go false e c ih = let n : (p ≡ m → ⊥) = eqb-false p m e in ih (omega arith)

  some_near : (m : ℕ) → apart_below least f js m ≡ false → (p q : ℕ) × (q < p) × (p < m) × (get_or js p false ≡ true) × (get_or js q false ≡ true) × (Far p q ≡ false)
  unfolding apart_below
  some_near zero h = absurd (true≢false h)
  some_near (suc m) h = elim (and-some (when (get_or js m false) (clear_below least (metres_at f m) f js m) true) (apart_below least f js m) h) [
    | inl e ↦ let (i, c) = shown-or m _ e in let (q, l, k, n) = below-near m m c in (m, q, l, omega arith, i, k, n)
    | inr e ↦ let (p, q, l, r, i, k, n) = some_near m e in (p, q, l, omega arith, i, k, n)
  ]

  -- ---- it is what the definition says

  module _ (fs : List Fix) (lets : ℕ → ℕ) (n i : ℕ) (kept : FixesKept fs lets js f n) (rising : Rising lets n i) (few : n ≤ 95) where
    far-is : (p q : ℕ) (a b : Fix) → FixAt lets f n p a → FixAt lets f n q b → Ieee.le least (distance a.position b.position) ≡ Far p q
    unfolding distance
    far-is p q a b x y = ap₂ (λ (u v : GeocentricPosition). Ieee.le least (distance u v)) (sym x.lies) (sym y.lies)

    -- no two that are shown are near, and yet some two are not clear
    close-not : apart_below least f js 96 ≡ true → stand_apart least fs ≡ false → ⊥
    close-not h k =
        let (a, b, ia, ib, c) = some-two least fs k in
        let (p, x, mp) = kept.kept a ia in
        let (q, y, mq) = kept.kept b ib in
        let two = not-clear least a b c in
        let close = sym (clear-two least a b two) ∙ c in
        elim (one_below p q (λ e. two (sym x.line ∙ ap lets e ∙ y.line))) [
          | inl l ↦ true≢false (sym (all-far 96 h p q l (omega (arith, x.few, few)) mp mq) ∙ sym (far-is p q a b x y) ∙ close)
          | inr l ↦ true≢false (sym (all-far 96 h q p l (omega (arith, y.few, few)) mq mp) ∙ sym (far-is q p b a y x) ∙ ap (Ieee.le least) (distance-comm b.position a.position) ∙ close)
        ]
      where
        one_below : (p q : ℕ) → ¬ (p ≡ q) → (q < p) ⊎ (p < q)
        one_below p q ne = go (ltb q p) refl
          where
            go : (b : Bool) → ltb q p ≡ b → (q < p) ⊎ (p < q)
            go true e = inl (ltb-true q p e)
            go false e = let l : p ≤ q = ltb-false q p e in inr (omega arith)

    -- some two that are shown are near, and yet every two are clear
    near-not : apart_below least f js 96 ≡ false → stand_apart least fs ≡ true → ⊥
    near-not h k =
        let (p, q, l, r, mp, mq, c) = some_near 96 h in
        let (a, ia, x) = kept.from p mp in
        let (b, ib, y) = kept.from q mq in
        let two : ¬ (a.line ≡ b.line) = λ e. omega (arith, rising.each q p l x.few, x.line, y.line) in
        true≢false (sym (every_two least fs k a b ia ib) ∙ clear-two least a b two ∙ far-is p q a b x y ∙ c)

    pub stand-is : apart_below least f js 96 ≡ stand_apart least fs
    stand-is = go (apart_below least f js 96) refl (stand_apart least fs) refl
      where
        go : (b : Bool) → apart_below least f js 96 ≡ b → (c : Bool) → stand_apart least fs ≡ c → b ≡ c
        go true e true h = refl
        go true e false h = absurd (close-not e h)
        go false e true h = absurd (near-not e h)
        go false e false h = refl
