-- The arctangent of finite numbers is finite: it is at most 30 in size. Assumes nothing.
use Rattle.std.proofs.Common.{◌≡◌, ℕ, zero, suc, ◌+◌, ◌*◌, ◌%◌, ◌^◌, ◌<◌, ◌≤◌, Bool, true, false, ◌&&◌, T, eqb, ℤ, pos, sym, refl, ap, ◌∙◌, ap₂, inl, inr, true≢false, mul-le-mul_right, zero-lt-suc, eq-zero-or-pos, mul-pos, arith, lit<, lit≤, ltb→lt, lt-ltb}
use lib.Ieee.{Float, inf, fin, binary64, up, down, lt, le, add, div, neg}
use lib.Ieee.Fits.{up_pos, down_pos}
use lib.Ieee.Order.{round_mono}
use lib.Ieee.Scale.{finite}
use lib.Ieee.Positive.{above, above_of_le, le→cross}
use Rattle.numbers.specs.Ops.{◌⊕◌, ◌⊖◌, ◌⊗◌, ◌⊘◌, decimal, num, pick}
use Rattle.numbers.specs.Floats.{pi, sign_bit, abs}
use Rattle.numbers.specs.Sine.{horner, alternating}
use Rattle.numbers.specs.code.Sizes.{Bounded}
use Rattle.numbers.specs.Arctangent.{atan_poly, atan_unit, zero?, atan_base, turned_by, negated_by, atan2}
use Rattle.numbers.proofs.Isqrt.{below_or_not}
use Rattle.numbers.proofs.Bounds.{bounded-finite, wider, le-fractions, bounded-mul, bounded-neg, bounded-add, bounded-sub, bounded-gap, bounded-quotient}
use Rattle.numbers.proofs.ArcLaws.{zero-at, lt-le}

either : (b : Bool) (x y : Float) (B : ℕ) → (b ≡ true → Bounded x B) → (b ≡ false → Bounded y B) → Bounded (pick b x y) B
either true x y B h k = h refl
either false x y B h k = k refl

-- ---- a quotient by one or more

over-one : (x y : Float) → Bounded x 1 → T (le (num 1) y) → Bounded (x ⊘ y) 1
unfolding decimal div
over-one x y h l = go x y h l (above_of_le (num 1) y tt l)
  where
    go : (x y : Float) → Bounded x 1 → T (le (num 1) y) → T (above y) → Bounded (x ⊘ y) 1
    go (fin s m e) (inf t) h l a = lit≤ tt
    go (fin s m e) (fin false n d) h l a =
        let x : m * up e * down d ≤ 1 * down e * down d = mul-le-mul_right (down d) h in
        let y : 1 * down d * down e ≤ n * up d * 1 * down e = mul-le-mul_right (down e) (le→cross (num 1) (fin false n d) tt a l) in
        bounded-quotient s m e false n d (ltb→lt 0 n a) (omega arith)
    go lib.Ieee.nan _ h l a = elim h [ ]
    go (inf _) _ h l a = elim h [ ]
    go (fin s m e) lib.Ieee.nan h l a = elim a [ ]
    go (fin s m e) (fin true n d) h l a = elim a [ ]

-- ---- the polynomial

one : Bounded (num 1) 1
unfolding decimal
one = lit≤ tt

coefficient : (k d : ℕ) → 0 < d → Bounded (alternating k d) 1
unfolding alternating decimal
coefficient k d p =
    over-one (pick (eqb (k % 2) 0) (num 1) (neg (num 1))) (num d) (either (eqb (k % 2) 0) (num 1) (neg (num 1)) 1 (λ _. one) (λ _. bounded-neg (num 1) 1 one))
    (round_mono binary64 1 1 d 1 (zero-lt-suc 0) (zero-lt-suc 0) (omega arith))

-- each step adds at most one
horner-bounded : (c : ℕ → Float) (z : Float) → ((k : ℕ) → Bounded (c k) 1) → Bounded z 1 → (k : ℕ) (h : Float) (B C : ℕ) → Bounded h B → B + k ≤ C → C ≤ 2 ^ 53 → Bounded (horner c z k h) C
unfolding horner
horner-bounded c z p q zero h B C r l t = wider h B C (omega arith) r
horner-bounded c z p q (suc k) h B C r l t =
    horner-bounded c z p q k (h ⊗ z ⊕ c k) (B * 1 + 1) C (bounded-add (h ⊗ z) (c k) (B * 1) 1 (bounded-mul h z B 1 r q (omega arith)) (p k) (omega arith)) (omega arith) t

atan_poly-bounded : (u : Float) → Bounded u 1 → Bounded (atan_poly u) 23
unfolding atan_poly
atan_poly-bounded u h =
    let c : ℕ → Float = λ k. alternating k (2 * k + 1) in
    let p : (k : ℕ) → Bounded (c k) 1 = λ k. coefficient k (2 * k + 1) (omega arith) in
    bounded-mul u (horner c (u ⊗ u) 22 (c 22)) 1 23 h (horner-bounded c (u ⊗ u) p (bounded-mul u u 1 1 h h (lit≤ tt)) 22 (c 22) 1 23 (p 22) (lit≤ tt) (lit≤ tt)) (lit≤ tt)

-- ---- up to 1

-- a value with the sign is below one above zero
signed_lt : (m : ℕ) (e : ℤ) (n : ℕ) (d : ℤ) → 0 < n → lt (fin true m e) (fin false n d) ≡ true
unfolding lt
signed_lt m e n d p = lt-ltb 0 (m * up e * down d + n * up d * down e) (omega (arith, mul-pos (mul-pos p (up_pos d)) (down_pos e)))

far-bounded : (t : Float) → Bounded t 1 → le t (decimal 41421356 8) ≡ false → Bounded ((t ⊖ num 1) ⊘ (t ⊕ num 1)) 1
unfolding decimal
far-bounded (fin true m e) h k = absurd (true≢false (sym (lt-le (fin true m e) (decimal 41421356 8) (signed_lt m e _ _ (lit< tt))) ∙ k))
far-bounded (fin false m e) h k =
    over-one (fin false m e ⊖ num 1) (fin false m e ⊕ num 1) (bounded-gap m e 1 (pos 0) 1 h one (lit≤ tt))
    (unfold add in round_mono binary64 1 1 (m * up e * 1 + 1 * 1 * down e) (down e * 1) (zero-lt-suc 0) (mul-pos (down_pos e) (zero-lt-suc 0)) (omega arith))
far-bounded lib.Ieee.nan h k = elim h [ ]
far-bounded (inf _) h k = elim h [ ]

eighth : Bounded (pi ⊘ num 4) 1
unfolding decimal div
eighth = lit≤ tt

atan_unit-bounded : (t : Float) → Bounded t 1 → Bounded (atan_unit t) 24
unfolding atan_unit
atan_unit-bounded t h =
    let v = atan_poly ((t ⊖ num 1) ⊘ (t ⊕ num 1)) in
    either (le t (decimal 41421356 8)) (atan_poly t) (pi ⊘ num 4 ⊕ v) 24 (λ _. wider (atan_poly t) 23 24 (lit≤ tt) (atan_poly-bounded t h))
    (λ k. bounded-add (pi ⊘ num 4) v 1 23 eighth (atan_poly-bounded ((t ⊖ num 1) ⊘ (t ⊕ num 1)) (far-bounded t h k)) (lit≤ tt))

-- ---- from the magnitudes

-- the smaller by the larger, where not both are zero
ratio : (m : ℕ) (e : ℤ) (n : ℕ) (d : ℤ) → (m ≡ 0 → n ≡ 0 → ⊥) → m * up e * down d ≤ n * up d * down e → Bounded (fin false m e ⊘ fin false n d) 1
ratio m e n d z h = elim (eq-zero-or-pos n) [
  | inl q ↦ elim (eq-zero-or-pos m) [ inl p ↦ absurd (z p q) | inr p ↦ absurd (omega (arith, mul-pos (mul-pos p (up_pos e)) (down_pos d), ap (λ (k : ℕ). k * up d * down e) q)) ]
  | inr p ↦ bounded-quotient false m e false n d p h
]

above-fractions : (m : ℕ) (e : ℤ) (n : ℕ) (d : ℤ) → le (fin false m e) (fin false n d) ≡ false → n * up d * down e ≤ m * up e * down d
unfolding lt
above-fractions m e n d h = elim (below_or_not (m * up e * down d) (n * up d * down e)) [
  | inl l ↦ absurd (true≢false (sym (lt-le (fin false m e) (fin false n d) (lt-ltb (m * up e * down d) (n * up d * down e) l)) ∙ h))
  | inr l ↦ l
]

zero-bounded : Bounded (num 0) 26
unfolding decimal
zero-bounded = lit≤ tt

quarter : Bounded (pi ⊘ num 2) 2
unfolding decimal div
quarter = lit≤ tt

atan_base-bounded : (m : ℕ) (e : ℤ) (n : ℕ) (d : ℤ) → Bounded (atan_base (fin false m e) (fin false n d)) 26
unfolding atan_base
atan_base-bounded m e n d =
    let a = fin false m e in
    let b = fin false n d in
    either (zero? a && zero? b) (num 0) (pick (le a b) (atan_unit (a ⊘ b)) (pi ⊘ num 2 ⊖ atan_unit (b ⊘ a))) 26 (λ _. zero-bounded)
    (λ z.
    let some : m ≡ 0 → n ≡ 0 → ⊥ = λ p q. true≢false (sym (ap₂ ◌&&◌ (zero-at false m e p) (zero-at false n d q)) ∙ z) in
    either (le a b) (atan_unit (a ⊘ b)) (pi ⊘ num 2 ⊖ atan_unit (b ⊘ a)) 26
    (λ l. wider (atan_unit (a ⊘ b)) 24 26 (lit≤ tt) (atan_unit-bounded (a ⊘ b) (ratio m e n d some (le-fractions m e n d l))))
    (λ l. bounded-sub (pi ⊘ num 2) (atan_unit (b ⊘ a)) 2 24 quarter (atan_unit-bounded (b ⊘ a) (ratio n d m e (λ q p. some p q) (above-fractions m e n d l))) (lit≤ tt)))

-- ---- from finite numbers

half : Bounded pi 4
unfolding decimal
half = lit≤ tt

pub atan2-bounded : (y x : Float) → T (finite y) → T (finite x) → Bounded (atan2 y x) 30
unfolding atan2 turned_by negated_by sign_bit abs
atan2-bounded (fin s m e) (fin t n d) p q =
    let v = atan_base (fin false m e) (fin false n d) in
    let b : Bounded v 26 = atan_base-bounded m e n d in
    let c : Bounded (turned_by t v) 30 = either t (pi ⊖ v) v 30 (λ _. bounded-sub pi v 4 26 half b (lit≤ tt)) (λ _. wider v 26 30 (lit≤ tt) b) in
    either s (neg (turned_by t v)) (turned_by t v) 30 (λ _. bounded-neg (turned_by t v) 30 c) (λ _. c)
atan2-bounded lib.Ieee.nan _ p q = elim p [ ]
atan2-bounded (inf _) _ p q = elim p [ ]
atan2-bounded (fin s m e) lib.Ieee.nan p q = elim q [ ]
atan2-bounded (fin s m e) (inf _) p q = elim q [ ]

pub atan2-finite : (y x : Float) → T (finite y) → T (finite x) → T (finite (atan2 y x))
atan2-finite y x p q = bounded-finite (atan2 y x) 30 (atan2-bounded y x p q)
