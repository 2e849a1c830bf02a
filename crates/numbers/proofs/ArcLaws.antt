-- What `asin` needs to make its jumps early: where `atan2`'s tests are answered by others, and that the root has no sign. Assumes nothing.
use Rattle.std.proofs.lemmas.Float.{T_from_true}
use Rattle.std.proofs.Common.{◌≡◌, ℕ, zero, suc, ◌+◌, ◌*◌, ◌/◌, ◌^◌, Bool, true, false, cond, ◌&&◌, ◌||◌, eqb, ltb, ℤ, sym, refl, ap, ◌∙◌, true≢false, zero-mul, arith, eqb→eq}
use mathlib.Core.Bool.{beq}
use lib.Ieee.{Float, nan, inf, fin, binary64, up, down, below, level, lt, le, eq, units, odd, round, low, emax}
use lib.Ieee.Fits.{round_is}
use Rattle.numbers.specs.Ops.{◌⊕◌, ◌⊖◌, ◌⊗◌, decimal, num}
use Rattle.numbers.specs.Floats.{sign_bit, abs}
use Rattle.numbers.specs.Root.{sqrt, halves}
use Rattle.numbers.specs.Arctangent.{zero?, atan_base, turned_by, negated_by, atan2, asin}
use Rattle.numbers.proofs.SignLaws.{odd_sign}

-- ---- not both are zero

first : (p q : Bool) → (p && q) ≡ true → p ≡ true
first true q h = refl
first false q h = h

one-false : (p q : Bool) → (p ≡ true → q ≡ true → ⊥) → (p && q) ≡ false
one-false true true h = absurd (h refl refl)
one-false true false h = refl
one-false false q h = refl

pub and-false : (p : Bool) → (p && false) ≡ false
and-false true = refl
and-false false = refl

or-true : (p : Bool) → (p || true) ≡ true
or-true true = refl
or-true false = refl

zero_is : (s : Bool) (m : ℕ) (e : ℤ) → zero? (fin s m e) ≡ true → m * up e ≡ 0
unfolding eq decimal
zero_is s m e h =
    let f : eqb (m * up e * 1) (0 * 1 * down e) ≡ true = first (eqb (m * up e * 1) (0 * 1 * down e)) (beq s false || eqb (m * up e * 1) 0) h in
    let p : m * up e * 1 ≡ 0 * 1 * down e = eqb→eq (m * up e * 1) (0 * 1 * down e) (T_from_true _ f) in
    omega arith

below-zero : (s t : Bool) → below s 0 t 0 ≡ false
below-zero true true = refl
below-zero true false = refl
below-zero false true = refl
below-zero false false = refl

level-zero : (s t : Bool) → level s 0 t 0 ≡ true
level-zero true true = refl
level-zero true false = refl
level-zero false true = refl
level-zero false false = refl

none : (a k : ℕ) → a ≡ 0 → a * k ≡ 0
none a k h = ap (λ (x : ℕ). x * k) h ∙ zero-mul k

pub zero-at : (s : Bool) (m : ℕ) (e : ℤ) → m ≡ 0 → zero? (fin s m e) ≡ true
unfolding eq decimal
zero-at s m e p = (λ i. level s (none (m * up e) 1 (none m (up e) p) i) false (zero-mul (down e) i)) ∙ level-zero s false

zeros-lt : (s : Bool) (m : ℕ) (e : ℤ) (t : Bool) (n : ℕ) (d : ℤ) → m * up e ≡ 0 → n * up d ≡ 0 → lt (fin s m e) (fin t n d) ≡ false
unfolding lt
zeros-lt s m e t n d p q = (λ i. below s (none (m * up e) (down d) p i) t (none (n * up d) (down e) q i)) ∙ below-zero s t

pub zeros-le : (s : Bool) (m : ℕ) (e : ℤ) (t : Bool) (n : ℕ) (d : ℤ) → m * up e ≡ 0 → n * up d ≡ 0 → le (fin s m e) (fin t n d) ≡ true
unfolding le eq
zeros-le s m e t n d p q =
    ap (λ (b : Bool). lt (fin s m e) (fin t n d) || b) ((λ i. level s (none (m * up e) (down d) p i) t (none (n * up d) (down e) q i)) ∙ level-zero s t) ∙ or-true (lt (fin s m e) (fin t n d))

pub below-not-zeros : (a b : Float) → lt a b ≡ true → (zero? a && zero? b) ≡ false
unfolding eq decimal
below-not-zeros nan b h = refl
below-not-zeros (inf s) b h = refl
below-not-zeros (fin s m e) nan h = and-false (zero? (fin s m e))
below-not-zeros (fin s m e) (inf t) h = and-false (zero? (fin s m e))
below-not-zeros (fin s m e) (fin t n d) h =
    one-false (zero? (fin s m e)) (zero? (fin t n d)) (λ u v. true≢false (sym h ∙ zeros-lt s m e t n d (zero_is s m e u) (zero_is t n d v)))

pub above-not-zeros : (a b : Float) → le a b ≡ false → (zero? a && zero? b) ≡ false
unfolding eq decimal
above-not-zeros nan b h = refl
above-not-zeros (inf s) b h = refl
above-not-zeros (fin s m e) nan h = and-false (zero? (fin s m e))
above-not-zeros (fin s m e) (inf t) h = and-false (zero? (fin s m e))
above-not-zeros (fin s m e) (fin t n d) h =
    one-false (zero? (fin s m e)) (zero? (fin t n d)) (λ u v. true≢false (sym (zeros-le s m e t n d (zero_is s m e u) (zero_is t n d v)) ∙ h))

pub lt-le : (a b : Float) → lt a b ≡ true → le a b ≡ true
unfolding le
lt-le a b h = ap (λ (t : Bool). t || eq a b) h

-- ---- the root's sign

units-sign : (s : Bool) (q k : ℕ) → sign_bit (units binary64 s q k) ≡ s
unfolding units sign_bit
units-sign s q k = go (ltb (q * 2 ^ k) (2 ^ (low binary64 + suc (emax binary64))))
  where
    go : (b : Bool) → sign_bit (cond b (odd 54 s q k 1074) (inf s)) ≡ s
    go true = odd_sign 54 s q k 1074
    go false = refl

round-sign : (s : Bool) (n d : ℕ) → sign_bit (round binary64 s n d) ≡ s
round-sign s n d = ap sign_bit (round_is binary64 s n d) ∙ units-sign s _ _

root-sign : (m : Float) → lt (num 0) m ≡ true → sign_bit (sqrt m) ≡ false
unfolding lt decimal sqrt sign_bit
root-sign nan h = refl
root-sign (inf true) h = refl
root-sign (inf false) h = refl
root-sign (fin true zero e) h = sym h
root-sign (fin true (suc m) e) h = refl
root-sign (fin false zero e) h = refl
root-sign (fin false (suc m) e) h = round-sign false (halves (suc m * up e * 2 ^ 2148 / down e)) (2 ^ 1075)

positive : (x : Float) → sign_bit x ≡ false → abs x ≡ x
unfolding sign_bit abs
positive nan h = refl
positive (inf s) h = ap inf (sym h)
positive (fin s m e) h = ap (λ (t : Bool). fin t m e) (sym h)

pub asin-by : (x v : Float) → lt (num 0) ((num 1 ⊖ x) ⊗ (num 1 ⊕ x)) ≡ true → v ≡ atan_base (abs x) (sqrt ((num 1 ⊖ x) ⊗ (num 1 ⊕ x))) → negated_by (sign_bit x) v ≡ asin x
unfolding asin atan2 turned_by
asin-by x v h e =
    let r = sqrt ((num 1 ⊖ x) ⊗ (num 1 ⊕ x)) in
    let s : sign_bit r ≡ false = root-sign ((num 1 ⊖ x) ⊗ (num 1 ⊕ x)) h in
    let t : turned_by (sign_bit r) (atan_base (abs x) (abs r)) ≡ atan_base (abs x) r = λ i. turned_by (s i) (atan_base (abs x) (positive r s i)) in
    ap (negated_by (sign_bit x)) (e ∙ sym t)
