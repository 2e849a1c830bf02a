-- What `atan2` does by a sign digit s, 0 or 1, and without a jump. Assumes nothing.
use Rattle.std.proofs.Common.{◌≡◌, ℕ, ◌+◌, ◌-◌, ◌*◌, ◌≤◌, Bool, true, false, cond, not, T, eqb, ◌⊎◌, pos, sym, refl, ap, ◌∙◌, subst, inl, inr, arith}
use lib.Ieee.{Float, fin, binary64, of_bits, nan_bits, neg, sub, fits}
use Rattle.numbers.specs.Ops.{◌⊕◌, ◌⊖◌, ◌⊗◌, decimal, num, pick}
use Rattle.numbers.specs.Floats.{pi, sign_bit, sign_digit}
use Rattle.numbers.specs.Arctangent.{turned_by, negated_by}
use Rattle.numbers.proofs.Isqrt.{below_or_not}
use Rattle.numbers.proofs.FloatLaws.{add-minus-zero, times-one}

bit : (s : ℕ) → s ≤ 1 → (s ≡ 0) ⊎ (s ≡ 1)
bit s h = elim (below_or_not s 1) [ inl p ↦ inl (omega arith) | inr p ↦ inr (omega arith) ]

-- the digit of a sign, and back
pub digit-small : (x : Float) → sign_digit x ≤ 1
unfolding sign_digit
digit-small x = go (sign_bit x)
  where
    go : (b : Bool) → cond b 1 0 ≤ 1
    go true = omega arith
    go false = omega arith

pub digit-back : (x : Float) → eqb (sign_digit x) 1 ≡ sign_bit x
unfolding sign_digit
digit-back x = go (sign_bit x)
  where
    go : (b : Bool) → eqb (cond b 1 0) 1 ≡ b
    go true = refl
    go false = refl

-- ---- one and minus one

plus_one : of_bits binary64 4607182418800017408 ≡ num 1
unfolding of_bits decimal
plus_one = refl

minus_one : of_bits binary64 13830554455654793216 ≡ neg (num 1)
unfolding of_bits decimal neg
minus_one = refl

pub signed-one-is : (s : ℕ) → s ≤ 1 → of_bits binary64 (4607182418800017408 + s * 9223372036854775808) ≡ pick (eqb s 1) (neg (num 1)) (num 1)
signed-one-is s h = elim (bit s h) [
  | inl e ↦ subst (λ (k : ℕ). of_bits binary64 (4607182418800017408 + k * 9223372036854775808) ≡ pick (eqb k 1) (neg (num 1)) (num 1)) (sym e) plus_one
  | inr e ↦ subst (λ (k : ℕ). of_bits binary64 (4607182418800017408 + k * 9223372036854775808) ≡ pick (eqb k 1) (neg (num 1)) (num 1)) (sym e) minus_one
]

by_one : (v : Float) → T (fits binary64 v) → v ⊗ num 1 ≡ v
unfolding decimal
by_one v f = times-one binary64 false v f

by-minus-one : (v : Float) → T (fits binary64 v) → v ⊗ neg (num 1) ≡ neg v
unfolding decimal neg
by-minus-one v f = times-one binary64 true v f

pub negated-is : (b : Bool) (v : Float) → T (fits binary64 v) → v ⊗ pick b (neg (num 1)) (num 1) ≡ negated_by b v
unfolding negated_by
negated-is true v f = by-minus-one v f
negated-is false v f = by_one v f

-- ---- PI, or minus zero

pi-bits : of_bits binary64 4614256656552045848 ≡ pi
unfolding of_bits decimal
pi-bits = refl

minus_zero : of_bits binary64 9223372036854775808 ≡ fin true 0 (pos 0)
unfolding of_bits
minus_zero = refl

sub_is : (v : Float) → pi ⊕ neg v ≡ pi ⊖ v
unfolding sub
sub_is v = refl

pub turned-is : (s : ℕ) → s ≤ 1 → (v : Float) → T (fits binary64 v) → of_bits binary64 (9223372036854775808 - s * 4609115380302729960) ⊕ v ⊗ pick (eqb s 1) (neg (num 1)) (num 1) ≡ turned_by (eqb s 1) v
unfolding turned_by
turned-is s h v f = elim (bit s h) [
  | inl e ↦ subst (λ (k : ℕ). of_bits binary64 (9223372036854775808 - k * 4609115380302729960) ⊕ v ⊗ pick (eqb k 1) (neg (num 1)) (num 1) ≡ pick (eqb k 1) (pi ⊖ v) v) (sym e)
      (ap (λ (z : Float). z ⊕ v ⊗ num 1) minus_zero ∙ ap (λ (z : Float). fin true 0 (pos 0) ⊕ z) (by_one v f) ∙ add-minus-zero binary64 v f)
  | inr e ↦ subst (λ (k : ℕ). of_bits binary64 (9223372036854775808 - k * 4609115380302729960) ⊕ v ⊗ pick (eqb k 1) (neg (num 1)) (num 1) ≡ pick (eqb k 1) (pi ⊖ v) v) (sym e)
      (ap (λ (z : Float). z ⊕ v ⊗ neg (num 1)) pi-bits ∙ ap (λ (z : Float). pi ⊕ z) (by-minus-one v f) ∙ sub_is v)
]

-- ---- neither pattern is a NaN's

pub one-no-nan : (s : ℕ) → s ≤ 1 → T (not (nan_bits binary64 (4607182418800017408 + s * 9223372036854775808)))
unfolding nan_bits
one-no-nan s h = elim (bit s h) [
  | inl e ↦ subst (λ (k : ℕ). T (not (nan_bits binary64 (4607182418800017408 + k * 9223372036854775808)))) (sym e) tt
  | inr e ↦ subst (λ (k : ℕ). T (not (nan_bits binary64 (4607182418800017408 + k * 9223372036854775808)))) (sym e) tt
]

pub turn-no-nan : (s : ℕ) → s ≤ 1 → T (not (nan_bits binary64 (9223372036854775808 - s * 4609115380302729960)))
unfolding nan_bits
turn-no-nan s h = elim (bit s h) [
  | inl e ↦ subst (λ (k : ℕ). T (not (nan_bits binary64 (9223372036854775808 - k * 4609115380302729960)))) (sym e) tt
  | inr e ↦ subst (λ (k : ℕ). T (not (nan_bits binary64 (9223372036854775808 - k * 4609115380302729960)))) (sym e) tt
]
