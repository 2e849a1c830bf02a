-- The sign bit of a value's bits, and the bits without it. Assumes nothing.
use Rattle.std.proofs.Common.{◌≡◌, ℕ, zero, suc, ◌+◌, ◌/◌, ◌%◌, ◌^◌, ◌<◌, ◌≤◌, Bool, true, false, cond, not, T, eqb, leb, sym, refl, ap, ◌∙◌, subst, arith, leb→le, nltb→le}
use lib.Dec.{nleb→lt}
use lib.Ieee.{Float, nan, inf, binary64, odd, of_fields, of_bits, to_bits, is_nan, nan_bits, fits}
use lib.Ieee.Bits.{of_bits-to_bits, nan_bits_is, nan_bits_above}
use Rattle.numbers.specs.Floats.{sign_bit, sign_digit, abs}
use Rattle.numbers.proofs.Values.{of_bits_is, unsigned}

-- the digits and the exponent's field of a pattern, and the value that they stand for with a sign
abbrev field : ℕ → ℕ
field b = b % 9223372036854775808 / 4503599627370496

abbrev digits : ℕ → ℕ
digits b = b % 4503599627370496

pub as_fields : (x : Float) → T (fits binary64 x) → of_fields binary64 (leb 9223372036854775808 (to_bits binary64 x)) (field (to_bits binary64 x)) (digits (to_bits binary64 x)) ≡ x
as_fields x f = sym (of_bits_is (to_bits binary64 x)) ∙ of_bits-to_bits binary64 x f

-- the bits of a number without its sign are no NaN's
pub bits_of_number : (x : Float) → T (fits binary64 x) → T (not (is_nan x)) → to_bits binary64 x % 9223372036854775808 ≤ 9218868437227405312
bits_of_number x f n =
    let b = to_bits binary64 x in
    let e : nan_bits binary64 b ≡ is_nan x = nan_bits_is binary64 b ∙ ap is_nan (of_bits-to_bits binary64 x f) in
    nltb→le 9218868437227405312 (b % 9223372036854775808) (subst (λ (t : Bool). T (not t)) (sym e ∙ nan_bits_above binary64 b) n)

-- ---- the sign bit

pub odd_sign : (d : ℕ) (s : Bool) (q k l : ℕ) → sign_bit (odd d s q k l) ≡ s
unfolding odd sign_bit
odd_sign d s zero k l = refl
odd_sign d s (suc q) k l = refl

fields-sign : (s : Bool) (q t : ℕ) → T (not (is_nan (of_fields binary64 s q t))) → sign_bit (of_fields binary64 s q t) ≡ s
unfolding of_fields is_nan sign_bit
fields-sign s zero t n = odd_sign 53 s t 0 1074
fields-sign s (suc x) t n = go (eqb (suc x) 2047) (eqb t 0) n
  where
    go : (a b : Bool) → T (not (is_nan (cond a (cond b (inf s) nan) (odd 53 s (4503599627370496 + t) x 1074)))) → sign_bit (cond a (cond b (inf s) nan) (odd 53 s (4503599627370496 + t) x 1074)) ≡ s
    go true true h = refl
    go true false h = absurd h
    go false b h = odd_sign 53 s (4503599627370496 + t) x 1074

sign-is : (x : Float) → T (fits binary64 x) → T (not (is_nan x)) → leb 9223372036854775808 (to_bits binary64 x) ≡ sign_bit x
sign-is x f n =
    let b = to_bits binary64 x in
    let e = as_fields x f in
    sym (fields-sign (leb 9223372036854775808 b) (field b) (digits b) (subst (λ (v : Float). T (not (is_nan v))) (sym e) n)) ∙ ap sign_bit e

digit-is : (b : ℕ) → b < 2 ^ 64 → b / 9223372036854775808 ≡ cond (leb 9223372036854775808 b) 1 0
digit-is b h = go (leb 9223372036854775808 b) (leb→le 9223372036854775808 b) (nleb→lt 9223372036854775808 b)
  where
    go : (k : Bool) → (T k → 9223372036854775808 ≤ b) → (T (not k) → b < 9223372036854775808) → b / 9223372036854775808 ≡ cond k 1 0
    go true p q = let l = p tt in omega arith
    go false p q = let l = q tt in omega arith

pub sign-digit : (x : Float) → T (fits binary64 x) → T (not (is_nan x)) → to_bits binary64 x < 2 ^ 64 → to_bits binary64 x / 9223372036854775808 ≡ sign_digit x
unfolding sign_digit
sign-digit x f n h = digit-is (to_bits binary64 x) h ∙ ap (λ (s : Bool). cond s 1 0) (sign-is x f n)

pub digit-of-nan : (x : Float) → x ≡ nan → 0 ≡ sign_digit x
unfolding sign_digit sign_bit
digit-of-nan x e = ap (λ (v : Float). cond (sign_bit v) 1 0) (sym e)

-- ---- the magnitude

pub odd-abs : (d : ℕ) (s : Bool) (q k l : ℕ) → odd d false q k l ≡ abs (odd d s q k l)
unfolding odd abs
odd-abs d s zero k l = refl
odd-abs d s (suc q) k l = refl

fields-abs : (s : Bool) (q t : ℕ) → of_fields binary64 false q t ≡ abs (of_fields binary64 s q t)
unfolding of_fields abs
fields-abs s zero t = odd-abs 53 s t 0 1074
fields-abs s (suc x) t = go (eqb (suc x) 2047) (eqb t 0)
  where
    go : (a b : Bool) → cond a (cond b (inf false) nan) (odd 53 false (4503599627370496 + t) x 1074) ≡ abs (cond a (cond b (inf s) nan) (odd 53 s (4503599627370496 + t) x 1074))
    go true true = refl
    go true false = refl
    go false b = odd-abs 53 s (4503599627370496 + t) x 1074

pub abs-bits : (x : Float) → T (fits binary64 x) → of_bits binary64 (to_bits binary64 x % 9223372036854775808) ≡ abs x
abs-bits x f =
    let b = to_bits binary64 x in
    let a = b % 9223372036854775808 in
    let p : leb 9223372036854775808 a ≡ false = unsigned a (omega arith) in
    let q : field a ≡ field b = omega arith in
    let t : digits a ≡ digits b = omega arith in
    of_bits_is a ∙ (λ i. of_fields binary64 (p i) (q i) (t i)) ∙ fields-abs (leb 9223372036854775808 b) (field b) (digits b) ∙ ap abs (as_fields x f)

pub abs-of-nan : (x : Float) → x ≡ nan → x ≡ abs x
unfolding abs
abs-of-nan x e = e ∙ ap abs (sym e)
