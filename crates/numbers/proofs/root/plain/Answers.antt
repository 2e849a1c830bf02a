-- `numbers::root::plain` meets its contract. Assumes nothing.
use Rattle.std.proofs.lemmas.Float.{T_from_true}
use Rattle.std.proofs.Common.{◌≡◌, ℕ, zero, suc, ◌+◌, ◌*◌, ◌/◌, ◌%◌, ◌^◌, ◌<◌, ◌≤◌, Bool, true, false, cond, T, eqb, leb, sym, refl, ap, ◌∙◌, true≢false, mul-pos, arith, le→leb, pow_pos}
use lib.Ieee.{Float, nan, inf, fin, binary64, of_bits, to_bits, fits, odd, of_fields}
use lib.Ieee.Exact.{HasValue, odd_sign}
use lib.Ieee.Bits.{of_bits-to_bits, to_bits-lt, is_true}
use lib.Ieee.Compare.{differs_from_itself}
use Rattle.numbers.specs.Root.{sqrt}
use Rattle.numbers.proofs.Values.{no-digits, of_bits_is}
use Rattle.numbers.proofs.Constants.{zero_by_zero}
use Rattle.numbers.proofs.SignLaws.{bits_of_number}
use Rattle.numbers.proofs.NoNan.{no_nan, no-nan-bits}
use Rattle.numbers.proofs.root.plain.Goals as goal
use Rattle.numbers.proofs.root.plain.Goals.{then-b-eq0-via-then-b-eq0, then-b-eq0-via-else-b-eq0+then-b, then-b-eq0-via-else-b-eq0+else-b+then-b-eq-INFINITY_BITS}

known : (x : Float) (b : ℕ) → T (fits binary64 x) → to_bits binary64 x ≡ b → x ≡ of_bits binary64 b
known x b f e = sym (of_bits-to_bits binary64 x f) ∙ ap (of_bits binary64) e

itself : (x v : Float) → x ≡ v → v ≡ sqrt v → x ≡ sqrt x
itself x v e h = e ∙ h ∙ ap sqrt (sym e)

nan-itself : nan ≡ sqrt nan
unfolding sqrt
nan-itself = refl

zero-itself : of_bits binary64 0 ≡ sqrt (of_bits binary64 0)
unfolding sqrt of_bits
zero-itself = refl

minus-zero-itself : of_bits binary64 9223372036854775808 ≡ sqrt (of_bits binary64 9223372036854775808)
unfolding sqrt of_bits
minus-zero-itself = refl

inf-itself : of_bits binary64 9218868437227405312 ≡ sqrt (of_bits binary64 9218868437227405312)
unfolding sqrt of_bits
inf-itself = refl

-- ---- below zero
neg-val : (x : Float) (n c : ℕ) → 0 < n → HasValue x true n c → sqrt x ≡ nan
unfolding sqrt
neg-val nan n c p h = absurd h
neg-val (inf s) n c p h = absurd h
neg-val (fin true zero e) n c p h = absurd (no-digits zero e n c p h.1 refl)
neg-val (fin true (suc m) e) n c p h = refl
neg-val (fin false m e) n c p h = absurd (true≢false (sym h.0))

neg-fields : (q t : ℕ) → 0 < q * 4503599627370496 + t → sqrt (of_fields binary64 true q t) ≡ nan
unfolding of_fields sqrt
neg-fields zero t h = neg-val (odd 53 true t 0 1074) (t * 2 ^ 0) (2 ^ 1074) (omega arith) (odd_sign 53 true t 0 1074)
neg-fields (suc x) t h = go (eqb (suc x) 2047) (eqb t 0)
  where
    go : (a b : Bool) → sqrt (cond a (cond b (inf true) nan) (odd 53 true (4503599627370496 + t) x 1074)) ≡ nan
    go true true = refl
    go true false = refl
    go false b = neg-val (odd 53 true (4503599627370496 + t) x 1074) ((4503599627370496 + t) * 2 ^ x) (2 ^ 1074) (mul-pos (omega arith) (pow_pos x)) (odd_sign 53 true (4503599627370496 + t) x 1074)

negative : (x : Float) (b : ℕ) → 9223372036854775808 < b → b < 2 ^ 64 → x ≡ of_bits binary64 b → nan ≡ sqrt x
negative x b h u e = sym (ap sqrt (e ∙ of_bits_is b ∙ ap (λ (s : Bool). of_fields binary64 s (b % 9223372036854775808 / 4503599627370496) (b % 4503599627370496)) (is_true (leb 9223372036854775808 b) (le→leb 9223372036854775808 b (omega arith))))
    ∙ neg-fields (b % 9223372036854775808 / 4503599627370496) (b % 4503599627370496) (omega arith))

pub returns-then-x : goal.returns-then-x
returns-then-x c = itself _ nan (differs_from_itself c.args.x (T_from_true _ c.if-x.true)) nan-itself

pub float_to_bits-b : goal.float_to_bits-b
float_to_bits-b c = no_nan c.args.x c.if-x.false

pub returns-then-b-eq0 : goal.returns-then-b-eq0
returns-then-b-eq0 c =
    let x = T_from_true _ c.well_formed.0.1 in
    elim c.then-b-eq0.branch [
      | then-b-eq0-via-then-b-eq0 w ↦ itself _ (of_bits binary64 0) (known _ 0 x w.if-b-eq0.true) zero-itself
      | then-b-eq0-via-else-b-eq0+then-b w ↦ itself _ (of_bits binary64 9223372036854775808) (known _ 9223372036854775808 x w.if-b.true) minus-zero-itself
      | then-b-eq0-via-else-b-eq0+else-b+then-b-eq-INFINITY_BITS w ↦ itself _ (of_bits binary64 9218868437227405312) (known _ 9218868437227405312 x w.if-b-eq-INFINITY_BITS.true) inf-itself
    ]

pub returns-then-b-gt-MINUS_ZERO_BITS : goal.returns-then-b-gt-MINUS_ZERO_BITS
returns-then-b-gt-MINUS_ZERO_BITS c =
    let x = c.args.x in
    zero_by_zero ∙ negative x (to_bits binary64 x) c.if-b-gt-MINUS_ZERO_BITS.true (to_bits-lt binary64 x (T_from_true _ c.well_formed.0.1)) (known x (to_bits binary64 x) (T_from_true _ c.well_formed.0.1) refl)

pub root_bits-requires : goal.root_bits-requires
root_bits-requires c =
    let x = c.args.x in
    let n = bits_of_number x (T_from_true _ c.well_formed.0.1) (no_nan x c.if-x.false) in
    within (to_bits binary64 x) n c.if-b-eq0.false c.if-b.false c.if-b-gt-MINUS_ZERO_BITS.false c.if-b-eq-INFINITY_BITS.false
  where
    within : (b : ℕ) → b % 9223372036854775808 ≤ 9218868437227405312 → (b ≡ 0 → ⊥) → (b ≡ 9223372036854775808 → ⊥) → b ≤ 9223372036854775808 → (b ≡ 9218868437227405312 → ⊥) → (0 < b) × (b < 9218868437227405312)
    within b h k l m n = omega arith

pub float_from_bits-result : goal.float_from_bits-result
float_from_bits-result c = no-nan-bits c.root_bits.result (omega arith)

pub returns : goal.returns
returns c =
    c.root_bits.ensures.is ∙ ap sqrt (of_bits-to_bits binary64 c.args.x (T_from_true _ c.well_formed.0.1))
