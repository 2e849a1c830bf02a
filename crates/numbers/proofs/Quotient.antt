-- The quotient of two whole numbers that are doubles exactly is their fraction rounded once. Assumes nothing.
use Rattle.std.proofs.Common.{◌≡◌, ℕ, zero, suc, ◌+◌, ◌*◌, ◌^◌, ◌<◌, ◌≤◌, Bool, true, false, cond, T, eqb, ltb, pos, sym, refl, ap, ◌∙◌, true≢false, mul-pos, mul-one, arith, le→leb, eqb→eq}
use lib.Dec.{not_T}
use lib.Ieee.{in_float, Float, nan, inf, fin, Format, binary64, low, emax, prec, up, down, odd, units, round, div, neg, of_int}
use lib.Ieee.Fits.{down_pos, round_is}
use lib.Ieee.Exact.{HasValue}
use lib.Ieee.Scale.{round_same}
use lib.Ieee.Bits.{cond_no}
use Rattle.numbers.specs.Ops.{decimal}
use Rattle.numbers.specs.Floats.{nearest, divided}
use Rattle.numbers.proofs.Values.{no-digits}
use Rattle.numbers.proofs.WholeLaw.{whole_val}

cross : (a b n d e g : ℕ) → a * 1 ≡ n * e → b * 1 ≡ d * g → a * g * d ≡ n * (b * e)
cross a b n d e g h k =
    let x : a * g * d ≡ n * e * g * d = ap (λ (z : ℕ). z * g * d) (sym (mul-one a) ∙ h) in
    let y : n * (b * e) ≡ n * (d * g * e) = ap (λ (z : ℕ). n * (z * e)) (sym (mul-one b) ∙ k) in
    omega arith

pub div-at : (x y : Float) (n d : ℕ) → 0 < d → HasValue x false n 1 → HasValue y false d 1 → div binary64 x y ≡ round binary64 false n d
unfolding div
div-at nan y n d p h k = absurd h
div-at (inf s) y n d p h k = absurd h
div-at (fin s m e) nan n d p h k = absurd k
div-at (fin s m e) (inf t) n d p h k = absurd k
div-at (fin true m e) (fin t m' e') n d p h k = absurd (true≢false h.0)
div-at (fin false m e) (fin true m' e') n d p h k = absurd (true≢false k.0)
div-at (fin false m e) (fin false m' e') n d p h k =
    let P : 0 < m' * up e' * down e = mul-pos (first (m' * up e') (d * down e') (mul-pos p (down_pos e')) k.1) (down_pos e) in
    cond_no (eqb m' 0) (cond (eqb m 0) nan (inf false)) (round binary64 false (m * up e * down e') (m' * up e' * down e)) (not_T (eqb m' 0) (λ (t : T (eqb m' 0)). no-digits m' e' d 1 p k.1 (eqb→eq m' 0 t)))
    ∙ round_same binary64 false (m * up e * down e') (m' * up e' * down e) n d P p (cross (m * up e) (m' * up e') n d (down e) (down e') h.1 k.1)
  where
    first : (a b : ℕ) → 0 < b → a * 1 ≡ b → 0 < a
    first a b q e = omega arith

pub quotient : (n d : ℕ) → n ≤ 2 ^ 53 → d ≤ 2 ^ 53 → 0 < d → div binary64 (of_int binary64 (pos n)) (of_int binary64 (pos d)) ≡ round binary64 false n d
quotient n d h k p = div-at (of_int binary64 (pos n)) (of_int binary64 (pos d)) n d p (whole_val (pos n) h) (whole_val (pos d) k)

-- a whole number up to 2 ^ 53 is cast without loss
pub exact : (t : ℕ) → t ≤ 2 ^ 53 → T (in_float binary64 (pos t))
unfolding in_float
exact t h = le→leb t (2 ^ 53) h

-- ---- the sign
neg-odd : (d q k l : ℕ) → neg (odd d false q k l) ≡ odd d true q k l
unfolding odd neg
neg-odd d zero k l = refl
neg-odd d (suc q) k l = refl

neg-units : (f : Format) (q k : ℕ) → neg (units f false q k) ≡ units f true q k
unfolding units neg
neg-units f q k = go (ltb (q * 2 ^ k) (2 ^ (low f + suc (emax f))))
  where
    go : (b : Bool) → neg (cond b (odd (suc (prec f)) false q k (low f)) (inf false)) ≡ cond b (odd (suc (prec f)) true q k (low f)) (inf true)
    go true = neg-odd (suc (prec f)) q k (low f)
    go false = refl

pub neg-round : (f : Format) (a b : ℕ) → neg (round f false a b) ≡ round f true a b
neg-round f a b = ap neg (round_is f false a b) ∙ neg-units f _ _ ∙ sym (round_is f true a b)

-- ---- `divided`

pub divided-nearest : (s : Bool) (n d : ℕ) → n ≤ 2 ^ 53 → d ≤ 2 ^ 53 → 0 < d → divided s n d ≡ nearest s n d
unfolding divided decimal of_int
divided-nearest false n d h k p = quotient n d h k p
divided-nearest true n d h k p = ap neg (quotient n d h k p) ∙ neg-round binary64 n d
