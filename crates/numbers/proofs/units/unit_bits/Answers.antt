-- `numbers::units::unit_bits` meets its contract. Assumes nothing.
use Rattle.std.proofs.Common.{◌≡◌, ℕ, ◌+◌, ◌-◌, ◌*◌, ◌/◌, ◌%◌, ◌^◌, ◌<◌, ◌≤◌, sym, ap, ◌∙◌, subst, arith, pow-add}
use lib.Pow.{pow-lt}
use Rattle.numbers.specs.code.Units.{UnitBits}
use Rattle.numbers.proofs.Values.{subnormal, normal}
use Rattle.numbers.proofs.units.unit_bits.Goals as goal

low : (e : ℕ) → e < 52 → UnitBits e (2 ^ e)
low e h = let l : 2 ^ e < 2 ^ 52 = pow-lt h in record { is = subnormal (2 ^ e) (omega arith); finite = omega arith }

high : (e : ℕ) → 52 ≤ e → e < 2046 → UnitBits e ((e - 51) * 4503599627370496)
high e h k =
    let b = (e - 51) * 4503599627370496 in
    let q : b / 4503599627370496 - 1 ≡ e - 52 = omega arith in
    let t : b % 4503599627370496 ≡ 0 = omega arith in
    let s : 52 + (e - 52) ≡ e = omega arith in
    record { is = normal b (omega arith) ∙ (λ i. (4503599627370496 + t i) * 2 ^ q i) ∙ sym (pow-add 2 52 (e - 52)) ∙ ap (λ (z : ℕ). 2 ^ z) s; finite = omega arith }

pub returns-then-e-lt52 : goal.returns-then-e-lt52
returns-then-e-lt52 c = subst (UnitBits _) (sym c.power.ensures) (low _ c.if-e-lt52.true)

pub returns : goal.returns
returns c = high _ c.if-e-lt52.false c.requires
