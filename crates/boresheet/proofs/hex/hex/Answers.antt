-- `boresheet::hex::hex` meets its contract. Assumes nothing.
use native.Mathlib.Omega.{arith}
use native.Mathlib.Numerals.{add-one}
use native.Mathlib.Nat.{pow-suc, pow-le-pow_right}
use Prim.Native.Nat.{ℕ, ◌+◌, ◌-◌, ◌*◌, ◌^◌, ◌<◌, ◌≤◌}
use Rattle.std.proofs.Common.{Some}
use mathlib.Core.Path.{◌≡◌, ap, ap₂, ◌∙◌}
use Rattle.boresheet.specs.code.Readings.{hex_from, hex_at}
use Rattle.boresheet.proofs.ReadingSteps.{hex-stop, hex-turn, hex-end}
use Rattle.boresheet.proofs.hex.hex.Goals as goal

-- one more digit
more : (i bits d : ℕ) → bits < 16 ^ i → d < 16 → bits * 16 + d < 16 ^ (i + 1)
more i bits d h b =
    let e : 16 ^ (i + 1) ≡ 16 ^ i * 16 = ap (λ (k : ℕ). 16 ^ k) (add-one i) ∙ pow-suc 16 i in
    omega arith

-- it fits, since what comes of sixteen does
room : (i bits d : ℕ) → i < 16 → bits < 16 ^ i → d < 16 → bits * 16 + d < 16 ^ 16
room i bits d l h b =
    let most : 16 ^ (i + 1) ≤ 16 ^ 16 = pow-le-pow_right {n = 16} (omega arith) {i = i + 1} {j = 16} (omega arith) in
    omega (arith, more i bits d h b)

pub loop-i-init : goal.loop-i-init
unfolding hex_at
loop-i-init c =
    let e : c.args.at + 0 ≡ c.args.at = omega arith in
    (omega arith, omega arith, ap (λ (n : ℕ). hex_from 16 0 c.args.s.now n) e)

pub returns-in_default : goal.returns-in_default
returns-in_default c = hex-stop _ _ _ _ _ c.byte.ensures.is (16 - c.loop-i.i) (omega arith) c.in_default.ensures c.loop-i.invariant.2

pub overflow_mul-bits : goal.overflow_mul-bits
overflow_mul-bits c = omega (arith, room c.loop-i.i c.loop-i.bits c.in-Some.d (omega arith) c.loop-i.invariant.0 c.in-Some.ensures.1)

pub overflow_add-bits : goal.overflow_add-bits
overflow_add-bits c = omega (arith, room c.loop-i.i c.loop-i.bits c.in-Some.d (omega arith) c.loop-i.invariant.0 c.in-Some.ensures.1)

pub loop-i-preserved : goal.loop-i-preserved
loop-i-preserved c =
    let left : 16 - (c.loop-i.i + 1) ≡ 16 - c.loop-i.i - 1 = omega arith in
    let place : c.args.at + (c.loop-i.i + 1) ≡ c.args.at + c.loop-i.i + 1 = omega arith in (
      more c.loop-i.i c.loop-i.bits c.in-Some.d c.loop-i.invariant.0 c.in-Some.ensures.1,
      omega (arith, c.byte.ensures.inside, c.in-Some.ensures.1, c.in-Some.ensures.2),
      ap₂ (λ k n. hex_from k (c.loop-i.bits * 16 + c.in-Some.d) c.args.s.now n) left place
          ∙ hex-turn _ _ _ _ _ c.byte.ensures.is (16 - c.loop-i.i) c.in-Some.d (omega arith) c.in-Some.ensures.0 c.in-Some.ensures.1 c.loop-i.invariant.2,
    )

pub returns : goal.returns
returns c =
    let place : c.args.at + 16 ≡ c.args.at + c.loop-i.i = omega arith in
    ap (λ n. Some (c.double-x.result, n)) place
    ∙ hex-end _ c.loop-i.bits (c.args.at + c.loop-i.i) (16 - c.loop-i.i) _ _ (omega arith) c.double-x.ensures c.loop-i.invariant.2
