-- `sheets::reader::num::digits` meets its contract. Assumes nothing.
use Prim.Native.Nat.{ℕ, ◌≤◌, ◌<◌, ◌-◌, ◌+◌, ◌*◌, ◌^◌}
use native.Mathlib.Nat.{pow-le-pow_right}
use native.Mathlib.Omega.{arith}
use mathlib.Core.Path.{refl, sym, ap, ap₂, ◌∙◌, ◌≡◌}
use Rattle.sheets.specs.code.reader.Codes.{digit}
use Rattle.sheets.specs.code.reader.Reader.{chars}
use Rattle.sheets.proofs.reader.CharSteps.{digit_none, digit-got}
use Rattle.sheets.proofs.reader.TokenSteps.{grow, cap, digits_of, digits-start, digits-next, digits-stop, digits-end}
use Rattle.sheets.proofs.reader.num.digits.Goals as goal

-- one more digit fits
fits : (value d left : ℕ) → 0 < left → left ≤ 9 → value < 10 ^ (18 - left) → d < 10 → value * 10 + d < 10 ^ 18
fits value d left pos few h b =
    let grows : value * 10 + d < 10 ^ (18 - (left - 1)) = grow 10 18 _ _ _ pos (omega arith) h b in
    let caps : 10 ^ (18 - (left - 1)) ≤ 10 ^ 18 = cap 10 18 _ (omega arith) in
    omega arith

pub loop-count-init : goal.loop-count-init
loop-count-init c =
    let all : c.args.most - 0 ≡ c.args.most = omega arith in
    let start : c.args.at + 0 ≡ c.args.at = omega arith in (
      omega arith,
      omega (arith, pow-le-pow_right {n = 10} (omega arith) {i = 9} {j = 18 - (c.args.most - 0)} (omega arith)),
      ap₂ (λ k n. digits_of c.args.before 0 (chars digit k c.args.s.now n) n) all start ∙ digits-start _ _ _,
    )

pub returns-in_default : goal.returns-in_default
returns-in_default c = digits-stop _ _ _ _ _ _ _ _ c.byte.ensures.is refl (digit_none _ _ c.digit.ensures.is c.in_default.is) c.loop-count.invariant.2

pub overflow_mul-value : goal.overflow_mul-value
overflow_mul-value c = let next = digit-got _ _ c.digit.ensures.is _ c.in-Some.is in omega (arith, fits c.loop-count.value c.in-Some.d (c.args.most - c.loop-count.count) (omega arith) (omega arith) c.loop-count.invariant.1 (omega (arith, next, c.digit.ensures.small)))

pub overflow_add-value : goal.overflow_add-value
overflow_add-value c = let next = digit-got _ _ c.digit.ensures.is _ c.in-Some.is in omega (arith, fits c.loop-count.value c.in-Some.d (c.args.most - c.loop-count.count) (omega arith) (omega arith) c.loop-count.invariant.1 (omega (arith, next, c.digit.ensures.small)))

pub loop-count-preserved : goal.loop-count-preserved
loop-count-preserved c =
    let next = digit-got _ _ c.digit.ensures.is _ c.in-Some.is in
    let before : 0 < c.args.most - c.loop-count.count = omega arith in
    let left : c.args.most - (c.loop-count.count + 1) ≡ c.args.most - c.loop-count.count - 1 = omega arith in
    let place : c.args.at + (c.loop-count.count + 1) ≡ c.args.at + c.loop-count.count + 1 = omega arith in (
      omega (arith, next, c.digit.ensures.from_byte, c.byte.ensures.inside),
      rw left (grow 10 18 _ _ _ before (omega arith) c.loop-count.invariant.1 (omega (arith, next, c.digit.ensures.small))),
      ap₂ (λ k n. digits_of (c.loop-count.value * 10 + c.in-Some.d) (c.loop-count.count + 1) (chars digit k c.args.s.now n) n) left place
          ∙ digits-next _ _ _ _ _ _ (c.args.most - c.loop-count.count) _ c.byte.ensures.is next before c.loop-count.invariant.2,
    )

pub returns : goal.returns
returns c =
    let all : c.loop-count.count ≡ c.args.most = omega arith in
    ap (λ n. record { value = c.loop-count.value; count = n; end = c.args.at + n }) (sym all)
    ∙ digits-end _ _ _ _ (c.args.most - c.loop-count.count) _ (omega arith) c.loop-count.invariant.2
