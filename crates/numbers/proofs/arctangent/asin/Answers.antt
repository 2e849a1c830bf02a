-- `numbers::arctangent::asin` meets its contract, by those of what it calls. Assumes nothing.
use Rattle.std.proofs.Common.{ℕ, ◌≤◌, Bool, eqb, sym, ap, ◌∙◌, subst}
use lib.Ieee.{of_bits}
use Rattle.numbers.specs.Ops.{decimal}
use Rattle.numbers.specs.Arctangent.{asin, atan_base, negated_by}
use Rattle.numbers.proofs.TurnLaws.{digit-small, digit-back}
use Rattle.numbers.proofs.ArcLaws.{asin-by}
use Rattle.numbers.proofs.arctangent.asin.Goals as goal

pub negated_by-requires : goal.negated_by-requires
negated_by-requires c = subst (λ (k : ℕ). k ≤ 1) (sym c.sign_bit.ensures) (digit-small c.args.x)

pub returns-then-m : goal.returns-then-m
unfolding decimal of_bits
returns-then-m c =
    let x = c.args.x in
    let v = c.atan_told.result in
    let base = c.atan_told.ensures ∙ (λ i. atan_base (c.abs.ensures i) (c.sqrt-r.ensures i)) in
    let sign = ap (λ (k : ℕ). eqb k 1) c.sign_bit.ensures ∙ digit-back x in
    c.negated_by.ensures ∙ ap (λ (b : Bool). negated_by b v) sign ∙ asin-by x v c.if-m.true base

pub returns : goal.returns
unfolding asin decimal of_bits
returns c = cc
