-- `numbers::arctangent::atan2` meets its contract. Assumes nothing.
use Rattle.std.proofs.Common.{ℕ, ◌≤◌, eqb, sym, ap, ◌∙◌, subst}
use Rattle.numbers.specs.Arctangent.{atan2, atan_base, turned_by, negated_by}
use Rattle.numbers.proofs.TurnLaws.{digit-small, digit-back}
use Rattle.numbers.proofs.arctangent.atan2.Goals as goal

pub turned_by-requires : goal.turned_by-requires
turned_by-requires c = subst (λ (k : ℕ). k ≤ 1) (sym c.sign_bit-2.ensures) (digit-small c.args.x)

pub negated_by-requires : goal.negated_by-requires
negated_by-requires c = subst (λ (k : ℕ). k ≤ 1) (sym c.sign_bit.ensures) (digit-small c.args.y)

pub returns : goal.returns
unfolding atan2
returns c =
    let a = c.args in
    let base = c.atan_base.ensures ∙ (λ i. atan_base (c.abs.ensures i) (c.abs-2.ensures i)) in
    let turned = c.turned_by.ensures ∙ (λ i. turned_by ((ap (λ (k : ℕ). eqb k 1) c.sign_bit-2.ensures ∙ digit-back a.x) i) (base i)) in
    c.negated_by.ensures ∙ (λ i. negated_by ((ap (λ (k : ℕ). eqb k 1) c.sign_bit.ensures ∙ digit-back a.y) i) (turned i))
