-- `numbers::arctangent::negated_by` meets its contract. Assumes nothing.
use Rattle.std.proofs.lemmas.Float.{T_from_true}
use Rattle.std.proofs.Common.{eqb, ap, ◌∙◌}
use lib.Ieee.{Float}
use Rattle.numbers.specs.Ops.{◌⊗◌}
use Rattle.numbers.proofs.TurnLaws.{negated-is}
use Rattle.numbers.proofs.arctangent.negated_by.Goals as goal

pub returns : goal.returns
returns c =
    let a = c.args in
    ap (λ (z : Float). a.v ⊗ z) c.signed_one.ensures ∙ negated-is (eqb a.s 1) a.v (T_from_true _ c.well_formed.1.0.1)
