-- `numbers::arctangent::turned_by` meets its contract. Assumes nothing.
use Rattle.std.proofs.lemmas.Float.{T_from_true}
use Rattle.std.proofs.Common.{◌-◌, ◌*◌, ap, ◌∙◌}
use lib.Ieee.{Float, binary64, of_bits}
use Rattle.numbers.specs.Ops.{◌⊕◌, ◌⊗◌}
use Rattle.numbers.proofs.TurnLaws.{turned-is, turn-no-nan}
use Rattle.numbers.proofs.arctangent.turned_by.Goals as goal

pub float_from_bits-result : goal.float_from_bits-result
float_from_bits-result c = turn-no-nan c.args.s c.requires

pub returns : goal.returns
returns c =
    let a = c.args in
    ap (λ (z : Float). of_bits binary64 (9223372036854775808 - a.s * 4609115380302729960) ⊕ a.v ⊗ z) c.signed_one.ensures
    ∙ turned-is a.s c.requires a.v (T_from_true _ c.well_formed.1.0.1)
