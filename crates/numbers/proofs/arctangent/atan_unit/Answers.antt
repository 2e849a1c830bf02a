-- `numbers::arctangent::atan_unit` meets its contract. Assumes nothing.
use lib.Ieee.{of_bits}
use Rattle.numbers.specs.Ops.{decimal}
use Rattle.numbers.specs.Arctangent.{atan_unit}
use Rattle.numbers.proofs.arctangent.atan_unit.Goals as goal

pub returns-then-t : goal.returns-then-t
unfolding atan_unit decimal of_bits
returns-then-t c = simp (c.atan_poly.ensures, c.if-t.true)

pub returns : goal.returns
unfolding atan_unit decimal of_bits
returns c = simp (c.atan_far.ensures, c.if-t.false)
