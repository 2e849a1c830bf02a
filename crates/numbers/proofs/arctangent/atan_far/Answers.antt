-- `numbers::arctangent::atan_far` meets its contract. Assumes nothing.
use lib.Ieee.{of_bits}
use Rattle.numbers.specs.Ops.{decimal}
use Rattle.numbers.proofs.arctangent.atan_far.Goals as goal

pub returns : goal.returns
unfolding decimal of_bits
returns c = simp c.atan_poly.ensures
