-- `numbers::angles::lifted` meets its contract. Assumes nothing.
use lib.Ieee.{of_bits}
use Rattle.numbers.specs.Ops.{decimal}
use Rattle.numbers.proofs.angles.lifted.Goals as goal

pub returns-then-radians : goal.returns-then-radians
unfolding of_bits decimal
returns-then-radians c = simp c.if-radians.true

pub returns-else-radians : goal.returns-else-radians
unfolding of_bits decimal
returns-else-radians c = simp c.if-radians.false
