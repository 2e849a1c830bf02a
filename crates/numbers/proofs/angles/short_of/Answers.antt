-- `numbers::angles::short_of` meets its contract. Assumes nothing.
use lib.Ieee.{of_bits}
use Rattle.numbers.specs.Ops.{decimal}
use Rattle.numbers.proofs.angles.short_of.Goals as goal

pub returns-then-radians-max : goal.returns-then-radians-max
unfolding of_bits decimal
returns-then-radians-max c = simp c.if-radians-max.true
