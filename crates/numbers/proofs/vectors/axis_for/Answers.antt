-- `numbers::vectors::axis_for` meets its contract. Assumes nothing.
use lib.Ieee.{of_bits}
use Rattle.numbers.specs.Ops.{decimal}
use Rattle.numbers.proofs.vectors.axis_for.Goals as goal

pub returns-then-ax-az : goal.returns-then-ax-az
unfolding of_bits decimal
returns-then-ax-az c = simp (c.if-ax-ay.true, c.if-ax-az.true)

pub returns-else-ax-az : goal.returns-else-ax-az
unfolding of_bits decimal
returns-else-ax-az c = simp (c.if-ax-ay.true, c.if-ax-az.false)

pub returns-then-ay-az : goal.returns-then-ay-az
unfolding of_bits decimal
returns-then-ay-az c = simp (c.if-ax-ay.false, c.if-ay-az.true)

pub returns-else-ay-az : goal.returns-else-ay-az
unfolding of_bits decimal
returns-else-ay-az c = simp (c.if-ax-ay.false, c.if-ay-az.false)
