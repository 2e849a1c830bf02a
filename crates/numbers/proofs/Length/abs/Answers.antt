-- `numbers::Length::abs` meets its contract. Assumes nothing.
use lib.Ieee.{of_bits}
use Rattle.numbers.specs.Ops.{decimal}
use Rattle.numbers.specs.Lengths.{length_abs}
use Rattle.numbers.proofs.Length.abs.Goals as goal

pub returns-then-self : goal.returns-then-self
unfolding of_bits decimal length_abs
returns-then-self c = simp c.if-self.true

pub returns-else-self : goal.returns-else-self
unfolding of_bits decimal length_abs
returns-else-self c = simp (c.from_metres.ensures, c.if-self.false)
