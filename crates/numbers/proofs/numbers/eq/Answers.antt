-- `numbers::numbers::eq` meets its contract. Assumes nothing.
use lib.Ieee.{of_bits}
use Rattle.numbers.specs.Ops.{decimal}
use Rattle.numbers.specs.Floats.{near}
use Rattle.numbers.proofs.numbers.eq.Goals as goal

pub returns : goal.returns
unfolding of_bits decimal near
returns c = simp c.abs.ensures
