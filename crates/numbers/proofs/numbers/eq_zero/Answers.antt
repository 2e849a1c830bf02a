-- `numbers::numbers::eq_zero` meets its contract. Assumes nothing.
use lib.Ieee.{of_bits}
use Rattle.numbers.specs.Ops.{decimal}
use Rattle.numbers.specs.Floats.{near_zero}
use Rattle.numbers.proofs.numbers.eq_zero.Goals as goal

pub returns : goal.returns
unfolding of_bits decimal near_zero
returns c = simp c.eq.ensures
