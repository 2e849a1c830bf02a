-- `numbers::float::to_degrees` meets its contract. Assumes nothing.
use Rattle.std.proofs.Common.{refl}
use lib.Ieee.{of_bits}
use Rattle.numbers.specs.Ops.{decimal}
use Rattle.numbers.specs.Floats.{to_degrees}
use Rattle.numbers.proofs.float.to_degrees.Goals as goal

pub returns : goal.returns
unfolding of_bits decimal to_degrees
returns c = refl
