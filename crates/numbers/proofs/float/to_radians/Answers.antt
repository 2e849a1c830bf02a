-- `numbers::float::to_radians` meets its contract. Assumes nothing.
use Rattle.std.proofs.Common.{refl}
use lib.Ieee.{of_bits}
use Rattle.numbers.specs.Ops.{decimal}
use Rattle.numbers.specs.Floats.{to_radians}
use Rattle.numbers.proofs.float.to_radians.Goals as goal

pub returns : goal.returns
unfolding of_bits decimal to_radians
returns c = refl
