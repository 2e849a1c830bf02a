-- `numbers::Vec3::new` meets its contract. Assumes nothing.
use Rattle.std.proofs.Common.{refl}
use lib.Ieee.{of_bits}
use Rattle.numbers.specs.Ops.{decimal}
use Rattle.numbers.proofs.Vec3.new.Goals as goal

pub returns : goal.returns
unfolding of_bits decimal
returns c = refl
