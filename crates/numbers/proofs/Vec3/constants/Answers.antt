-- `numbers::Vec3::constants` meets its contract, by computation. Assumes nothing.
use Rattle.std.proofs.Common.{refl}
use lib.Ieee as Ieee
use Rattle.numbers.specs.Ops.{decimal}
use Rattle.numbers.proofs.Vec3.constants.Goals as goal

pub returns : goal.returns
unfolding Ieee.of_bits Ieee.neg decimal
returns c = refl
