-- `numbers::Angle::constants` meets its contract, by computation. Assumes nothing.
use Rattle.std.proofs.Common.{refl}
use lib.Ieee as Ieee
use Rattle.numbers.specs.Ops.{decimal}
use Rattle.numbers.proofs.Angle.constants.Goals as goal

pub returns : goal.returns
unfolding Ieee.of_bits Ieee.neg Ieee.mul Ieee.div decimal
returns c = refl
