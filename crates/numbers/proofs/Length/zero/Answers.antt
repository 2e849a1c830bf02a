-- `numbers::Length::zero` meets its contract, by computation. Assumes nothing.
use Rattle.std.proofs.Common.{refl}
use lib.Ieee as Ieee
use Rattle.numbers.specs.Ops.{decimal}
use Rattle.numbers.proofs.Length.zero.Goals as goal

pub returns : goal.returns
unfolding Ieee.of_bits decimal
returns c = refl
