-- `frames::LocalVector::zero` meets its contract. Assumes nothing.
use mathlib.Core.Path.{refl}
use lib.Ieee.{of_bits}
use Rattle.numbers.specs.Ops.{decimal}
use Rattle.frames.proofs.LocalVector.zero.Goals as goal

pub returns : goal.returns
unfolding of_bits decimal
returns c = refl
