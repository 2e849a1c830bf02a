-- `frames::Ellipsoid::q_of` meets its contract. Assumes nothing.
use mathlib.Core.Path.{refl}
use lib.Ieee.{of_bits}
use Rattle.numbers.specs.Ops.{decimal}
use Rattle.frames.specs.Ellipsoids.{q_of}
use Rattle.frames.proofs.Ellipsoid.q_of.Goals as goal

pub returns : goal.returns
unfolding of_bits decimal q_of
returns c = refl
