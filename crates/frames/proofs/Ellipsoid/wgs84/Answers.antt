-- `frames::Ellipsoid::wgs84` meets its contract. Assumes nothing.
use mathlib.Core.Path.{refl}
use lib.Ieee.{of_bits}
use Rattle.numbers.specs.Ops.{decimal}
use Rattle.frames.specs.Ellipsoids.{wgs84}
use Rattle.frames.proofs.Ellipsoid.wgs84.Goals as goal

pub returns : goal.returns
unfolding of_bits decimal wgs84
returns c = refl
