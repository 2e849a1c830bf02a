-- `frames::Ellipsoid::prime_vertical_radius` meets its contract. Assumes nothing.
use lib.Ieee.{of_bits}
use Rattle.numbers.specs.Ops.{decimal}
use Rattle.frames.specs.Radii.{prime_vertical_radius}
use Rattle.frames.proofs.Ellipsoid.prime_vertical_radius.Goals as goal

pub returns : goal.returns
unfolding of_bits decimal prime_vertical_radius
returns c = simp (c.sqrt.ensures, c.sin-sin_lat.ensures)
