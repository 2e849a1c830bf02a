-- `frames::Ellipsoid::meridian_radius` meets its contract. Assumes nothing.
use lib.Ieee.{of_bits}
use Rattle.numbers.specs.Ops.{decimal}
use Rattle.frames.specs.Radii.{meridian_radius}
use Rattle.frames.proofs.Ellipsoid.meridian_radius.Goals as goal

pub returns : goal.returns
unfolding of_bits decimal meridian_radius
returns c = simp (c.powf_three_halves.ensures, c.sin-sin_lat.ensures)
