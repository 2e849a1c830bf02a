-- `frames::Ellipsoid::mean_radius` meets its contract. Assumes nothing.
use lib.Ieee.{of_bits}
use Rattle.numbers.specs.Ops.{decimal}
use Rattle.frames.specs.Radii.{mean_radius}
use Rattle.frames.proofs.Ellipsoid.mean_radius.Goals as goal

pub returns : goal.returns
unfolding of_bits decimal mean_radius
returns c = simp (c.div.ensures, c.add-sum.ensures, c.mul.ensures)
