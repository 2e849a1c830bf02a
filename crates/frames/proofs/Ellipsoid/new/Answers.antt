-- `frames::Ellipsoid::new` meets its contract. Assumes nothing.
use lib.Ieee.{of_bits}
use Rattle.numbers.specs.Ops.{decimal}
use Rattle.frames.specs.Ellipsoids.{ellipsoid}
use Rattle.frames.proofs.Ellipsoid.new.Goals as goal

pub returns : goal.returns
unfolding of_bits decimal ellipsoid
returns c = simp c.sqrt-e.ensures
