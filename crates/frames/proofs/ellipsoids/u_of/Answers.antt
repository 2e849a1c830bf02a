-- `frames::ellipsoids::u_of` meets its contract. Assumes nothing.
use lib.Ieee.{of_bits}
use Rattle.numbers.specs.Ops.{decimal}
use Rattle.frames.specs.Ellipsoids.{u_of}
use Rattle.frames.proofs.ellipsoids.u_of.Goals as goal

pub returns : goal.returns
unfolding of_bits decimal u_of
returns c = simp (c.powf_third-t.ensures, c.sqrt.ensures)
