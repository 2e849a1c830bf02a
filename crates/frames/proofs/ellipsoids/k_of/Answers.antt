-- `frames::ellipsoids::k_of` meets its contract. Assumes nothing.
use lib.Ieee.{of_bits}
use Rattle.numbers.specs.Ops.{decimal}
use Rattle.frames.specs.Ellipsoids.{k_of}
use Rattle.frames.proofs.ellipsoids.k_of.Goals as goal

pub returns : goal.returns
unfolding of_bits decimal k_of
returns c = simp (c.sqrt.ensures, c.sqrt-v.ensures)
