-- `frames::ellipsoids::geodetic_by` meets its contract. Assumes nothing.
use lib.Ieee.{of_bits}
use Rattle.numbers.specs.Ops.{decimal}
use Rattle.frames.specs.Ellipsoids.{geodetic_by}
use Rattle.frames.proofs.ellipsoids.geodetic_by.Goals as goal

pub returns : goal.returns
unfolding of_bits decimal geodetic_by
returns c = simp (c.new.ensures, c.sqrt-fs.ensures, c.sqrt-2.ensures, c.sqrt.ensures)
