-- `frames::LocalFrame::ned` meets its contract. Assumes nothing.
use lib.Ieee.{of_bits}
use Rattle.numbers.specs.Ops.{decimal}
use Rattle.frames.specs.Frames.{new_ned, ned_inverse}
use Rattle.frames.proofs.LocalFrame.ned.Goals as goal

pub returns : goal.returns
unfolding of_bits decimal new_ned ned_inverse
returns g c = simp (c.by_inverse.ensures, c.as_metres-at.ensures, c.to_geocentric.ensures, c.to_geodetic.ensures, c.new-inv_rm.ensures, c.cross_prod-rn.ensures, c.orthogonal_to-re.ensures, c.mul-rd.ensures)
