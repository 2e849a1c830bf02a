-- `frames::LocalFrame::wander_azimuth` meets its contract. Assumes nothing.
use lib.Ieee.{of_bits, neg}
use Rattle.numbers.specs.Ops.{decimal}
use Rattle.frames.specs.Frames.{new_wander_azimuth}
use Rattle.frames.proofs.LocalFrame.wander_azimuth.Goals as goal

pub returns : goal.returns
unfolding of_bits neg decimal new_wander_azimuth
returns g c = simp (c.by_direction.ensures, c.as_metres-at.ensures, c.to_geocentric.ensures, c.to_geodetic.ensures, c.mul-dir_rm.ensures, c.new-r_ee.ensures, c.xyz2r-r.ensures, c.neg.ensures, c.from_nvector-ll.ensures)
