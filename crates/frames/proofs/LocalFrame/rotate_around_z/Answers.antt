-- `frames::LocalFrame::rotate_around_z` meets its contract. Assumes nothing.
use lib.Ieee.{of_bits}
use Rattle.numbers.specs.Ops.{decimal}
use Rattle.frames.specs.Frames.{rotate_around_z}
use Rattle.frames.proofs.LocalFrame.rotate_around_z.Goals as goal

pub returns : goal.returns
unfolding of_bits decimal rotate_around_z
returns c = simp (c.by_direction.ensures, c.rotate-dir_rm.ensures, c.zyx2r-rot_z.ensures)
