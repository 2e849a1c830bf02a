-- `frames::orientations::align_to_z_down_matrix` meets its contract. Assumes nothing.
use lib.Ieee.{of_bits}
use Rattle.numbers.specs.Ops.{decimal}
use Rattle.frames.specs.Orientations.{align_to_z_down}
use Rattle.frames.proofs.orientations.align_to_z_down_matrix.Goals as goal

pub returns : goal.returns
unfolding of_bits decimal align_to_z_down
returns c = simp (c.new-4.ensures, c.new-3.ensures, c.new-2.ensures, c.new.ensures)
