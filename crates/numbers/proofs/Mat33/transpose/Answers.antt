-- `numbers::Mat33::transpose` meets its contract. Assumes nothing.
use Rattle.numbers.specs.Mat.{transpose}
use Rattle.numbers.proofs.Mat33.transpose.Goals as goal

pub returns : goal.returns
unfolding transpose
returns c = simp (c.new-4.ensures, c.new-3.ensures, c.new-2.ensures, c.new.ensures)
