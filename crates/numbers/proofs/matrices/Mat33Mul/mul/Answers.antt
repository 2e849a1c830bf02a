-- `numbers::matrices::Mat33Mul::mul` meets its contract. Assumes nothing.
use Rattle.numbers.specs.Mat.{mat_mul}
use Rattle.numbers.proofs.matrices.Mat33Mul.mul.Goals as goal

pub returns : goal.returns
unfolding mat_mul
returns c = simp (c.new.ensures, c.mul-3.ensures, c.mul-2.ensures, c.mul.ensures, c.transpose-t2.ensures)
