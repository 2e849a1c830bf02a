-- `numbers::matrices::Vec3MulMat33::mul` meets its contract. Assumes nothing.
use Rattle.numbers.specs.Mat.{vec_mul_mat}
use Rattle.numbers.proofs.matrices.Vec3MulMat33.mul.Goals as goal

pub returns : goal.returns
unfolding vec_mul_mat
returns c = simp (c.new.ensures, c.dot_prod-z.ensures, c.dot_prod-y.ensures, c.dot_prod-x.ensures)
