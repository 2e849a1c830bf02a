-- `numbers::Vec3::orthogonal` meets its contract. Assumes nothing.
use Rattle.numbers.specs.Vec.{orthogonal}
use Rattle.numbers.proofs.Vec3.orthogonal.Goals as goal

pub returns : goal.returns
unfolding orthogonal
returns c = simp (c.cross_prod_unit.ensures, c.axis_for.ensures, c.abs.ensures, c.abs-2.ensures, c.abs-3.ensures)
