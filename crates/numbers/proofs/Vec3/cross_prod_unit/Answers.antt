-- `numbers::Vec3::cross_prod_unit` meets its contract. Assumes nothing.
use Rattle.numbers.specs.Vec.{cross_prod_unit}
use Rattle.numbers.proofs.Vec3.cross_prod_unit.Goals as goal

pub returns : goal.returns
unfolding cross_prod_unit
returns c = simp (c.new_unit.ensures, c.crossed-c.ensures)
