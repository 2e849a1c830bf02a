-- `numbers::Vec3::cross_prod` meets its contract. Assumes nothing.
use Rattle.numbers.specs.Vec.{cross_prod}
use Rattle.numbers.proofs.Vec3.cross_prod.Goals as goal

pub returns : goal.returns
unfolding cross_prod
returns c = simp (c.new.ensures, c.crossed-c.ensures)
