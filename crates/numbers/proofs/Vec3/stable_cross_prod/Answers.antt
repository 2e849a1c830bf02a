-- `numbers::Vec3::stable_cross_prod` meets its contract. Assumes nothing.
use Rattle.numbers.specs.Vec.{stable_cross_prod}
use Rattle.numbers.proofs.Vec3.stable_cross_prod.Goals as goal

pub returns : goal.returns
unfolding stable_cross_prod
returns c = simp (c.new.ensures, c.stably_crossed-c.ensures)
