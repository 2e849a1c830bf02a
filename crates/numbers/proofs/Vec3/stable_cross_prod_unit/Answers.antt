-- `numbers::Vec3::stable_cross_prod_unit` meets its contract. Assumes nothing.
use Rattle.numbers.specs.Vec.{stable_cross_prod_unit}
use Rattle.numbers.proofs.Vec3.stable_cross_prod_unit.Goals as goal

pub returns : goal.returns
unfolding stable_cross_prod_unit
returns c = simp (c.new_unit.ensures, c.stably_crossed-c.ensures)
