-- `numbers::Vec3::new_unit` meets its contract. Assumes nothing.
use lib.Ieee.{of_bits}
use Rattle.numbers.specs.Ops.{decimal}
use Rattle.numbers.specs.Vec.{new_unit, unit_by}
use Rattle.numbers.proofs.Vec3.new_unit.Goals as goal

pub returns-then-n : goal.returns-then-n
unfolding of_bits decimal new_unit unit_by
returns-then-n c = simp (simp c.sqrt-n.ensures at c.if-n.true)

pub returns-else-n : goal.returns-else-n
unfolding of_bits decimal new_unit unit_by
returns-else-n c =
    let t0 = simp c.sqrt-n.ensures at c.if-n.false in
    simp (c.new.ensures, c.sqrt-n.ensures, t0)
