-- `numbers::Vec3::unit` meets its contract. Assumes nothing.
use lib.Ieee.{of_bits}
use Rattle.numbers.specs.Ops.{decimal}
use Rattle.numbers.specs.Vec.{unit}
use Rattle.numbers.proofs.Vec3.unit.Goals as goal

pub returns-then-n : goal.returns-then-n
unfolding of_bits decimal unit
returns-then-n c = simp (simp c.norm-n.ensures at c.if-n.true)

pub returns-else-n : goal.returns-else-n
unfolding of_bits decimal unit
returns-else-n c =
    let t0 = simp c.norm-n.ensures at c.if-n.false in
    simp (c.mul.ensures, c.norm-n.ensures, t0)
