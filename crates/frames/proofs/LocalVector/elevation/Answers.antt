-- `frames::LocalVector::elevation` meets its contract. Assumes nothing.
use lib.Ieee.{of_bits}
use Rattle.numbers.specs.Ops.{decimal}
use Rattle.frames.specs.Vectors.{elevation}
use Rattle.frames.proofs.LocalVector.elevation.Goals as goal

pub returns-then-eq_zero : goal.returns-then-eq_zero
unfolding of_bits decimal elevation
returns-then-eq_zero c =
    let near = simp (c.eq_zero.ensures, c.slant_range-sr.ensures) at c.if-eq_zero.true in
    simp near

pub returns-then-is_z_up : goal.returns-then-is_z_up
unfolding of_bits decimal elevation
returns-then-is_z_up c =
    let away = simp (c.eq_zero.ensures, c.slant_range-sr.ensures) at c.if-eq_zero.false in
    let up = simp c.is_z_up.ensures at c.if-is_z_up.true in
    simp (c.asin-r.ensures, c.clamp_unit.ensures, c.div.ensures, c.slant_range-sr.ensures, away, up)

pub returns-else-is_z_up : goal.returns-else-is_z_up
unfolding of_bits decimal elevation
returns-else-is_z_up c =
    let away = simp (c.eq_zero.ensures, c.slant_range-sr.ensures) at c.if-eq_zero.false in
    let up = simp c.is_z_up.ensures at c.if-is_z_up.false in
    simp (c.asin-r.ensures, c.clamp_unit.ensures, c.div.ensures, c.slant_range-sr.ensures, away, up)
