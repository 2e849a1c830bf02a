-- `frames::Ellipsoid::latitude_radius` meets its contract. Assumes nothing.
use lib.Ieee.{of_bits, div, neg}
use Rattle.numbers.specs.Ops.{decimal}
use Rattle.frames.specs.Radii.{latitude_radius}
use Rattle.frames.proofs.Ellipsoid.latitude_radius.Goals as goal

pub returns-then-eq : goal.returns-then-eq
unfolding of_bits div neg decimal latitude_radius
returns-then-eq c =
    let north = simp c.eq.ensures at c.if-eq.true in
    simp north

pub returns-then-eq-2 : goal.returns-then-eq-2
unfolding of_bits div neg decimal latitude_radius
returns-then-eq-2 c =
    let north = simp c.eq.ensures at c.if-eq.false in
    let south = simp c.eq-2.ensures at c.if-eq-2.true in
    simp (north, south)

pub returns : goal.returns
unfolding of_bits div neg decimal latitude_radius
returns c =
    let north = simp c.eq.ensures at c.if-eq.false in
    let south = simp c.eq-2.ensures at c.if-eq-2.false in
    simp (c.mul.ensures, c.cos.ensures, c.prime_vertical_radius-n.ensures, north, south)
