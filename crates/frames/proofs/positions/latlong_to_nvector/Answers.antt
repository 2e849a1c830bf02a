-- `frames::positions::latlong_to_nvector` meets its contract. Assumes nothing.
use lib.Ieee.{of_bits, div, neg}
use Rattle.numbers.specs.Ops.{decimal}
use Rattle.frames.specs.Positions.{latlong_to_nvector}
use Rattle.frames.proofs.positions.latlong_to_nvector.Goals as goal

pub returns-then-eq : goal.returns-then-eq
unfolding of_bits div neg decimal latlong_to_nvector
returns-then-eq c =
    let north = simp c.eq.ensures at c.if-eq.true in
    simp north

pub returns-then-eq-2 : goal.returns-then-eq-2
unfolding of_bits div neg decimal latlong_to_nvector
returns-then-eq-2 c =
    let north = simp c.eq.ensures at c.if-eq.false in
    let south = simp c.eq-2.ensures at c.if-eq-2.true in
    simp (north, south)

pub returns : goal.returns
unfolding of_bits div neg decimal latlong_to_nvector
returns c =
    let north = simp c.eq.ensures at c.if-eq.false in
    let south = simp c.eq-2.ensures at c.if-eq-2.false in
    simp (c.new.ensures, c.sin-z.ensures, c.sin.ensures, c.cos.ensures, c.cos-cl.ensures, north, south)
