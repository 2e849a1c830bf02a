-- `numbers::arctangent::atan_told` meets its contract: it goes the way that `atan_base` goes. Assumes nothing.
use lib.Ieee.{of_bits}
use Rattle.numbers.specs.Ops.{decimal}
use Rattle.numbers.specs.Arctangent.{atan_base, atan_unit}
use Rattle.numbers.proofs.ArcLaws.{below-not-zeros, above-not-zeros, lt-le}
use Rattle.numbers.proofs.arctangent.atan_told.Goals as goal

pub returns-then-t : goal.returns-then-t
unfolding atan_base atan_unit decimal of_bits
returns-then-t c =
    let x = c.args in
    let h = c.if-a-b.true in
    simp (c.atan_poly.ensures, below-not-zeros x.a x.b h, lt-le x.a x.b h, c.if-t.true)

pub returns-then-not-t : goal.returns-then-not-t
unfolding atan_base atan_unit decimal of_bits
returns-then-not-t c =
    let x = c.args in
    let h = c.if-a-b.true in
    simp (c.atan_far.ensures, below-not-zeros x.a x.b h, lt-le x.a x.b h, c.if-not-t.true)

pub returns-then-not-t-2 : goal.returns-then-not-t-2
unfolding atan_base atan_unit decimal of_bits
returns-then-not-t-2 c =
    let x = c.args in
    let h = c.if-not-a-b.true in
    simp (c.atan_far-then-not-t-2.ensures, above-not-zeros x.a x.b h, h, c.if-not-t-2.true)

pub returns-then-t-2 : goal.returns-then-t-2
unfolding atan_base atan_unit decimal of_bits
returns-then-t-2 c =
    let x = c.args in
    let h = c.if-not-a-b.true in
    simp (c.atan_poly-then-t-2.ensures, above-not-zeros x.a x.b h, h, c.if-t-2.true)
