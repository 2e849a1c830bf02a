-- `numbers::float::rem` meets its contract. Assumes nothing.
use Rattle.std.proofs.lemmas.Float.{T_from_true}
use Rattle.std.proofs.Common.{pos, ap, ◌∙◌}
use lib.Ieee.{binary64, mul, of_int}
use Rattle.numbers.proofs.Constants.{zero_by_zero}
use Rattle.numbers.proofs.RemLaws.{not_finite, by-nan, by_zero, smaller, larger}
use Rattle.numbers.proofs.float.rem.Goals as goal
use Rattle.numbers.proofs.float.rem.Goals.{then-a-ge-INFINITY_BITS-via-then-a-ge-INFINITY_BITS, then-a-ge-INFINITY_BITS-via-else-a-ge-INFINITY_BITS+then-d-gt-INFINITY_BITS, then-a-ge-INFINITY_BITS-via-else-a-ge-INFINITY_BITS+else-d-gt-INFINITY_BITS+then-d-eq0}

pub returns-then-a-ge-INFINITY_BITS : goal.returns-then-a-ge-INFINITY_BITS
returns-then-a-ge-INFINITY_BITS c =
    let x = T_from_true _ c.well_formed.0.1 in
    let y = T_from_true _ c.well_formed.1.0.1 in
    zero_by_zero ∙ elim c.then-a-ge-INFINITY_BITS.branch [
      | then-a-ge-INFINITY_BITS-via-then-a-ge-INFINITY_BITS w ↦ not_finite _ _ x (rw c.bits-b.ensures at w.if-a-ge-INFINITY_BITS.true)
      | then-a-ge-INFINITY_BITS-via-else-a-ge-INFINITY_BITS+then-d-gt-INFINITY_BITS w ↦ by-nan _ _ y (rw c.bits-d.ensures at w.if-d-gt-INFINITY_BITS.true)
      | then-a-ge-INFINITY_BITS-via-else-a-ge-INFINITY_BITS+else-d-gt-INFINITY_BITS+then-d-eq0 w ↦ by_zero _ _ y (rw c.bits-d.ensures at w.if-d-eq0.true)
    ]

pub returns-then-a-d : goal.returns-then-a-d
returns-then-a-d c =
    smaller _ _ (T_from_true _ c.well_formed.0.1) (T_from_true _ c.well_formed.1.0.1)
    (rw c.bits-b.ensures at c.if-a-ge-INFINITY_BITS.false)
    (rw c.bits-d.ensures at c.if-d-gt-INFINITY_BITS.false)
    (rw (c.bits-b.ensures, c.bits-d.ensures) at c.if-a-d.true)

pub returns : goal.returns
returns c =
    let rest = c.shifted-rest.result in
    let b = c.bits-b.ensures in
    let d = c.bits-d.ensures in
    ap (mul binary64 (of_int binary64 (pos rest))) (rw b at c.double.ensures)
    ∙ larger c.args.x c.args.y _ _ _ _ rest _ (T_from_true _ c.well_formed.0.1) (T_from_true _ c.well_formed.1.0.1)
    (rw b at c.if-a-ge-INFINITY_BITS.false) (rw d at c.if-d-eq0.false) (rw (b, d) at c.if-a-d.false)
    (rw b at c.parts-p.ensures) (rw d at c.parts-q.ensures) c.shifted-rest.ensures c.unit_bits.ensures
