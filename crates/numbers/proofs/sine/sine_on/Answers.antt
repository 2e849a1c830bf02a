-- `numbers::sine::sine_on` meets its contract. Assumes nothing.
use Rattle.std.proofs.Common.{ℕ, ◌+◌, ◌%◌, ◌<◌, sym, ap, ◌∙◌, subst, arith}
use lib.Ieee.{Float, of_bits}
use Rattle.numbers.specs.Ops.{decimal}
use Rattle.numbers.specs.Sine.{sin_by, turns, rest}
use Rattle.numbers.proofs.Range.{asked, mod4-lt, reduced-in, reduced-above, reduced-below}
use Rattle.numbers.proofs.Constants.{zero_by_zero}
use Rattle.numbers.proofs.sine.sine_on.Goals as goal
use Rattle.numbers.proofs.sine.sine_on.Goals.{else-x-via-then-x+else-x-2, else-x-via-else-x}

abbrev on : ℕ → ℕ → Float → Float
on more q = sin_by ((q + more) % 4)

pub quarters-t-requires : goal.quarters-t-requires
unfolding decimal of_bits
quarters-t-requires c = asked c.args.x c.if-x.true c.if-x-2.true

pub overflow_add-t : goal.overflow_add-t
overflow_add-t c =
    let h : c.quarters-t.result.quarter < 4 = subst (λ (k : ℕ). k < 4) (sym c.quarters-t.ensures.1) (mod4-lt _) in
    omega arith

pub returns-then-x-2 : goal.returns-then-x-2
unfolding turns decimal of_bits
returns-then-x-2 c =
    let a = c.args in
    let q = c.quarters-t.ensures in
    c.sin_by.ensures
    ∙ (λ i. on a.more (q.1 i) ((c.left_over.ensures ∙ ap (rest a.x) q.0) i))
    ∙ sym (reduced-in (on a.more) a.x c.if-x.true c.if-x-2.true)

pub returns : goal.returns
unfolding decimal of_bits
returns c =
    let a = c.args in
    elim c.else-x.branch [
      | else-x-via-then-x+else-x-2 w ↦ zero_by_zero ∙ sym (reduced-above (on a.more) a.x w.if-x-2.false)
      | else-x-via-else-x w ↦ zero_by_zero ∙ sym (reduced-below (on a.more) a.x w.if-x.false)
    ]
