-- `numbers::numbers::lte` meets its contract. Assumes nothing.
use Rattle.numbers.specs.Floats.{near_or_below}
use Rattle.numbers.proofs.numbers.lte.Goals as goal

pub returns-then-left-right : goal.returns-then-left-right
unfolding near_or_below
returns-then-left-right c = simp c.if-left-right.true

pub returns-else-left-right : goal.returns-else-left-right
unfolding near_or_below
returns-else-left-right c = simp (c.eq.ensures, c.if-left-right.false)
