-- `numbers::angles::wrapped` meets its contract. Assumes nothing.
use lib.Ieee.{of_bits}
use Rattle.numbers.specs.Ops.{decimal}
use Rattle.numbers.specs.Angles.{raised}
use Rattle.numbers.proofs.angles.wrapped.Goals as goal
use Rattle.numbers.proofs.angles.wrapped.Goals.{else-rest-via-then-rest+else-max, else-rest-via-else-rest}

pub returns-then-max : goal.returns-then-max
unfolding of_bits decimal raised
returns-then-max c = simp (c.short_of.ensures, c.if-max.true, c.if-rest.true)

pub returns-else-rest : goal.returns-else-rest
unfolding of_bits decimal raised
returns-else-rest c = elim c.else-rest.branch [
  | else-rest-via-then-rest+else-max w ↦ simp (c.lifted.ensures, w.if-max.false, w.if-rest.true)
  | else-rest-via-else-rest w ↦ simp (c.lifted.ensures, w.if-rest.false)
]
