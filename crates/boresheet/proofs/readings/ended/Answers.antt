-- `boresheet::readings::ended` meets its contract. Assumes nothing.
use native.Mathlib.Omega.{arith}
use Rattle.boresheet.proofs.ReadingSteps.{ended-none, ended_is, ended-not}
use Rattle.boresheet.proofs.readings.ended.Goals as goal

pub returns-in_err-x : goal.returns-in_err-x
returns-in_err-x c = rw c.from_residual.ensures (ended-none _ _ c.in_err-x.was)

pub overflow_add-result : goal.overflow_add-result
overflow_add-result c = omega (arith, c.byte-b.ensures.inside)

pub returns-then-b-eq10 : goal.returns-then-b-eq10
returns-then-b-eq10 c = ended_is _ _ _ _ _ c.in_ok-x.was c.byte-b.ensures.is c.if-b-eq10.true

pub returns : goal.returns
returns c = ended-not _ _ _ _ _ c.in_ok-x.was c.byte-b.ensures.is c.if-b-eq10.false
