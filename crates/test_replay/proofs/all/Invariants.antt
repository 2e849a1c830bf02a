-- The loop of `test_replay::all`: the line so far stays within what is held.
use Rattle.std.proofs.Common.{◌≤◌, length}
use Rattle.test_replay.proofs.all.Given as goal

abbrev pub invariant-loop : goal.invariant-loop
invariant-loop g l = l.n ≤ length l.held
