-- The loop of `test_replay::feed`: the line so far stays within what is held.
use Rattle.std.proofs.Common.{◌≡◌, ◌≤◌, length}
use Rattle.test_replay.proofs.feed.Given as goal

abbrev pub invariant-loop-b : goal.invariant-loop-b
invariant-loop-b g l = (l.at ≤ length l.held) × (length l.held ≡ length l.fn.held)
