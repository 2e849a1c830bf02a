-- The loop of `test_forms::text::word`: it goes down from the end of the text.
use Rattle.std.proofs.Common.{◌≤◌}
use Rattle.test_forms.proofs.text.word.Given as goal

abbrev pub invariant-loop-i : goal.invariant-loop-i
invariant-loop-i g l = l.begin ≤ 12
