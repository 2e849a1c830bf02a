-- The loop of `test_cases::input::hexadecimal`: the number so far is below what its digits can say.
use Rattle.std.proofs.Common.{◌^◌, ◌<◌}
use Rattle.test_cases.proofs.input.hexadecimal.Given as goal

abbrev pub invariant-loop-b : goal.invariant-loop-b
invariant-loop-b l = l.n < 16 ^ l.b-index
