-- The loop of `test_operations::numbers_matrices::angle_constants` has laid the angles before i.
use Rattle.std.proofs.Common.{◌≡◌}
use Rattle.test_operations.proofs.ConstantWords.{angles_laid}
use Rattle.test_operations.proofs.numbers_matrices.angle_constants.Given as goal

abbrev pub invariant-loop-i : goal.invariant-loop-i
invariant-loop-i l = l.out ≡ angles_laid l.i
