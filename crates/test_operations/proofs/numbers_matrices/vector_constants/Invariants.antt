-- The loop of `test_operations::numbers_matrices::vector_constants` has laid the vectors before i.
use Rattle.std.proofs.Common.{◌≡◌}
use Rattle.test_operations.proofs.ConstantWords.{vectors_laid}
use Rattle.test_operations.proofs.numbers_matrices.vector_constants.Given as goal

abbrev pub invariant-loop-i : goal.invariant-loop-i
invariant-loop-i l = l.out ≡ vectors_laid l.i
