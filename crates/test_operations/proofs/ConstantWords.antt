-- The words of the first n constants, as a loop over them lays them into 24 zeros. Assumes nothing.
use Rattle.std.specs.Prelude.{ℕ, zero, suc, ◌*◌, List, get_or, set, replicate}
use Rattle.std.specs.Float.{binary64, nan}
use Rattle.std.specs.Float.Ieee.{to_bits}
use Rattle.numbers.specs.Angles as Angles
use Rattle.numbers.specs.Angles.{angle}
use Rattle.numbers.specs.Vec as Vec
use Rattle.numbers.specs.Vec.{raw}
use Rattle.test_operations.specs.Words.{with_vector}

abbrev pub angles_laid : ℕ → List ℕ
angles_laid zero = replicate 24 0
angles_laid (suc n) = set (angles_laid n) n (to_bits binary64 (get_or Angles.constants n (angle nan)).0)

abbrev pub vectors_laid : ℕ → List ℕ
vectors_laid zero = replicate 24 0
vectors_laid (suc n) = with_vector (vectors_laid n) (3 * n) (get_or Vec.constants n (raw nan nan nan))
