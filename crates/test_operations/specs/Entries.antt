-- The vector of three entries of a list from a place on, and the matrix of nine, by rows, where each entry gives a double.
use Rattle.std.specs.Prelude.{ℕ, ◌+◌, List, get_or, Float}
use Rattle.numbers.specs.Vec.{raw}
use Rattle.numbers.specs.Mat.{mat}
use Rattle.numbers.specs.declared.Vec3.{Vec3}
use Rattle.numbers.specs.declared.Mat33.{Mat33}

abbrev pub vector_by : {A : Type 0} → (A → Float) → A → List A → ℕ → Vec3
vector_by double_of past a i =
    raw (double_of (get_or a i past)) (double_of (get_or a (i + 1) past)) (double_of (get_or a (i + 2) past))

abbrev pub matrix_by : {A : Type 0} → (A → Float) → A → List A → ℕ → Mat33
matrix_by double_of past a i =
    mat (vector_by double_of past a i) (vector_by double_of past a (i + 3)) (vector_by double_of past a (i + 6))
