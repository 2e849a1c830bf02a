-- What the operations take and answer, as words: a double goes by its bits, and every NaN is 7ff8000000000000.
use Rattle.std.specs.Prelude.{ℕ, ◌+◌, Bool, cond, List, [], ◌∷◌, ◌++◌, get_or, take, set, replicate, Float}
use Rattle.std.specs.Float.{binary64}
use Rattle.std.specs.Float.Ieee.{of_bits, to_bits}
use Rattle.numbers.specs.Vec.{raw}
use Rattle.numbers.specs.Mat.{mat}
use Rattle.numbers.specs.declared.Vec3.{Vec3}
use Rattle.numbers.specs.declared.Mat33.{Mat33}

-- ---- what is taken: the double of the word at a place, the vector of three words from there on, the matrix of nine, by rows

unfoldable pub double_at : List ℕ → ℕ → Float
double_at a i = of_bits binary64 (get_or a i 0)

unfoldable pub vector_at : List ℕ → ℕ → Vec3
vector_at a i = raw (double_at a i) (double_at a (i + 1)) (double_at a (i + 2))

unfoldable pub matrix_at : List ℕ → ℕ → Mat33
matrix_at a i = mat (vector_at a i) (vector_at a (i + 3)) (vector_at a (i + 6))

-- ---- what is answered

abbrev pub number : Float → List ℕ
number x = to_bits binary64 x ∷ []

-- 1 for true, 0 for false
abbrev pub truth : Bool → List ℕ
truth t = cond t 1 0 ∷ []

abbrev pub vector : Vec3 → List ℕ
vector v = to_bits binary64 v.x ∷ to_bits binary64 v.y ∷ to_bits binary64 v.z ∷ []

abbrev pub matrix : Mat33 → List ℕ
matrix m = vector m.r0 ++ (vector m.r1 ++ vector m.r2)

-- 24 words: those of an answer, then zeros
unfoldable pub padded : List ℕ → List ℕ
padded ws = take 24 (ws ++ replicate 24 0)

-- the words with a vector's three, or a matrix's nine, put in from a place on
unfoldable pub with_vector : List ℕ → ℕ → Vec3 → List ℕ
with_vector ws i v = set (set (set ws i (to_bits binary64 v.x)) (i + 1) (to_bits binary64 v.y)) (i + 2) (to_bits binary64 v.z)

unfoldable pub with_matrix : List ℕ → ℕ → Mat33 → List ℕ
with_matrix ws i m = with_vector (with_vector (with_vector ws i m.r0) (i + 3) m.r1) (i + 6) m.r2
