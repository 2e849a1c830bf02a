-- THE OPERATIONS OF `numbers` BY THEIR NUMBERS: what each answers to the words a that it is given.
use Rattle.std.specs.Prelude.{ℕ, List, [], ◌∷◌, ◌++◌, get_or, eqb, Float}
use Rattle.numbers.specs.Ops.{num}
use Rattle.numbers.specs.Root.{sqrt}
use Rattle.numbers.specs.Sine.{sin, cos}
use Rattle.numbers.specs.Arctangent.{atan2, asin}
use Rattle.numbers.specs.Powers.{powf_third, powf_three_halves}
use Rattle.numbers.specs.Floats.{to_radians, to_degrees, abs, clamp_unit, remainder, divided, near_zero, near, near_or_below, near_or_above, sign_digit, epsilon}
use Rattle.numbers.specs.Angles.{angle, full_circle, half_circle, neg_half_circle, quarter_circle, neg_quarter_circle, from_degrees, as_degrees, angle_abs, angle_neg, angle_eq, normalised, normalised_to}
use Rattle.numbers.specs.Lengths.{metres, length_abs, length_neg, length_mul, length_div, length_over, length_add}
use Rattle.numbers.specs.Vec.{vec, zero_vec, unit_x, unit_y, unit_z, neg_unit_x, neg_unit_y, neg_unit_z, new_unit, cross_prod, cross_prod_unit, dot_prod, orthogonal_to, orthogonal, norm, stable_cross_prod_unit, stable_cross_prod, squared_norm, unit, vec_add, vec_sub, vec_mul, vec_div, vec_neg, vec_eq}
use Rattle.numbers.specs.Mat.{identity, transpose, mat_mul, mat_eq, vec_mul_mat}
use Rattle.numbers.specs.declared.Vec3.{Vec3}
use Rattle.numbers.specs.declared.Mat33.{Mat33}
use Rattle.test_operations.specs.Rows.{Row, ◌⟼◌}
use Rattle.test_operations.specs.Words.{double_at, vector_at, matrix_at, number, truth, vector, matrix}

-- ---- what the rows take

abbrev pub word : List ℕ → ℕ → ℕ
word a i = get_or a i 0

abbrev pub x : List ℕ → Float
x a = double_at a 0

abbrev pub y : List ℕ → Float
y a = double_at a 1

abbrev pub v : List ℕ → Vec3
v a = vector_at a 0

abbrev pub w : List ℕ → Vec3
w a = vector_at a 3

abbrev pub m : List ℕ → Mat33
m a = matrix_at a 0

abbrev pub n : List ℕ → Mat33
n a = matrix_at a 9

unfoldable pub angle_constants : List ℕ
angle_constants =
    number (num 0) ++ (number quarter_circle.0 ++ (number neg_quarter_circle.0 ++ (number half_circle.0
    ++ (number neg_half_circle.0 ++ (number full_circle.0 ++ number epsilon)))))

unfoldable pub vector_constants : List ℕ
vector_constants =
    vector unit_x ++ (vector unit_y ++ (vector unit_z ++ (vector neg_unit_x ++ (vector neg_unit_y ++ (vector neg_unit_z ++ vector zero_vec)))))

-- ---- the rows, the last first

unfoldable pub quotient_rows : List Row
quotient_rows =
    (59 ⟼ λ a. vector (vec_div (v a) (double_at a 3)))
    ∷ (60 ⟼ λ a. number (length_over (metres (x a)) (y a)).0)
    ∷ (61 ⟼ λ a. number (length_add (metres (x a)) (metres (y a))).0)
    ∷ []

unfoldable pub part_rows : List Row
part_rows =
    (52 ⟼ λ a. vector (v a))
    ∷ (53 ⟼ λ a. matrix (m a))
    ∷ (54 ⟼ λ a. matrix (m a))
    ∷ (55 ⟼ λ a. number (x a))
    ∷ (56 ⟼ λ a. number (x a))
    ∷ (57 ⟼ λ a. sign_digit (x a) ∷ [])
    ∷ (58 ⟼ λ a. number (num 0))
    ∷ quotient_rows

unfoldable pub matrix_rows : List Row
matrix_rows =
    (45 ⟼ λ a. matrix (transpose (m a)))
    ∷ (46 ⟼ λ a. matrix (mat_mul (m a) (n a)))
    ∷ (47 ⟼ λ a. truth (mat_eq (m a) (n a)))
    ∷ (48 ⟼ λ a. vector (vec_mul_mat (v a) (matrix_at a 3)))
    ∷ (49 ⟼ λ a. angle_constants)
    ∷ (50 ⟼ λ a. vector_constants)
    ∷ (51 ⟼ λ a. matrix identity)
    ∷ part_rows

unfoldable pub vector_rows : List Row
vector_rows =
    (28 ⟼ λ a. vector (vec (x a) (y a) (double_at a 2)))
    ∷ (29 ⟼ λ a. vector (new_unit (x a) (y a) (double_at a 2)))
    ∷ (30 ⟼ λ a. vector (cross_prod (v a) (w a)))
    ∷ (31 ⟼ λ a. vector (cross_prod_unit (v a) (w a)))
    ∷ (32 ⟼ λ a. number (dot_prod (v a) (w a)))
    ∷ (33 ⟼ λ a. vector (orthogonal_to (v a) (w a)))
    ∷ (34 ⟼ λ a. vector (orthogonal (v a)))
    ∷ (35 ⟼ λ a. number (norm (v a)))
    ∷ (36 ⟼ λ a. vector (stable_cross_prod_unit (v a) (w a)))
    ∷ (37 ⟼ λ a. vector (stable_cross_prod (v a) (w a)))
    ∷ (38 ⟼ λ a. number (squared_norm (v a)))
    ∷ (39 ⟼ λ a. vector (unit (v a)))
    ∷ (40 ⟼ λ a. vector (vec_add (v a) (w a)))
    ∷ (41 ⟼ λ a. vector (vec_sub (v a) (w a)))
    ∷ (42 ⟼ λ a. vector (vec_mul (v a) (double_at a 3)))
    ∷ (43 ⟼ λ a. vector (vec_neg (v a)))
    ∷ (44 ⟼ λ a. truth (vec_eq (v a) (w a)))
    ∷ matrix_rows

-- an angle goes by its radians, a length by its metres
unfoldable pub angle_rows : List Row
angle_rows =
    (17 ⟼ λ a. number (from_degrees (x a)).0)
    ∷ (18 ⟼ λ a. number (as_degrees (angle (x a))))
    ∷ (19 ⟼ λ a. number (angle_abs (angle (x a))).0)
    ∷ (20 ⟼ λ a. number (normalised (angle (x a))).0)
    ∷ (21 ⟼ λ a. number (normalised_to (angle (x a)) (angle (y a))).0)
    ∷ (22 ⟼ λ a. number (angle_neg (angle (x a))).0)
    ∷ (23 ⟼ λ a. truth (angle_eq (angle (x a)) (angle (y a))))
    ∷ (24 ⟼ λ a. number (length_abs (metres (x a))).0)
    ∷ (25 ⟼ λ a. number (length_neg (metres (x a))).0)
    ∷ (26 ⟼ λ a. number (length_mul (metres (x a)) (y a)).0)
    ∷ (27 ⟼ λ a. number (length_div (metres (x a)) (metres (y a))))
    ∷ vector_rows

-- all of them
unfoldable pub table : List Row
table =
    (0 ⟼ λ a. number (sqrt (x a)))
    ∷ (1 ⟼ λ a. number (sin (x a)))
    ∷ (2 ⟼ λ a. number (cos (x a)))
    ∷ (3 ⟼ λ a. number (atan2 (x a) (y a)))
    ∷ (4 ⟼ λ a. number (asin (x a)))
    ∷ (5 ⟼ λ a. number (powf_third (x a)))
    ∷ (6 ⟼ λ a. number (powf_three_halves (x a)))
    ∷ (7 ⟼ λ a. number (to_radians (x a)))
    ∷ (8 ⟼ λ a. number (to_degrees (x a)))
    ∷ (9 ⟼ λ a. number (abs (x a)))
    ∷ (10 ⟼ λ a. number (clamp_unit (x a)))
    ∷ (11 ⟼ λ a. number (remainder (x a) (y a)))
    ∷ (12 ⟼ λ a. number (divided (eqb (word a 0) 1) (word a 1) (word a 2)))
    ∷ (13 ⟼ λ a. truth (near_zero (x a)))
    ∷ (14 ⟼ λ a. truth (near (x a) (y a)))
    ∷ (15 ⟼ λ a. truth (near_or_below (x a) (y a)))
    ∷ (16 ⟼ λ a. truth (near_or_above (x a) (y a)))
    ∷ angle_rows
