-- Matrices of three rows: `Mat33` of mat33.rs, and a vector times one.
use Rattle.std.specs.Prelude.{Bool, ◌&&◌}
use Rattle.numbers.specs.Vec.{raw, vec, dot_prod, vec_eq, unit_x, unit_y, unit_z}
use Rattle.numbers.specs.declared.Vec3.{Vec3}
use Rattle.numbers.specs.declared.Mat33.{Mat33}

-- `Mat33::new`, from the rows
abbrev pub mat : Vec3 → Vec3 → Vec3 → Mat33
mat a b c = record { r0 = a; r1 = b; r2 = c }

abbrev pub identity : Mat33
identity = mat unit_x unit_y unit_z

-- Rows become columns and nothing is added: what a reader understands by the transpose, bit for bit.
abbrev pub exchanged : Mat33 → Mat33
exchanged m = mat (raw m.r0.x m.r1.x m.r2.x) (raw m.r0.y m.r1.y m.r2.y) (raw m.r0.z m.r1.z m.r2.z)

-- the Rust's `transpose`, whose rows go through `Vec3::new`
unfoldable pub transpose : Mat33 → Mat33
transpose m = mat (vec m.r0.x m.r1.x m.r2.x) (vec m.r0.y m.r1.y m.r2.y) (vec m.r0.z m.r1.z m.r2.z)

-- a vector times a matrix: its dot products with the rows
unfoldable pub vec_mul_mat : Vec3 → Mat33 → Vec3
vec_mul_mat v m = vec (dot_prod v m.r0) (dot_prod v m.r1) (dot_prod v m.r2)

-- a matrix times a matrix: each row of the first times the transpose of the second
unfoldable pub mat_mul : Mat33 → Mat33 → Mat33
mat_mul a b = mat (vec_mul_mat a.r0 (transpose b)) (vec_mul_mat a.r1 (transpose b)) (vec_mul_mat a.r2 (transpose b))

-- Rust's `==` on matrices
abbrev pub mat_eq : Mat33 → Mat33 → Bool
mat_eq a b = vec_eq a.r0 b.r0 && vec_eq a.r1 b.r1 && vec_eq a.r2 b.r2
