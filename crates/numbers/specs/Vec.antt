-- Vectors of three doubles: `Vec3` of vec3.rs, operation by operation.
use Rattle.std.specs.Prelude.{Bool, ◌&&◌, List, [], ◌∷◌, Float}
use Rattle.std.specs.Float.Ieee as Ieee
use Rattle.numbers.specs.Ops.{◌⊕◌, ◌⊖◌, ◌⊗◌, ◌⊘◌, num, pick}
use Rattle.numbers.specs.Root.{sqrt}
use Rattle.numbers.specs.Floats.{abs}
use Rattle.numbers.specs.declared.Vec3.{Vec3}

-- the three components as they are
abbrev pub raw : Float → Float → Float → Vec3
raw x y z = record { x = x; y = y; z = z }

-- `Vec3::new`: 0.0 is added to each component, so that none is minus zero
abbrev pub vec : Float → Float → Float → Vec3
vec x y z = raw (num 0 ⊕ x) (num 0 ⊕ y) (num 0 ⊕ z)

-- `ZERO`, `UNIT_X` and its like
abbrev pub zero_vec : Vec3
zero_vec = raw (num 0) (num 0) (num 0)

abbrev pub unit_x : Vec3
unit_x = raw (num 1) (num 0) (num 0)

abbrev pub unit_y : Vec3
unit_y = raw (num 0) (num 1) (num 0)

abbrev pub unit_z : Vec3
unit_z = raw (num 0) (num 0) (num 1)

abbrev pub neg_unit_x : Vec3
neg_unit_x = raw (Ieee.neg (num 1)) (num 0) (num 0)

abbrev pub neg_unit_y : Vec3
neg_unit_y = raw (num 0) (Ieee.neg (num 1)) (num 0)

abbrev pub neg_unit_z : Vec3
neg_unit_z = raw (num 0) (num 0) (Ieee.neg (num 1))

abbrev pub constants : List Vec3
constants = unit_x ∷ unit_y ∷ unit_z ∷ neg_unit_x ∷ neg_unit_y ∷ neg_unit_z ∷ zero_vec ∷ []

-- ---- products and norms

abbrev pub dot_prod : Vec3 → Vec3 → Float
dot_prod a b = a.x ⊗ b.x ⊕ a.y ⊗ b.y ⊕ a.z ⊗ b.z

abbrev pub squared_norm : Vec3 → Float
squared_norm a = dot_prod a a

abbrev pub norm : Vec3 → Float
norm a = sqrt (squared_norm a)

-- `new_unit`, n being the norm: each component times 1 / n, or the zero vector
unfoldable pub unit_by : Float → Float → Float → Float → Vec3
unit_by n x y z = pick (Ieee.eq n (num 0)) zero_vec (vec (num 1 ⊘ n ⊗ x) (num 1 ⊘ n ⊗ y) (num 1 ⊘ n ⊗ z))

unfoldable pub new_unit : Float → Float → Float → Vec3
new_unit x y z = unit_by (sqrt (x ⊗ x ⊕ y ⊗ y ⊕ z ⊗ z)) x y z

-- the components of a cross product, handed to `vec` or to `new_unit`
abbrev pub crossing : (Float → Float → Float → Vec3) → Vec3 → Vec3 → Vec3
crossing made a b = made (a.y ⊗ b.z ⊖ a.z ⊗ b.y) (a.z ⊗ b.x ⊖ a.x ⊗ b.z) (a.x ⊗ b.y ⊖ a.y ⊗ b.x)

unfoldable pub cross_prod : Vec3 → Vec3 → Vec3
cross_prod a b = crossing vec a b

unfoldable pub cross_prod_unit : Vec3 → Vec3 → Vec3
cross_prod_unit a b = crossing new_unit a b

-- (b + a) × (b - a), of plain sums and differences
abbrev pub stably : (Float → Float → Float → Vec3) → Vec3 → Vec3 → Vec3
stably made a b = crossing made (raw (b.x ⊕ a.x) (b.y ⊕ a.y) (b.z ⊕ a.z)) (raw (b.x ⊖ a.x) (b.y ⊖ a.y) (b.z ⊖ a.z))

unfoldable pub stable_cross_prod : Vec3 → Vec3 → Vec3
stable_cross_prod a b = stably vec a b

unfoldable pub stable_cross_prod_unit : Vec3 → Vec3 → Vec3
stable_cross_prod_unit a b = stably new_unit a b

-- ---- orthogonal vectors

-- Rust's `==` on vectors
abbrev pub vec_eq : Vec3 → Vec3 → Bool
vec_eq a b = Ieee.eq a.x b.x && Ieee.eq a.y b.y && Ieee.eq a.z b.z

-- `orthogonal`'s axis, by the magnitudes of the components
abbrev pub axis_for : Float → Float → Float → Vec3
axis_for ax ay az = pick (Ieee.lt ay ax) (pick (Ieee.lt az ax) unit_z unit_y) (pick (Ieee.lt az ay) unit_x unit_y)

unfoldable pub orthogonal : Vec3 → Vec3
orthogonal a = cross_prod_unit a (axis_for (abs a.x) (abs a.y) (abs a.z))

unfoldable pub orthogonal_to : Vec3 → Vec3 → Vec3
orthogonal_to a b = pick (vec_eq (stable_cross_prod_unit a b) zero_vec) (orthogonal a) (stable_cross_prod_unit a b)

-- ---- operators

abbrev pub vec_add : Vec3 → Vec3 → Vec3
vec_add a b = vec (a.x ⊕ b.x) (a.y ⊕ b.y) (a.z ⊕ b.z)

abbrev pub vec_sub : Vec3 → Vec3 → Vec3
vec_sub a b = vec (a.x ⊖ b.x) (a.y ⊖ b.y) (a.z ⊖ b.z)

-- a vector times a number, and a number times a vector
abbrev pub vec_mul : Vec3 → Float → Vec3
vec_mul a k = vec (a.x ⊗ k) (a.y ⊗ k) (a.z ⊗ k)

-- a vector by a number: three quotients, and not products with 1 / k
abbrev pub vec_div : Vec3 → Float → Vec3
vec_div a k = vec (a.x ⊘ k) (a.y ⊘ k) (a.z ⊘ k)

abbrev pub vec_neg : Vec3 → Vec3
vec_neg a = vec (Ieee.neg a.x) (Ieee.neg a.y) (Ieee.neg a.z)

-- `unit`
unfoldable pub unit : Vec3 → Vec3
unit a = pick (Ieee.eq (norm a) (num 0)) zero_vec (vec_mul a (num 1 ⊘ norm a))
