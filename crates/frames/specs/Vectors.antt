-- Vectors in a local frame, by their orientation. vector.rs.
-- Where the Rust's types have two vectors of one orientation, the first's is taken.
use Rattle.std.specs.Prelude.{Float}
use Rattle.numbers.specs.Ops.{◌⊗◌, num, pick}
use Rattle.numbers.specs.Sine.{sin, cos}
use Rattle.numbers.specs.Arctangent.{asin, atan2}
use Rattle.numbers.specs.Floats.{clamp_unit, near_zero}
use Rattle.numbers.specs.Angles.{angle, angle_neg, normalised}
use Rattle.numbers.specs.Lengths.{metres, length_neg, length_mul, length_div}
use Rattle.numbers.specs.Vec.{vec, norm, vec_add, vec_sub, vec_mul, vec_div, vec_neg}
use Rattle.numbers.specs.declared.Angle.{Angle}
use Rattle.numbers.specs.declared.Length.{Length}
use Rattle.numbers.specs.declared.Vec3.{Vec3}
use Rattle.frames.specs.Orientations.{is_z_up}
use Rattle.frames.specs.declared.Orientation.{Orientation}
use Rattle.frames.specs.declared.Orientation.TheVariants.{Enu, Ned, Body, Wan}
use Rattle.frames.specs.declared.LocalVector.{LocalVector}
use Rattle.frames.specs.declared.vector.Nez.{Nez}

-- `LocalVector::new`
abbrev pub local_vector : Orientation → Length → Length → Length → LocalVector
local_vector o x y z = record { x = x; y = y; z = z; orientation = o }

-- `from_metres`, `from_vec3_metres`
abbrev pub local_from_metres : Orientation → Float → Float → Float → LocalVector
local_from_metres o x y z = local_vector o (metres x) (metres y) (metres z)

abbrev pub local_from_vec3 : Orientation → Vec3 → LocalVector
local_from_vec3 o v = local_from_metres o v.x v.y v.z

-- `ZERO`
abbrev pub local_zero : Orientation → LocalVector
local_zero o = local_from_metres o (num 0) (num 0) (num 0)

-- `as_metres`, by `Vec3::new`: no part is minus zero
abbrev pub local_as_metres : LocalVector → Vec3
local_as_metres v = vec v.x.0 v.y.0 v.z.0

-- ---- azimuth, elevation and range

-- `aer_to_nez`
unfoldable pub aer_to_nez : Angle → Angle → Length → Nez
aer_to_nez azimuth elevation range =
    let cose = cos elevation.0 in
    let east = length_mul range (sin azimuth.0 ⊗ cose) in
    let north = length_mul range (cos azimuth.0 ⊗ cose) in
    record { north = north; east = east; z = length_mul range (sin elevation.0) }

-- `from_aer`
unfoldable pub from_aer : Orientation → Angle → Angle → Length → LocalVector
from_aer o azimuth elevation range =
    let v = aer_to_nez azimuth elevation range in
    pick (is_z_up o) (local_vector o v.east v.north v.z) (local_vector o v.north v.east (length_neg v.z))

-- `slant_range`
unfoldable pub slant_range : LocalVector → Length
slant_range v = metres (norm (local_as_metres v))

-- Zero where the slant range is 2^-52 m at most. Positive is up: where z points down the sign is changed.
unfoldable pub elevation : LocalVector → Angle
elevation v =
    let r = angle (asin (clamp_unit (length_div v.z (slant_range v)))) in
    pick (near_zero (slant_range v).0) (angle (num 0)) (pick (is_z_up v.orientation) r (angle_neg r))

-- Clockwise seen from above, from north, from a body's nose or from a wander azimuth frame's x axis; at least 0 and below 2 PI.
unfoldable pub bearing : LocalVector → Angle
bearing v = normalised (angle (pick (is_z_up v.orientation) (atan2 v.x.0 v.y.0) (atan2 v.y.0 v.x.0)))

-- ---- operators

abbrev pub local_add : LocalVector → LocalVector → LocalVector
local_add a b = local_from_vec3 a.orientation (vec_add (local_as_metres a) (local_as_metres b))

abbrev pub local_sub : LocalVector → LocalVector → LocalVector
local_sub a b = local_from_vec3 a.orientation (vec_sub (local_as_metres a) (local_as_metres b))

-- a vector times a number, and a number times a vector
abbrev pub local_mul : LocalVector → Float → LocalVector
local_mul a k = local_from_vec3 a.orientation (vec_mul (local_as_metres a) k)

abbrev pub local_div : LocalVector → Float → LocalVector
local_div a k = local_from_vec3 a.orientation (vec_div (local_as_metres a) k)

abbrev pub local_neg : LocalVector → LocalVector
local_neg a = local_from_vec3 a.orientation (vec_neg (local_as_metres a))

-- `From<EnuVector> for NedVector` and back: x and y change places, z its sign.
-- The Rust has no such conversion for the other two orientations. Here those vectors stay as they are.
abbrev pub swap_from : Orientation → LocalVector → LocalVector
swap_from Enu v = local_vector Ned v.y v.x (length_neg v.z)
swap_from Ned v = local_vector Enu v.y v.x (length_neg v.z)
swap_from Body v = v
swap_from Wan v = v

unfoldable pub swap : LocalVector → LocalVector
swap v = swap_from v.orientation v
