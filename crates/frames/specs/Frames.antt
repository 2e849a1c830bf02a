-- Local frames. frame.rs.
use Rattle.std.specs.Float.Ieee as Ieee
use Rattle.numbers.specs.Ops.{num, pick}
use Rattle.numbers.specs.Angles.{angle, angle_neg}
use Rattle.numbers.specs.Vec.{unit_x, unit_y, unit_z, neg_unit_z, cross_prod, orthogonal_to, vec_add, vec_sub, vec_mul}
use Rattle.numbers.specs.Mat.{mat, transpose, vec_mul_mat, mat_mul}
use Rattle.numbers.specs.declared.Angle.{Angle}
use Rattle.numbers.specs.declared.Vec3.{Vec3}
use Rattle.numbers.specs.declared.Mat33.{Mat33}
use Rattle.frames.specs.Positions.{geocentric_from_vec3, geocentric_as_metres, nvector_to_latlong}
use Rattle.frames.specs.Ellipsoids.{geodetic_to_geocentric, geocentric_to_geodetic}
use Rattle.frames.specs.Orientations.{is_z_up, align_to_z_down}
use Rattle.frames.specs.Vectors.{local_from_vec3, local_as_metres, bearing, elevation}
use Rattle.frames.specs.Rotations.{zyx2r, xyz2r}
use Rattle.frames.specs.declared.GeocentricPosition.{GeocentricPosition}
use Rattle.frames.specs.declared.GeodeticPosition.{GeodeticPosition}
use Rattle.frames.specs.declared.Ellipsoid.{Ellipsoid}
use Rattle.frames.specs.declared.Orientation.{Orientation}
use Rattle.frames.specs.declared.Orientation.TheVariants.{Enu, Ned, Body, Wan}
use Rattle.frames.specs.declared.LocalVector.{LocalVector}
use Rattle.frames.specs.declared.LocalFrame.{LocalFrame}

-- ---- making a frame

-- from the origin and the inverse matrix, or the origin and the direction matrix: the other matrix is the transpose
abbrev pub by_inverse : Orientation → Vec3 → Mat33 → LocalFrame
by_inverse o v m = record { origin = v; dir_rm = transpose m; inv_rm = m; orientation = o }

abbrev pub by_direction : Orientation → Vec3 → Mat33 → LocalFrame
by_direction o v m = record { origin = v; dir_rm = m; inv_rm = transpose m; orientation = o }

-- east at the n-vector n; at both poles (-1, 0, 0)
abbrev pub east_at : Vec3 → Vec3
east_at n = orthogonal_to unit_z n

-- rows east, north, up
unfoldable pub enu_inverse : Vec3 → Mat33
enu_inverse n = mat (east_at n) (cross_prod n (east_at n)) n

-- rows north, east, down
unfoldable pub ned_inverse : Vec3 → Mat33
ned_inverse n =
    let down = vec_mul n (Ieee.neg (num 1)) in
    mat (cross_prod (east_at n) down) (east_at n) down

-- the Rust's `new` of each kind, at a geodetic position d, which is g in geocentric terms
unfoldable pub new_enu : GeodeticPosition → GeocentricPosition → LocalFrame
new_enu d g = by_inverse Enu (geocentric_as_metres g) (enu_inverse d.hp.0)

unfoldable pub new_ned : GeodeticPosition → GeocentricPosition → LocalFrame
new_ned d g = by_inverse Ned (geocentric_as_metres g) (ned_inverse d.hp.0)

unfoldable pub new_body : Angle → Angle → Angle → GeodeticPosition → GeocentricPosition → LocalFrame
new_body yaw pitch roll d g = by_direction Body (geocentric_as_metres g) (mat_mul (new_ned d g).dir_rm (zyx2r yaw pitch roll))

unfoldable pub new_wander_azimuth : Angle → GeodeticPosition → GeocentricPosition → LocalFrame
new_wander_azimuth azimuth d g =
    let ll = nvector_to_latlong d.hp.0 in
    by_direction Wan (geocentric_as_metres g) (mat_mul (mat neg_unit_z unit_y unit_x) (xyz2r ll.longitude (angle_neg ll.latitude) azimuth))

-- ---- vectors and positions

-- `origin`
abbrev pub frame_origin : LocalFrame → GeocentricPosition
frame_origin f = geocentric_from_vec3 f.origin

-- `local_vector_to`
unfoldable pub local_vector_to : LocalFrame → GeocentricPosition → LocalVector
local_vector_to f g = local_from_vec3 f.orientation (vec_mul_mat (vec_sub (geocentric_as_metres g) f.origin) f.inv_rm)

-- `destination_position`
unfoldable pub destination_position : LocalFrame → LocalVector → GeocentricPosition
destination_position f v = geocentric_from_vec3 (vec_add f.origin (vec_mul_mat (local_as_metres v) f.dir_rm))

-- ---- frames from one position

unfoldable pub enu_from_geocentric : GeocentricPosition → Ellipsoid → LocalFrame
enu_from_geocentric g l = new_enu (geocentric_to_geodetic l g) g

unfoldable pub enu_from_geodetic : GeodeticPosition → Ellipsoid → LocalFrame
enu_from_geodetic d l = new_enu d (geodetic_to_geocentric l d)

unfoldable pub ned_from_geocentric : GeocentricPosition → Ellipsoid → LocalFrame
ned_from_geocentric g l = new_ned (geocentric_to_geodetic l g) g

unfoldable pub ned_from_geodetic : GeodeticPosition → Ellipsoid → LocalFrame
ned_from_geodetic d l = new_ned d (geodetic_to_geocentric l d)

unfoldable pub body_from_geocentric : Angle → Angle → Angle → GeocentricPosition → Ellipsoid → LocalFrame
body_from_geocentric yaw pitch roll g l = new_body yaw pitch roll (geocentric_to_geodetic l g) g

unfoldable pub body_from_geodetic : Angle → Angle → Angle → GeodeticPosition → Ellipsoid → LocalFrame
body_from_geodetic yaw pitch roll d l = new_body yaw pitch roll d (geodetic_to_geocentric l d)

unfoldable pub wander_azimuth_from_geocentric : Angle → GeocentricPosition → Ellipsoid → LocalFrame
wander_azimuth_from_geocentric azimuth g l = new_wander_azimuth azimuth (geocentric_to_geodetic l g) g

unfoldable pub wander_azimuth_from_geodetic : Angle → GeodeticPosition → Ellipsoid → LocalFrame
wander_azimuth_from_geodetic azimuth d l = new_wander_azimuth azimuth d (geodetic_to_geocentric l d)

-- ---- body frames that look at a target

-- `looking_at`: yaw and pitch are the target's bearing and elevation in the NED frame
unfoldable pub looking_at : GeodeticPosition → GeocentricPosition → GeocentricPosition → Angle → LocalFrame
looking_at d g target roll =
    let delta = local_vector_to (new_ned d g) target in
    new_body (bearing delta) (elevation delta) roll d g

unfoldable pub looking_at_geocentric : GeocentricPosition → GeocentricPosition → Angle → Ellipsoid → LocalFrame
looking_at_geocentric g target roll l = looking_at (geocentric_to_geodetic l g) g target roll

unfoldable pub looking_at_geodetic : GeodeticPosition → GeodeticPosition → Angle → Ellipsoid → LocalFrame
looking_at_geodetic d target roll l = looking_at d (geodetic_to_geocentric l d) (geodetic_to_geocentric l target) roll

-- ---- frames from a frame

-- m1 * m2, aligned to z down where o has z up
unfoldable pub rotate : Orientation → Mat33 → Mat33 → Mat33
rotate o m1 m2 = pick (is_z_up o) (mat_mul (mat_mul m1 m2) align_to_z_down) (mat_mul m1 m2)

-- `rotate_around_z`
unfoldable pub rotate_around_z : LocalFrame → Angle → LocalFrame
rotate_around_z f a = by_direction Wan f.origin (rotate f.orientation f.dir_rm (zyx2r a (angle (num 0)) (angle (num 0))))

unfoldable pub transform : LocalFrame → LocalVector → Angle → Angle → Angle → LocalFrame
transform f offset yaw pitch roll =
    by_direction Body (vec_add f.origin (vec_mul_mat (local_as_metres offset) f.dir_rm))
    (rotate f.orientation f.dir_rm (zyx2r yaw pitch roll))
