-- Positions. positions.rs.
use Rattle.std.specs.Prelude.{Float}
use Rattle.numbers.specs.Ops.{◌⊕◌, ◌⊗◌, pick}
use Rattle.numbers.specs.Root.{sqrt}
use Rattle.numbers.specs.Sine.{sin, cos}
use Rattle.numbers.specs.Arctangent.{atan2}
use Rattle.numbers.specs.Angles.{angle, angle_eq, quarter_circle, neg_quarter_circle}
use Rattle.numbers.specs.Lengths.{metres}
use Rattle.numbers.specs.Vec.{vec, unit_z, neg_unit_z}
use Rattle.numbers.specs.declared.Angle.{Angle}
use Rattle.numbers.specs.declared.Length.{Length}
use Rattle.numbers.specs.declared.Vec3.{Vec3}
use Rattle.frames.specs.declared.GeocentricPosition.{GeocentricPosition}
use Rattle.frames.specs.declared.GeodeticPosition.{GeodeticPosition}
use Rattle.frames.specs.declared.LatLong.{LatLong}
use Rattle.frames.specs.declared.NVector.{NVector}

-- ---- geocentric: Earth-centred, Earth-fixed

abbrev pub geocentric : Length → Length → Length → GeocentricPosition
geocentric x y z = record { x = x; y = y; z = z }

-- `from_metres`, `from_vec3_metres`
abbrev pub geocentric_from_metres : Float → Float → Float → GeocentricPosition
geocentric_from_metres x y z = geocentric (metres x) (metres y) (metres z)

abbrev pub geocentric_from_vec3 : Vec3 → GeocentricPosition
geocentric_from_vec3 v = geocentric_from_metres v.x v.y v.z

-- `as_metres`, by `Vec3::new`: no part is minus zero
abbrev pub geocentric_as_metres : GeocentricPosition → Vec3
geocentric_as_metres g = vec g.x.0 g.y.0 g.z.0

-- ---- geodetic: an n-vector, and the height above the surface

abbrev pub nvector : Vec3 → NVector
nvector v = record { 0 = v }

abbrev pub geodetic : NVector → Length → GeodeticPosition
geodetic n h = record { hp = n; height = h }

-- ---- latitude and longitude

abbrev pub lat_long : Angle → Angle → LatLong
lat_long lat lon = record { latitude = lat; longitude = lon }

unfoldable pub nvector_to_latlong : Vec3 → LatLong
nvector_to_latlong n = lat_long (angle (atan2 n.z (sqrt (n.x ⊗ n.x ⊕ n.y ⊗ n.y)))) (angle (atan2 n.y n.x))

-- at latitude exactly PI/2 or -PI/2 the longitude is dropped
unfoldable pub latlong_to_nvector : Angle → Angle → Vec3
latlong_to_nvector lat lon =
    let cl = cos lat.0 in
    pick (angle_eq lat quarter_circle) unit_z
    (pick (angle_eq lat neg_quarter_circle) neg_unit_z
    (vec (cl ⊗ cos lon.0) (cl ⊗ sin lon.0) (sin lat.0)))
