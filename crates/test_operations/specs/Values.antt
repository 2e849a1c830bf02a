-- Values of `frames` as words: any bits may make any field.
use Rattle.std.specs.Prelude.{ℕ, ◌+◌, List, ◌∷◌, ◌++◌, get_or, eqb, Float}
use Rattle.numbers.specs.Ops.{pick}
use Rattle.numbers.specs.Angles.{angle}
use Rattle.numbers.specs.Lengths.{metres}
use Rattle.numbers.specs.Vec.{raw}
use Rattle.numbers.specs.declared.Angle.{Angle}
use Rattle.numbers.specs.declared.Length.{Length}
use Rattle.frames.specs.Positions.{geocentric, nvector, geodetic}
use Rattle.frames.specs.Vectors.{local_vector}
use Rattle.frames.specs.declared.Ellipsoid.{Ellipsoid}
use Rattle.frames.specs.declared.LocalFrame.{LocalFrame}
use Rattle.frames.specs.declared.Orientation.{Orientation}
use Rattle.frames.specs.declared.Orientation.TheVariants.{Enu, Ned, Body, Wan}
use Rattle.frames.specs.declared.GeocentricPosition.{GeocentricPosition}
use Rattle.frames.specs.declared.GeodeticPosition.{GeodeticPosition}
use Rattle.frames.specs.declared.LatLong.{LatLong}
use Rattle.frames.specs.declared.Xyz.{Xyz}
use Rattle.frames.specs.declared.Zyx.{Zyx}
use Rattle.frames.specs.declared.LocalVector.{LocalVector}
use Rattle.test_operations.specs.Words.{double_at, vector_at, matrix_at, number, vector, matrix}

-- ---- what is taken, from a place on

unfoldable pub angle_at : List ℕ → ℕ → Angle
angle_at a i = angle (double_at a i)

unfoldable pub length_at : List ℕ → ℕ → Length
length_at a i = metres (double_at a i)

unfoldable pub geocentric_at : List ℕ → ℕ → GeocentricPosition
geocentric_at a i = geocentric (length_at a i) (length_at a (i + 1)) (length_at a (i + 2))

-- the n-vector, then the height
unfoldable pub geodetic_at : List ℕ → ℕ → GeodeticPosition
geodetic_at a i = geodetic (nvector (vector_at a i)) (length_at a (i + 3))

-- equatorial radius, polar radius, eccentricity, flattening: the first four words
unfoldable pub ellipsoid_at : List ℕ → Ellipsoid
ellipsoid_at a = record {
  equatorial_radius = length_at a 0;
  polar_radius = length_at a 1;
  eccentricity = double_at a 2;
  flattening = double_at a 3;
}

-- any other number than these three is the last
unfoldable pub orientation_of : ℕ → Orientation
orientation_of n = pick (eqb n 0) Enu (pick (eqb n 1) Ned (pick (eqb n 2) Body Wan))

-- the first word's
unfoldable pub orientation_at : List ℕ → Orientation
orientation_at a = orientation_of (get_or a 0 0)

-- the orientation is the first word's
unfoldable pub local_at : List ℕ → ℕ → LocalVector
local_at a i = local_vector (orientation_at a) (length_at a i) (length_at a (i + 1)) (length_at a (i + 2))

-- orientation, origin, direction and inverse matrix: the first 22 words
unfoldable pub frame_at : List ℕ → LocalFrame
frame_at a = record {
  origin = vector_at a 1;
  dir_rm = matrix_at a 4;
  inv_rm = matrix_at a 13;
  orientation = orientation_at a;
}

-- ---- what is answered: a vector and a frame begin with their orientation's number

abbrev pub three : Float → Float → Float → List ℕ
three x y z = vector (raw x y z)

abbrev pub geocentric_words : GeocentricPosition → List ℕ
geocentric_words p = three p.x.0 p.y.0 p.z.0

abbrev pub geodetic_words : GeodeticPosition → List ℕ
geodetic_words p = vector p.hp.0 ++ number p.height.0

abbrev pub lat_long_words : LatLong → List ℕ
lat_long_words l = number l.latitude.0 ++ number l.longitude.0

abbrev pub ellipsoid_words : Ellipsoid → List ℕ
ellipsoid_words l =
    number l.equatorial_radius.0 ++ (number l.polar_radius.0 ++ (number l.eccentricity ++ number l.flattening))

abbrev pub xyz_words : Xyz → List ℕ
xyz_words r = three r.x.0 r.y.0 r.z.0

abbrev pub zyx_words : Zyx → List ℕ
zyx_words r = three r.z.0 r.y.0 r.x.0

abbrev pub orientation_number : Orientation → ℕ
orientation_number Enu = 0
orientation_number Ned = 1
orientation_number Body = 2
orientation_number Wan = 3

abbrev pub parts_words : LocalVector → List ℕ
parts_words v = three v.x.0 v.y.0 v.z.0

abbrev pub local_words : LocalVector → List ℕ
local_words v = orientation_number v.orientation ∷ parts_words v

abbrev pub frame_words : LocalFrame → List ℕ
frame_words f = orientation_number f.orientation ∷ (vector f.origin ++ (matrix f.dir_rm ++ matrix f.inv_rm))
