-- What the functions for the bench take and lay into their arrays: the fields of values, in order, as doubles.
use Rattle.std.specs.Prelude.{ℕ, ◌+◌, List, [], ◌∷◌, ◌++◌, get_or, Float}
use Rattle.std.specs.Float.{nan}
use Rattle.numbers.specs.Lengths.{metres}
use Rattle.numbers.specs.Vec.{raw}
use Rattle.numbers.specs.Mat.{mat}
use Rattle.numbers.specs.declared.Vec3.{Vec3}
use Rattle.numbers.specs.declared.Mat33.{Mat33}
use Rattle.frames.specs.Positions.{nvector, geodetic}
use Rattle.frames.specs.declared.Ellipsoid.{Ellipsoid}
use Rattle.frames.specs.declared.LocalFrame.{LocalFrame}
use Rattle.frames.specs.declared.Orientation.TheVariants.{Enu}
use Rattle.frames.specs.declared.GeocentricPosition.{GeocentricPosition}
use Rattle.frames.specs.declared.GeodeticPosition.{GeodeticPosition}
use Rattle.frames.specs.declared.LocalVector.{LocalVector}

-- ---- taken

abbrev pub ellipsoid_of : Float → Float → Float → Float → Ellipsoid
ellipsoid_of a b e f = record { equatorial_radius = metres a; polar_radius = metres b; eccentricity = e; flattening = f }

abbrev pub geodetic_of : Float → Float → Float → Float → GeodeticPosition
geodetic_of x y z height = geodetic (nvector (raw x y z)) (metres height)

unfoldable pub vector_from : List Float → ℕ → Vec3
vector_from f i = raw (get_or f i nan) (get_or f (i + 1) nan) (get_or f (i + 2) nan)

unfoldable pub matrix_from : List Float → ℕ → Mat33
matrix_from f i = mat (vector_from f i) (vector_from f (i + 3)) (vector_from f (i + 6))

-- an east-north-up frame of 21 entries: origin, direction and inverse matrix, by rows
unfoldable pub frame_of : List Float → LocalFrame
frame_of f = record { origin = vector_from f 0; dir_rm = matrix_from f 3; inv_rm = matrix_from f 12; orientation = Enu }

-- ---- laid

abbrev pub coordinates : GeocentricPosition → List Float
coordinates p = p.x.0 ∷ p.y.0 ∷ p.z.0 ∷ []

abbrev pub components : LocalVector → List Float
components v = v.x.0 ∷ v.y.0 ∷ v.z.0 ∷ []

abbrev pub parts : Vec3 → List Float
parts v = v.x ∷ v.y ∷ v.z ∷ []

abbrev pub nvector_and_height : GeodeticPosition → List Float
nvector_and_height p = parts p.hp.0 ++ (p.height.0 ∷ [])

abbrev pub rows : Mat33 → List Float
rows m = parts m.r0 ++ (parts m.r1 ++ parts m.r2)

-- its origin, direction and inverse matrix, by rows
unfoldable pub entries : LocalFrame → List Float
entries f = parts f.origin ++ (rows f.dir_rm ++ rows f.inv_rm)
