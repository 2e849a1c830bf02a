-- Bearings, and the yaw of a look, are at least 0 and below 2 PI. Assumes nothing.
-- `bearing-below`, `look-below`: where the vector's x and y are finite, as those of a vector within the limits of a sheet are.
-- `bearing-never`, `look-never`: of any vector whatever; where the angle is no number, it is not 2 PI or more either.
use mathlib.Core.Path.{◌≡◌, refl}
use mathlib.Core.Bool.{Bool, true, false}
use lib.Dec.{T}
use lib.Ieee.{Float, lt, le, mul}
use lib.Ieee.Fits.{mul-fits}
use lib.Ieee.{binary64}
use lib.Ieee.Scale.{finite}
use Rattle.numbers.specs.Ops.{decimal, num, pick}
use Rattle.numbers.specs.Floats.{pi}
use Rattle.numbers.specs.Arctangent.{atan2}
use Rattle.numbers.specs.Angles.{full_circle, normalised}
use Rattle.numbers.specs.declared.Angle.{Angle}
use Rattle.numbers.proofs.FitLaws.{Fits, pick-fits, atan2-fits}
use Rattle.numbers.proofs.ArcBounds.{atan2-finite}
use Rattle.numbers.proofs.NormalisedLaws.{Below, normalised-below, normalised-never}
use Rattle.frames.specs.Orientations.{is_z_up}
use Rattle.frames.specs.Vectors.{bearing, elevation}
use Rattle.frames.specs.Frames.{new_ned, new_body, local_vector_to, looking_at}
use Rattle.frames.specs.declared.GeocentricPosition.{GeocentricPosition}
use Rattle.frames.specs.declared.GeodeticPosition.{GeodeticPosition}
use Rattle.frames.specs.declared.LocalVector.{LocalVector}

-- below 2 PI, and not below 0
abbrev pub InTurn : Angle → Type 0
InTurn a = Below full_circle.0 a.0

full-above-zero : lt (num 0) full_circle.0 ≡ true
unfolding lt mul decimal
full-above-zero = refl

full-fits : Fits full_circle.0
full-fits = mul-fits binary64 (num 2) pi

-- ---- a bearing

-- the angle before it is normalised
abbrev heading : LocalVector → Float
heading v = pick (is_z_up v.orientation) (atan2 v.x.0 v.y.0) (atan2 v.y.0 v.x.0)

heading-fits : (v : LocalVector) → Fits (heading v)
heading-fits v = pick-fits (is_z_up v.orientation) (atan2 v.x.0 v.y.0) (atan2 v.y.0 v.x.0) (atan2-fits v.x.0 v.y.0) (atan2-fits v.y.0 v.x.0)

heading-finite : (v : LocalVector) → T (finite v.x.0) → T (finite v.y.0) → T (finite (heading v))
heading-finite v h k = go (is_z_up v.orientation)
  where
    go : (b : Bool) → T (finite (pick b (atan2 v.x.0 v.y.0) (atan2 v.y.0 v.x.0)))
    go true = atan2-finite v.x.0 v.y.0 h k
    go false = atan2-finite v.y.0 v.x.0 k h

pub bearing-below : (v : LocalVector) → T (finite v.x.0) → T (finite v.y.0) → InTurn (bearing v)
unfolding bearing normalised
bearing-below v h k = normalised-below (heading v) full_circle.0 (heading-fits v) full-fits (heading-finite v h k) full-above-zero

pub bearing-never : (v : LocalVector) → le full_circle.0 (bearing v).0 ≡ false
unfolding bearing normalised
bearing-never v = normalised-never (heading v) full_circle.0 (heading-fits v) full-fits full-above-zero

-- ---- a look's yaw

-- the vector from d, which is g in geocentric terms, to the target
abbrev pub to_target : GeodeticPosition → GeocentricPosition → GeocentricPosition → LocalVector
to_target d g target = local_vector_to (new_ned d g) target

-- the yaw of the body frame that looks at the target
abbrev pub look_yaw : GeodeticPosition → GeocentricPosition → GeocentricPosition → Angle
look_yaw d g target = bearing (to_target d g target)

pub look_is : (d : GeodeticPosition) (g target : GeocentricPosition) (roll : Angle) → looking_at d g target roll ≡ new_body (look_yaw d g target) (elevation (to_target d g target)) roll d g
unfolding looking_at
look_is d g target roll = refl

pub look-below : (d : GeodeticPosition) (g target : GeocentricPosition) → T (finite (to_target d g target).x.0) → T (finite (to_target d g target).y.0) → InTurn (look_yaw d g target)
look-below d g target h k = bearing-below (to_target d g target) h k

pub look-never : (d : GeodeticPosition) (g target : GeocentricPosition) → le full_circle.0 (look_yaw d g target).0 ≡ false
look-never d g target = bearing-never (to_target d g target)
