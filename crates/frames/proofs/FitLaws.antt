-- The range, elevation and bearing of a vector and the angles of a rotation matrix are doubles, whatever the vector and the matrix hold. Assumes nothing.
use mathlib.Core.Bool.{Bool, true, false, ◌&&◌}
use lib.Ieee as Ieee
use lib.Ieee.{Float, binary64}
use lib.Ieee.Fits.{add-fits, neg-fits, rem-fits}
use Rattle.numbers.specs.Ops.{◌⊕◌, num, pick}
use Rattle.numbers.specs.Arctangent.{asin, atan2}
use Rattle.numbers.specs.Floats.{clamp_unit, near_zero, remainder}
use Rattle.numbers.specs.Lengths.{length_div}
use Rattle.numbers.specs.Angles.{angle, angle_neg, full_circle, raised, wrapped, normalised_to, normalised}
use Rattle.numbers.specs.Vec.{squared_norm}
use Rattle.numbers.specs.Mat.{transpose}
use Rattle.numbers.specs.declared.Angle.{Angle}
use Rattle.numbers.specs.declared.Mat33.{Mat33}
use Rattle.numbers.proofs.FitLaws.{Fits, decimal-fits, pick-fits, sqrt-fits, atan2-fits, asin-fits}
use Rattle.frames.specs.Orientations.{is_z_up}
use Rattle.frames.specs.Vectors.{local_as_metres, slant_range, elevation, bearing}
use Rattle.frames.specs.Rotations.{r2xyz, r2zyx}
use Rattle.frames.specs.declared.LocalVector.{LocalVector}
use Rattle.frames.specs.declared.Xyz.{Xyz}
use Rattle.frames.specs.declared.Zyx.{Zyx}

-- an angle is a double
abbrev pub FitAngle : Angle → Type 0
FitAngle a = Fits a.0

pick-angle : (b : Bool) (a c : Angle) → FitAngle a → FitAngle c → FitAngle (pick b a c)
pick-angle true a c p q = p
pick-angle false a c p q = q

neg-angle : (a : Angle) → FitAngle a → FitAngle (angle_neg a)
neg-angle a p = neg-fits binary64 a.0 p

-- ---- vectors

pub slant_range-fits : (v : LocalVector) → Fits (slant_range v).0
unfolding slant_range
slant_range-fits v = sqrt-fits (squared_norm (local_as_metres v)) (add-fits binary64 _ _)

pub elevation-fits : (v : LocalVector) → FitAngle (elevation v)
unfolding elevation
elevation-fits v =
    let x = clamp_unit (length_div v.z (slant_range v)) in
    let r = angle (asin x) in
    pick-angle (near_zero (slant_range v).0) (angle (num 0)) (pick (is_z_up v.orientation) r (angle_neg r)) (decimal-fits 0 0)
    (pick-angle (is_z_up v.orientation) r (angle_neg r) (asin-fits x) (neg-angle r (asin-fits x)))

wrapped-fits : (x max : Float) → Fits x → FitAngle (wrapped x max)
unfolding wrapped raised
wrapped-fits x max p =
    let r = remainder x max in
    pick-angle (Ieee.lt r (num 0)) (angle (raised r max)) (angle r)
    (pick-fits (Ieee.lt (num 0) max && Ieee.eq (r ⊕ max) max) (num 0) (r ⊕ max) (decimal-fits 0 0) (add-fits binary64 r max)) (rem-fits binary64 x max p)

normalised-fits : (a : Angle) → FitAngle a → FitAngle (normalised a)
unfolding normalised normalised_to
normalised-fits a p =
    let max = full_circle.0 in
    pick-angle (Ieee.le (num 0) a.0 && Ieee.lt a.0 max) a (wrapped a.0 max) p (wrapped-fits a.0 max p)

pub bearing-fits : (v : LocalVector) → FitAngle (bearing v)
unfolding bearing
bearing-fits v =
    let a = atan2 v.x.0 v.y.0 in
    let b = atan2 v.y.0 v.x.0 in
    normalised-fits (angle (pick (is_z_up v.orientation) a b)) (pick-fits (is_z_up v.orientation) a b (atan2-fits v.x.0 v.y.0) (atan2-fits v.y.0 v.x.0))

-- ---- the angles of a rotation matrix

pub record FitXyz (a : Xyz) : Type 0 where
  pub fit_x : FitAngle a.x
  pub fit_y : FitAngle a.y
  pub fit_z : FitAngle a.z

pub record FitZyx (a : Zyx) : Type 0 where
  pub fit_z : FitAngle a.z
  pub fit_y : FitAngle a.y
  pub fit_x : FitAngle a.x

pub r2xyz-fits : (m : Mat33) → FitXyz (r2xyz m)
unfolding r2xyz
r2xyz-fits m = record { fit_x = neg-fits binary64 _ (atan2-fits _ _); fit_y = atan2-fits _ _; fit_z = neg-fits binary64 _ (atan2-fits _ _) }

pub r2zyx-fits : (m : Mat33) → FitZyx (r2zyx m)
unfolding r2zyx
r2zyx-fits m =
    let a = r2xyz (transpose m) in
    let h = r2xyz-fits (transpose m) in
    record { fit_z = neg-angle a.z h.fit_z; fit_y = neg-angle a.y h.fit_y; fit_x = neg-angle a.x h.fit_x }
