-- A frame made from a position of doubles, whose n-vector `Vec3::new` leaves unchanged, is sound: its inverse matrix is its direction matrix with rows and columns exchanged, bit for bit, and `Vec3::new` leaves its origin and the rows of both matrices unchanged, so that no entry of a matrix is a minus zero.
-- In a sound frame of finite entries the zero vector leads to the origin, and the origin's vector is the zero vector, bit for bit. Assumes nothing.
use mathlib.Core.Path.{◌≡◌, refl, sym, ap, ◌∙◌, subst}
use lib.Ieee as Ieee
use Rattle.numbers.specs.Ops.{decimal, num}
use Rattle.numbers.specs.Vec.{raw, zero_vec, unit_x, unit_y, neg_unit_z, vec_add, vec_mul}
use Rattle.numbers.specs.Mat.{mat, exchanged, vec_mul_mat, mat_mul}
use Rattle.numbers.specs.declared.Angle.{Angle}
use Rattle.numbers.specs.declared.Vec3.{Vec3}
use Rattle.numbers.specs.declared.Mat33.{Mat33}
use Rattle.numbers.proofs.VecLaws.{SettledVec, SettledMat, cross-settled, orthogonal_to-settled, scale-settled, add-settled, mat_mul-settled, picked, transpose-exchanged, exchanged-settled, NoMinusZeros, settled-mat, FiniteVec, FiniteMat, vec_mul_mat-zero, settled-sum, settled-difference}
use Rattle.frames.specs.Positions.{geocentric_from_metres, geocentric_from_vec3, geocentric_as_metres}
use Rattle.frames.specs.Ellipsoids.{geodetic_to_geocentric, geocentric_to_geodetic}
use Rattle.frames.specs.Orientations.{is_z_up, align_to_z_down}
use Rattle.frames.specs.Rotations.{zyx2r}
use Rattle.frames.specs.Vectors.{local_from_vec3, local_as_metres, local_zero, bearing, elevation}
use Rattle.frames.specs.Frames.{by_inverse, by_direction, rotate, enu_inverse, ned_inverse, east_at, new_enu, new_ned, new_body, new_wander_azimuth, frame_origin, local_vector_to, destination_position, enu_from_geocentric, enu_from_geodetic, ned_from_geocentric, ned_from_geodetic, body_from_geocentric, body_from_geodetic, wander_azimuth_from_geocentric, wander_azimuth_from_geodetic, looking_at, looking_at_geocentric, looking_at_geodetic, rotate_around_z, transform}
use Rattle.frames.specs.declared.GeocentricPosition.{GeocentricPosition}
use Rattle.frames.specs.declared.GeodeticPosition.{GeodeticPosition}
use Rattle.frames.specs.declared.Ellipsoid.{Ellipsoid}
use Rattle.frames.specs.declared.Orientation.{Orientation}
use Rattle.frames.specs.declared.Orientation.TheVariants.{Enu, Ned, Body, Wan}
use Rattle.frames.specs.declared.LocalVector.{LocalVector}
use Rattle.frames.specs.declared.LocalFrame.{LocalFrame}
use Rattle.frames.proofs.PositionLaws.{FitPosition, SettledPosition, geocentric_as_metres-settled, geodetic_to_geocentric-fits, geocentric_from_vec3-fits, geocentric_to_geodetic-settled}

pub record Sound (f : LocalFrame) : Type 0 where
  pub inverse : f.inv_rm ≡ exchanged f.dir_rm
  pub settled_dir : SettledMat f.dir_rm
  pub settled : SettledVec f.origin

-- no entry of the direction matrix is a minus zero, and none of the inverse matrix
pub no-minus-zero : (f : LocalFrame) → Sound f → NoMinusZeros f.dir_rm × NoMinusZeros f.inv_rm
no-minus-zero f s = (settled-mat f.dir_rm s.settled_dir, subst NoMinusZeros (sym s.inverse) (settled-mat (exchanged f.dir_rm) (exchanged-settled f.dir_rm s.settled_dir)))

-- a frame made by its inverse matrix, and one by its direction matrix
by_inverse-sound : (o : Orientation) (v : Vec3) (m : Mat33) → SettledMat m → SettledVec v → Sound (by_inverse o v m)
by_inverse-sound o v m s h =
    let e = transpose-exchanged m s in
    record { inverse = sym (ap (λ (n : Mat33). exchanged n) e); settled_dir = subst SettledMat (sym e) (exchanged-settled m s); settled = h }

by_direction-sound : (o : Orientation) (v : Vec3) (m : Mat33) → SettledMat m → SettledVec v → Sound (by_direction o v m)
by_direction-sound o v m s h = record { inverse = transpose-exchanged m s; settled_dir = s; settled = h }

-- ---- the `new` of each kind

enu_inverse-settled : (n : Vec3) → SettledVec n → SettledMat (enu_inverse n)
unfolding enu_inverse
enu_inverse-settled n h = record { on_r0 = orthogonal_to-settled _ _; on_r1 = cross-settled n (east_at n); on_r2 = h }

ned_inverse-settled : (n : Vec3) → SettledMat (ned_inverse n)
unfolding ned_inverse
ned_inverse-settled n =
    let down = vec_mul n (Ieee.neg (num 1)) in
    record { on_r0 = cross-settled (east_at n) down; on_r1 = orthogonal_to-settled _ _; on_r2 = scale-settled n (Ieee.neg (num 1)) }

new_enu-sound : (d : GeodeticPosition) (g : GeocentricPosition) → SettledPosition d → FitPosition g → Sound (new_enu d g)
unfolding new_enu
new_enu-sound d g s h = by_inverse-sound Enu (geocentric_as_metres g) (enu_inverse d.hp.0) (enu_inverse-settled d.hp.0 s) (geocentric_as_metres-settled g h)

new_ned-sound : (d : GeodeticPosition) (g : GeocentricPosition) → FitPosition g → Sound (new_ned d g)
unfolding new_ned
new_ned-sound d g h = by_inverse-sound Ned (geocentric_as_metres g) (ned_inverse d.hp.0) (ned_inverse-settled d.hp.0) (geocentric_as_metres-settled g h)

new_body-sound : (yaw pitch roll : Angle) (d : GeodeticPosition) (g : GeocentricPosition) → FitPosition g → Sound (new_body yaw pitch roll d g)
unfolding new_body
new_body-sound yaw pitch roll d g h = by_direction-sound Body (geocentric_as_metres g) _ (mat_mul-settled (new_ned d g).dir_rm (zyx2r yaw pitch roll)) (geocentric_as_metres-settled g h)

new_wander_azimuth-sound : (azimuth : Angle) (d : GeodeticPosition) (g : GeocentricPosition) → FitPosition g → Sound (new_wander_azimuth azimuth d g)
unfolding new_wander_azimuth
new_wander_azimuth-sound azimuth d g h = by_direction-sound Wan (geocentric_as_metres g) _ (mat_mul-settled (mat neg_unit_z unit_y unit_x) _) (geocentric_as_metres-settled g h)

looking_at-sound : (d : GeodeticPosition) (g target : GeocentricPosition) (roll : Angle) → FitPosition g → Sound (looking_at d g target roll)
unfolding looking_at
looking_at-sound d g target roll h =
    let delta = local_vector_to (new_ned d g) target in
    new_body-sound (bearing delta) (elevation delta) roll d g h

-- ---- every constructor

pub enu_from_geocentric-sound : (g : GeocentricPosition) (l : Ellipsoid) → FitPosition g → Sound (enu_from_geocentric g l)
unfolding enu_from_geocentric
enu_from_geocentric-sound g l h = new_enu-sound (geocentric_to_geodetic l g) g (geocentric_to_geodetic-settled l g) h

pub enu_from_geodetic-sound : (d : GeodeticPosition) (l : Ellipsoid) → SettledPosition d → Sound (enu_from_geodetic d l)
unfolding enu_from_geodetic
enu_from_geodetic-sound d l s = new_enu-sound d (geodetic_to_geocentric l d) s (geodetic_to_geocentric-fits l d)

pub ned_from_geocentric-sound : (g : GeocentricPosition) (l : Ellipsoid) → FitPosition g → Sound (ned_from_geocentric g l)
unfolding ned_from_geocentric
ned_from_geocentric-sound g l h = new_ned-sound (geocentric_to_geodetic l g) g h

pub ned_from_geodetic-sound : (d : GeodeticPosition) (l : Ellipsoid) → Sound (ned_from_geodetic d l)
unfolding ned_from_geodetic
ned_from_geodetic-sound d l = new_ned-sound d (geodetic_to_geocentric l d) (geodetic_to_geocentric-fits l d)

pub body_from_geocentric-sound : (yaw pitch roll : Angle) (g : GeocentricPosition) (l : Ellipsoid) → FitPosition g → Sound (body_from_geocentric yaw pitch roll g l)
unfolding body_from_geocentric
body_from_geocentric-sound yaw pitch roll g l h = new_body-sound yaw pitch roll (geocentric_to_geodetic l g) g h

pub body_from_geodetic-sound : (yaw pitch roll : Angle) (d : GeodeticPosition) (l : Ellipsoid) → Sound (body_from_geodetic yaw pitch roll d l)
unfolding body_from_geodetic
body_from_geodetic-sound yaw pitch roll d l = new_body-sound yaw pitch roll d (geodetic_to_geocentric l d) (geodetic_to_geocentric-fits l d)

pub wander_azimuth_from_geocentric-sound : (azimuth : Angle) (g : GeocentricPosition) (l : Ellipsoid) → FitPosition g → Sound (wander_azimuth_from_geocentric azimuth g l)
unfolding wander_azimuth_from_geocentric
wander_azimuth_from_geocentric-sound azimuth g l h = new_wander_azimuth-sound azimuth (geocentric_to_geodetic l g) g h

pub wander_azimuth_from_geodetic-sound : (azimuth : Angle) (d : GeodeticPosition) (l : Ellipsoid) → Sound (wander_azimuth_from_geodetic azimuth d l)
unfolding wander_azimuth_from_geodetic
wander_azimuth_from_geodetic-sound azimuth d l = new_wander_azimuth-sound azimuth d (geodetic_to_geocentric l d) (geodetic_to_geocentric-fits l d)

pub looking_at_geocentric-sound : (g target : GeocentricPosition) (roll : Angle) (l : Ellipsoid) → FitPosition g → Sound (looking_at_geocentric g target roll l)
unfolding looking_at_geocentric
looking_at_geocentric-sound g target roll l h = looking_at-sound (geocentric_to_geodetic l g) g target roll h

pub looking_at_geodetic-sound : (d target : GeodeticPosition) (roll : Angle) (l : Ellipsoid) → Sound (looking_at_geodetic d target roll l)
unfolding looking_at_geodetic
looking_at_geodetic-sound d target roll l = looking_at-sound d (geodetic_to_geocentric l d) (geodetic_to_geocentric l target) roll (geodetic_to_geocentric-fits l d)

rotate-settled : (o : Orientation) (a b : Mat33) → SettledMat (rotate o a b)
unfolding rotate
rotate-settled o a b = picked SettledMat (is_z_up o) _ _ (mat_mul-settled (mat_mul a b) align_to_z_down) (mat_mul-settled a b)

pub rotate_around_z-sound : (f : LocalFrame) (a : Angle) → Sound f → Sound (rotate_around_z f a)
unfolding rotate_around_z
rotate_around_z-sound f a s = by_direction-sound Wan f.origin _ (rotate-settled f.orientation f.dir_rm _) s.settled

pub transform-sound : (f : LocalFrame) (offset : LocalVector) (yaw pitch roll : Angle) → Sound (transform f offset yaw pitch roll)
unfolding transform
transform-sound f offset yaw pitch roll = by_direction-sound Body _ _ (rotate-settled f.orientation f.dir_rm _) (add-settled f.origin _)

-- ---- the positions that a frame gives are of doubles

pub frame_origin-fits : (f : LocalFrame) → Sound f → FitPosition (frame_origin f)
frame_origin-fits f s = geocentric_from_vec3-fits f.origin s.settled

pub destination_position-fits : (f : LocalFrame) (v : LocalVector) → FitPosition (destination_position f v)
unfolding destination_position
destination_position-fits f v = geocentric_from_vec3-fits (vec_add f.origin (vec_mul_mat (local_as_metres v) f.dir_rm)) (add-settled f.origin _)

-- ---- the zero vector and the origin

-- every entry is finite: the origin's and both matrices'
pub record FiniteFrame (f : LocalFrame) : Type 0 where
  pub fin_origin : FiniteVec f.origin
  pub fin_dir : FiniteMat f.dir_rm
  pub fin_inv : FiniteMat f.inv_rm

pub record Home (f : LocalFrame) : Type 0 where
  pub leads_out : destination_position f (local_zero f.orientation) ≡ frame_origin f
  pub leads_back : local_vector_to f (frame_origin f) ≡ local_zero f.orientation

zero-metres : (o : Orientation) → local_as_metres (local_zero o) ≡ zero_vec
unfolding Ieee.add decimal
zero-metres o = refl

zero-leads : (f : LocalFrame) → SettledVec f.origin → FiniteMat f.dir_rm → destination_position f (local_zero f.orientation) ≡ frame_origin f
unfolding destination_position
zero-leads f s h =
    ap (λ (v : Vec3). geocentric_from_vec3 (vec_add f.origin (vec_mul_mat v f.dir_rm))) (zero-metres f.orientation)
    ∙ ap (λ (v : Vec3). geocentric_from_vec3 (vec_add f.origin v)) (vec_mul_mat-zero f.dir_rm h)
    ∙ (λ i. geocentric_from_metres (settled-sum f.origin.x s.on_x i) (settled-sum f.origin.y s.on_y i) (settled-sum f.origin.z s.on_z i))

origin-leads : (f : LocalFrame) → SettledVec f.origin → FiniteVec f.origin → FiniteMat f.inv_rm → local_vector_to f (frame_origin f) ≡ local_zero f.orientation
unfolding local_vector_to
origin-leads f s t h =
    let o = f.origin in
    ap (λ (v : Vec3). local_from_vec3 f.orientation (vec_mul_mat v f.inv_rm))
    (λ i. raw (settled-difference o.x s.on_x t.fin_x i) (settled-difference o.y s.on_y t.fin_y i) (settled-difference o.z s.on_z t.fin_z i))
    ∙ ap (λ (v : Vec3). local_from_vec3 f.orientation v) (vec_mul_mat-zero f.inv_rm h)

pub home : (f : LocalFrame) → Sound f → FiniteFrame f → Home f
home f s h = record { leads_out = zero-leads f s.settled h.fin_dir; leads_back = origin-leads f s.settled h.fin_origin h.fin_inv }
