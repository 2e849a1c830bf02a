-- THE KIND TABLE: a row for each form of document 01, and for each choice of g or d.
use Rattle.std.specs.Prelude.{List, [], ◌∷◌, Bool, true, false, ℕ, eqb}
use Rattle.std.proofs.Math.Option.{Option, none, some}
use Prim.Native.String.{String}
use Rattle.std.specs.Float.Ieee as Ieee
use Rattle.numbers.specs.Ops.{◌⊕◌, decimal}
use Rattle.numbers.specs.Angles.{from_degrees}
use Rattle.numbers.specs.Lengths.{metres}
use Rattle.frames.specs.Positions.{geocentric as geocentric_at, geodetic as geodetic_at, nvector, latlong_to_nvector, geocentric_as_metres}
use Rattle.frames.specs.Ellipsoids.{geodetic_to_geocentric, geocentric_to_geodetic, p_of, q_of}
use Rattle.frames.specs.Vectors.{local_vector, from_aer, slant_range, elevation, bearing, local_neg, local_add, local_sub, local_mul, swap}
use Rattle.frames.specs.Rotations.{r2zyx}
use Rattle.frames.specs.Frames.{enu_from_geocentric, enu_from_geodetic, ned_from_geocentric, ned_from_geodetic, wander_azimuth_from_geocentric, wander_azimuth_from_geodetic, body_from_geocentric, body_from_geodetic, looking_at_geocentric, looking_at_geodetic, rotate_around_z, transform, local_vector_to, destination_position, frame_origin}
use Rattle.frames.specs.declared.Ellipsoid.{Ellipsoid}
use Rattle.frames.specs.declared.GeocentricPosition.{GeocentricPosition}
use Rattle.frames.specs.declared.Orientation.{Orientation}
use Rattle.frames.specs.declared.Orientation.TheVariants.{Enu, Ned, Body, Wan}
use Rattle.sheets.specs.declared.Value.{Value}
use Rattle.sheets.specs.declared.Value.TheVariants.{Radians, Metres, Geocentric, Geodetic, Vector, Frame}
use Rattle.sheets.specs.Text.{Word, ascii}
use Rattle.sheets.specs.Kinds.{Kind, angle, len, geocentric, geodetic, vector, frame}
use Rattle.sheets.specs.Letters.{Letter, 𝐧, 𝐚, 𝐥, 𝐠, 𝐝, 𝐯, 𝐟, ⟦◌⟧, Holds}

-- a function of what the letters hold
abbrev pub Fn : List Letter → Type 0 → Type 0
Fn [] X = X
Fn (s ∷ ss) X = ⟦ s ⟧ → Fn ss X

abbrev pub on : {X : Type 0} (ss : List Letter) → Fn ss X → Holds ss → X
on [] x xs = x
on (s ∷ ss) h xs = on ss (h xs.0) xs.1

pub record Row : Type 0 where
  -- the word that opens the form, and what it takes
  pub word : Word
  pub takes : List Letter
  -- the orientations that its vectors and frames may share
  pub over : Orientation → Bool
  -- the kind of its value, by the orientation that they share
  pub gives : Orientation → Kind
  -- whether refusal 8 lets it be applied, and what it then makes
  pub centred : Ellipsoid → Fn takes Bool
  pub apply : Ellipsoid → Fn takes Value

-- ---- how a row is written

abbrev pub when : {A : Type 0} → Bool → A → A → A
when true x y = x
when false x y = y

-- the word of a form such as "to f g", and what is behind it
abbrev first : Word → Word
first [] = []
first (b ∷ r) = when (eqb b 32) [] (b ∷ first r)

abbrev behind : Word → Word
behind [] = []
behind (b ∷ r) = when (eqb b 32) (b ∷ r) (behind r)

-- the letters, each after a space; none where something else stands there
abbrev letter : ℕ → Option Letter
letter b =
    when (eqb b 110) (some 𝐧) (when (eqb b 97) (some 𝐚) (when (eqb b 108) (some 𝐥) (when (eqb b 103) (some 𝐠) (when (eqb b 100) (some 𝐝) (when (eqb b 118) (some 𝐯) (when (eqb b 102) (some 𝐟) none))))))

abbrev before : Option Letter → Option (List Letter) → Option (List Letter)
before none o = none
before (some s) none = none
before (some s) (some ss) = some (s ∷ ss)

abbrev spelled : Word → Option (List Letter)
spelled [] = some []
spelled (b ∷ []) = none
spelled (b ∷ c ∷ r) = when (eqb b 32) (before (letter c) (spelled r)) none

abbrev letters : String → Option (List Letter)
letters s = spelled (behind (ascii s))

-- what a row with these letters makes; where they are none there is nothing, so that no such row can be written
abbrev Making : Option (List Letter) → Type 0
Making none = ⊥
Making (some ss) = Ellipsoid → Fn ss Value

abbrev taking : Option (List Letter) → List Letter
taking none = []
taking (some ss) = ss

abbrev applying : (o : Option (List Letter)) → Making o → Ellipsoid → Fn (taking o) Value
applying none h = absurd h
applying (some ss) h = h

abbrev always : (ss : List Letter) → Fn ss Bool
always [] = true
always (s ∷ ss) = λ x. always ss

infix 5 ◌⟹◌≔◌ ◌⟶◌≔◌ ◌provided◌
-- a form whose value has the kind that the shared orientation tells
abbrev ◌⟹◌≔◌ : (s : String) → (Orientation → Kind) → Making (letters s) → Row
s ⟹ k ≔ h = record { word = first (ascii s); takes = taking (letters s); over = λ o. true; gives = k; centred = λ e. always (taking (letters s)); apply = applying (letters s) h }

-- a form whose value has one kind
abbrev ◌⟶◌≔◌ : (s : String) → Kind → Making (letters s) → Row
s ⟶ k ≔ h = s ⟹ (λ o. k) ≔ h

-- some orientations alone
abbrev for : (Orientation → Bool) → Row → Row
for p r = record { word = r.word; takes = r.takes; over = p; gives = r.gives; centred = r.centred; apply = r.apply }

-- with the test of refusal 8
abbrev ◌provided◌ : (r : Row) → (Ellipsoid → Fn r.takes Bool) → Row
r provided t = record { word = r.word; takes = r.takes; over = r.over; gives = r.gives; centred = t; apply = r.apply }

-- f not fbody
abbrev pub not_body : Orientation → Bool
not_body Enu = true
not_body Ned = true
not_body Body = false
not_body Wan = true

-- venu and vned only, each to the other
abbrev pub enu_or_ned : Orientation → Bool
enu_or_ned Enu = true
enu_or_ned Ned = true
enu_or_ned Body = false
enu_or_ned Wan = false

abbrev pub other : Orientation → Orientation
other Enu = Ned
other Ned = Enu
other Body = Body
other Wan = Wan

-- p + q as `geocentric_to_geodetic_position` works it out is at least 0.25
unfoldable pub far : Ellipsoid → GeocentricPosition → Bool
far e g = Ieee.le (decimal 25 2) (p_of e (geocentric_as_metres g) ⊕ q_of e (geocentric_as_metres g))

-- ---- the rows

unfoldable pub table : List Row
table =
    ("deg n" ⟶ angle ≔ λ e x. Radians (from_degrees x))
    ∷ ("m n" ⟶ len ≔ λ e x. Metres (metres x))
    ∷ ("geo l l l" ⟶ geocentric ≔ λ e x y z. Geocentric (geocentric_at x y z))
    ∷ ("lla a a l" ⟶ geodetic ≔ λ e lat lon h. Geodetic (geodetic_at (nvector (latlong_to_nvector lat lon)) h))
    ∷ ("togeo d" ⟶ geocentric ≔ λ e d. Geocentric (geodetic_to_geocentric e d))
    ∷ (("tolla g" ⟶ geodetic ≔ λ e g. Geodetic (geocentric_to_geodetic e g)) provided λ e g. far e g)
    ∷ ("venu l l l" ⟶ vector Enu ≔ λ e x y z. Vector (local_vector Enu x y z))
    ∷ ("vned l l l" ⟶ vector Ned ≔ λ e x y z. Vector (local_vector Ned x y z))
    ∷ ("vbody l l l" ⟶ vector Body ≔ λ e x y z. Vector (local_vector Body x y z))
    ∷ ("vwan l l l" ⟶ vector Wan ≔ λ e x y z. Vector (local_vector Wan x y z))
    ∷ ("aenu a a l" ⟶ vector Enu ≔ λ e az el r. Vector (from_aer Enu az el r))
    ∷ ("aned a a l" ⟶ vector Ned ≔ λ e az el r. Vector (from_aer Ned az el r))
    ∷ ("abody a a l" ⟶ vector Body ≔ λ e az el r. Vector (from_aer Body az el r))
    ∷ ("awan a a l" ⟶ vector Wan ≔ λ e az el r. Vector (from_aer Wan az el r))
    ∷ (("enu g" ⟶ frame Enu ≔ λ e g. Frame (enu_from_geocentric g e)) provided λ e g. far e g)
    ∷ ("enu d" ⟶ frame Enu ≔ λ e d. Frame (enu_from_geodetic d e))
    ∷ (("ned g" ⟶ frame Ned ≔ λ e g. Frame (ned_from_geocentric g e)) provided λ e g. far e g)
    ∷ ("ned d" ⟶ frame Ned ≔ λ e d. Frame (ned_from_geodetic d e))
    ∷ (("wan a g" ⟶ frame Wan ≔ λ e az g. Frame (wander_azimuth_from_geocentric az g e)) provided λ e az g. far e g)
    ∷ ("wan a d" ⟶ frame Wan ≔ λ e az d. Frame (wander_azimuth_from_geodetic az d e))
    ∷ (("body a a a g" ⟶ frame Body ≔ λ e yaw pitch roll g. Frame (body_from_geocentric yaw pitch roll g e)) provided λ e yaw pitch roll g. far e g)
    ∷ ("body a a a d" ⟶ frame Body ≔ λ e yaw pitch roll d. Frame (body_from_geodetic yaw pitch roll d e))
    ∷ (("look g g a" ⟶ frame Body ≔ λ e g t roll. Frame (looking_at_geocentric g t roll e)) provided λ e g t roll. far e g)
    ∷ ("look d d a" ⟶ frame Body ≔ λ e d t roll. Frame (looking_at_geodetic d t roll e))
    ∷ for not_body ("turn f a" ⟶ frame Wan ≔ λ e f a. Frame (rotate_around_z f a))
    ∷ ("move f v a a a" ⟶ frame Body ≔ λ e f v yaw pitch roll. Frame (transform f v yaw pitch roll))
    ∷ ("to f g" ⟹ vector ≔ λ e f g. Vector (local_vector_to f g))
    ∷ ("at f v" ⟶ geocentric ≔ λ e f v. Geocentric (destination_position f v))
    ∷ ("neg v" ⟹ vector ≔ λ e v. Vector (local_neg v))
    ∷ ("add v v" ⟹ vector ≔ λ e v w. Vector (local_add v w))
    ∷ ("sub v v" ⟹ vector ≔ λ e v w. Vector (local_sub v w))
    ∷ ("scale v n" ⟹ vector ≔ λ e v k. Vector (local_mul v k))
    ∷ for enu_or_ned ("swap v" ⟹ (λ o. vector (other o)) ≔ λ e v. Vector (swap v))
    ∷ ("bearing v" ⟶ angle ≔ λ e v. Radians (bearing v))
    ∷ ("elev v" ⟶ angle ≔ λ e v. Radians (elevation v))
    ∷ ("range v" ⟶ len ≔ λ e v. Metres (slant_range v))
    ∷ ("origin f" ⟶ geocentric ≔ λ e f. Geocentric (frame_origin f))
    ∷ ("rz f" ⟶ angle ≔ λ e f. Radians (r2zyx f.dir_rm).z)
    ∷ ("ry f" ⟶ angle ≔ λ e f. Radians (r2zyx f.dir_rm).y)
    ∷ ("rx f" ⟶ angle ≔ λ e f. Radians (r2zyx f.dir_rm).x)
    ∷ []
