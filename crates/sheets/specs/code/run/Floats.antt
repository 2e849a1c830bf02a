-- Values as floats on a list: a value is its kind and the place where its floats begin.
-- No part of what must be believed: it only ties the code to the machine, whose values are values.
use Rattle.std.specs.Prelude.{ℕ, suc, ◌+◌, ◌<◌, ◌≤◌, ◌≡◌, List, [], ◌∷◌, ◌++◌, length, get_or, set, Float}
use Rattle.std.specs.Float.{nan}
use Rattle.numbers.specs.declared.Vec3.{Vec3}
use Rattle.numbers.specs.declared.Mat33.{Mat33}
use Rattle.frames.specs.declared.GeocentricPosition.{GeocentricPosition}
use Rattle.frames.specs.declared.LocalFrame.{LocalFrame}
use Rattle.sheets.specs.declared.Value.{Value}
use Rattle.sheets.specs.declared.Value.TheVariants.{Number, Radians, Metres, Geocentric, Geodetic, Vector, Frame}
use Rattle.sheets.specs.Output.{components}
use Rattle.sheets.specs.Kinds.{Kind, number, angle, len, geocentric, geodetic, vector, frame, kind_of, kind_code}

-- ---- read

-- (NaN past the end, where nothing is ever read)
abbrev pub float_at : List Float → ℕ → Float
float_at f i = get_or f i nan

abbrev pub vec_at : List Float → ℕ → Vec3
vec_at f i = record { x = float_at f i; y = float_at f (i + 1); z = float_at f (i + 2) }

abbrev pub mat_at : List Float → ℕ → Mat33
mat_at f i = record { r0 = vec_at f i; r1 = vec_at f (i + 3); r2 = vec_at f (i + 6) }

abbrev pub position_at : List Float → ℕ → GeocentricPosition
position_at f i = record { x = record { 0 = float_at f i }; y = record { 0 = float_at f (i + 1) }; z = record { 0 = float_at f (i + 2) } }

-- the value of a kind whose floats begin at a place
unfoldable pub value_at : Kind → List Float → ℕ → Value
value_at number f i = Number (float_at f i)
value_at angle f i = Radians (record { 0 = float_at f i })
value_at len f i = Metres (record { 0 = float_at f i })
value_at geocentric f i = Geocentric (position_at f i)
value_at geodetic f i = Geodetic (record { hp = record { 0 = vec_at f i }; height = record { 0 = float_at f (i + 3) } })
value_at (vector o) f i = Vector (record { x = record { 0 = float_at f i }; y = record { 0 = float_at f (i + 1) }; z = record { 0 = float_at f (i + 2) }; orientation = o })
value_at (frame o) f i = Frame (record { origin = vec_at f i; dir_rm = mat_at f (i + 3); inv_rm = mat_at f (i + 12); orientation = o })

-- values of these kinds, each 21 places behind the one before
unfoldable pub values_at : List Kind → List Float → ℕ → List Value
values_at [] f i = []
values_at (k ∷ ks) f i = value_at k f i ∷ values_at ks f (i + 21)

-- v's floats begin at a place
pub record Lies (f : List Float) (i : ℕ) (v : Value) : Type 0 where
  pub is : value_at (kind_of v) f i ≡ v

-- ---- stored

unfoldable pub lay : List Float → ℕ → List Float → List Float
lay f i [] = f
lay f i (x ∷ xs) = lay (set f i x) (suc i) xs

abbrev pub by_rows : Mat33 → List Float
by_rows m = components m.r0 ++ (components m.r1 ++ components m.r2)

abbrev pub frame_floats : LocalFrame → List Float
frame_floats p = components p.origin ++ (by_rows p.dir_rm ++ by_rows p.inv_rm)

-- f' is f below a place, and has as many floats
pub record KeptBelow (f : List Float) (i : ℕ) (f' : List Float) : Type 0 where
  pub size : length f' ≡ length f
  pub below : (j : ℕ) → j < i → float_at f' j ≡ float_at f j

-- the 21 floats from one place on stand from another place on, where the two lie apart
pub record Copied (f : List Float) (from to : ℕ) (f' : List Float) : Type 0 where
  pub kept : KeptBelow f to f'
  pub is : length f ≡ 2940 → from + 21 ≤ to → (m : ℕ) → m < 21 → float_at f' (to + m) ≡ float_at f (from + m)

-- v was laid from a place on where f was and f' is now, and k is its kind's code
pub record IsLaid (v : Value) (f : List Float) (i k : ℕ) (f' : List Float) : Type 0 where
  pub code : k ≡ kind_code (kind_of v)
  pub lies : length f ≡ 2940 → Lies f' i v
  pub kept : KeptBelow f i f'
