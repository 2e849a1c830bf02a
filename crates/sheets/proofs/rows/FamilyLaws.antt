-- The rows of the families venu, vned, vbody, vwan and aenu, aned, abody, awan by their orientation; and where no row of enu and ned, of add and sub, of rz, ry and rx makes a value. Assumes nothing.
use Rattle.std.specs.Prelude.{Result, Ok, Err}
use mathlib.Core.Path.{◌≡◌, refl}
use mathlib.Core.List.{List, [], ◌∷◌}
use mathlib.Core.Option.{Option, none, some}
use mathlib.Core.Bool.{Bool, true, false}
use Rattle.frames.specs.Vectors.{local_vector, from_aer}
use Rattle.frames.specs.declared.Ellipsoid.{Ellipsoid}
use Rattle.frames.specs.declared.GeocentricPosition.{GeocentricPosition}
use Rattle.frames.specs.declared.LocalVector.{LocalVector}
use Rattle.frames.specs.declared.Orientation.{Orientation}
use Rattle.frames.specs.declared.Orientation.TheVariants.{Enu, Ned, Body, Wan}
use Rattle.sheets.specs.declared.Value.{Value}
use Rattle.sheets.specs.declared.Unapplied.{Unapplied}
use Rattle.sheets.specs.declared.Unapplied.TheVariants.{NoRow, Centre}
use Rattle.sheets.specs.declared.rows.args.Axis.{Axis}
use Rattle.sheets.specs.Kinds.{same_orientation}
use Rattle.sheets.specs.Letters.{Holds, held, hold, 𝐚, 𝐥, 𝐠, 𝐝, 𝐯, 𝐟}
use Rattle.sheets.specs.Table.{far, table}
use Rattle.sheets.specs.Lookup.{find}
use Rattle.sheets.specs.code.rows.Applied.{applied, vector_word, aer_word, axis_word, level_word, sum_word}

abbrev pub vector_of : Orientation → Option (Holds (𝐥 ∷ 𝐥 ∷ 𝐥 ∷ [])) → Result Value Unapplied
vector_of o none = Err NoRow
vector_of o (some xs) = Ok (Value.Vector (local_vector o xs.0 xs.1.0 xs.1.1.0))

pub vector_row : (e : Ellipsoid) (o : Orientation) (vs : List Value) (h : Option (Holds (𝐥 ∷ 𝐥 ∷ 𝐥 ∷ []))) → hold (𝐥 ∷ 𝐥 ∷ 𝐥 ∷ []) vs ≡ h
    → vector_of o h ≡ applied e (find table (vector_word o) vs)
unfolding table find
vector_row e Enu vs none p = rw p refl
vector_row e Enu vs (some xs) p = rw p refl
vector_row e Ned vs none p = rw p refl
vector_row e Ned vs (some xs) p = rw p refl
vector_row e Body vs none p = rw p refl
vector_row e Body vs (some xs) p = rw p refl
vector_row e Wan vs none p = rw p refl
vector_row e Wan vs (some xs) p = rw p refl

abbrev pub aer_of : Orientation → Option (Holds (𝐚 ∷ 𝐚 ∷ 𝐥 ∷ [])) → Result Value Unapplied
aer_of o none = Err NoRow
aer_of o (some xs) = Ok (Value.Vector (from_aer o xs.0 xs.1.0 xs.1.1.0))

pub aer-row : (e : Ellipsoid) (o : Orientation) (vs : List Value) (h : Option (Holds (𝐚 ∷ 𝐚 ∷ 𝐥 ∷ []))) → hold (𝐚 ∷ 𝐚 ∷ 𝐥 ∷ []) vs ≡ h
    → aer_of o h ≡ applied e (find table (aer_word o) vs)
unfolding table find
aer-row e Enu vs none p = rw p refl
aer-row e Enu vs (some xs) p = rw p refl
aer-row e Ned vs none p = rw p refl
aer-row e Ned vs (some xs) p = rw p refl
aer-row e Body vs none p = rw p refl
aer-row e Body vs (some xs) p = rw p refl
aer-row e Wan vs none p = rw p refl
aer-row e Wan vs (some xs) p = rw p refl

-- ---- without a value, whichever the word

pub no-angle : (e : Ellipsoid) (axis : Axis) (v : Value) → held 𝐟 v ≡ none → Err NoRow ≡ applied e (find table (axis_word axis) (v ∷ []))
unfolding table find hold
no-angle e Axis.Z v p = rw p refl
no-angle e Axis.Y v p = rw p refl
no-angle e Axis.X v p = rw p refl

pub no-level : (e : Ellipsoid) (ned : Bool) (v : Value) → held 𝐠 v ≡ none → held 𝐝 v ≡ none → Err NoRow ≡ applied e (find table (level_word ned) (v ∷ []))
unfolding table find hold
no-level e false v p q = rw (p, q) refl
no-level e true v p q = rw (p, q) refl

pub near-level : (e : Ellipsoid) (ned : Bool) (v : Value) {g : GeocentricPosition} → held 𝐠 v ≡ some g → far e g ≡ false → Err Centre ≡ applied e (find table (level_word ned) (v ∷ []))
unfolding table find hold
near-level e false v p q = rw (p, q) refl
near-level e true v p q = rw (p, q) refl

pub no-sum : (e : Ellipsoid) (minus : Bool) (vs : List Value) → hold (𝐯 ∷ 𝐯 ∷ []) vs ≡ none → Err NoRow ≡ applied e (find table (sum_word minus) vs)
unfolding table find
no-sum e false vs p = rw p refl
no-sum e true vs p = rw p refl

pub no-shared-sum : (e : Ellipsoid) (minus : Bool) (a b : Value) {v w : LocalVector} → held 𝐯 a ≡ some v → held 𝐯 b ≡ some w → same_orientation v.orientation w.orientation ≡ false
    → Err NoRow ≡ applied e (find table (sum_word minus) (a ∷ b ∷ []))
unfolding table find hold
no-shared-sum e false a b p q h = rw (p, q, h) refl
no-shared-sum e true a b p q h = rw (p, q, h) refl
