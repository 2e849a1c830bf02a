-- What the code's operators answer, against the rows of the kind table.
use Rattle.std.specs.Prelude.{◌≡◌, List, Bool, true, false, Result, Ok, Err, ⊤}
use Rattle.std.proofs.Math.Option.{Option, none, some}
use Rattle.frames.specs.declared.Ellipsoid.{Ellipsoid}
use Rattle.frames.specs.declared.GeocentricPosition.{GeocentricPosition}
use Rattle.frames.specs.declared.Orientation.{Orientation}
use Rattle.frames.specs.declared.Orientation.TheVariants.{Enu, Ned, Body, Wan}
use Rattle.sheets.specs.declared.Unapplied.{Unapplied}
use Rattle.sheets.specs.declared.Unapplied.TheVariants.{NoRow, Centre}
use Rattle.sheets.specs.declared.Value.{Value}
use Rattle.sheets.specs.declared.rows.args.Axis.{Axis}
use Rattle.sheets.specs.Text.{Word, ascii}
use Rattle.sheets.specs.Letters.{Letter, ⟦◌⟧, held}
use Rattle.sheets.specs.Table.{on, far, table}
use Rattle.sheets.specs.Lookup.{Hit, find}

-- ---- the arguments

abbrev pub or_no_row : {X : Type 0} → Option X → Result X Unapplied
or_no_row none = Err NoRow
or_no_row (some x) = Ok x

-- what a value holds, where it is of the letter
abbrev pub argument : (s : Letter) → Value → Result ⟦ s ⟧ Unapplied
argument s v = or_no_row (held s v)

-- ---- the answer

abbrev pub unless_near : {X : Type 0} → Bool → X → Result X Unapplied
unless_near true x = Ok x
unless_near false x = Err Centre

-- the test of refusal 8
abbrev pub far_enough : Ellipsoid → GeocentricPosition → Result ⊤ Unapplied
far_enough e g = unless_near (far e g) tt

-- the row that fits: the test of refusal 8, then the row by its definition, before the test of refusal 7
abbrev pub applied : Ellipsoid → Option Hit → Result Value Unapplied
applied e none = Err NoRow
applied e (some h) =
    let r = h.row in
    unless_near (on r.takes (r.centred e) h.args) (on r.takes (r.apply e) h.args)

-- an answer of one letter, as one of a value
abbrev pub giving : {X : Type 0} → (X → Value) → Result X Unapplied → Result Value Unapplied
giving value (Ok x) = Ok (value x)
giving value (Err u) = Err u

-- r answers the row for a word over values
abbrev pub RowGives : {X : Type 0} → (X → Value) → Ellipsoid → Word → List Value → Result X Unapplied → Type 0
RowGives value e w vs r = giving value r ≡ applied e (find table w vs)

-- ---- words by an orientation, an axis or a choice of two

abbrev pub vector_word : Orientation → Word
vector_word Enu = ascii "venu"
vector_word Ned = ascii "vned"
vector_word Body = ascii "vbody"
vector_word Wan = ascii "vwan"

abbrev pub aer_word : Orientation → Word
aer_word Enu = ascii "aenu"
aer_word Ned = ascii "aned"
aer_word Body = ascii "abody"
aer_word Wan = ascii "awan"

abbrev pub axis_word : Axis → Word
axis_word Axis.Z = ascii "rz"
axis_word Axis.Y = ascii "ry"
axis_word Axis.X = ascii "rx"

-- whether ned
abbrev pub level_word : Bool → Word
level_word false = ascii "enu"
level_word true = ascii "ned"

-- whether minus
abbrev pub sum_word : Bool → Word
sum_word false = ascii "add"
sum_word true = ascii "sub"
