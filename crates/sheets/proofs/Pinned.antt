-- The frames made and the names given, which the claim speaks of, the shows, which request Three's sentences speak of, and the numbers of lines, by computation over sheets that pin them. Assumes nothing.
use mathlib.Core.Path.{◌≡◌, refl, subst}
use mathlib.Core.List.{List, [], ◌∷◌, map}
use mathlib.Core.Option.{Option, none, some}
use Prim.Native.Nat.{ℕ}
use Prim.Native.String.{String}
use Rattle.frames.specs.declared.LocalFrame.{LocalFrame}
use Rattle.sheets.specs.declared.Value.{Value}
use Rattle.sheets.specs.declared.Value.TheVariants.{Frame}
use Rattle.sheets.specs.Text.{ascii}
use Rattle.sheets.specs.Trees.{Sheet}
use Rattle.sheets.specs.Grammar.{Written, Form, formed, bad_line, Reads}
use Rattle.sheets.specs.LineNumbers.{count_lf, line_number}
use Rattle.sheets.specs.Names.{Given, given_on}
use Rattle.sheets.specs.Kinds.{Kind, kind_of, number, geodetic, vector, frame}
use Rattle.frames.specs.declared.Orientation.TheVariants.{Enu, Ned, Wan}
use Rattle.sheets.specs.Output.{output_line}
use Rattle.sheets.specs.Entries.{Entry, shown, summed}
use Rattle.sheets.specs.Refusals.{limit}
use Rattle.sheets.specs.Machine.{Ran, done, stopped, stuck, machine}
use Rattle.sheets.specs.Claim.{names_given, frames_made}
use Rattle.sheets.specs.code.reader.Reader.{read_sheet}
use Rattle.sheets.proofs.Computed.{computed}
use Rattle.sheets.proofs.reader.SheetLaws.{reader-reads, reader-only}
use Rattle.sheets.proofs.Starred.{sixteen}

-- each frame by the line that a show of it would write
abbrev frame_line : LocalFrame → List ℕ
frame_line f = output_line (ascii "f") (Frame f)

-- each name by its line, its word and its value's kind
abbrev seen : Given Value → Given Kind
seen g = given_on g.line g.name (kind_of g.value)

abbrev a_name : ℕ → String → Kind → Given Kind
a_name i w k = given_on i (ascii w) k

-- it ended, or refusal 7 stopped it at this line
abbrev Ends : Ran → Type 0
Ends (done fs s) = Unit {0}
Ends (stopped fs r i s) = ⊥
Ends (stuck fs i s) = ⊥

abbrev LimitAt : ℕ → Ran → Type 0
LimitAt j (done fs s) = ⊥
LimitAt j (stopped fs r i s) = (r ≡ limit) × (i ≡ j)
LimitAt j (stuck fs i s) = ⊥

-- it ends, and these are its shows: the line of each, and the name that it shows, with its let's line
abbrev show_of : Entry → Option (ℕ × Given Kind)
show_of (shown i g) = some (i, seen g)
show_of (summed t) = none

abbrev Shows : List (ℕ × Given Kind) → Ran → Type 0
Shows ns (done fs s) = map show_of s.entries ≡ map some ns
Shows ns (stopped fs r i s) = ⊥
Shows ns (stuck fs i s) = ⊥

-- the machine over a sheet ends so, and made these frames, the first first, and gave these names, the newest first
abbrev Pinned : (Ran → Type 0) → List String → List (Given Kind) → Ran → Type 0
Pinned P frames names q = P q × (map frame_line (frames_made q) ≡ map ascii frames) × (map seen (names_given q) ≡ names)

-- the bytes are a sheet, and over its tree, with readings of 0, the machine does so
pub record Pins (sheet : String) (P : Ran → Type 0) (frames : List String) (names : List (Given Kind)) : Type 0 where
  pub is_sheet : (c : Sheet) × Written (ascii sheet) c
  pub is : (c : Sheet) → Written (ascii sheet) c → Pinned P frames names (machine c (sixteen []))

abbrev OfForm : (Sheet → Type 0) → Form Sheet → Type 0
OfForm Q (formed c) = Q c
OfForm Q (bad_line j) = ⊥

-- the same of what the reader reads, where it can be computed
record PinsRead (sheet : String) (P : Ran → Type 0) (frames : List String) (names : List (Given Kind)) : Type 0 where
  is : OfForm (λ c. Pinned P frames names (machine c (sixteen []))) (read_sheet (ascii sheet))

pins : {sheet : String} {P : Ran → Type 0} {frames : List String} {names : List (Given Kind)} → PinsRead sheet P frames names → Pins sheet P frames names
pins {sheet} {P} {frames} {names} h = record {
  is_sheet = tree (read_sheet (ascii sheet)) (reader-reads (ascii sheet)) h.is;
  is = λ c w. subst (OfForm (λ d. Pinned P frames names (machine d (sixteen [])))) (reader-only (ascii sheet) (formed c) w) h.is;
}
  where
    tree : (o : Form Sheet) → Reads (ascii sheet) o → OfForm (λ c. Pinned P frames names (machine c (sixteen []))) o → (c : Sheet) × Written (ascii sheet) c
    tree (formed c) w q = (c, w)
    tree (bad_line j) w q = absurd q

pub record PinnedSheets (Q : String → (Ran → Type 0) → List String → List (Given Kind) → Type 0) : Type 0 where
  -- the pole sheet of document 01
  pub pole : Q "(ellipsoid 6400000 128)\n(let p (lla (deg 90) (deg 0) (m 0)))\n(let f (enu p))\n(let v (venu (m 1) (m 2) (m 3)))\n(let w (swap v))\n(let z (to f (origin f)))\n(show f)\n(show w)\n(show z)\n"
      Ends
      ("f fenu 0000000000000000 0000000000000000 4158392c00000000 bff0000000000000 0000000000000000 0000000000000000 0000000000000000 bff0000000000000 0000000000000000 0000000000000000 0000000000000000 3ff0000000000000\n" ∷ [])
      (a_name 6 "z" (vector Enu) ∷ a_name 5 "w" (vector Ned) ∷ a_name 4 "v" (vector Enu) ∷ a_name 3 "f" (frame Enu) ∷ a_name 2 "p" geodetic ∷ [])
  -- a frame inside another is made before it
  pub nested : Q "(ellipsoid 6400000 128)\n(let f (turn (enu (lla (deg 90) (deg 0) (m 0))) (deg 0)))\n"
      Ends
      ("f fenu 0000000000000000 0000000000000000 4158392c00000000 bff0000000000000 0000000000000000 0000000000000000 0000000000000000 bff0000000000000 0000000000000000 0000000000000000 0000000000000000 3ff0000000000000\n"
      ∷ "f fwan 0000000000000000 0000000000000000 4158392c00000000 0000000000000000 bff0000000000000 0000000000000000 bff0000000000000 0000000000000000 0000000000000000 0000000000000000 0000000000000000 bff0000000000000\n" ∷ [])
      (a_name 2 "f" (frame Wan) ∷ [])
  -- a frame that refusal 7 refuses is made, and gives no name
  pub refused_frame : Q "(ellipsoid 6400000 128)\n(let e (enu (lla (deg 90) (deg 0) (m 0))))\n(let f (move e (venu (m 0) (m 0) (m 100000000)) (deg 0) (deg 0) (deg 0)))\n"
      (LimitAt 3)
      ("f fenu 0000000000000000 0000000000000000 4158392c00000000 bff0000000000000 0000000000000000 0000000000000000 0000000000000000 bff0000000000000 0000000000000000 0000000000000000 0000000000000000 3ff0000000000000\n"
      ∷ "f fbody 0000000000000000 0000000000000000 41995b16c0000000 0000000000000000 bff0000000000000 0000000000000000 bff0000000000000 0000000000000000 0000000000000000 0000000000000000 0000000000000000 bff0000000000000\n" ∷ [])
      (a_name 2 "e" (frame Enu) ∷ [])
  -- a show keeps its own line and that of the let which gave the name
  pub shown_twice : Q "(ellipsoid wgs84)\n(let a 1)\n(let b a)\n(show b)\n(show a)\n(show b)\n(show r3)\n"
      (Shows ((4, a_name 3 "b" number) ∷ (5, a_name 2 "a" number) ∷ (6, a_name 3 "b" number) ∷ (7, a_name 0 "r3" number) ∷ []))
      []
      (a_name 3 "b" number ∷ a_name 2 "a" number ∷ [])

read : PinnedSheets PinsRead
unfolding computed
read = record {
  pole = record { is = (tt, refl, refl) };
  nested = record { is = (tt, refl, refl) };
  refused_frame = record { is = ((refl, refl), refl, refl) };
  shown_twice = record { is = (refl, refl, refl) };
}

pub pinned-sheets : PinnedSheets Pins
pinned-sheets = record { pole = pins read.pole; nested = pins read.nested; refused_frame = pins read.refused_frame; shown_twice = pins read.shown_twice }

-- ---- the number of a line, by a place: where lines 1 to 3 begin, within line 2, and where a fourth would begin

abbrev three_lines : List ℕ
three_lines = ascii "(ellipsoid wgs84)\n(show r0)\n(total)\n"

pub line-numbers : (line_number three_lines 0 ≡ 1) × (line_number three_lines 18 ≡ 2) × (line_number three_lines 28 ≡ 3) × (line_number three_lines 25 ≡ 2) × (line_number three_lines 36 ≡ 4)
unfolding count_lf
line-numbers = (refl, refl, refl, refl, refl)
