-- Collars that stand apart, after document 02, request Three: every two names among the g values shown are at least so many metres apart.
use Rattle.std.specs.Prelude.{List, [], ◌∷◌, Bool, true, ◌&&◌, ◌||◌, ℕ, eqb, Float}
use Rattle.std.proofs.Math.Option.{Option, none, some}
use Rattle.std.specs.Float.Ieee as Ieee
use Rattle.numbers.specs.Vec.{norm, vec_sub}
use Rattle.frames.specs.Positions.{geocentric_as_metres}
use Rattle.frames.specs.declared.GeocentricPosition.{GeocentricPosition}
use Rattle.sheets.specs.Letters.{𝐠, held}
use Rattle.sheets.specs.Entries.{Entry, shown, summed}

-- a g value shown: its position, and the line of the let that gave its name
pub record Fix : Type 0 where
  pub line : ℕ
  pub position : GeocentricPosition

-- a position, where there is one, before the others
abbrev pub fix_then : ℕ → Option GeocentricPosition → List Fix → List Fix
fix_then j none fs = fs
fix_then j (some p) fs = record { line = j; position = p } ∷ fs

-- the g values shown, in line order
unfoldable pub fixes : List Entry → List Fix
fixes [] = []
fixes (shown i g ∷ es) = fix_then g.line (held 𝐠 g.value) (fixes es)
fixes (summed t ∷ es) = fixes es

-- the norm of their difference
unfoldable pub distance : GeocentricPosition → GeocentricPosition → Float
distance a b = norm (vec_sub (geocentric_as_metres a) (geocentric_as_metres b))

-- They are of one name, which the same let gave, so that it is a single position; or at least so far apart.
abbrev pub clear : Float → Fix → Fix → Bool
clear least a b = eqb a.line b.line || Ieee.le least (distance a.position b.position)

-- of each of these
abbrev pub clear_of : Float → Fix → List Fix → Bool
clear_of least a [] = true
clear_of least a (b ∷ fs) = clear least a b && clear_of least a fs

-- every two
unfoldable pub stand_apart : Float → List Fix → Bool
stand_apart least [] = true
stand_apart least (a ∷ fs) = clear_of least a fs && stand_apart least fs
