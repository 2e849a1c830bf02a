-- What the run keeps of the values shown: the places of the names whose g values were, and the sum of the lengths. The position of a name lies among the floats at its place.
-- No part of what must be believed: they only tie the code to the machine.
use Rattle.std.specs.Prelude.{ℕ, ◌*◌, ◌<◌, ◌≤◌, ◌≡◌, Bool, true, false, List, length, get_or, set, replicate, Float}
use Rattle.std.proofs.Math.Option.{Option, none, some}
use Rattle.numbers.specs.Ops.{num}
use Rattle.numbers.specs.Lengths.{metres}
use Rattle.frames.specs.declared.GeocentricPosition.{GeocentricPosition}
use Rattle.sheets.specs.declared.Value.{Value}
use Rattle.sheets.specs.declared.run.shown.Shown.{Shown}
use Rattle.sheets.specs.Text.{Word}
use Rattle.sheets.specs.Grammar.{IsWord}
use Rattle.sheets.specs.Names.{Known, line_of_let}
use Rattle.sheets.specs.Aparts.{Fix}
use Rattle.sheets.specs.Admitted.{In}
use Rattle.sheets.specs.code.reader.Codes.{code_of}
use Rattle.sheets.specs.code.check.Newest.{place_from}
use Rattle.sheets.specs.code.run.Floats.{position_at}

-- the places kept, and with them the place j of a value that is shown, where it is a g
abbrev pub keep : List Bool → ℕ → Option GeocentricPosition → List Bool
keep js j none = js
keep js j (some p) = set js j true

-- before anything is shown
abbrev pub nothing_kept : Shown
nothing_kept = record { places = replicate 96 false; sum = metres (num 0) }

-- By the places of n names, the lines of the lets that gave them: each comes after those of the places before it, and all come before line i.
pub record Rising (lets : ℕ → ℕ) (n i : ℕ) : Type 0 where
  pub before : (j : ℕ) → j ≤ n → lets j < i
  pub each : (j k : ℕ) → j < k → k ≤ n → lets j < lets k

-- they are those of the known words ps
pub record Lined (ps : Known Value) (words : List ℕ) (n : ℕ) (lets : ℕ → ℕ) : Type 0 where
  pub is : (w : Word) → IsWord w → line_of_let w ps ≡ lets (place_from words n (code_of w))

-- the name at the place j is that of a g value shown
pub record FixAt (lets : ℕ → ℕ) (f : List Float) (n j : ℕ) (x : Fix) : Type 0 where
  pub few : j ≤ n
  pub line : lets j ≡ x.line
  pub lies : position_at f (21 * j) ≡ x.position

-- the places kept are exactly those of the g values shown
pub record FixesKept (fs : List Fix) (lets : ℕ → ℕ) (js : List Bool) (f : List Float) (n : ℕ) : Type 0 where
  pub size : length js ≡ 96
  pub kept : (x : Fix) → In x fs → (j : ℕ) × FixAt lets f n j x × (get_or js j false ≡ true)
  pub from : (j : ℕ) → get_or js j false ≡ true → (x : Fix) × In x fs × FixAt lets f n j x
