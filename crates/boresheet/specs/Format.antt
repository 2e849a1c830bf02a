-- The form of a file of readings: sixteen lines, each ended by LF, and nothing behind them.
-- A line is a NUM as in a sheet, or the sixteen hexadecimal digits, of either case, of a double's bits. (No line is both: a NUM has at most 9 digits before its point.)
use Rattle.std.specs.Prelude.{ℕ, ◌+◌, ◌-◌, ◌*◌, ◌<◌, ◌≡◌, ◌⊎◌, cond, ◌&&◌, List, [], ◌∷◌, leb, length, Float, Result, Ok, Err}
use Rattle.std.specs.Float.{binary64}
use Rattle.std.specs.Float.Ieee.{of_bits}
use Rattle.sheets.specs.Text.{◌⌢◌, lf}
use Rattle.sheets.specs.Trees.{Num}
use Rattle.sheets.specs.Grammar.{Each, print_num, IsNum}
use Rattle.sheets.specs.Limits.{num_value}
use Rattle.boresheet.specs.declared.readings.BadReadings.{BadReadings}

-- ---- a line

-- 0 to 15 for 0 to 9, A to F and a to f, 16 for any other byte
unfoldable pub hex_number : ℕ → ℕ
hex_number b = cond (leb 48 b && leb b 57) (b - 48) (cond (leb 65 b && leb b 70) (b - 55) (cond (leb 97 b && leb b 102) (b - 87) 16))

abbrev pub HexDigit : ℕ → Type 0
HexDigit b = hex_number b < 16

-- hexadecimal digits as one number, after those that made the number n
unfoldable pub hexadecimal_from : ℕ → List ℕ → ℕ
hexadecimal_from n [] = n
hexadecimal_from n (b ∷ ds) = hexadecimal_from (n * 16 + hex_number b) ds

-- the bytes t, which stand before an LF, are a line with the reading x
abbrev pub Line : List ℕ → Float → Type 0
Line t x =
    ((q : Num) × IsNum q × (t ≡ print_num q) × (x ≡ num_value q))
    ⊎ (Each HexDigit t × (length t ≡ 16) × (x ≡ of_bits binary64 (hexadecimal_from 0 t)))

-- ---- the file

-- the bytes s are lines with these readings
abbrev pub Lines : List ℕ → List Float → Type 0
Lines s [] = s ≡ []
Lines s (x ∷ xs) = (t r : List ℕ) × (s ≡ t ⌢ lf ⌢ r) × Line t x × Lines r xs

-- a line begins the bytes s
abbrev pub LineBegins : List ℕ → Type 0
LineBegins s = (t r : List ℕ) × (x : Float) × (s ≡ t ⌢ lf ⌢ r) × Line t x

-- What the file s comes to: its readings; too few lines; the first line that is none, counted from 1; or something behind line 16.
pub data ComesTo : List ℕ → Result (List Float) BadReadings → Type 0 where
  all : {s : List ℕ} (xs : List Float) → Lines s xs → length xs ≡ 16 → ComesTo s (Ok xs)
  short : {s : List ℕ} (xs : List Float) → Lines s xs → length xs < 16 → ComesTo s (Err (BadReadings.Short (length xs)))
  bad : {s : List ℕ} (u : List ℕ) (b : ℕ) (r : List ℕ) (xs : List Float) → s ≡ u ⌢ (b ∷ r) → Lines u xs → length xs < 16 → ¬ (LineBegins (b ∷ r)) → ComesTo s (Err (BadReadings.Line (length xs + 1)))
  long : {s : List ℕ} (u : List ℕ) (b : ℕ) (r : List ℕ) (xs : List Float) → s ≡ u ⌢ (b ∷ r) → Lines u xs → length xs ≡ 16 → ComesTo s (Err BadReadings.Long)
