-- A reader of files of readings, by places.
-- No part of what must be believed: that it reads exactly the files of Format.antt, and what it answers of any other, is proved (proofs/FormatLaws.antt), and the code is proved against it.
use Rattle.std.specs.Prelude.{ℕ, zero, suc, ◌+◌, ◌*◌, Bool, true, false, List, [], ◌∷◌, ◌++◌, eqb, leb, length, get_or, Float, Option, Some, None, Result, Ok, Err}
use Rattle.std.specs.Float.{binary64}
use Rattle.std.specs.Float.Ieee.{of_bits}
use Rattle.sheets.specs.code.reader.Reader.{read_num}
use Rattle.sheets.specs.code.reader.Views.{doubled}
use Rattle.boresheet.specs.declared.readings.BadReadings.{BadReadings}
use Rattle.boresheet.specs.Format.{hex_number}

-- ---- a line

unfoldable pub hex_if : Bool → (ℕ → Option (Float × ℕ)) → ℕ → Option (Float × ℕ)
hex_if true rest at = None
hex_if false rest at = rest (at + 1)

-- the double of k digits at a place, after digits that made the number n, and the place after them
unfoldable pub hex_from : ℕ → ℕ → List ℕ → ℕ → Option (Float × ℕ)
hex_from zero n s at = Some (of_bits binary64 n, at)
hex_from (suc k) n s at = hex_if (eqb (hex_number (get_or s at 0)) 16) (hex_from k (n * 16 + hex_number (get_or s at 0)) s) at

unfoldable pub hex_at : List ℕ → ℕ → Option (Float × ℕ)
hex_at s at = hex_from 16 0 s at

unfoldable pub end_if : Bool → Float → ℕ → Option (Float × ℕ)
end_if true x n = Some (x, n + 1)
end_if false x n = None

-- what was read, if LF follows it, and the place after the LF
unfoldable pub ended_at : List ℕ → Option (Float × ℕ) → Option (Float × ℕ)
ended_at s None = None
ended_at s (Some (x, n)) = end_if (eqb (get_or s n 0) 10) x n

unfoldable pub or_else : Option (Float × ℕ) → Option (Float × ℕ) → Option (Float × ℕ)
or_else (Some (x, n)) q = Some (x, n)
or_else None q = q

-- the reading of the line at a place, and the place of the next line
unfoldable pub reading_at : List ℕ → ℕ → Option (Float × ℕ)
reading_at s at = or_else (ended_at s (doubled (read_num s at))) (ended_at s (hex_at s at))

-- ---- the file

unfoldable pub lastly : Bool → List Float → Result (List Float) BadReadings
lastly true xs = Ok xs
lastly false xs = Err BadReadings.Long

unfoldable pub line_if : Bool → Option (Float × ℕ) → List Float → (Float → ℕ → Result (List Float) BadReadings) → Result (List Float) BadReadings
line_if true r xs rest = Err (BadReadings.Short (length xs))
line_if false None xs rest = Err (BadReadings.Line (length xs + 1))
line_if false (Some (x, n)) xs rest = rest x n

-- the k lines from a place on, after those of the readings xs
unfoldable pub readings_from : ℕ → List Float → List ℕ → ℕ → Result (List Float) BadReadings
readings_from zero xs s at = lastly (leb (length s) at) xs
readings_from (suc k) xs s at = line_if (leb (length s) at) (reading_at s at) xs (λ x n. readings_from k (xs ++ (x ∷ [])) s n)

unfoldable pub readings_of : List ℕ → Result (List Float) BadReadings
readings_of s = readings_from 16 [] s 0
