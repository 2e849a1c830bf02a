-- No part of what must be believed: what the code that prints a value answers, which ties the code to Output.
use Rattle.std.specs.Prelude.{ℕ, ◌+◌, ◌-◌, ◌≡◌, Bool, true, false, ◌&&◌, List, [], ◌∷◌, leb, length, set, take, drop}
use Rattle.numbers.specs.declared.Length.{Length}
use Rattle.sheets.specs.declared.Value.{Value}
use Rattle.sheets.specs.declared.Value.TheVariants.{Metres}
use Rattle.sheets.specs.Text.{ascii, ◌⌢◌}
use Rattle.sheets.specs.Kinds.{kind_of, kind_name}
use Rattle.sheets.specs.Output.{fields, fields_text, output_line}

-- a buffer after bytes were stored one by one from a place on
unfoldable pub writes : List ℕ → ℕ → List ℕ → List ℕ
writes d at [] = d
writes d at (b ∷ bs) = writes (set d at b) (at + 1) bs

-- the bytes were written at a place, the rest of the buffer is as it was, and the answer is the place after them
pub record Written (d : List ℕ) (at : ℕ) (text : List ℕ) (d' : List ℕ) (r : ℕ) : Type 0 where
  pub is : d' ≡ writes d at text
  pub end : r ≡ at + length text

-- the bytes from `from` to `end`
abbrev pub part : List ℕ → ℕ → ℕ → List ℕ
part s from end = take (end - from) (drop from s)

-- kind and fields
unfoldable pub value_text : Value → List ℕ
value_text x = kind_name (kind_of x) ⌢ fields_text (fields x)

-- the name is a part of at most 12 bytes of a sheet of n bytes, and the longest line of such a name, 223 bytes, has room in a buffer of m
unfoldable pub fitting : ℕ → ℕ → ℕ → ℕ → ℕ → Bool
fitting n from end m at = leb from end && (leb end n && (leb (end - from) 12 && leb 223 (m - at)))

-- whether a line is written
abbrev pub room : List ℕ → ℕ → ℕ → List ℕ → ℕ → Bool
room s from end d at = fitting (length s) from end (length d) at

-- the line of a value under the name that the sheet has there, where there is room
unfoldable pub line_if : Bool → List ℕ → ℕ → ℕ → Value → List ℕ
line_if true s from end x = output_line (part s from end) x
line_if false s from end x = []

-- the line of a total, where there is room
abbrev pub total_if : List ℕ → ℕ → Length → List ℕ
total_if d at t = line_if (room (ascii "total") 0 5 d at) (ascii "total") 0 5 (Metres t)
