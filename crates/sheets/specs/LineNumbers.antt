-- The number of a line, in the words of document 02, request Four: it is one more than the LFs before the line.
use Rattle.std.specs.Prelude.{ℕ, ◌+◌, cond, List, [], ◌∷◌, eqb, take}

-- how many of the bytes are LF
unfoldable pub count_lf : List ℕ → ℕ
count_lf [] = 0
count_lf (b ∷ s) = cond (eqb b 10) 1 0 + count_lf s

-- the number of the line that begins at a place of the bytes s, or in which the place lies
abbrev pub line_number : List ℕ → ℕ → ℕ
line_number s at = count_lf (take at s) + 1
