-- The lines on standard error that tell a refusal, or a file of readings that is not of the form.
use Rattle.std.specs.Prelude.{ℕ, zero, suc, ◌+◌, ◌/◌, ◌%◌, Bool, true, false, cond, List, [], ◌∷◌, eqb, ltb}
use Rattle.sheets.specs.Text.{ascii, ◌⌢◌, lf}

unfoldable pub decimal_if : Bool → List ℕ → List ℕ → List ℕ
decimal_if true front last = last
decimal_if false front last = front ⌢ last

-- the decimal digits of n, at most k and one
unfoldable pub decimal : ℕ → ℕ → List ℕ
decimal zero n = (48 + n % 10) ∷ []
decimal (suc k) n = decimal_if (ltb n 10) (decimal k (n / 10)) ((48 + n % 10) ∷ [])

-- the name of a refusal
unfoldable pub refusal_name : ℕ → List ℕ
refusal_name n =
    cond (eqb n 1) (ascii "size") (cond (eqb n 2) (ascii "lent") (cond (eqb n 3) (ascii "form") (cond (eqb n 4) (ascii "ellipsoid")
    (cond (eqb n 5) (ascii "name") (cond (eqb n 6) (ascii "kind") (cond (eqb n 7) (ascii "limit") (cond (eqb n 8) (ascii "centre")
    (cond (eqb n 9) (ascii "apart") []))))))))

-- where 01 names a line
unfoldable pub place_text : ℕ → List ℕ
place_text line = cond (eqb line 0) [] (ascii " at line " ⌢ decimal 19 line)

unfoldable pub refusal_line : ℕ → ℕ → List ℕ
refusal_line number line = ascii "boresheet: refusal " ⌢ decimal 2 number ⌢ ascii " (" ⌢ refusal_name number ⌢ ascii ")" ⌢ place_text line ⌢ lf

-- a line of the file that is no reading, by its number
unfoldable pub bad_line_text : ℕ → List ℕ
bad_line_text line = ascii "boresheet: readings: line " ⌢ decimal 19 line ⌢ ascii " is neither a number nor 16 hexadecimal digits" ⌢ lf

-- a file of fewer lines than sixteen
unfoldable pub short_text : ℕ → List ℕ
short_text lines = ascii "boresheet: readings: the file ends after " ⌢ decimal 19 lines ⌢ ascii " of 16 lines" ⌢ lf
