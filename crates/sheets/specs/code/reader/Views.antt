-- The contracts' views: what the code answers, said of what the reader of Reader.antt reads.
-- No part of what must be believed: they only tie the code to the reader, and what the code does for a sheet is said by the grammar and the claim.
use Rattle.std.specs.Prelude.{ℕ, zero, suc, ◌+◌, ◌-◌, ◌*◌, ◌≤◌, ◌≡◌, Bool, true, false, List, [], ◌∷◌, eqb, leb, length, get_or, drop, Option, Some, None, Result, Ok, Err, Float}
use Rattle.sheets.specs.Text.{Word}
use Rattle.sheets.specs.Trees.{Num, Unsigned, signless, decimal_from, num_digits, Line, let_line, show_line, total_line, apart_line, Head, wgs84, custom, Sheet}
use Rattle.sheets.specs.code.reader.Codes.{digit, code_of}
use Rattle.sheets.specs.code.reader.Reader.{Got, none, got, read_word, opening, closing, limit, from_rows, Begun, let_word, whole, line_rows, Form, formed, bad_line}
use Rattle.sheets.specs.Table.{when}
use Rattle.sheets.specs.Limits.{num_value}
use Rattle.sheets.specs.declared.reader.num.DigitsRead.{DigitsRead}
use Rattle.sheets.specs.declared.reader.num.Numeral.{Numeral}
use Rattle.sheets.specs.declared.reader.lines.NameAt.{NameAt}
use Rattle.sheets.specs.declared.reader.lines.WholeLine.{WholeLine}
use Rattle.sheets.specs.declared.reader.lines.LineHead.{LineHead}
use Rattle.sheets.specs.declared.reader.head.HeadLine.{HeadLine}

-- ---- bytes and characters

-- r is the byte of s at a place, 0 at the end and past it
pub record ByteAt (s : List ℕ) (at r : ℕ) : Type 0 where
  pub is : r ≡ get_or s at 0
  pub inside : r ≤ 255 * (length s - at)

-- a character's number, where 0 stands for none
unfoldable pub char_number : ℕ → Option ℕ
char_number zero = None
char_number (suc n) = Some (suc n)

-- r is the number n, at most `most`, that the byte b stands for
pub record CharOf (most n b : ℕ) (r : Option ℕ) : Type 0 where
  pub is : r ≡ char_number n
  pub small : n ≤ most
  pub from_byte : n ≤ b

-- a digit's value, one less than its number, where 0 stands for none
unfoldable pub digit_value : ℕ → Option ℕ
digit_value zero = None
digit_value (suc n) = Some n

-- r is the value of the digit that the byte b stands for
pub record DigitOf (b : ℕ) (r : Option ℕ) : Type 0 where
  pub is : r ≡ digit_value (digit b)
  pub small : digit b ≤ 10
  pub from_byte : digit b ≤ b

-- whether the first list stands at the beginning of the second
unfoldable pub begins : List ℕ → List ℕ → Bool
begins [] l = true
begins (b ∷ w) [] = false
begins (b ∷ w) (a ∷ l) = when (eqb a b) (begins w l) false

-- whether it stands at a place
unfoldable pub stands_at : List ℕ → List ℕ → ℕ → Bool
stands_at w s at = when (leb (at + length w) (length s)) (begins w (drop at s)) false

-- ---- words, numbers, expressions

-- the place after what was read
unfoldable pub place : {A : Type 0} → Got A → Option ℕ
place none = None
place (got x n) = Some n

-- the place after `)` and LF
abbrev pub closed : List ℕ → ℕ → Option ℕ
closed s at = place (closing {A = Unit {0}} tt s at)

-- the place n after a line that stands at a place, if it has at most 200 bytes
abbrev pub short_end : ℕ → ℕ → Option ℕ
short_end at n = place {A = Unit {0}} (limit at (got tt n))

-- a word by its code
unfoldable pub coded : Got Word → Option (ℕ × ℕ)
coded none = None
coded (got w n) = Some (code_of w, n)

-- the digits ds, which stand at a place, after digits that made the number `before`
abbrev pub digits_read : ℕ → List ℕ → ℕ → DigitsRead
digits_read before ds at = record { value = decimal_from before ds; count = length ds; end = at + length ds }

-- a NUM by all its digits as one number and how many of them stand behind the point
abbrev pub numeral_of : Num → ℕ → Numeral
numeral_of q n = record { minus = q.minus; digits = num_digits q; behind = length q.part; end = n }

unfoldable pub counted : Got Num → Option Numeral
counted none = None
counted (got q n) = Some (numeral_of q n)

-- what is read as a NUM by its double
unfoldable pub doubled_by : {A : Type 0} → (A → Num) → Got A → Option (Float × ℕ)
doubled_by f none = None
doubled_by f (got q n) = Some (num_value (f q), n)

abbrev pub doubled : Got Num → Option (Float × ℕ)
doubled o = doubled_by (λ q. q) o

-- a NUM without a minus
abbrev pub unsigned_double : Got Unsigned → Option (Float × ℕ)
unsigned_double o = doubled_by signless o

-- ---- lines

-- the word w, which stands at a place
abbrev pub name_at : Word → ℕ → NameAt
name_at w at = record { code = code_of w; from = at; end = at + length w }

unfoldable pub named_at : ℕ → Got Word → Option (NameAt × ℕ)
named_at at none = None
named_at at (got w n) = Some (name_at w at, n)

-- what the code answers of what a row reads behind the word that opens a line, up to n: a let with its word and the place of its expression, or a line read whole and the place of the next one; a let is never read whole
unfoldable pub head_told : ℕ → Got Begun → Option LineHead
head_told n none = None
head_told n (got (let_word w) m) = Some (LineHead.Let (name_at w (n + 1)) m)
head_told n (got (whole (show_line w)) m) = Some (LineHead.Whole (WholeLine.Show (name_at w (n + 1))) m)
head_told n (got (whole total_line) m) = Some (LineHead.Whole WholeLine.Total m)
head_told n (got (whole (apart_line q)) m) = Some (LineHead.Whole (WholeLine.Apart (num_value (signless q))) m)
head_told n (got (whole (let_line w x)) m) = None

-- a line without parts, by what was read of its end
unfoldable pub bare_head : WholeLine → Option ℕ → Option LineHead
bare_head y None = None
bare_head y (Some n) = Some (LineHead.Whole y n)

unfoldable pub head_opened : List ℕ → Got Word → Option LineHead
head_opened s none = None
head_opened s (got k n) = head_told n (from_rows line_rows (code_of k) s n)

-- the head of the line at a place
abbrev pub line_head : List ℕ → ℕ → Option LineHead
line_head s at = head_opened s (opening s at)

-- the code has this of the line l, which was read whole
abbrev pub WholeIn : List ℕ → WholeLine → Line → Type 0
WholeIn s (WholeLine.Show name) l = (w : Word) × (read_word s name.from ≡ got w name.end) × (code_of w ≡ name.code) × (l ≡ show_line w)
WholeIn s WholeLine.Total l = l ≡ total_line
WholeIn s (WholeLine.Apart x) l = (q : Unsigned) × (num_value (signless q) ≡ x) × (l ≡ apart_line q)

-- line 1: its two numbers as doubles, where it has them, and the place of the next line
unfoldable pub head_of : Got Head → Option (HeadLine × ℕ)
head_of none = None
head_of (got wgs84 n) = Some (HeadLine.Wgs84, n)
head_of (got (custom p q) n) = Some (HeadLine.Custom (num_value p) (num_value q), n)

-- ---- the sheet

-- the number of the last line, or the first that is not of the grammar, where the lines from line i on come to this
unfoldable pub lines_form : ℕ → Form (List Line) → Result ℕ ℕ
lines_form i (formed ls) = Ok (i - 1 + length ls)
lines_form i (bad_line j) = Err j

-- how many lines it has, or the first that is not of the grammar
unfoldable pub form_of : Form Sheet → Result ℕ ℕ
form_of (formed c) = Ok (length c.lines + 1)
form_of (bad_line i) = Err i
