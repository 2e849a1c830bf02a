-- A reader of sheets, by places: the byte at a place is 0 past the end, which is no token's byte.
-- No part of what must be believed: that it reads exactly what the grammar says is proved (proofs/reader/SheetLaws.antt), and the code is proved against it.
use Rattle.std.specs.Prelude.{ℕ, zero, suc, ◌+◌, Bool, true, false, List, [], ◌∷◌, eqb, leb, length, get_or}
use Prim.Native.String.{String}
use Rattle.sheets.specs.Text.{Word, ascii}
use Rattle.sheets.specs.Trees.{Num, Unsigned, Expr, Exprs, word_expr, num_expr, form_expr, nil, ◌▸◌, Line, let_line, show_line, total_line, apart_line, Head, wgs84, custom, Sheet}
use Rattle.sheets.specs.Grammar.{allowed, after}
pub use Rattle.sheets.specs.Grammar.{Form, formed, bad_line}
use Rattle.sheets.specs.code.reader.Codes.{letter, word_char, digit, code_from, code_of}

infixr 20 ◌then◌ ◌or◌ ◌thenᶠ◌
-- what was read and the place after it
pub data Got (A : Type 0) : Type 0 where
  none : Got A
  got : A → ℕ → Got A

unfoldable pub ◌then◌ : {A B : Type 0} → Got A → (A → ℕ → Got B) → Got B
none then k = none
(got x n) then k = k x n

-- ---- tokens

unfoldable pub chars_if : Bool → ℕ → (ℕ → List ℕ) → ℕ → List ℕ
chars_if true b rest at = []
chars_if false b rest at = b ∷ rest (at + 1)

-- the bytes from a place on, at most k, that f gives a number
unfoldable pub chars : (ℕ → ℕ) → ℕ → List ℕ → ℕ → List ℕ
chars f zero s at = []
chars f (suc k) s at = chars_if (eqb (f (get_or s at 0)) 0) (get_or s at 0) (chars f k s) at

unfoldable pub word_if : Bool → List ℕ → ℕ → Got Word
word_if true s at = none
word_if false s at = let w = get_or s at 0 ∷ chars word_char 11 s (at + 1) in got w (at + length w)

unfoldable pub read_word : List ℕ → ℕ → Got Word
read_word s at = word_if (eqb (letter (get_or s at 0)) 0) s at

unfoldable pub part_end : Bool → List ℕ → List ℕ → ℕ → Got Num
part_end m w [] at = none
part_end m w (c ∷ t) at = got (record { minus = m; whole = w; part = c ∷ t }) (at + length (c ∷ t))

unfoldable pub part_if : Bool → Bool → List ℕ → List ℕ → ℕ → Got Num
part_if true m w s at = part_end m w (chars digit 6 s (at + 1)) (at + 1)
part_if false m w s at = got (record { minus = m; whole = w; part = [] }) at

unfoldable pub whole_step : Bool → List ℕ → List ℕ → ℕ → Got Num
whole_step m [] s at = none
whole_step m (c ∷ w) s at = let n = at + length (c ∷ w) in part_if (eqb (get_or s n 0) 46) m (c ∷ w) s n

-- the digits and the point, after a sign or none
unfoldable pub read_whole : Bool → List ℕ → ℕ → Got Num
read_whole m s at = whole_step m (chars digit 9 s at) s at

unfoldable pub sign_if : Bool → List ℕ → ℕ → Got Num
sign_if true s at = read_whole true s (at + 1)
sign_if false s at = read_whole false s at

unfoldable pub read_num : List ℕ → ℕ → Got Num
read_num s at = sign_if (eqb (get_or s at 0) 45) s at

-- a NUM without a minus
unfoldable pub read_unsigned : List ℕ → ℕ → Got Unsigned
read_unsigned s at = read_whole false s at then (λ q n. got (record { whole = q.whole; part = q.part }) n)

-- ---- expressions

unfoldable pub args_step : Bool → Bool → (ℕ → Got Expr) → (ℕ → Got Exprs) → ℕ → Got Exprs
args_step true space expr rest at = got nil (at + 1)
args_step false true expr rest at = expr (at + 1) then (λ x n. rest n then (λ xs m. got (x ▸ xs) m))
args_step false false expr rest at = none

-- at most k arguments, each read by `expr`, and the closing bracket
unfoldable pub read_args : (ℕ → Got Expr) → ℕ → List ℕ → ℕ → Got Exprs
read_args expr zero s at = args_step (eqb (get_or s at 0) 41) false expr (λ n. none) at
read_args expr (suc k) s at = args_step (eqb (get_or s at 0) 41) (eqb (get_or s at 0) 32) expr (read_args expr k s) at

unfoldable pub or_num : Got Word → Got Num → Got Expr
or_num (got w n) q = got (word_expr w) n
or_num none q = q then (λ x n. got (num_expr x) n)

unfoldable pub read_leaf : List ℕ → ℕ → Got Expr
read_leaf s at = or_num (read_word s at) (read_num s at)

unfoldable pub expr_step : Bool → (ℕ → Got Exprs) → List ℕ → ℕ → Got Expr
expr_step true args s at = read_word s (at + 1) then (λ w n. args n then (λ xs m. got (form_expr w xs) m))
expr_step false args s at = read_leaf s at

-- the expression at a place, with d brackets left
unfoldable pub read_expr : ℕ → List ℕ → ℕ → Got Expr
read_expr zero s at = expr_step (eqb (get_or s at 0) 40) (λ n. none) s at
read_expr (suc d) s at = expr_step (eqb (get_or s at 0) 40) (read_args (read_expr d s) 5 s) s at

-- ---- lines

unfoldable pub or_else : {A : Type 0} → Bool → (ℕ → Got A) → (ℕ → Got A) → ℕ → Got A
or_else true f g n = f n
or_else false f g n = g n

abbrev pub nothing : {A : Type 0} → ℕ → Got A
nothing n = none

-- `(` and a word; a space and what f reads; `)` and LF
unfoldable pub opening : List ℕ → ℕ → Got Word
opening s at = or_else (eqb (get_or s at 0) 40) (λ n. read_word s (n + 1)) nothing at

unfoldable pub spaced : {A : Type 0} → (ℕ → Got A) → List ℕ → ℕ → Got A
spaced f s at = or_else (eqb (get_or s at 0) 32) (λ n. f (n + 1)) nothing at

unfoldable pub closing : {A : Type 0} → A → List ℕ → ℕ → Got A
closing x s at = or_else (eqb (get_or s at 0) 41) (or_else (eqb (get_or s (at + 1) 0) 10) (λ n. got x (n + 2)) nothing) nothing at

-- at most 200 bytes
unfoldable pub limit : {A : Type 0} → ℕ → Got A → Got A
limit at none = none
limit at (got x n) = or_else (leb n (at + 200)) (got x) nothing n

-- a part and what follows it; the first part and the space before the next; one part, or two, and the end
unfoldable pub more : {A B : Type 0} → (List ℕ → ℕ → Got B) → (B → List ℕ → ℕ → Got A) → List ℕ → ℕ → Got A
more f k s at = spaced (f s) s at then (λ v n. k v s n)

abbrev pub first : {A B : Type 0} → (List ℕ → ℕ → Got B) → (B → A) → List ℕ → ℕ → Got A
first f begun = more f (λ v. spaced (got (begun v)))

abbrev pub one : {A B : Type 0} → (List ℕ → ℕ → Got B) → (B → A) → List ℕ → ℕ → Got A
one f line = more f (λ v. closing (line v))

abbrev pub two : {A B C : Type 0} → (List ℕ → ℕ → Got B) → (List ℕ → ℕ → Got C) → (B → C → A) → List ℕ → ℕ → Got A
two f g line = more f (λ v. one g (line v))

-- this word
unfoldable pub read_the : Word → List ℕ → ℕ → Got (Unit {0})
read_the v s at = read_word s at then (λ w n. or_else (eqb (code_of w) (code_of v)) (got tt) nothing n)

unfoldable pub ◌or◌ : {A : Type 0} → Got A → Got A → Got A
none or o = o
(got x n) or o = got x n

-- a line's word, and what reads on behind it
pub record Row (A : Type 0) : Type 0 where
  pub opener : Word
  pub parts : List ℕ → ℕ → Got A

abbrev pub row : {A : Type 0} → String → (List ℕ → ℕ → Got A) → Row A
row k f = record { opener = ascii k; parts = f }

-- by the row of the word with this code
unfoldable pub from_rows : {A : Type 0} → List (Row A) → ℕ → List ℕ → ℕ → Got A
from_rows [] k s at = none
from_rows (r ∷ rs) k s at = or_else (eqb k (code_of r.opener)) (r.parts s) (from_rows rs k s) at

unfoldable pub read_rows : {A : Type 0} → List (Row A) → List ℕ → ℕ → Got A
read_rows rs s at = opening s at then (λ k n. from_rows rs (code_of k) s n)

-- ---- line 1

unfoldable pub head_rows : List (Row Head)
head_rows = row "ellipsoid" (λ s at. one (read_the (ascii "wgs84")) (λ u. wgs84) s at or two read_num read_num custom s at) ∷ []

unfoldable pub read_head : List ℕ → Got Head
read_head s = limit 0 (read_rows head_rows s 0)

-- ---- the lines after it

-- a line up to a let's expression, or whole: every other form is read to its end
pub data Begun : Type 0 where
  let_word : Word → Begun
  whole : Line → Begun

unfoldable pub whole_rows : List (Row Begun)
whole_rows =
    row "show" (one read_word (λ w. whole (show_line w)))
    ∷ row "total" (closing (whole total_line))
    ∷ row "apart" (one read_unsigned (λ q. whole (apart_line q)))
    ∷ []

unfoldable pub line_rows : List (Row Begun)
line_rows = row "let" (first read_word let_word) ∷ whole_rows

unfoldable pub read_begun : List ℕ → ℕ → Got Begun
read_begun s at = read_rows line_rows s at

-- what is left of a line: a let's expression and the end
unfoldable pub rest : List ℕ → Begun → ℕ → Got Line
rest s (let_word w) n = read_expr 11 s n then (λ x m. closing (let_line w x) s m)
rest s (whole l) n = got l n

unfoldable pub read_line : List ℕ → ℕ → Got Line
read_line s at = limit at (read_begun s at then rest s)

-- the line at a place, if it may stand there
unfoldable pub permitted : ℕ → Got Line → Got Line
permitted p none = none
permitted p (got l n) = or_else (allowed p l) (got l) nothing n

abbrev pub read_in : ℕ → List ℕ → ℕ → Got Line
read_in p s at = permitted p (read_line s at)

-- ---- sheets

unfoldable pub ◌thenᶠ◌ : {A B : Type 0} → Form A → (A → Form B) → Form B
(formed x) thenᶠ k = k x
(bad_line i) thenᶠ k = bad_line i

unfoldable pub lines_step : Bool → ℕ → Got Line → (Line → ℕ → Form (List Line)) → Form (List Line)
lines_step true i l rest = formed []
lines_step false i none rest = bad_line i
lines_step false i (got l n) rest = rest l n thenᶠ (λ ls. formed (l ∷ ls))

-- line i is at this place, in the phase p, and at most k lines may follow
unfoldable pub read_lines : ℕ → ℕ → ℕ → List ℕ → ℕ → Form (List Line)
read_lines zero i p s at = lines_step (leb (length s) at) i none (λ l n. bad_line i)
read_lines (suc k) i p s at = lines_step (leb (length s) at) i (read_in p s at) (λ l. read_lines k (i + 1) (after p l) s)

unfoldable pub sheet_step : Got Head → (ℕ → Form (List Line)) → Form Sheet
sheet_step none rest = bad_line 1
sheet_step (got h n) rest = rest n thenᶠ (λ ls. formed (record { head = h; lines = ls }))

unfoldable pub read_sheet : List ℕ → Form Sheet
read_sheet s = sheet_step (read_head s) (read_lines 95 2 0 s)

-- `unfolding reading` under a theorem's signature has the reader computed.
unfoldable pub reading : Bool
unfolding letter word_char digit code_from ◌then◌ chars_if chars word_if read_word part_end part_if whole_step read_whole sign_if read_num read_unsigned args_step read_args or_num read_leaf expr_step read_expr or_else opening spaced closing limit more read_the ◌or◌ from_rows read_rows head_rows read_head whole_rows line_rows read_begun rest read_line allowed after permitted ◌thenᶠ◌ lines_step read_lines sheet_step read_sheet
reading = true
