-- The grammar of sheets, after document 01, "Following one sheet: its bytes".
-- The bytes of a sheet are what its tree prints, and each part of the tree is in shape. A printer says where brackets, single spaces and line ends
-- stand; a shape says what a part may be. Which words open an expression is no part of the grammar, nor is the size of a sheet, refusal 1.
use Rattle.std.specs.Prelude.{◌≡◌, ◌⊎◌, List, [], ◌∷◌, Bool, true, false, ℕ, zero, suc, ◌+◌, ◌≤◌, length}
use Rattle.sheets.specs.Text.{Word, ascii, ◌⌢◌, lf}
use Rattle.sheets.specs.Trees.{Num, signless, Expr, Exprs, word_expr, num_expr, form_expr, nil, ◌▸◌, Line, let_line, show_line, total_line, apart_line, Head, wgs84, custom, Sheet}

-- the bytes a to z, and 0 to 9
abbrev pub Letter : ℕ → Type 0
Letter c = (97 ≤ c) × (c ≤ 122)

abbrev pub Digit : ℕ → Type 0
Digit c = (48 ≤ c) × (c ≤ 57)

-- every byte is such a one
abbrev pub Each : (ℕ → Type 0) → List ℕ → Type 0
Each P [] = Unit {0}
Each P (c ∷ s) = P c × Each P s

-- ---- WORD: a letter a-z, then up to 11 of a-z, 0-9.
abbrev pub IsWord : Word → Type 0
IsWord [] = ⊥
IsWord (c ∷ w) = Letter c × Each (λ b. Letter b ⊎ Digit b) w × (length w ≤ 11)

-- ---- NUM: optional `-`, 1 to 9 digits, optionally `.` and 1 to 6 digits. (Its number is said in Trees.antt.)
abbrev pub sign : Bool → List ℕ
sign true = ascii "-"
sign false = []

abbrev pub point : List ℕ → List ℕ
point [] = []
point (c ∷ s) = ascii "." ⌢ c ∷ s

abbrev pub print_num : Num → List ℕ
print_num q = sign q.minus ⌢ q.whole ⌢ point q.part

abbrev pub IsNum : Num → Type 0
IsNum q = Each Digit q.whole × (1 ≤ length q.whole) × (length q.whole ≤ 9) × Each Digit q.part × (length q.part ≤ 6)

-- ---- EXPR is a WORD, a NUM, or `(` WORD, then no to five times a space and an EXPR, `)`.
abbrev mutual
  pub print : Expr → List ℕ
  print (word_expr w) = w
  print (num_expr q) = print_num q
  print (form_expr w xs) = ascii "(" ⌢ w ⌢ print_args xs

  pub print_args : Exprs → List ℕ
  print_args nil = ascii ")"
  print_args (x ▸ xs) = ascii " " ⌢ print x ⌢ print_args xs

-- an EXPR whose brackets nest at most d deep; at most k such EXPRs
abbrev mutual
  pub IsExpr : ℕ → Expr → Type 0
  IsExpr d (word_expr w) = IsWord w
  IsExpr d (num_expr q) = IsNum q
  IsExpr zero (form_expr w xs) = ⊥
  IsExpr (suc d) (form_expr w xs) = IsWord w × AreArgs d 5 xs

  pub AreArgs : ℕ → ℕ → Exprs → Type 0
  AreArgs d k nil = Unit {0}
  AreArgs d zero (x ▸ xs) = ⊥
  AreArgs d (suc k) (x ▸ xs) = IsExpr d x × AreArgs d k xs

-- ---- Each line is a bracket, said below for each line, ended by LF
abbrev pub ended : Expr → List ℕ
ended x = print x ⌢ lf

-- Brackets nest at most 12 deep, the line's own included; and a line has at most 200 bytes, with its LF.
abbrev pub IsEnded : Expr → Type 0
IsEnded x = IsExpr 12 x × (length (ended x) ≤ 200)

-- Line 1 is `(ellipsoid wgs84)` or `(ellipsoid NUM NUM)`.
abbrev pub head_bracket : Head → Expr
head_bracket wgs84 = form_expr (ascii "ellipsoid") (word_expr (ascii "wgs84") ▸ nil)
head_bracket (custom q r) = form_expr (ascii "ellipsoid") (num_expr q ▸ num_expr r ▸ nil)

abbrev pub print_head : Head → List ℕ
print_head h = ended (head_bracket h)

abbrev pub IsHead : Head → Type 0
IsHead h = IsEnded (head_bracket h)

-- Every other line is `(let WORD EXPR)`, `(show WORD)` or, by document 02, `(total)`, request Two, or `(apart NUM)`, request Three, whose NUM has no minus.
abbrev pub line_bracket : Line → Expr
line_bracket (let_line w x) = form_expr (ascii "let") (word_expr w ▸ x ▸ nil)
line_bracket (show_line w) = form_expr (ascii "show") (word_expr w ▸ nil)
line_bracket total_line = form_expr (ascii "total") nil
line_bracket (apart_line q) = form_expr (ascii "apart") (num_expr (signless q) ▸ nil)

abbrev pub print_line : Line → List ℕ
print_line l = ended (line_bracket l)

abbrev pub IsLine : Line → Type 0
IsLine l = IsEnded (line_bracket l)

-- ---- Which lines may stand where. It goes by a phase: 0 directly after line 1, and then what `after` gives for the line before.
-- So far every line may stand anywhere, and every line but line 2 is in the phase 1; a line that may not gets its clause here.
unfoldable pub allowed : ℕ → Line → Bool
allowed p l = true

unfoldable pub after : ℕ → Line → ℕ
after p l = 1

-- ---- A sheet has 1 to 96 lines.
abbrev pub print_lines : List Line → List ℕ
print_lines [] = []
print_lines (l ∷ ls) = print_line l ⌢ print_lines ls

-- lines of which the first stands in the phase p, and the phase after them
abbrev pub AreLines : ℕ → List Line → Type 0
AreLines p [] = Unit {0}
AreLines p (l ∷ ls) = IsLine l × (allowed p l ≡ true) × AreLines (after p l) ls

unfoldable pub after_all : ℕ → List Line → ℕ
after_all p [] = p
after_all p (l ∷ ls) = after_all (after p l) ls

abbrev pub print_sheet : Sheet → List ℕ
print_sheet c = print_head c.head ⌢ print_lines c.lines

abbrev pub IsSheet : Sheet → Type 0
IsSheet c = IsHead c.head × AreLines 0 c.lines × (length c.lines ≤ 95)

-- the bytes s are the sheet c
abbrev pub Written : List ℕ → Sheet → Type 0
Written s c = (s ≡ print_sheet c) × IsSheet c

-- ---- Refusal 3: some line breaks the grammar; the first such line, or line 97.

-- the bytes begin with a line 1, or with another line that may stand in the phase p
abbrev pub HeadBegins : List ℕ → Type 0
HeadBegins s = (h : Head) × (r : List ℕ) × (s ≡ print_head h ⌢ r) × IsHead h

abbrev pub LineBegins : ℕ → List ℕ → Type 0
LineBegins p s = (l : Line) × (r : List ℕ) × (s ≡ print_line l ⌢ r) × IsLine l × (allowed p l ≡ true)

-- Line j is the first that breaks the grammar. At line 1: no line 1 begins the bytes. At a later line: the lines before it are a sheet c,
-- something follows, and no line begins it. At line 97: something follows 96 lines.
pub data FirstBad : List ℕ → ℕ → Type 0 where
  at_head : {s : List ℕ} → ¬ (HeadBegins s) → FirstBad s 1
  at_line : {s : List ℕ} (c : Sheet) (b : ℕ) (r : List ℕ) → s ≡ print_sheet c ⌢ (b ∷ r) → IsSheet c → ¬ (LineBegins (after_all 0 c.lines) (b ∷ r)) → FirstBad s (length c.lines + 2)
  at_97 : {s : List ℕ} (c : Sheet) (b : ℕ) (r : List ℕ) → s ≡ print_sheet c ⌢ (b ∷ r) → IsSheet c → length c.lines ≡ 95 → FirstBad s 97

-- ---- What the grammar makes of bytes: the sheet that they are, or the first line that breaks it; one of the two, and only one (proofs/reader/FormLaws.antt).
pub data Form (A : Type 0) : Type 0 where
  formed : A → Form A
  bad_line : ℕ → Form A

abbrev pub Reads : List ℕ → Form Sheet → Type 0
Reads s (formed c) = Written s c
Reads s (bad_line j) = FirstBad s j
