-- What the pieces of the check answer, said of the walk of Check.antt over what the reader of Reader.antt reads.
-- No part of what must be believed: they only tie the code to the definitions.
use Rattle.std.specs.Prelude.{ℕ, zero, suc, ◌+◌, ◌≤◌, ◌≡◌, Bool, List, [], ◌∷◌, map, eqb, leb, length, get_or, take, Option, Some, None, Result, Ok, Err}
use mir.Val.{has_key}
use Rattle.frames.specs.declared.Ellipsoid.{Ellipsoid}
use Rattle.sheets.specs.Text.{Word}
use Rattle.sheets.specs.Trees.{Expr, Exprs, Line, let_line, show_line, total_line, apart_line, numbered}
use Rattle.sheets.specs.Grammar.{IsWord}
use Rattle.sheets.specs.code.reader.Codes.{code_of}
use Rattle.sheets.specs.code.reader.Reader.{Got, got, read_args, read_expr, read_head, Form, formed, bad_line, read_lines}
use Rattle.sheets.specs.code.reader.Views.{WholeIn}
use Rattle.sheets.specs.Kinds.{Kind, kind_code}
use Rattle.sheets.specs.Table.{when}
use Rattle.sheets.specs.Names.{Known, lookup, barred, reading_words}
use Rattle.sheets.specs.code.check.Newest.{search_from, Newest}
use Rattle.sheets.specs.declared.check.names.Names.{Names}
use Rattle.sheets.specs.code.rows.KindCodes.{code_if, key_from}
use Rattle.sheets.specs.Scopes.{Scope}
use Rattle.sheets.specs.Refusals.{Refusal, form, fault, Checked, fine, bad}
use Rattle.sheets.specs.code.Refusals.{code_for}
use Rattle.sheets.specs.declared.refusals.Refusal.{Refusal as Code}
use Rattle.sheets.specs.declared.refusals.Refused.{Refused}
use Rattle.sheets.specs.Check.{kind_of_expr, kinds_of_exprs, lineᶜ, Walked, passes, refuses, stepsᶜ, startᶜ}
use Rattle.sheets.specs.Machine.{surface}
use Rattle.sheets.specs.Answers.{Verdict, admitted, refused}
use Rattle.sheets.specs.declared.reader.lines.WholeLine.{WholeLine}
use Rattle.sheets.specs.declared.check.admit.LineKind.{LineKind}
use Rattle.sheets.specs.declared.check.admit.Admission.{Admission}

-- ---- the words of the lines passed: line i + 1 has the word with the code at the place i, of the kind with the code there

-- the kind code of a reading by its word's code
unfoldable pub reading_kind : ℕ → Option ℕ
reading_kind c = when (has_key (map code_of reading_words) c) (Some 0) None

-- the kind code of the word with this code by the lines after line 1, the newest first, and then the readings
unfoldable pub kind_from : Names → ℕ → ℕ → Option ℕ
kind_from names zero c = reading_kind c
kind_from names (suc n) c = when (eqb (get_or names.words (suc n) 0) c) (Some (get_or names.kinds (suc n) 0)) (kind_from names n c)

unfoldable pub kind_found : Names → ℕ → Option ℕ
kind_found names c = kind_from names (search_from names c) c

-- so many lines passed stand for the known words ps
pub record Stands (names : Names) (passed : ℕ) (ps : Known Kind) : Type 0 where
  pub from : Newest names passed
  pub is : (w : Word) → IsWord w → kind_from names passed (code_of w) ≡ code_if (lookup w ps)

abbrev pub Standing : Names → Known Kind → Type 0
Standing names ps = (passed : ℕ) × Stands names passed ps

pub record ForKnown (names : Names) (P : Known Kind → Type 0) : Type 0 where
  pub is : (ps : Known Kind) → Standing names ps → P ps

-- ---- expressions

-- a kind's code and the place after the expression, or the refusal
unfoldable pub kind_said : Checked Kind → ℕ → Result (ℕ × ℕ) Code
kind_said (fine k) n = Ok (kind_code k, n)
kind_said (bad f) n = Err (code_for (fault f))

-- r answers the expression that the reader reads at a place, and refuses where it reads none
pub record ExprHas (s : List ℕ) (at depth : ℕ) (ps : Known Kind) (r : Result (ℕ × ℕ) Code) : Type 0 where
  pub is : (x : Expr) (n : ℕ) → read_expr depth s at ≡ got x n → r ≡ kind_said (kind_of_expr x ps) n
  pub read : (k n : ℕ) → r ≡ Ok (k, n) → (x : Expr) × (read_expr depth s at ≡ got x n)

-- the same where no bracket stands
pub record LeafHas (s : List ℕ) (at : ℕ) (ps : Known Kind) (r : Result (ℕ × ℕ) Code) : Type 0 where
  pub is : (get_or s at 0 ≡ 40 → ⊥) → (depth : ℕ) → ExprHas s at depth ps r

-- the key of the kinds, after those that made `key`
unfoldable pub key_said : ℕ → Checked (List Kind) → ℕ → Result (ℕ × ℕ) Code
key_said key (fine ks) n = Ok (key_from key ks, n)
key_said key (bad f) n = Err (code_for (fault f))

-- r answers the arguments that the reader reads at a place, at most `left`, and refuses where it reads none
pub record ArgsHave (s : List ℕ) (at depth left key : ℕ) (ps : Known Kind) (r : Result (ℕ × ℕ) Code) : Type 0 where
  pub is : (xs : Exprs) (n : ℕ) → read_args (read_expr depth s) left s at ≡ got xs n → r ≡ key_said key (kinds_of_exprs xs ps) n
  pub read : (k n : ℕ) → r ≡ Ok (k, n) → (xs : Exprs) × (read_args (read_expr depth s) left s at ≡ got xs n)

-- ---- lines

-- the word that stands for a line in the table: none, [], where it gives and names no word
abbrev pub line_word : Line → Word
line_word (let_line w x) = w
line_word (show_line w) = w
line_word total_line = []
line_word (apart_line q) = []

-- the lines passed stand for the words that the scope knows; the line is line i, whatever i is
pub record ForScope (names : Names) (P : ℕ → Scope Kind → Type 0) : Type 0 where
  pub is : (i : ℕ) (c : Scope Kind) → Standing names c.known → P i c

-- the code of the line's word, its kind code and the place of the next line, or the refusal
unfoldable pub line_said : Word → Checked (ℕ × Scope Kind) → ℕ → Result LineKind Code
line_said w (fine p) n = Ok (record { code = code_of w; kind = p.0; next = n })
line_said w (bad f) n = Err (code_for (fault f))

-- r answers the line that the reader reads, and refuses where it reads none
pub record LineHas (o : Got Line) (i : ℕ) (c : Scope Kind) (r : Result LineKind Code) : Type 0 where
  pub is : (l : Line) (n : ℕ) → o ≡ got l n → r ≡ line_said (line_word l) (lineᶜ i c l) n
  pub read : (q : LineKind) → r ≡ Ok q → (l : Line) × (o ≡ got l q.next)

-- r answers what the reader reads of a line whose word, of this code, it has read
pub record WordHas (code : ℕ) (o : Word → Got Line) (i : ℕ) (c : Scope Kind) (r : Result LineKind Code) : Type 0 where
  pub is : (w : Word) → IsWord w → code_of w ≡ code → LineHas (o w) i c r

-- r answers a line that is read whole, where the next one stands at `next`
pub record WholeHas (line : WholeLine) (next i : ℕ) (c : Scope Kind) (r : Result LineKind Code) : Type 0 where
  pub is : (s : List ℕ) (l : Line) → WholeIn s line l → LineHas (got l next) i c r

-- refusal 3 for a line at a place that has more than 200 bytes
unfoldable pub short_kind : ℕ → Result LineKind Code → Result LineKind Code
short_kind at (Err f) = Err f
short_kind at (Ok q) = when (leb q.next (at + 200)) (Ok q) (Err Code.Form)

-- r tells whether the word with this code cannot be given
pub record BarredWord (code : ℕ) (ps : Known Kind) (r : Bool) : Type 0 where
  pub is : (w : Word) → IsWord w → code_of w ≡ code → r ≡ barred w ps

-- ---- a sheet

-- what a sheet is answered
abbrev pub Outcome : Type 0
Outcome = Result Admission Refused

-- as many lines as kind codes, this ellipsoid and this place of line 2; and these codes
abbrev pub Passing : List ℕ → Ellipsoid → ℕ → Outcome → Type 0
Passing cs e at a = (codes : List ℕ) × (a ≡ Ok (record { lines = length cs; ellipsoid = e; start = at; codes = codes })) × (length cs ≤ 96) × (take (length cs) codes ≡ cs)

-- the refusal and its line
abbrev pub Refusing : Refusal → ℕ → Outcome → Type 0
Refusing f j a = a ≡ Err (record { refusal = code_for f; line = j })

unfoldable pub Walks : Walked → Ellipsoid → ℕ → Outcome → Type 0
Walks (passes cs) e at a = Passing (255 ∷ cs) e at a
Walks (refuses f j) e at a = Refusing (fault f) j a

-- a answers the lines from line 2, which stands at this place, by what the reader makes of them
unfoldable pub LinesWalk : Form (List Line) → Ellipsoid → ℕ → Outcome → Type 0
LinesWalk (formed ls) e at a = Walks (stepsᶜ (numbered 2 ls) startᶜ) e at a
LinesWalk (bad_line j) e at a = Refusing form j a

-- the refusal of a line, unless the form pass met a line that is not of the grammar
unfoldable pub unless_bad : Result ℕ ℕ → Refused → Refused
unless_bad (Err j) r = record { refusal = Code.Form; line = j }
unless_bad (Ok n) r = r

-- a answers a whole sheet: refusals 3 to 6, or the kind code of each line, the ellipsoid and the place of line 2, which is where line 1 ends
unfoldable pub Admits : List ℕ → Verdict → Outcome → Type 0
Admits s (admitted c cs) a = (at : ℕ) × (read_head s ≡ got c.head at) × (read_lines 95 2 0 s at ≡ formed c.lines) × Passing cs (surface c.head) at a
Admits s (refused f j) a = Refusing f j a
