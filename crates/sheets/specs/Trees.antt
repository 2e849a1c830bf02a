-- Sheets as trees: the words and numbers of a sheet, without its brackets, spaces and line ends.
use Rattle.std.specs.Prelude.{List, [], ◌∷◌, ◌++◌, Bool, false, ℕ, suc, ◌+◌, ◌-◌, ◌*◌}
pub use Rattle.sheets.specs.Text.{Word}

infixr 40 ◌▸◌
-- a NUM: a minus sign or none, the digits before the point, and those behind it (without any there is no point)
pub record Num : Type 0 where
  pub minus : Bool
  pub whole : List ℕ
  pub part : List ℕ

-- a NUM without a minus, and as a NUM
pub record Unsigned : Type 0 where
  pub whole : List ℕ
  pub part : List ℕ

abbrev pub signless : Unsigned → Num
signless q = record { minus = false; whole = q.whole; part = q.part }

-- digits as one decimal number, after those that made the number n
unfoldable pub decimal_from : ℕ → List ℕ → ℕ
decimal_from n [] = n
decimal_from n (b ∷ ds) = decimal_from (n * 10 + (b - 48)) ds

-- all digits of a NUM as one number, sign and point left out: 1250 for -12.50
abbrev pub num_digits : Num → ℕ
num_digits q = decimal_from 0 (q.whole ++ q.part)

-- an EXPR: a WORD, a NUM, or a bracket, which is a WORD and its arguments
mutual
  pub data Expr : Type 0 where
    word_expr : Word → Expr
    num_expr : Num → Expr
    form_expr : Word → Exprs → Expr

  pub data Exprs : Type 0 where
    nil : Exprs
    ◌▸◌ : Expr → Exprs → Exprs

-- line 1: the ellipsoid WGS84, or one by its equatorial radius in metres and its inverse flattening
pub data Head : Type 0 where
  wgs84 : Head
  custom : Num → Num → Head

-- every other line; the total and the apart are document 02's, requests Two and Three
pub data Line : Type 0 where
  let_line : Word → Expr → Line
  show_line : Word → Line
  total_line : Line
  apart_line : Unsigned → Line

pub record Sheet : Type 0 where
  pub head : Head
  pub lines : List Line

-- a line with its number, and lines counted from line i on
abbrev pub Numbered : Type 0
Numbered = ℕ × Line

abbrev pub numbered : ℕ → List Line → List Numbered
numbered i [] = []
numbered i (l ∷ ls) = (i, l) ∷ numbered (suc i) ls
