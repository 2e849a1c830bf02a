-- The check's walk of refusals 5 and 6: names and kinds from the sheet alone, in the machine's order.
use Rattle.std.specs.Prelude.{List, [], ◌∷◌, ◌++◌, map, ℕ}
use Rattle.sheets.specs.Trees.{Expr, Exprs, word_expr, num_expr, form_expr, nil, ◌▸◌, Line, let_line, show_line, total_line, apart_line, Sheet, Numbered, numbered}
use Rattle.sheets.specs.Kinds.{Kind, number, kind_code}
use Rattle.sheets.specs.Table.{table}
use Rattle.sheets.specs.Lookup.{find_kind}
use Rattle.sheets.specs.Names.{Known, given_on, lookup, reading_words}
use Rattle.sheets.specs.Scopes.{Scope, opened, give}
use Rattle.sheets.specs.Refusals.{Fault, name, kind, Checked, fine, bad, thenᶜ, known?}

-- a NUM is n, a known word has its kind, a bracket that of the row which fits its word and its arguments' kinds
unfoldable mutual
  pub kind_of_expr : Expr → Known Kind → Checked Kind
  kind_of_expr (word_expr w) ks = known? name (lookup w ks)
  kind_of_expr (num_expr q) ks = fine number
  kind_of_expr (form_expr w xs) ks = thenᶜ (kinds_of_exprs xs ks) (λ js. known? kind (find_kind table w js))

  pub kinds_of_exprs : Exprs → Known Kind → Checked (List Kind)
  kinds_of_exprs nil ks = fine []
  kinds_of_exprs (x ▸ xs) ks = thenᶜ (kind_of_expr x ks) (λ j. thenᶜ (kinds_of_exprs xs ks) (λ js. fine (j ∷ js)))

-- what the lines done leave to those after them, and the kind code of each line from line 2
pub record Stateᶜ : Type 0 where
  pub scope : Scope Kind
  pub codes : List ℕ

-- line i, to which the lines before it left c: its kind code, and what it leaves
unfoldable pub lineᶜ : ℕ → Scope Kind → Line → Checked (ℕ × Scope Kind)
lineᶜ i c (let_line w x) = thenᶜ (kind_of_expr x c.known) (λ k. thenᶜ (give (given_on i w k) c) (λ d. fine (kind_code k, d)))
lineᶜ i c (show_line w) = thenᶜ (known? name (lookup w c.known)) (λ k. fine (kind_code k, c))
lineᶜ i c total_line = fine (2, c)
lineᶜ i c (apart_line q) = fine (254, c)

-- its code behind those of the lines before it, and what it leaves
abbrev pub noted : Stateᶜ → ℕ × Scope Kind → Stateᶜ
noted s p = record { scope = p.1; codes = s.codes ++ (p.0 ∷ []) }

-- line i in the walk
unfoldable pub stepᶜ : ℕ → Stateᶜ → Line → Checked Stateᶜ
stepᶜ i s l = thenᶜ (lineᶜ i s.scope l) (λ p. fine (noted s p))

-- the codes of the lines from line 2, or the fault and its line
pub data Walked : Type 0 where
  passes : List ℕ → Walked
  refuses : Fault → ℕ → Walked

-- on from what line i came to
abbrev pub onwardᶜ : Checked Stateᶜ → ℕ → (Stateᶜ → Walked) → Walked
onwardᶜ (fine t) i k = k t
onwardᶜ (bad c) i k = refuses c i

-- these lines, one after another
unfoldable pub stepsᶜ : List Numbered → Stateᶜ → Walked
stepsᶜ [] s = passes s.codes
stepsᶜ (l ∷ ls) s = onwardᶜ (stepᶜ l.0 s l.1) l.0 (λ t. stepsᶜ ls t)

-- a reading is n
abbrev pub reading_kinds : Known Kind
reading_kinds = map (λ w. given_on 0 w number) reading_words

-- at line 2
abbrev pub startᶜ : Stateᶜ
startᶜ = record { scope = opened reading_kinds; codes = [] }

-- a whole sheet
unfoldable pub walk : Sheet → Walked
walk c = stepsᶜ (numbered 2 c.lines) startᶜ
