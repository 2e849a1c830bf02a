-- `sheets::run::oriented_rows::vectors_row` meets its contract. Assumes nothing.
use Prim.Native.Nat.{ℕ}
use mathlib.Core.Path.{refl}
use mathlib.Core.Bool.{false, true}
use mathlib.Core.List.{List, [], ◌∷◌}
use lib.Dec.{eqb}
use Rattle.sheets.specs.declared.Value.TheVariants.{Vector}
use Rattle.sheets.specs.Text.{ascii}
use Rattle.sheets.specs.Table.{table}
use Rattle.sheets.specs.Lookup.{kind_rows}
use Rattle.sheets.specs.code.reader.Codes.{word_char, code_from, code_of}
use Rattle.sheets.specs.code.rows.Applied.{sum_word}
use Rattle.sheets.proofs.run.LaidSteps.{row-none, two_at}
use Rattle.sheets.proofs.run.ArmSteps.{row_by, flat, missed-flat}
use Rattle.sheets.proofs.run.oriented_rows.vectors_row.Goals as goal

-- the codes of the arm
abbrev arms : List (List ℕ)
arms = (code_of (ascii "add") ∷ code_of (ascii "sub") ∷ []) ∷ []

pub returns-in-1521 : goal.returns-in-1521
unfolding table word_char code_from
returns-in-1521 c = row_by sum_word (λ x. eqb x (code_of (ascii "sub"))) (false ∷ true ∷ []) ((refl, tt), ((refl, tt), tt)) Vector (two_at _ _ _ _ c.vector_at-v.ensures c.vector_at-w.ensures) _ refl _ c.apply_sum.ensures c.laid.ensures c.in-1521.is

pub returns-in_default : goal.returns-in_default
unfolding kind_rows table word_char code_from
returns-in_default c = row-none (5 ∷ 5 ∷ []) (flat arms) tt _ _ _ tt _ _ (missed-flat arms _ c.in_default.in_default-own.rest)
