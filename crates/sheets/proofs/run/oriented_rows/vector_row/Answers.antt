-- `sheets::run::oriented_rows::vector_row` meets its contract. Assumes nothing.
use Prim.Native.Nat.{ℕ}
use mathlib.Core.List.{List, [], ◌∷◌}
use Rattle.sheets.specs.declared.Value.TheVariants.{Metres, Radians, Vector}
use Rattle.sheets.specs.Text.{ascii}
use Rattle.sheets.specs.code.reader.Codes.{word_char, code_from, code_of}
use Rattle.sheets.specs.Table.{table}
use Rattle.sheets.specs.Lookup.{kind_rows}
use Rattle.sheets.proofs.run.LaidSteps.{row_laid, row-none, one_at}
use Rattle.sheets.proofs.run.oriented_rows.vector_row.Goals as goal

-- the codes of the arms, the last first
abbrev codes : List ℕ
codes = code_of (ascii "range") ∷ code_of (ascii "elev") ∷ code_of (ascii "bearing") ∷ code_of (ascii "swap") ∷ code_of (ascii "neg") ∷ []

pub returns-in-19358 : goal.returns-in-19358
unfolding table word_char code_from
returns-in-19358 c = row_laid (ascii "neg") tt Vector _ _ _ _ _ _ (one_at _ _ _ c.vector_at-vector.ensures) _ c.apply_neg.ensures _ _ c.laid.ensures c.in-19358.is

pub returns-in-993947 : goal.returns-in-993947
unfolding table word_char code_from
returns-in-993947 c = row_laid (ascii "swap") tt Vector _ _ _ _ _ _ (one_at _ _ _ c.vector_at-vector.ensures) _ c.apply_swap.ensures _ _ c.laid-in-993947.ensures c.in-993947.is

pub returns-in-5480971364 : goal.returns-in-5480971364
unfolding table word_char code_from
returns-in-5480971364 c = row_laid (ascii "bearing") tt Radians _ _ _ _ _ _ (one_at _ _ _ c.vector_at-vector.ensures) _ c.apply_bearing.ensures _ _ c.laid-in-5480971364.ensures c.in-5480971364.is

pub returns-in-269900 : goal.returns-in-269900
unfolding table word_char code_from
returns-in-269900 c = row_laid (ascii "elev") tt Radians _ _ _ _ _ _ (one_at _ _ _ c.vector_at-vector.ensures) _ c.apply_elev.ensures _ _ c.laid-in-269900.ensures c.in-269900.is

pub returns-in-33804981 : goal.returns-in-33804981
unfolding table word_char code_from
returns-in-33804981 c = row_laid (ascii "range") tt Metres _ _ _ _ _ _ (one_at _ _ _ c.vector_at-vector.ensures) _ c.apply_range.ensures _ _ c.laid-in-33804981.ensures c.in-33804981.is

pub returns-in_default : goal.returns-in_default
unfolding kind_rows table word_char code_from
returns-in_default c = row-none (5 ∷ []) codes tt _ _ _ tt _ _ c.in_default.in_default-own.rest
