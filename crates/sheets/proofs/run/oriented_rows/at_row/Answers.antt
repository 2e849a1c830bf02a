-- `sheets::run::oriented_rows::at_row` meets its contract. Assumes nothing.
use mathlib.Core.List.{[], ◌∷◌}
use Rattle.sheets.specs.declared.Value.TheVariants.{Geocentric}
use Rattle.sheets.specs.Text.{ascii}
use Rattle.sheets.specs.code.reader.Codes.{word_char, code_from, code_of}
use Rattle.sheets.specs.Table.{table}
use Rattle.sheets.specs.Lookup.{kind_rows}
use Rattle.sheets.proofs.run.LaidSteps.{row_laid, row-none, two_at}
use Rattle.sheets.proofs.run.oriented_rows.at_row.Goals as goal

pub returns-then-b-eq-AT : goal.returns-then-b-eq-AT
unfolding table word_char code_from
returns-then-b-eq-AT c = row_laid (ascii "at") tt Geocentric _ _ _ _ _ _ (two_at _ _ _ _ c.frame_at-frame.ensures c.vector_at-vector.ensures) _ c.apply_at.ensures _ _ c.laid.ensures c.if-b-eq-AT.true

pub returns : goal.returns
unfolding kind_rows table word_char code_from
returns c = row-none (6 ∷ 5 ∷ []) (code_of (ascii "at") ∷ []) tt _ _ _ tt _ _ (tt, c.if-b-eq-AT.false)
