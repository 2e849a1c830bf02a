-- `sheets::run::oriented_rows::to_row` meets its contract. Assumes nothing.
use mathlib.Core.List.{[], ◌∷◌}
use Rattle.sheets.specs.declared.Value.TheVariants.{Vector}
use Rattle.sheets.specs.Text.{ascii}
use Rattle.sheets.specs.code.reader.Codes.{word_char, code_from, code_of}
use Rattle.sheets.specs.Table.{table}
use Rattle.sheets.specs.Lookup.{kind_rows}
use Rattle.sheets.proofs.run.LaidSteps.{row_laid, row-none, two_at}
use Rattle.sheets.proofs.run.oriented_rows.to_row.Goals as goal

pub returns-then-b-eq-TO : goal.returns-then-b-eq-TO
unfolding table word_char code_from
returns-then-b-eq-TO c = row_laid (ascii "to") tt Vector _ _ _ _ _ _ (two_at _ _ _ _ c.frame_at-frame.ensures c.geocentric_at-position.ensures) _ c.apply_to.ensures _ _ c.laid.ensures c.if-b-eq-TO.true

pub returns : goal.returns
unfolding kind_rows table word_char code_from
returns c = row-none (6 ∷ 3 ∷ []) (code_of (ascii "to") ∷ []) tt _ _ _ tt _ _ (tt, c.if-b-eq-TO.false)
