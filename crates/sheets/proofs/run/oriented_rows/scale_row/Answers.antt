-- `sheets::run::oriented_rows::scale_row` meets its contract. Assumes nothing.
use mathlib.Core.List.{[], ◌∷◌}
use Rattle.sheets.specs.declared.Value.TheVariants.{Vector}
use Rattle.sheets.specs.Text.{ascii}
use Rattle.sheets.specs.code.reader.Codes.{word_char, code_from, code_of}
use Rattle.sheets.specs.Table.{table}
use Rattle.sheets.specs.Lookup.{kind_rows}
use Rattle.sheets.proofs.run.LaidSteps.{row_laid, row-none, two_at}
use Rattle.sheets.proofs.run.oriented_rows.scale_row.Goals as goal

pub returns-then-b-eq-SCALE : goal.returns-then-b-eq-SCALE
unfolding table word_char code_from
returns-then-b-eq-SCALE c = row_laid (ascii "scale") tt Vector _ _ _ _ _ _ (two_at _ _ _ _ c.vector_at-vector.ensures c.number_at-factor.ensures) _ c.apply_scale.ensures _ _ c.laid.ensures c.if-b-eq-SCALE.true

pub returns : goal.returns
unfolding kind_rows table word_char code_from
returns c = row-none (5 ∷ 0 ∷ []) (code_of (ascii "scale") ∷ []) tt _ _ _ tt _ _ (tt, c.if-b-eq-SCALE.false)
