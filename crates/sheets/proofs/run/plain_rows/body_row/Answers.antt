-- `sheets::run::plain_rows::body_row` meets its contract. Assumes nothing.
use mathlib.Core.List.{[], ◌∷◌}
use Rattle.sheets.specs.declared.Value.TheVariants.{Frame}
use Rattle.sheets.specs.Text.{ascii}
use Rattle.sheets.specs.Table.{table}
use Rattle.sheets.specs.Lookup.{kind_rows}
use Rattle.sheets.specs.code.reader.Codes.{word_char, code_from, code_of}
use Rattle.sheets.proofs.run.LaidSteps.{row_laid, row-none, four-at}
use Rattle.sheets.proofs.run.plain_rows.body_row.Goals as goal

pub returns-then-b-eq-BODY : goal.returns-then-b-eq-BODY
unfolding table word_char code_from
returns-then-b-eq-BODY c = row_laid (ascii "body") tt Frame _ _ _ _ _ _ (four-at _ _ _ _ _ _ c.angle_at-yaw.ensures c.angle_at-pitch.ensures c.angle_at-roll.ensures c.value_at-position.ensures) _ c.apply_body.ensures _ _ c.laid.ensures c.if-b-eq-BODY.true

pub returns : goal.returns
unfolding kind_rows table word_char code_from
returns c = row-none (1 ∷ 1 ∷ 1 ∷ 7 ∷ []) (code_of (ascii "body") ∷ []) tt _ _ _ tt _ _ (tt, c.if-b-eq-BODY.false)
