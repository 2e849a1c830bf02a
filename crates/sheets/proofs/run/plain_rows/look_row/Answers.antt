-- `sheets::run::plain_rows::look_row` meets its contract. Assumes nothing.
use mathlib.Core.List.{[], ◌∷◌}
use Rattle.sheets.specs.declared.Value.TheVariants.{Frame}
use Rattle.sheets.specs.Text.{ascii}
use Rattle.sheets.specs.Table.{table}
use Rattle.sheets.specs.Lookup.{kind_rows}
use Rattle.sheets.specs.code.reader.Codes.{word_char, code_from, code_of}
use Rattle.sheets.proofs.run.LaidSteps.{row_laid, row-none, three-at}
use Rattle.sheets.proofs.run.plain_rows.look_row.Goals as goal

pub returns-then-b-eq-LOOK : goal.returns-then-b-eq-LOOK
unfolding table word_char code_from
returns-then-b-eq-LOOK c = row_laid (ascii "look") tt Frame _ _ _ _ _ _ (three-at _ _ _ _ _ c.value_at-position.ensures c.value_at-target.ensures c.angle_at-roll.ensures) _ c.apply_look.ensures _ _ c.laid.ensures c.if-b-eq-LOOK.true

pub returns : goal.returns
unfolding kind_rows table word_char code_from
returns c = row-none (7 ∷ 7 ∷ 1 ∷ []) (code_of (ascii "look") ∷ []) tt _ _ _ tt _ _ (tt, c.if-b-eq-LOOK.false)
