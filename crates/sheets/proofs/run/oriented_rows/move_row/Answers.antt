-- `sheets::run::oriented_rows::move_row` meets its contract. Assumes nothing.
use mathlib.Core.List.{[], ◌∷◌}
use Rattle.sheets.specs.declared.Value.TheVariants.{Frame}
use Rattle.sheets.specs.Text.{ascii}
use Rattle.sheets.specs.code.reader.Codes.{word_char, code_from, code_of}
use Rattle.sheets.specs.Table.{table}
use Rattle.sheets.specs.Lookup.{kind_rows}
use Rattle.sheets.proofs.run.LaidSteps.{row_laid, row-none, five-at}
use Rattle.sheets.proofs.run.oriented_rows.move_row.Goals as goal

pub returns-then-b-eq-MOVE : goal.returns-then-b-eq-MOVE
unfolding table word_char code_from
returns-then-b-eq-MOVE c = row_laid (ascii "move") tt Frame _ _ _ _ _ _ (five-at _ _ _ _ _ _ _ c.frame_at-frame.ensures c.vector_at-vector.ensures c.angle_at-yaw.ensures c.angle_at-pitch.ensures c.angle_at-roll.ensures) _ c.apply_move.ensures _ _ c.laid.ensures c.if-b-eq-MOVE.true

pub returns : goal.returns
unfolding kind_rows table word_char code_from
returns c = row-none (6 ∷ 5 ∷ 1 ∷ 1 ∷ 1 ∷ []) (code_of (ascii "move") ∷ []) tt _ _ _ tt _ _ (tt, c.if-b-eq-MOVE.false)
