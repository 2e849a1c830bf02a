-- `sheets::run::plain_rows::number_row` meets its contract. Assumes nothing.
use mathlib.Core.List.{[], ◌∷◌}
use Rattle.sheets.specs.declared.Value.TheVariants.{Metres, Radians}
use Rattle.sheets.specs.Text.{ascii}
use Rattle.sheets.specs.Table.{table}
use Rattle.sheets.specs.Lookup.{kind_rows}
use Rattle.sheets.specs.code.reader.Codes.{word_char, code_from, code_of}
use Rattle.sheets.proofs.run.LaidSteps.{row_laid, row-none, one_at}
use Rattle.sheets.proofs.run.plain_rows.number_row.Goals as goal

pub returns-in-5668 : goal.returns-in-5668
unfolding table word_char code_from
returns-in-5668 c = row_laid (ascii "deg") tt Radians _ _ _ _ _ _ (one_at _ _ _ c.number_at-number.ensures) _ c.apply_deg.ensures _ _ c.laid.ensures c.in-5668.is

pub returns-in-13 : goal.returns-in-13
unfolding table word_char code_from
returns-in-13 c = row_laid (ascii "m") tt Metres _ _ _ _ _ _ (one_at _ _ _ c.number_at-number.ensures) _ c.apply_m.ensures _ _ c.laid-in-13.ensures c.in-13.is

pub returns-in_default : goal.returns-in_default
unfolding kind_rows table word_char code_from
returns-in_default c = row-none (0 ∷ []) (code_of (ascii "m") ∷ code_of (ascii "deg") ∷ []) tt _ _ _ tt _ _ c.in_default.in_default-own.rest
