-- `sheets::run::plain_rows::wan_row` meets its contract. Assumes nothing.
use mathlib.Core.List.{[], ◌∷◌}
use Rattle.sheets.specs.declared.Value.TheVariants.{Frame}
use Rattle.sheets.specs.Text.{ascii}
use Rattle.sheets.specs.Table.{table}
use Rattle.sheets.specs.Lookup.{kind_rows}
use Rattle.sheets.specs.code.reader.Codes.{word_char, code_from, code_of}
use Rattle.sheets.proofs.run.LaidSteps.{row_laid, row-none, two_at}
use Rattle.sheets.proofs.run.plain_rows.wan_row.Goals as goal

pub returns-then-b-eq-WAN : goal.returns-then-b-eq-WAN
unfolding table word_char code_from
returns-then-b-eq-WAN c = row_laid (ascii "wan") tt Frame _ _ _ _ _ _ (two_at _ _ _ _ c.angle_at-azimuth.ensures c.value_at-position.ensures) _ c.apply_wan.ensures _ _ c.laid.ensures c.if-b-eq-WAN.true

pub returns : goal.returns
unfolding kind_rows table word_char code_from
returns c = row-none (1 ∷ 7 ∷ []) (code_of (ascii "wan") ∷ []) tt _ _ _ tt _ _ (tt, c.if-b-eq-WAN.false)
