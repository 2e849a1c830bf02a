-- `sheets::run::plain_rows::aer_row` meets its contract. Assumes nothing.
use Prim.Native.Nat.{ℕ}
use mathlib.Core.Path.{refl}
use mathlib.Core.List.{List, [], ◌∷◌}
use Rattle.frames.specs.declared.Orientation.TheVariants.{Enu, Ned, Body, Wan}
use Rattle.sheets.specs.declared.Value.TheVariants.{Geodetic, Vector}
use Rattle.sheets.specs.Text.{ascii}
use Rattle.sheets.specs.Table.{table}
use Rattle.sheets.specs.Lookup.{kind_rows}
use Rattle.sheets.specs.code.reader.Codes.{word_char, code_from, code_of}
use Rattle.sheets.specs.code.rows.Applied.{aer_word}
use Rattle.sheets.specs.code.run.Evaluating.{orientation_in}
use Rattle.sheets.proofs.run.LaidSteps.{row_laid, row-none, three-at}
use Rattle.sheets.proofs.run.ArmSteps.{row_by, flat, missed-flat}
use Rattle.sheets.proofs.run.plain_rows.aer_row.Goals as goal

-- the codes of the arms, the last first
abbrev arms : List (List ℕ)
arms = (code_of (aer_word Enu) ∷ code_of (aer_word Ned) ∷ code_of (aer_word Wan) ∷ code_of (aer_word Body) ∷ []) ∷ (code_of (ascii "lla") ∷ []) ∷ []

pub returns-in-16873 : goal.returns-in-16873
unfolding table word_char code_from
returns-in-16873 c = row_laid (ascii "lla") tt Geodetic _ _ _ _ _ _ (three-at _ _ _ _ _ c.angle_at-azimuth.ensures c.angle_at-elevation.ensures c.length_at-range.ensures) _ c.apply_lla.ensures _ _ c.laid.ensures c.in-16873.is

pub returns-in-58037 : goal.returns-in-58037
unfolding table word_char code_from orientation_in
returns-in-58037 c = row_by aer_word orientation_in (Enu ∷ Ned ∷ Wan ∷ Body ∷ []) ((refl, tt), ((refl, tt), ((refl, tt), ((refl, tt), tt)))) Vector (three-at _ _ _ _ _ c.angle_at-azimuth.ensures c.angle_at-elevation.ensures c.length_at-range.ensures) _ c.orientation_in-o.ensures _ c.apply_aer.ensures c.laid-in-58037.ensures c.in-58037.is

pub returns-in_default : goal.returns-in_default
unfolding kind_rows table word_char code_from
returns-in_default c = row-none (1 ∷ 1 ∷ 2 ∷ []) (flat arms) tt _ _ _ tt _ _ (missed-flat arms _ c.in_default.in_default-own.rest)
