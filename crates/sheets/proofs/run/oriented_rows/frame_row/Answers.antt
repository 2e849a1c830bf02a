-- `sheets::run::oriented_rows::frame_row` meets its contract. Assumes nothing.
use Prim.Native.Nat.{ℕ}
use mathlib.Core.Path.{refl}
use mathlib.Core.List.{List, [], ◌∷◌}
use Rattle.sheets.specs.declared.rows.args.Axis.TheVariants.{Z, Y, X}
use Rattle.sheets.specs.declared.Value.TheVariants.{Geocentric, Radians}
use Rattle.sheets.specs.Text.{ascii}
use Rattle.sheets.specs.Table.{table}
use Rattle.sheets.specs.Lookup.{kind_rows}
use Rattle.sheets.specs.code.reader.Codes.{word_char, code_from, code_of}
use Rattle.sheets.specs.code.rows.Applied.{axis_word}
use Rattle.sheets.specs.code.run.Evaluating.{axis_in}
use Rattle.sheets.proofs.run.LaidSteps.{row_laid, row-none, one_at}
use Rattle.sheets.proofs.run.ArmSteps.{row_by, from, one_from, none_below, none_above, flat, missed-flat}
use Rattle.sheets.proofs.run.oriented_rows.frame_row.Goals as goal

-- the codes of the arms, the last first: rx, ry and rz follow each other
abbrev arms : List (List ℕ)
arms = from (code_of (ascii "rx")) 3 ∷ (code_of (ascii "origin") ∷ []) ∷ []

pub returns-in-1074360060 : goal.returns-in-1074360060
unfolding table word_char code_from
returns-in-1074360060 c = row_laid (ascii "origin") tt Geocentric _ _ _ _ _ _ (one_at _ _ _ c.frame_at-frame.ensures) _ c.apply_origin.ensures _ _ c.laid.ensures c.in-1074360060.is

pub returns-in-692 : goal.returns-in-692
unfolding table word_char code_from axis_in
returns-in-692 c = row_by axis_word axis_in (X ∷ Y ∷ Z ∷ []) ((refl, tt), ((refl, tt), ((refl, tt), tt))) Radians (one_at _ _ _ c.frame_at-frame.ensures) _ c.axis_in-axis.ensures _ c.apply_angle.ensures c.laid-in-692.ensures (one_from (code_of (ascii "rx")) 3 _ c.in-692.if-b-lt690-own.false c.in-692.if-b-lt693-own.true)

pub returns-in_default : goal.returns-in_default
unfolding kind_rows table word_char code_from
returns-in_default c = row-none (6 ∷ []) (flat arms) tt _ _ _ tt _ _ (missed-flat arms _ (c.in_default.in_default-own.rest, none_below (code_of (ascii "rx")) 3 c.in_default.if-b-lt690-own.true))

pub returns-in_default-2 : goal.returns-in_default-2
unfolding kind_rows table word_char code_from
returns-in_default-2 c = row-none (6 ∷ []) (flat arms) tt _ _ _ tt _ _ (missed-flat arms _ (c.in_default.in_default-own.rest, none_above (code_of (ascii "rx")) 3 c.in_default.if-b-lt693-own.false))
