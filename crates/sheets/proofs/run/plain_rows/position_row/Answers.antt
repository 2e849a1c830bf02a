-- `sheets::run::plain_rows::position_row` meets its contract. Assumes nothing.
use Prim.Native.Nat.{ℕ}
use mathlib.Core.Path.{refl}
use mathlib.Core.Bool.{false, true}
use mathlib.Core.List.{List, [], ◌∷◌}
use lib.Dec.{eqb}
use Rattle.sheets.specs.declared.Value.TheVariants.{Frame, Geocentric, Geodetic}
use Rattle.sheets.specs.Text.{ascii}
use Rattle.sheets.specs.Table.{table}
use Rattle.sheets.specs.Lookup.{kind_rows}
use Rattle.sheets.specs.code.reader.Codes.{word_char, code_from, code_of}
use Rattle.sheets.specs.code.rows.Applied.{level_word}
use Rattle.sheets.proofs.run.LaidSteps.{row_laid, row-none, one_at}
use Rattle.sheets.proofs.run.ArmSteps.{row_by, of-position, flat, missed-flat}
use Rattle.sheets.proofs.run.plain_rows.position_row.Goals as goal

-- the codes of the arms, the last first
abbrev arms : List (List ℕ)
arms = (code_of (ascii "enu") ∷ code_of (ascii "ned") ∷ []) ∷ (code_of (ascii "tolla") ∷ []) ∷ (code_of (ascii "togeo") ∷ []) ∷ []

pub returns-in-38252798 : goal.returns-in-38252798
unfolding table word_char code_from
returns-in-38252798 c = row_laid (ascii "togeo") tt Geocentric _ _ _ _ _ _ (one_at _ _ _ c.value_at-position.ensures) _ c.apply_togeo.ensures _ _ c.laid.ensures c.in-38252798.is

pub returns-in-38259888 : goal.returns-in-38259888
unfolding table word_char code_from
returns-in-38259888 c = row_laid (ascii "tolla") tt Geodetic _ _ _ _ _ _ (one_at _ _ _ c.value_at-position.ensures) _ c.apply_tolla.ensures _ _ c.laid-in-38259888.ensures c.in-38259888.is

pub returns-in-7384 : goal.returns-in-7384
unfolding table word_char code_from
returns-in-7384 c = row_by level_word (λ x. eqb x (code_of (ascii "ned"))) (false ∷ true ∷ []) ((refl, tt), ((refl, tt), tt)) Frame (one_at _ _ _ c.value_at-position.ensures) _ refl _ c.apply_level.ensures c.laid-in-7384.ensures c.in-7384.is

pub returns-in_default : goal.returns-in_default
unfolding kind_rows table word_char code_from
returns-in_default c = of-position c.requires.0 c.requires.1 (row-none (3 ∷ []) (flat arms) tt _ _ _ tt _ _ (missed-flat arms _ c.in_default.in_default-own.rest)) (row-none (4 ∷ []) (flat arms) tt _ _ _ tt _ _ (missed-flat arms _ c.in_default.in_default-own.rest))
