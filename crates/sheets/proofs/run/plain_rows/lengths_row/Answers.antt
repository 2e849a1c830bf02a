-- `sheets::run::plain_rows::lengths_row` meets its contract. Assumes nothing.
use Prim.Native.Nat.{ℕ}
use mathlib.Core.Path.{refl}
use mathlib.Core.List.{List, [], ◌∷◌}
use Rattle.frames.specs.declared.Orientation.TheVariants.{Enu, Ned, Body, Wan}
use Rattle.sheets.specs.declared.Value.TheVariants.{Geocentric, Vector}
use Rattle.sheets.specs.Text.{ascii}
use Rattle.sheets.specs.Table.{table}
use Rattle.sheets.specs.Lookup.{kind_rows}
use Rattle.sheets.specs.code.reader.Codes.{word_char, code_from, code_of}
use Rattle.sheets.specs.code.rows.Applied.{vector_word}
use Rattle.sheets.specs.code.run.Evaluating.{orientation_in}
use Rattle.sheets.proofs.run.LaidSteps.{row_laid, row-none, three-at}
use Rattle.sheets.proofs.run.ArmSteps.{row_by, flat, missed-flat}
use Rattle.sheets.proofs.run.plain_rows.lengths_row.Goals as goal

-- the codes of the arms, the last first
abbrev arms : List (List ℕ)
arms = (code_of (vector_word Enu) ∷ code_of (vector_word Ned) ∷ code_of (vector_word Wan) ∷ code_of (vector_word Body) ∷ []) ∷ (code_of (ascii "geo") ∷ []) ∷ []

pub returns-in-9783 : goal.returns-in-9783
unfolding table word_char code_from
returns-in-9783 c = row_laid (ascii "geo") tt Geocentric _ _ _ _ _ _ (three-at _ _ _ _ _ c.length_at-x.ensures c.length_at-y.ensures c.length_at-z.ensures) _ c.apply_geo.ensures _ _ c.laid.ensures c.in-9783.is

pub returns-in-1121750 : goal.returns-in-1121750
unfolding table word_char code_from orientation_in
returns-in-1121750 c = row_by vector_word orientation_in (Enu ∷ Ned ∷ Wan ∷ Body ∷ []) ((refl, tt), ((refl, tt), ((refl, tt), ((refl, tt), tt)))) Vector (three-at _ _ _ _ _ c.length_at-x.ensures c.length_at-y.ensures c.length_at-z.ensures) _ c.orientation_in-o.ensures _ c.apply_vector.ensures c.laid-in-1121750.ensures c.in-1121750.is

pub returns-in_default : goal.returns-in_default
unfolding kind_rows table word_char code_from
returns-in_default c = row-none (2 ∷ 2 ∷ 2 ∷ []) (flat arms) tt _ _ _ tt _ _ (missed-flat arms _ c.in_default.in_default-own.rest)
