-- `sheets::run::apply::oriented_row` meets its contract. Assumes nothing.
use Prim.Native.Nat.{ℕ}
use mathlib.Core.Path.{refl}
use mathlib.Core.List.{List, [], ◌∷◌}
use Rattle.frames.specs.declared.Orientation.TheVariants.{Enu, Ned, Body, Wan}
use Rattle.sheets.specs.Kinds.{number, angle, geocentric, vector, frame}
use Rattle.sheets.specs.Table.{table}
use Rattle.sheets.specs.Lookup.{kind_rows}
use Rattle.sheets.specs.code.rows.KindCodes.{key_from}
use Rattle.sheets.specs.code.run.Evaluating.{plain_keys, orientation_at, orientation_by}
use Rattle.sheets.proofs.run.ArmSteps.{from, one_from, none_below, none_above, flat, missed-flat}
use Rattle.sheets.proofs.run.KeySteps.{by-orientation, no-kinds}
use Rattle.sheets.proofs.run.apply.oriented_row.Goals as goal

-- the keys of the arms, the last first; those of one vector or one frame follow each other
abbrev arms : List (List ℕ)
arms = from 6 8 ∷ (0xa6222 ∷ 0xb7222 ∷ 0xc8222 ∷ 0xd9222 ∷ []) ∷ (0xa6 ∷ 0xb7 ∷ 0xc8 ∷ 0xd9 ∷ []) ∷ (0xa4 ∷ 0xb4 ∷ 0xc4 ∷ 0xd4 ∷ []) ∷ (0xa2 ∷ 0xb2 ∷ 0xd2 ∷ []) ∷ (0x61 ∷ 0x71 ∷ 0x81 ∷ 0x91 ∷ []) ∷ (0x66 ∷ 0x77 ∷ 0x88 ∷ 0x99 ∷ []) ∷ []

pub returns-in-102 : goal.returns-in-102
unfolding key_from orientation_at orientation_by
returns-in-102 c = record { is = λ m. by-orientation (λ o. vector o ∷ vector o ∷ []) orientation_by (Enu ∷ Ned ∷ Body ∷ Wan ∷ []) (refl, (refl, (refl, (refl, tt)))) c.in-102.is c.orientation_by-o.ensures c.vectors_row.ensures }

pub returns-in-97 : goal.returns-in-97
unfolding key_from orientation_at orientation_by
returns-in-97 c = record { is = λ m. by-orientation (λ o. vector o ∷ number ∷ []) orientation_by (Enu ∷ Ned ∷ Body ∷ Wan ∷ []) (refl, (refl, (refl, (refl, tt)))) c.in-97.is c.orientation_by-o.ensures c.scale_row.ensures }

pub returns-in-162 : goal.returns-in-162
unfolding key_from orientation_at orientation_by
returns-in-162 c = record { is = λ m. by-orientation (λ o. frame o ∷ angle ∷ []) orientation_by (Enu ∷ Ned ∷ Wan ∷ []) (refl, (refl, (refl, tt))) c.in-162.is c.orientation_by-o.ensures c.turn_row.ensures }

pub returns-in-164 : goal.returns-in-164
unfolding key_from orientation_at orientation_by
returns-in-164 c = record { is = λ m. by-orientation (λ o. frame o ∷ geocentric ∷ []) orientation_by (Enu ∷ Ned ∷ Body ∷ Wan ∷ []) (refl, (refl, (refl, (refl, tt)))) c.in-164.is c.orientation_by-o.ensures c.to_row.ensures }

pub returns-in-166 : goal.returns-in-166
unfolding key_from orientation_at orientation_by
returns-in-166 c = record { is = λ m. by-orientation (λ o. frame o ∷ vector o ∷ []) orientation_by (Enu ∷ Ned ∷ Body ∷ Wan ∷ []) (refl, (refl, (refl, (refl, tt)))) c.in-166.is c.orientation_by-o.ensures c.at_row.ensures }

pub returns-in-680482 : goal.returns-in-680482
unfolding key_from orientation_at orientation_by
returns-in-680482 c = record { is = λ m. by-orientation (λ o. frame o ∷ vector o ∷ angle ∷ angle ∷ angle ∷ []) orientation_by (Enu ∷ Ned ∷ Body ∷ Wan ∷ []) (refl, (refl, (refl, (refl, tt)))) c.in-680482.is c.orientation_by-o.ensures c.move_row.ensures }

pub returns-in-6 : goal.returns-in-6
unfolding key_from orientation_at orientation_by
returns-in-6 c = record { is = λ m. by-orientation (λ o. vector o ∷ []) orientation_by (Enu ∷ Ned ∷ Body ∷ Wan ∷ []) (refl, (refl, (refl, (refl, tt)))) (one_from 6 4 _ c.in-6.if-key-lt6-own.false c.in-6.if-key-lt10-own.true) c.orientation_by-o.ensures c.vector_row.ensures }

pub returns-in-10 : goal.returns-in-10
unfolding key_from orientation_at orientation_by
returns-in-10 c = record { is = λ m. by-orientation (λ o. frame o ∷ []) orientation_by (Enu ∷ Ned ∷ Body ∷ Wan ∷ []) (refl, (refl, (refl, (refl, tt)))) (one_from 10 4 _ c.in-10.if-key-lt10-own.false c.in-10.if-key-lt14-own.true) c.orientation_by-o.ensures c.frame_row.ensures }

pub returns-in_default : goal.returns-in_default
unfolding kind_rows table key_from plain_keys
returns-in_default c = record { is = λ m. no-kinds plain_keys (flat arms) tt m (missed-flat arms _ (c.in_default.in_default-own.rest, none_below 6 8 c.in_default.if-key-lt6-own.true)) }

pub returns-in_default-2 : goal.returns-in_default-2
unfolding kind_rows table key_from plain_keys
returns-in_default-2 c = record { is = λ m. no-kinds plain_keys (flat arms) tt m (missed-flat arms _ (c.in_default.in_default-own.rest, none_above 6 8 c.in_default.if-key-lt14-own.false)) }
