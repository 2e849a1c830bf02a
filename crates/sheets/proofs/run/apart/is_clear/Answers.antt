-- `sheets::run::apart::is_clear` meets its contract. Assumes nothing.
use native.Mathlib.Omega.{arith}
use mathlib.Core.Path.{sym, ap, subst, ◌∙◌}
use lib.Dec.{T}
use lib.Ieee as Ieee
use Rattle.numbers.specs.Vec.{squared_norm, norm, vec_sub}
use Rattle.frames.specs.Positions.{geocentric_as_metres}
use Rattle.sheets.proofs.run.ApartSteps.{clear-shown, clear-squared, clear-unshown}
use Rattle.sheets.proofs.run.apart.is_clear.Goals as goal

pub position_at-requires : goal.position_at-requires
position_at-requires c = omega arith

pub returns-then-least-squared_norm : goal.returns-then-least-squared_norm
returns-then-least-squared_norm c = clear-squared _ _ _ _ _ c.if-shown-place.true (subst T (sym c.well_formed.0.1) tt) _ (c.squared_norm.ensures ∙ ap squared_norm (c.sub-between.ensures ∙ ap (vec_sub _) (c.as_metres-w.ensures ∙ ap geocentric_as_metres c.position_at.ensures))) c.if-least-squared_norm.true

pub returns-then-shown-place : goal.returns-then-shown-place
returns-then-shown-place c = ap (Ieee.le _) (c.norm.ensures ∙ ap norm (c.sub-between.ensures ∙ ap (vec_sub _) (c.as_metres-w.ensures ∙ ap geocentric_as_metres c.position_at.ensures))) ∙ clear-shown _ _ _ _ _ c.if-shown-place.true

pub returns : goal.returns
returns c = clear-unshown _ _ _ _ _ c.if-shown-place.false
