-- `sheets::run::apart::stand_apart` meets its contract. Assumes nothing.
use native.Mathlib.Omega.{arith}
use mathlib.Core.Path.{refl, sym, ap, ◌∙◌}
use Rattle.frames.specs.Positions.{geocentric_as_metres}
use Rattle.sheets.proofs.run.ApartSteps.{apart-unshown, apart_next, apart-not, apart-end}
use Rattle.sheets.proofs.run.apart.stand_apart.Goals as goal

pub loop-p-init : goal.loop-p-init
loop-p-init c = refl

pub returns-then-not-is_clear_below : goal.returns-then-not-is_clear_below
returns-then-not-is_clear_below c = sym (c.loop-p.invariant ∙ apart-not _ _ _ _ _ (omega (arith, c.loop-p-test.true)) c.if-shown-p.true _ (c.as_metres-v.ensures ∙ ap geocentric_as_metres c.position_at.ensures) _ c.is_clear_below.ensures c.if-not-is_clear_below.true)

pub loop-p-preserved-else-not-is_clear_below : goal.loop-p-preserved-else-not-is_clear_below
loop-p-preserved-else-not-is_clear_below c = c.loop-p.invariant ∙ apart_next _ _ _ _ _ (omega (arith, c.loop-p-test.true)) c.if-shown-p.true _ (c.as_metres-v.ensures ∙ ap geocentric_as_metres c.position_at.ensures) _ c.is_clear_below.ensures c.if-not-is_clear_below.false

pub loop-p-preserved : goal.loop-p-preserved
loop-p-preserved c = c.loop-p.invariant ∙ apart-unshown _ _ _ _ _ (omega (arith, c.loop-p-test.true)) c.if-shown-p.false

pub returns : goal.returns
returns c = sym (c.loop-p.invariant ∙ apart-end _ _ _ _ c.loop-p-test.false)
