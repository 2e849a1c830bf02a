-- `sheets::run::apply::orientation_by` meets its contract. Assumes nothing.
use mathlib.Core.Path.{sym, ◌∙◌}
use Rattle.sheets.specs.code.run.Evaluating.{orientation_by}
use Rattle.sheets.proofs.run.ArmSteps.{below-is, beyond-is}
use Rattle.sheets.proofs.run.apply.orientation_by.Goals as goal

pub returns-then-key-lt16 : goal.returns-then-key-lt16
unfolding orientation_by
returns-then-key-lt16 c = c.orientation_at.ensures ∙ sym (below-is _ _ _ _ c.if-key-lt16.true)

pub returns-then-key-lt256 : goal.returns-then-key-lt256
unfolding orientation_by
returns-then-key-lt256 c = c.orientation_at-then-key-lt256.ensures ∙ sym (beyond-is _ _ _ _ c.if-key-lt16.false ∙ below-is _ _ _ _ c.if-key-lt256.true)

pub returns : goal.returns
unfolding orientation_by
returns c = c.orientation_at-2.ensures ∙ sym (beyond-is _ _ _ _ c.if-key-lt16.false ∙ beyond-is _ _ _ _ c.if-key-lt256.false)
