-- `numbers::angles::normalised_radians` meets its contract. Assumes nothing.
use Rattle.std.proofs.lemmas.Float.{T_from_true}
use Rattle.std.proofs.Common.{ap, ◌∙◌}
use lib.Ieee.{Float, eq}
use Rattle.numbers.specs.Ops.{num, pick}
use Rattle.numbers.specs.Angles.{angle}
use Rattle.numbers.proofs.AngleLaws.{lift, within, beyond, below-max}
use Rattle.numbers.proofs.angles.normalised_radians.Goals as goal
use Rattle.numbers.proofs.angles.normalised_radians.Goals.{else-radians-max-via-then-radians-max+else-radians-max-2, else-radians-max-via-else-radians-max}

pub returns-then-radians-max-2 : goal.returns-then-radians-max-2
returns-then-radians-max-2 c =
    let max = c.args.max in
    ap angle c.short_of.ensures ∙ ap (λ (x : Float). angle (pick (eq x max) (num 0) x)) c.lifted.ensures
    ∙ within _ _ (T_from_true _ c.well_formed.0.1) c.if-radians-max.true c.if-radians-max-2.true

pub returns-else-radians-max : goal.returns-else-radians-max
returns-else-radians-max c =
    c.wrapped.ensures ∙ ap (λ (r : Float). lift r c.args.max) c.rem.ensures
    ∙ elim c.else-radians-max.branch [
      | else-radians-max-via-then-radians-max+else-radians-max-2 w ↦ beyond _ _ w.if-radians-max-2.false
      | else-radians-max-via-else-radians-max w ↦ below-max _ _ w.if-radians-max.false
    ]
