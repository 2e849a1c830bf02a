-- `numbers::Angle::normalised` meets its contract. Assumes nothing.
use Rattle.std.proofs.Common.{ap, ◌∙◌}
use lib.Ieee.{Float}
use Rattle.numbers.specs.Angles.{angle, normalised, normalised_to}
use Rattle.numbers.proofs.Constants.{full-circle}
use Rattle.numbers.proofs.Angle.normalised.Goals as goal

pub returns : goal.returns
unfolding normalised
returns c = c.normalised_to.ensures ∙ ap (λ (x : Float). normalised_to c.args.self (angle x)) full-circle
