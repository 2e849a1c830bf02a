-- `numbers::sine::cos` meets its contract. Assumes nothing.
use Rattle.std.proofs.Common.{◌∙◌}
use Rattle.numbers.specs.Sine.{cos}
use Rattle.numbers.proofs.Range.{sine-next}
use Rattle.numbers.proofs.sine.cos.Goals as goal

pub returns : goal.returns
unfolding cos
returns c = c.sine_on.ensures ∙ sine-next c.args.x
