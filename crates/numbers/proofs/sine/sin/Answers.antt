-- `numbers::sine::sin` meets its contract. Assumes nothing.
use Rattle.std.proofs.Common.{◌∙◌}
use Rattle.numbers.specs.Sine.{sin}
use Rattle.numbers.proofs.Range.{sine-here}
use Rattle.numbers.proofs.sine.sin.Goals as goal

pub returns : goal.returns
unfolding sin
returns c = c.sine_on.ensures ∙ sine-here c.args.x
