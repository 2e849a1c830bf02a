-- `numbers::powers::powf_three_halves` meets its contract. Assumes nothing.
use Rattle.numbers.specs.Powers.{powf_three_halves}
use Rattle.numbers.proofs.powers.powf_three_halves.Goals as goal

pub returns : goal.returns
unfolding powf_three_halves
returns c = cc
