-- `numbers::powers::powf_third` meets its contract, by those of what it calls. Assumes nothing.
use lib.Ieee.{of_bits}
use Rattle.numbers.specs.Ops.{decimal}
use Rattle.numbers.specs.Powers.{powf_third}
use Rattle.numbers.proofs.powers.powf_third.Goals as goal

pub returns : goal.returns
unfolding powf_third decimal of_bits
returns c = cc
