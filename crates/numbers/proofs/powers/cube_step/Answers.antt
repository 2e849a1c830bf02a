-- `numbers::powers::cube_step` meets its contract. Assumes nothing.
use Rattle.std.proofs.Common.{refl}
use lib.Ieee.{of_bits}
use Rattle.numbers.specs.Ops.{decimal}
use Rattle.numbers.specs.Powers.{cube_step}
use Rattle.numbers.proofs.powers.cube_step.Goals as goal

pub returns : goal.returns
unfolding cube_step decimal of_bits
returns c = refl
