-- `numbers::sine::left_over` meets its contract: the code is the definition, with its decimals by their bits. Assumes nothing.
use Rattle.std.proofs.Common.{refl}
use lib.Ieee.{of_bits}
use Rattle.numbers.specs.Ops.{decimal}
use Rattle.numbers.specs.Sine.{rest}
use Rattle.numbers.proofs.sine.left_over.Goals as goal

pub returns : goal.returns
unfolding rest decimal of_bits
returns c = refl
