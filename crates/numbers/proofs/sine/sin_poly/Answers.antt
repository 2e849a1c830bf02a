-- `numbers::sine::sin_poly` meets its contract: the code is the definition, with its coefficients written out. Assumes nothing.
use Rattle.std.proofs.Common.{refl}
use lib.Ieee.{of_bits, neg}
use Rattle.numbers.specs.Ops.{decimal}
use Rattle.numbers.specs.Sine.{horner, alternating, factorial, sin_poly}
use Rattle.numbers.proofs.sine.sin_poly.Goals as goal

pub returns : goal.returns
unfolding horner alternating factorial sin_poly decimal of_bits neg
returns c = refl
