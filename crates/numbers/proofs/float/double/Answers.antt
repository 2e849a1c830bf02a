-- `numbers::float::double` meets its contract. Which bits are a NaN's is one comparison of them without their sign. Assumes nothing.
use Rattle.std.proofs.Common.{◌∙◌}
use Rattle.numbers.proofs.Constants.{zero_by_zero}
use Rattle.numbers.proofs.NoNan.{nan-bits, number-bits}
use Rattle.numbers.proofs.float.double.Goals as goal

pub returns-then-bits-gt-INFINITY_BITS : goal.returns-then-bits-gt-INFINITY_BITS
returns-then-bits-gt-INFINITY_BITS c = zero_by_zero ∙ nan-bits c.args.bits c.if-bits-gt-INFINITY_BITS.true

pub float_from_bits-result : goal.float_from_bits-result
float_from_bits-result c = number-bits c.args.bits c.if-bits-gt-INFINITY_BITS.false
