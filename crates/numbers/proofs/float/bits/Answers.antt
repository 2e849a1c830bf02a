-- `numbers::float::bits` meets its contract: the bits that `to_bits` has for a NaN are those that the code answers. Assumes nothing.
use Rattle.std.proofs.lemmas.Float.{T_from_true}
use Rattle.std.proofs.Common.{refl}
use lib.Ieee.{to_bits}
use lib.Ieee.Compare.{differs_from_itself}
use Rattle.numbers.proofs.NoNan.{no_nan}
use Rattle.numbers.proofs.float.bits.Goals as goal

pub returns-then-x : goal.returns-then-x
unfolding to_bits
returns-then-x c = rw (differs_from_itself c.args.x (T_from_true _ c.if-x.true)) refl

pub float_to_bits-result : goal.float_to_bits-result
float_to_bits-result c = no_nan c.args.x c.if-x.false
