-- `numbers::float::sign_bit` meets its contract. Assumes nothing.
use Rattle.std.proofs.lemmas.Float.{T_from_true}
use lib.Ieee.{binary64}
use lib.Ieee.Bits.{to_bits-lt}
use lib.Ieee.Compare.{differs_from_itself}
use Rattle.numbers.proofs.NoNan.{no_nan}
use Rattle.numbers.proofs.SignLaws.{sign-digit, digit-of-nan}
use Rattle.numbers.proofs.float.sign_bit.Goals as goal

pub returns-then-x : goal.returns-then-x
returns-then-x c = digit-of-nan c.args.x (differs_from_itself c.args.x (T_from_true _ c.if-x.true))

pub float_to_bits-result : goal.float_to_bits-result
float_to_bits-result c = no_nan c.args.x c.if-x.false

pub returns : goal.returns
returns c =
    let x = c.args.x in
    sign-digit x (T_from_true _ c.well_formed.0.1) (no_nan x c.if-x.false) (to_bits-lt binary64 x (T_from_true _ c.well_formed.0.1))
