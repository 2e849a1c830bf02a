-- `numbers::float::abs` meets its contract. Assumes nothing.
use Rattle.std.proofs.lemmas.Float.{T_from_true}
use Rattle.std.proofs.Common.{◌%◌}
use lib.Ieee.{binary64, to_bits}
use lib.Ieee.Compare.{differs_from_itself}
use Rattle.numbers.proofs.NoNan.{no_nan, no-nan-bits}
use Rattle.numbers.proofs.SignLaws.{bits_of_number, abs-bits, abs-of-nan}
use Rattle.numbers.proofs.float.abs.Goals as goal

pub returns-then-x : goal.returns-then-x
returns-then-x c = abs-of-nan c.args.x (differs_from_itself c.args.x (T_from_true _ c.if-x.true))

pub float_to_bits-result : goal.float_to_bits-result
float_to_bits-result c = no_nan c.args.x c.if-x.false

pub float_from_bits-result : goal.float_from_bits-result
float_from_bits-result c =
    let x = c.args.x in
    no-nan-bits (to_bits binary64 x % 9223372036854775808) (bits_of_number x (T_from_true _ c.well_formed.0.1) (no_nan x c.if-x.false))

pub returns : goal.returns
returns c = abs-bits c.args.x (T_from_true _ c.well_formed.0.1)
