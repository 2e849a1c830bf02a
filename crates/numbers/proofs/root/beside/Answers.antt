-- `numbers::root::beside` meets its contract. Assumes nothing.
use Rattle.std.proofs.Common.{◌+◌, ◌-◌, arith}
use Rattle.numbers.proofs.NoNan.{no_nan, no-nan-bits}
use lib.Ieee.{binary64, to_bits}
use Rattle.numbers.proofs.root.beside.Goals as goal

pub float_to_bits-d : goal.float_to_bits-d
float_to_bits-d c = no_nan c.args.s c.if-s.false

pub float_from_bits-up : goal.float_from_bits-up
float_from_bits-up c = no-nan-bits (to_bits binary64 c.args.s + 1) (omega arith)

pub float_from_bits-down : goal.float_from_bits-down
float_from_bits-down c = no-nan-bits (to_bits binary64 c.args.s - 1) (omega arith)
