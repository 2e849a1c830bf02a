-- `numbers::root::near` promises nothing of what it answers; its bit patterns are those of numbers. Assumes nothing.
use Rattle.std.proofs.Common.{◌+◌, ◌-◌, ◌*◌, ◌/◌, ◌%◌, arith}
use Rattle.numbers.proofs.NoNan.{no-nan-bits}
use Rattle.numbers.proofs.root.near.Goals as goal

pub float_from_bits-f : goal.float_from_bits-f
float_from_bits-f c = no-nan-bits (c.args.x.bits % 9007199254740992 + 4602678819172646912) (omega arith)

pub float_from_bits-s : goal.float_from_bits-s
float_from_bits-s c = no-nan-bits (c.args.x.bits % 9007199254740992 / 2 + 4600265435187219170) (omega arith)

pub float_from_bits-up : goal.float_from_bits-up
float_from_bits-up c = no-nan-bits (c.args.x.bits / 9007199254740992 * 4503599627370496 + 2305843009213693952) (omega arith)

pub float_from_bits-down : goal.float_from_bits-down
float_from_bits-down c = no-nan-bits (6908521828386340864 - c.args.x.bits / 9007199254740992 * 4503599627370496) (omega arith)
