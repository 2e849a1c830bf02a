-- `sheets::run::fields::digits_of` meets its contract. Assumes nothing.
use native.Mathlib.Omega.{arith}
use Prim.Native.Nat.{◌+◌, ◌*◌, ◌/◌}
use mathlib.Core.Path.{◌∙◌}
use lib.Bits.{bit_and, bit_or, and_le_r}
use Rattle.sheets.proofs.run.SpreadLaws.{turn, spread_a, spread_b, half_c, half_c-most}
use Rattle.sheets.proofs.run.DigitLaws.{eight}
use Rattle.sheets.proofs.run.fields.digits_of.Goals as goal

pub overflow_mul-b : goal.overflow_mul-b
overflow_mul-b c = omega (arith, and_le_r (bit_or (turn c.args.n) (turn c.args.n * 0x1_0000)) 0xffff_0000_ffff)

pub overflow_mul-c : goal.overflow_mul-c
overflow_mul-c c = omega (arith, and_le_r (spread_b (spread_a (turn c.args.n))) 0xf_000f_000f_000f)

pub overflow_add-c : goal.overflow_add-c
overflow_add-c c = omega (arith, half_c-most (spread_b (spread_a (turn c.args.n))))

pub overflow_add-over : goal.overflow_add-over
overflow_add-over c = omega (arith, half_c-most (spread_b (spread_a (turn c.args.n))))

pub overflow_add-digits : goal.overflow_add-digits
overflow_add-digits c = omega (arith, half_c-most (spread_b (spread_a (turn c.args.n))))

pub overflow_mul-digits : goal.overflow_mul-digits
overflow_mul-digits c = omega (arith, and_le_r ((half_c (spread_b (spread_a (turn c.args.n))) + 0x606_0606_0606_0606) / 16) 0x101_0101_0101_0101)

pub overflow_add-digits-2 : goal.overflow_add-digits-2
overflow_add-digits-2 c = omega (arith, half_c-most (spread_b (spread_a (turn c.args.n))), and_le_r (bit_and ((half_c (spread_b (spread_a (turn c.args.n))) + 0x606_0606_0606_0606) / 16) 0x101_0101_0101_0101 * 127) 0x2727_2727_2727_2727)

pub returns : goal.returns
returns c = c.to_le_bytes.ensures ∙ eight c.args.n
