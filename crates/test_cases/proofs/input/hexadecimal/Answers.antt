-- `test_cases::input::hexadecimal`: sixteen digits fit 64 bits. Assumes nothing.
use Rattle.std.proofs.Common.{arith, ◌^◌, ◌≤◌}
use Rattle.std.proofs.Math.Nat.{pow-le-pow_right}
use Rattle.test_cases.proofs.input.hexadecimal.Goals as goal

pub overflow_mul-n : goal.overflow_mul-n
overflow_mul-n c =
    let most : 16 ^ c.loop-b.b-index ≤ 16 ^ 15 = pow-le-pow_right {n = 16} (omega arith) {i = c.loop-b.b-index} {j = 15} (omega arith) in
    omega arith

pub overflow_add-n : goal.overflow_add-n
overflow_add-n c =
    let most : 16 ^ c.loop-b.b-index ≤ 16 ^ 15 = pow-le-pow_right {n = 16} (omega arith) {i = c.loop-b.b-index} {j = 15} (omega arith) in
    omega arith
