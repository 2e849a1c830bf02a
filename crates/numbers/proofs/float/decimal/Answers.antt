-- `numbers::float::decimal` meets its contract. Assumes nothing.
use Rattle.std.proofs.Common.{refl}
use lib.Ieee.{of_int}
use Rattle.numbers.specs.Ops.{decimal}
use Rattle.numbers.specs.Floats.{divided}
use Rattle.numbers.proofs.float.decimal.Goals as goal

pub returns-then-negative : goal.returns-then-negative
unfolding divided decimal of_int
returns-then-negative c = rw (c.if-negative.true, c.nearest_u64_to_f64-2.ensures, c.nearest_u64_to_f64.ensures) refl

pub returns-else-negative : goal.returns-else-negative
unfolding divided decimal of_int
returns-else-negative c = rw (c.if-negative.false, c.nearest_u64_to_f64-2.ensures, c.nearest_u64_to_f64.ensures) refl
