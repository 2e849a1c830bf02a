-- `sheets::reader::num::double` meets its contract. Assumes nothing.
use native.Mathlib.Nat.{pow-le-pow_right}
use native.Mathlib.Omega.{arith}
use Rattle.sheets.proofs.reader.DoubleSteps.{double-none, numeral-small, double-is}
use Rattle.sheets.proofs.reader.num.double.Goals as goal

pub returns-in_err-x : goal.returns-in_err-x
returns-in_err-x c = rw c.from_residual.ensures (double-none _ _ _ c.num.ensures c.in_err-x.was)

pub pow-requires : goal.pow-requires
pow-requires c = omega (arith, pow-le-pow_right {n = 10} (omega arith) {i = c.in_ok-x.x.behind} {j = 6} (numeral-small _ _ _ c.num.ensures _ c.in_ok-x.was).1)

pub returns : goal.returns
returns c = double-is _ _ _ c.num.ensures _ c.in_ok-x.was _ c.pow.ensures _ c.decimal-v.ensures

pub overflow_cast-x : goal.overflow_cast-x
overflow_cast-x c = omega (arith, (numeral-small _ _ _ c.num.ensures _ c.in_ok-x.was).1)
