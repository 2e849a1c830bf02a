-- `capi::boresheet_check` meets its contract. Assumes nothing.
use native.Mathlib.Omega.{arith}
use Rattle.capi.proofs.LineBounds.{check-line}
use Rattle.capi.proofs.boresheet_check.Goals as goal

pub overflow_cast-line : goal.overflow_cast-line
overflow_cast-line c = omega (arith, check-line _ _ _ _ c.check-a.ensures)

pub returns : goal.returns
returns c = c.check-a.ensures
