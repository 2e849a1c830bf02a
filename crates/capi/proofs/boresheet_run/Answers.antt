-- `capi::boresheet_run` meets its contract. Assumes nothing.
use native.Mathlib.Omega.{arith}
use Rattle.capi.proofs.LineBounds.{run-line}
use Rattle.capi.proofs.boresheet_run.Goals as goal

pub overflow_cast-line : goal.overflow_cast-line
overflow_cast-line c = omega (arith, run-line _ _ _ _ _ c.run-r.ensures)

pub returns : goal.returns
returns c = c.run-r.ensures
