-- `sheets::run::readings::put_readings` meets its contract. Assumes nothing.
use native.Mathlib.Omega.{arith}
use Rattle.sheets.proofs.run.RunParts.{readings-put}
use Rattle.sheets.proofs.run.readings.put_readings.Goals as goal

pub returns : goal.returns
returns c = readings-put c.args.readings.now c.args.floats.now c.min-n.result (omega arith) (omega arith) (λ j l h. omega arith) c.copy_from_slice.ensures.after
