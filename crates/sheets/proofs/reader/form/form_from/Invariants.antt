-- The loop of `sheets::reader::form::form_from`.
use Prim.Native.Nat.{◌-◌}
use Rattle.sheets.proofs.reader.FormSteps.{Reached}
use Rattle.sheets.proofs.reader.form.form_from.Given as goal

abbrev pub invariant-loop-at : goal.invariant-loop-at
invariant-loop-at l = Reached l.s l.start l.first l.at l.number

abbrev pub decreases-loop-at : goal.decreases-loop-at
decreases-loop-at l = 97 - l.number
