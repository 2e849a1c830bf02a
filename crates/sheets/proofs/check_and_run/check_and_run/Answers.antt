-- `sheets::check_and_run::check_and_run` meets its contract. Assumes nothing.
use Rattle.sheets.proofs.AnswerSteps.{all_fit, both}
use Rattle.sheets.proofs.check_and_run.check_and_run.Goals as goal

pub shape_of-kinds : goal.shape_of-kinds
shape_of-kinds c = c.check-checked.auto.kinds

pub shape_of-out : goal.shape_of-out
shape_of-out c = c.run-ran.auto.out

pub returns : goal.returns
returns c = both _ _ _ _ _ _ _ c.check-checked.ensures c.run-ran.ensures (all_fit c.args.readings.now c.shared_slice_known-2-1.given)
