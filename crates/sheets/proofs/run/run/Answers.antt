-- `sheets::run::run` meets its contract. Assumes nothing.
use Rattle.sheets.proofs.check.SecondLine.{passes-behind}
use Rattle.sheets.proofs.AnswerSteps.{run-size, run-readings, run_out, run-refused, run-lines}
use mathlib.Core.Path.{ap}
use mathlib.Core.Bool.{not}
use Rattle.sheets.proofs.run.run.Goals as goal

pub returns-then-not-sized : goal.returns-then-not-sized
returns-then-not-sized c = run-size _ _ c.is_sized-sized.ensures _ _ (ap not c.if-not-sized.true) _ c.number.ensures _ c.run_answer.ensures

pub returns-then-readings-ne16 : goal.returns-then-readings-ne16
returns-then-readings-ne16 c = run-readings _ _ c.is_sized-sized.ensures _ _ (ap not c.if-not-sized.false) c.if-readings-ne16.true _ c.number-then-readings-ne16.ensures _ c.run_answer-then-readings-ne16.ensures

pub returns-then-out-ne24576 : goal.returns-then-out-ne24576
returns-then-out-ne24576 c = run_out _ _ c.is_sized-sized.ensures _ _ (ap not c.if-not-sized.false) c.if-readings-ne16.false c.if-out-ne24576.true _ c.number-then-out-ne24576.ensures _ c.run_answer-then-out-ne24576.ensures

pub run_lines-requires : goal.run_lines-requires
run_lines-requires c = passes-behind _ _ _ c.admit-a.ensures _ c.in-Ok.is

pub returns-in-Err : goal.returns-in-Err
returns-in-Err c = run-refused _ _ c.is_sized-sized.ensures _ _ (ap not c.if-not-sized.false) c.if-readings-ne16.false c.if-out-ne24576.false _ c.admit-a.ensures _ c.in-Err.is _ c.number-in-Err.ensures _ c.run_answer-in-Err.ensures

pub shape_of-out : goal.shape_of-out
shape_of-out c = c.run_lines.auto.out

pub returns-in-Ok : goal.returns-in-Ok
returns-in-Ok c = run-lines _ _ c.is_sized-sized.ensures _ _ (ap not c.if-not-sized.false) c.if-readings-ne16.false c.if-out-ne24576.false _ c.admit-a.ensures _ c.in-Ok.is _ _ c.run_lines.ensures
