-- `sheets::check::check` meets its contract. Assumes nothing.
use Rattle.sheets.proofs.AnswerSteps.{told, check-size, check-lent, check-refused, few-lines, check-passes}
use mathlib.Core.Path.{ap, ◌∙◌}
use mathlib.Core.Bool.{not}
use Rattle.sheets.proofs.check.check.Goals as goal

pub returns-then-not-sized : goal.returns-then-not-sized
returns-then-not-sized c = check-size _ _ c.is_sized-sized.ensures _ (ap not c.if-not-sized.true) _ (c.refused.ensures ∙ ap told c.at.ensures)

pub returns-then-kinds-ne96 : goal.returns-then-kinds-ne96
returns-then-kinds-ne96 c = check-lent _ _ c.is_sized-sized.ensures _ (ap not c.if-not-sized.false) c.if-kinds-ne96.true _ (c.refused-then-kinds-ne96.ensures ∙ ap told c.at-then-kinds-ne96.ensures)

pub put_codes-requires : goal.put_codes-requires
put_codes-requires c = (few-lines _ _ _ c.admit-a.ensures _ c.in-Ok.is, c.if-kinds-ne96.false)

pub returns-in-Err : goal.returns-in-Err
returns-in-Err c = check-refused _ _ c.is_sized-sized.ensures _ (ap not c.if-not-sized.false) c.if-kinds-ne96.false _ c.admit-a.ensures _ c.in-Err.is _ c.refused-in-Err.ensures

pub shape_of-kinds : goal.shape_of-kinds
shape_of-kinds c = c.put_codes.auto.kinds

pub returns-in-Ok : goal.returns-in-Ok
returns-in-Ok c = check-passes _ _ c.is_sized-sized.ensures _ (ap not c.if-not-sized.false) c.if-kinds-ne96.false _ c.admit-a.ensures _ c.in-Ok.is _ c.put_codes.ensures
