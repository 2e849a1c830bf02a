-- `sheets::check::first_line::by_numbers` meets its contract. Assumes nothing.
use Rattle.sheets.proofs.check.FirstLineSteps.{in-range, out_of_range}
use Rattle.sheets.proofs.check.first_line.by_numbers.Goals as goal

pub returns-then-in_range : goal.returns-then-in_range
returns-then-in_range c = in-range _ _ _ c.in_range.ensures c.if-in_range.true _ c.from_metres.ensures _ c.new-e.ensures

pub returns : goal.returns
returns c = out_of_range _ _ _ c.in_range.ensures c.if-in_range.false
