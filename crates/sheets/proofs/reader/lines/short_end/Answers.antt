-- `sheets::reader::lines::short_end` meets its contract. Assumes nothing.
use Rattle.sheets.proofs.reader.LineSteps.{end_short, end-long}
use Rattle.sheets.proofs.reader.lines.short_end.Goals as goal

pub returns-then-is_short : goal.returns-then-is_short
returns-then-is_short c = end_short _ _ _ c.is_short.ensures c.if-is_short.true

pub returns : goal.returns
returns c = end-long _ _ _ c.is_short.ensures c.if-is_short.false
