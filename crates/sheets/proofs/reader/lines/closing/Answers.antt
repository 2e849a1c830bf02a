-- `sheets::reader::lines::closing` meets its contract. Assumes nothing.
use Rattle.sheets.proofs.reader.PieceSteps.{close-is, close-no-end, close-none}
use Rattle.sheets.proofs.reader.lines.closing.Goals as goal

pub returns-then-c-eq10 : goal.returns-then-c-eq10
returns-then-c-eq10 c = close-is _ _ _ c.byte-b.ensures.is c.if-b-eq41.true _ c.byte-c.ensures.is c.if-c-eq10.true

pub returns-else-c-eq10 : goal.returns-else-c-eq10
returns-else-c-eq10 c = close-no-end _ _ _ c.byte-b.ensures.is c.if-b-eq41.true _ c.byte-c.ensures.is c.if-c-eq10.false

pub returns-else-b-eq41 : goal.returns-else-b-eq41
returns-else-b-eq41 c = close-none _ _ _ c.byte-b.ensures.is c.if-b-eq41.false
