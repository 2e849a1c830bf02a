-- `sheets::reader::lines::one_unsigned` meets its contract. Assumes nothing.
use Rattle.sheets.proofs.reader.DoubleSteps.{unsigned-unspaced, unsigned-none, unsigned-unended, unsigned-read}
use Rattle.sheets.proofs.reader.lines.one_unsigned.Goals as goal

pub returns-in_err-x : goal.returns-in_err-x
returns-in_err-x c = rw c.from_residual.ensures (unsigned-none _ _ _ c.byte-b.ensures.is c.if-b-eq32.true _ c.unsigned.ensures c.in_err-x.was)

pub returns-then-b-eq32 : goal.returns-then-b-eq32
returns-then-b-eq32 c = unsigned-read _ _ _ c.byte-b.ensures.is c.if-b-eq32.true _ c.unsigned.ensures _ _ c.in_ok-x.was _ c.closing.ensures _ c.in_ok-next.was

pub returns-in_err-next : goal.returns-in_err-next
returns-in_err-next c = rw c.from_residual-in_err-next.ensures (unsigned-unended _ _ _ c.byte-b.ensures.is c.if-b-eq32.true _ c.unsigned.ensures _ _ c.in_ok-x.was _ c.closing.ensures c.in_err-next.was)

pub returns : goal.returns
returns c = unsigned-unspaced _ _ _ c.byte-b.ensures.is c.if-b-eq32.false
