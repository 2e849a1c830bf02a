-- `sheets::reader::num::unsigned` meets its contract. Assumes nothing.
use Rattle.sheets.proofs.reader.DoubleSteps.{unsigned-minus, unsigned_is}
use Rattle.sheets.proofs.reader.num.unsigned.Goals as goal

pub returns-then-sign-eq45 : goal.returns-then-sign-eq45
returns-then-sign-eq45 c = unsigned-minus _ _ _ c.byte-sign.ensures.is c.if-sign-eq45.true

pub returns : goal.returns
returns c = unsigned_is _ _ _ c.byte-sign.ensures.is c.if-sign-eq45.false _ c.double.ensures
