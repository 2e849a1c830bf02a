-- `sheets::reader::num::num` meets its contract. Assumes nothing.
use Rattle.sheets.proofs.reader.TokenSteps.{num-minus, num-plus}
use Rattle.sheets.proofs.reader.num.num.Goals as goal

pub returns-then-b-eq45 : goal.returns-then-b-eq45
returns-then-b-eq45 c = num-minus _ _ _ c.byte-b.ensures.is c.if-b-eq45.true _ c.num_whole.ensures

pub returns : goal.returns
returns c = num-plus _ _ _ c.byte-b.ensures.is c.if-b-eq45.false _ c.num_whole-2.ensures
