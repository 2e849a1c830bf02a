-- `sheets::reader::num::num_whole` meets its contract. Assumes nothing.
use native.Mathlib.Omega.{arith}
use Rattle.sheets.proofs.reader.TokenSteps.{chars-bound, num-no-whole, num-no-point, num-no-part, num-part}
use Rattle.sheets.proofs.reader.num.num_whole.Goals as goal

pub returns-then-d-eq0 : goal.returns-then-d-eq0
returns-then-d-eq0 c = num-no-whole _ _ _ _ c.digits-d.ensures c.if-d-eq0.true

pub digits-f-requires : goal.digits-f-requires
digits-f-requires c = (omega arith, rw c.digits-d.ensures (chars-bound 9 0 _ 0 _ (omega arith)))

pub returns-then-f-eq0 : goal.returns-then-f-eq0
returns-then-f-eq0 c = num-no-part _ _ _ _ c.digits-d.ensures c.if-d-eq0.false _ c.byte-b.ensures.is c.if-b-eq46.true _ c.digits-f.ensures c.if-f-eq0.true

pub returns-then-b-eq46 : goal.returns-then-b-eq46
returns-then-b-eq46 c = num-part _ _ _ _ c.digits-d.ensures c.if-d-eq0.false _ c.byte-b.ensures.is c.if-b-eq46.true _ c.digits-f.ensures c.if-f-eq0.false

pub returns : goal.returns
returns c = num-no-point _ _ _ _ c.digits-d.ensures c.if-d-eq0.false _ c.byte-b.ensures.is c.if-b-eq46.false
