-- `sheets::run::whole::apart` meets its contract. Assumes nothing.
use Rattle.sheets.proofs.run.ApartSteps.{apart-limit, apart-holds, apart-close}
use Rattle.sheets.proofs.run.whole.apart.Goals as goal

pub returns-then-stand_apart : goal.returns-then-stand_apart
returns-then-stand_apart c = apart-holds _ _ _ _ _ c.is_near.ensures c.if-is_near.true _ c.stand_apart.ensures c.if-stand_apart.true

pub returns-then-is_near : goal.returns-then-is_near
returns-then-is_near c = apart-close _ _ _ _ _ c.is_near.ensures c.if-is_near.true _ c.stand_apart.ensures c.if-stand_apart.false

pub returns : goal.returns
returns c = apart-limit _ _ _ _ _ c.is_near.ensures c.if-is_near.false
