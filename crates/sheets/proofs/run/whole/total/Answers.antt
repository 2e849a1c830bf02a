-- `sheets::run::whole::total` meets its contract. Assumes nothing.
use Rattle.sheets.specs.Limits.{in_limit}
use Rattle.sheets.proofs.run.WholeParts.{tested-in, tested-out}
use Rattle.sheets.proofs.run.whole.total.Goals as goal

pub returns-then-is_near : goal.returns-then-is_near
unfolding in_limit
returns-then-is_near c = tested-in _ _ _ _ _ _ _ c.is_near.ensures c.if-is_near.true _ _ c.total_line-n.ensures

pub returns : goal.returns
unfolding in_limit
returns c = tested-out _ _ _ _ _ _ _ c.is_near.ensures c.if-is_near.false
