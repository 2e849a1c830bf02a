-- `sheets::run::whole::tested_line` meets its contract. Assumes nothing.
use Rattle.sheets.proofs.run.WholeParts.{tested-in, tested-out}
use Rattle.sheets.proofs.run.whole.tested_line.Goals as goal

pub returns-then-in_limit : goal.returns-then-in_limit
returns-then-in_limit c = tested-in _ _ _ _ _ _ _ c.in_limit.ensures c.if-in_limit.true _ _ c.output_line-n.ensures

pub returns : goal.returns
returns c = tested-out _ _ _ _ _ _ _ c.in_limit.ensures c.if-in_limit.false
