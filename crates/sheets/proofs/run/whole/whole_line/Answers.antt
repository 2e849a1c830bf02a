-- `sheets::run::whole::whole_line` meets its contract. Assumes nothing.
use mathlib.Core.Path.{refl}
use Rattle.sheets.proofs.run.WholeParts.{does-show, does-total, does-apart}
use Rattle.sheets.proofs.run.whole.whole_line.Goals as goal

pub returns-in-Show : goal.returns-in-Show
returns-in-Show c = does-show _ _ _ _ _ _ _ _ _ _ _ _ c.in-Show.is c.show.ensures

pub returns-in-Total : goal.returns-in-Total
returns-in-Total c = does-total _ _ _ _ _ _ _ _ _ _ _ c.in-Total.is c.total.ensures refl

pub returns-in-Apart : goal.returns-in-Apart
returns-in-Apart c = does-apart _ _ _ _ _ _ _ _ _ _ _ _ c.in-Apart.is c.apart.ensures refl refl
