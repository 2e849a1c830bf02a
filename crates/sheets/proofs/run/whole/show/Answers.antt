-- `sheets::run::whole::show` meets its contract. Assumes nothing.
use mathlib.Core.Path.{refl}
use Rattle.sheets.proofs.run.WholeParts.{show-unknown, show-reading, show-name}
use Rattle.sheets.proofs.run.whole.show.Goals as goal
use Rattle.sheets.proofs.run.whole.show.Goals.{then-j-eq0+in-Some, else-j-eq0}

pub returns-in_default : goal.returns-in_default
returns-in_default c = show-unknown _ _ _ _ _ _ _ _ c.if-j-eq0.true _ refl c.in_default.ensures

pub returns : goal.returns
returns c = elim c.if-j-eq0.branch [
  | then-j-eq0+in-Some w ↦ show-reading _ _ _ _ _ _ _ _ w.if-j-eq0.true _ w.in-Some.ensures.0 w.in-Some.ensures.1 _ w.v-is _ _ _ c.show_value.ensures
  | else-j-eq0 w ↦ show-name _ _ _ _ _ _ _ _ w.if-j-eq0.false _ w.v-is _ _ _ c.show_value.ensures
]
