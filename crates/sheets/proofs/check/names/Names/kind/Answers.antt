-- `sheets::check::names::Names::kind` meets its contract. Assumes nothing.
use native.Mathlib.Omega.{arith}
use mathlib.Core.Path.{refl, ◌∙◌}
use Rattle.sheets.specs.code.check.Walking.{kind_found}
use Rattle.sheets.proofs.check.PassedLaws.{kind-reading, kind-there}
use Rattle.sheets.proofs.check.NewestLaws.{placed-none, placed-some}
use Rattle.sheets.proofs.check.names.Names.kind.Goals as goal

pub returns-in_default : goal.returns-in_default
unfolding kind_found
returns-in_default c = c.reading_kind.ensures ∙ kind-reading _ _ _ _ (placed-none _ _ _ c.place.ensures c.in_default.is).is refl

pub bounds-self-i : goal.bounds-self-i
bounds-self-i c = omega (arith, (placed-some _ _ _ c.place.ensures _ c.in-Some.is).0.most)

pub returns : goal.returns
unfolding kind_found
returns c = let h = placed-some _ _ _ c.place.ensures _ c.in-Some.is in kind-there _ _ _ _ h.0.is h.1
