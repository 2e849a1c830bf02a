-- `sheets::check::names::Names::place` meets its contract. Assumes nothing.
use native.Mathlib.Omega.{arith}
use mathlib.Core.Path.{◌∙◌}
use Rattle.sheets.proofs.check.NewestLaws.{search-none, search-some, place-before, found-here, found-nowhere}
use Rattle.sheets.proofs.check.names.Names.place.Goals as goal

pub returns-then-newest-gt95 : goal.returns-then-newest-gt95
returns-then-newest-gt95 c = search-none _ _ _ c.newest_of-newest.ensures c.if-newest-gt95.true

pub loop-i-init : goal.loop-i-init
loop-i-init c = search-some _ _ _ c.newest_of-newest.ensures c.if-newest-gt95.false

pub returns-then-self-i : goal.returns-then-self-i
returns-then-self-i c = found-here _ _ _ c.loop-i.invariant (omega (arith, c.loop-i-test.true)) c.if-self-i.true

pub loop-i-preserved : goal.loop-i-preserved
loop-i-preserved c = place-before _ _ _ (omega (arith, c.loop-i-test.true)) c.if-self-i.false ∙ c.loop-i.invariant

pub returns : goal.returns
returns c = found-nowhere _ _ _ c.loop-i.invariant (omega (arith, c.loop-i-test.false))
