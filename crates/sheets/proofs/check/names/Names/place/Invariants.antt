-- The loop of `sheets::check::names::Names::place`.
use mathlib.Core.Path.{◌≡◌}
use Rattle.sheets.specs.code.check.Newest.{search_from, place_from}
use Rattle.sheets.proofs.check.names.Names.place.Given as goal

abbrev pub invariant-loop-i : goal.invariant-loop-i
invariant-loop-i l = place_from l.self.words l.i l.code ≡ place_from l.self.words (search_from l.self l.code) l.code
