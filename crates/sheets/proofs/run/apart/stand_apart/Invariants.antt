-- The loop of `sheets::run::apart::stand_apart`.
use mathlib.Core.Path.{◌≡◌}
use Rattle.sheets.specs.code.run.Apart.{apart_below}
use Rattle.sheets.proofs.run.apart.stand_apart.Given as goal

abbrev pub invariant-loop-p : goal.invariant-loop-p
invariant-loop-p l = apart_below l.least l.floats l.shown 96 ≡ apart_below l.least l.floats l.shown l.p
