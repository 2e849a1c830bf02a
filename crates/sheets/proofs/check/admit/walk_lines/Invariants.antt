-- The loop of `sheets::check::admit::walk_lines`.
use Prim.Native.Nat.{◌-◌}
use mathlib.Core.Path.{◌≡◌}
use Rattle.sheets.proofs.check.AdmitSteps.{Midway}
use Rattle.sheets.proofs.check.admit.walk_lines.Given as goal

abbrev pub invariant-loop-at : goal.invariant-loop-at
invariant-loop-at l = (l.s ≡ l.sheet) × Midway l.s l.start l.at l.passed l.names

abbrev pub decreases-loop-at : goal.decreases-loop-at
decreases-loop-at l = 95 - l.passed
