-- The loop of `sheets::run::lines_run::run_lines`.
use Prim.Native.Nat.{◌+◌, ◌-◌, ◌≤◌}
use mathlib.Core.Path.{◌≡◌}
use lib.ListN.{length}
use Rattle.sheets.proofs.run.RunSteps.{Decides}
use Rattle.sheets.proofs.run.lines_run.run_lines.Given as goal

abbrev pub invariant-loop-line : goal.invariant-loop-line
invariant-loop-line l = (length l.t ≡ 96) × (l.n + 1 ≤ l.line) × (l.line ≤ 96) × (length l.out ≡ length l.initial.out)
    × Decides l.s l.from l.e l.readings l.initial.out (record { at = l.at; line = l.line + 1; slots = l.t; names = l.names; shown = l.shown; floats = l.floats; n = l.n; written = l.written; out = l.out })

abbrev pub decreases-loop-line : goal.decreases-loop-line
decreases-loop-line l = 96 - l.line
