-- What goes down from call to call of `sheets::run::eval::bracket` and `sheets::run::eval::eval`, and the loop of the first.
use Rattle.std.proofs.Common.{ℕ, ◌+◌, ◌-◌, ◌*◌, ◌^◌, ◌<◌, ◌≤◌, List}
use lib.Ieee.{Float}
use Rattle.sheets.specs.code.run.Evaluating.{Evaluated, BracketWith}
use Rattle.sheets.proofs.run.eval.+bracket_eval.Given as goal

abbrev pub decreases-eval : goal.decreases-eval
decreases-eval l = l.depth * 2

abbrev pub decreases-bracket : goal.decreases-bracket
decreases-bracket l = l.depth * 2 + 1

abbrev pub invariant-bracket-loop-n : goal.invariant-bracket-loop-n
invariant-bracket-loop-n l =
    (l.n ≤ 5) × (l.key < 512 ^ l.n) × ((q : Evaluated) (m : ℕ) (g : List Float) → BracketWith l.s l.at l.depth (5 - l.n) l.e l.code l.names l.key l.floats l.top q m g → BracketWith l.s l.initial.at l.depth 5 l.e l.code l.names 0 l.initial.floats l.top q m g)
