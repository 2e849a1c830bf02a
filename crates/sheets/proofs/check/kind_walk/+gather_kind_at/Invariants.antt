-- What goes down from call to call of `sheets::check::kind_walk::gather` and `sheets::check::kind_walk::kind_at`, and the loop of the first.
use Rattle.std.proofs.Common.{◌+◌, ◌-◌, ◌*◌, ◌^◌, ◌<◌, ◌≤◌, ℕ}
use Rattle.sheets.specs.code.check.Walking.{ForKnown, ArgsHave}
use Rattle.std.specs.Prelude.{Result}
use Rattle.sheets.specs.declared.refusals.Refusal.{Refusal as Code}
use Rattle.sheets.proofs.check.kind_walk.+gather_kind_at.Given as goal

abbrev pub decreases-gather : goal.decreases-gather
decreases-gather l = l.depth * 2 + 1

abbrev pub decreases-kind_at : goal.decreases-kind_at
decreases-kind_at l = l.depth * 2

abbrev pub invariant-gather-loop : goal.invariant-gather-loop
invariant-gather-loop l =
    (l.counter ≤ 5) × (l.key < 512 ^ l.counter) × ((q : Result (ℕ × ℕ) Code) → ForKnown l.names (λ ps. ArgsHave l.s l.i l.depth (5 - l.counter) l.key ps q) → ForKnown l.names (λ ps. ArgsHave l.s l.at l.depth 5 0 ps q))
