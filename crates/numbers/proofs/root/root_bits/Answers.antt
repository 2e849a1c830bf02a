-- `numbers::root::root_bits` meets its contract. Assumes nothing.
use Rattle.std.proofs.Common.{◌≡◌, ℕ, ◌+◌, ◌*◌, subst, arith}
use Rattle.numbers.specs.code.RootSteps.{RootOf}
use Rattle.numbers.proofs.Rounded.{rounded-up, rounded-down}
use Rattle.numbers.proofs.root.root_bits.Goals as goal

over : (g r : ℕ) → g * 4503599627370496 + (r + 1) ≡ g * 4503599627370496 + r + 1
over g r = omega arith

pub returns-then-r : goal.returns-then-r
returns-then-r c =
    let s = c.scaled-s in
    let r = c.by_digits-r in
    subst (RootOf c.args.b) (over s.result.g r.result.root)
    (rounded-up c.args.b s.result.w s.result.g r.result.root r.result.rest c.requires.0 c.requires.1 s.ensures r.ensures (omega arith))

pub returns-else-r : goal.returns-else-r
returns-else-r c =
    let s = c.scaled-s in
    let r = c.by_digits-r in
    rounded-down c.args.b s.result.w s.result.g r.result.root r.result.rest c.requires.0 c.requires.1 s.ensures r.ensures (omega arith)
