-- The loop of `numbers::root::lifted`.
use Rattle.std.proofs.Common.{◌≡◌, ℕ, ◌-◌, ◌*◌, ◌^◌, ◌<◌, ◌≤◌}
use Rattle.numbers.proofs.root.lifted.Given as goal

pub record Inv (v g w h : ℕ) : Type 0 where
  pub same : w * 4 ^ h ≡ v * 4 ^ g
  pub high : w < 2 ^ 54
  pub some : 0 < w
  pub under : h ≤ g

abbrev pub invariant-loop-w : goal.invariant-loop-w
invariant-loop-w l = Inv l.v l.g l.w l.h

abbrev pub decreases-loop-w : goal.decreases-loop-w
decreases-loop-w l = 2 ^ 54 - l.w
