-- `sheets::run::floats::lay_three` meets its contract. Assumes nothing.
use Prim.Native.Nat.{suc, ◌+◌}
use native.Mathlib.Omega.{arith}
use mathlib.Core.Path.{◌≡◌, refl}
use Rattle.sheets.specs.code.run.Floats.{lay}
use Rattle.sheets.proofs.run.floats.lay_three.Goals as goal

pub returns : goal.returns
unfolding lay
returns c =
    let a : c.args.top + 1 ≡ suc c.args.top = omega arith in
    let b : c.args.top + 2 ≡ suc (suc c.args.top) = omega arith in
    rw (a, b) refl
