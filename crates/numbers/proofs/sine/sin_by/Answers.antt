-- `numbers::sine::sin_by` meets its contract: a case for each quarter. Assumes nothing.
use Rattle.std.proofs.Common.{◌≡◌, suc, ◌-◌, ap, arith}
use lib.Ieee.{neg}
use Rattle.numbers.specs.Sine.{sin_by}
use Rattle.numbers.proofs.sine.sin_by.Goals as goal

pub returns-in-0 : goal.returns-in-0
unfolding sin_by
returns-in-0 c = rw c.in-0.is c.sin_poly.ensures

pub returns-in-1 : goal.returns-in-1
unfolding sin_by
returns-in-1 c = rw c.in-1.is c.cos_poly.ensures

pub returns-in-2 : goal.returns-in-2
unfolding sin_by
returns-in-2 c = rw c.in-2.is (ap neg c.sin_poly-in-2.ensures)

pub returns-in_default : goal.returns-in_default
unfolding sin_by
returns-in_default c =
    let beyond : c.args.quarter ≡ suc (suc (suc (c.args.quarter - 3))) = omega arith in
    rw beyond (ap neg c.cos_poly-in_default.ensures)
