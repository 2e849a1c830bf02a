-- `boresheet::readings::readings_of` meets its contract. Assumes nothing.
use native.Mathlib.Omega.{arith}
use mathlib.Core.Path.{refl}
use lib.ListN.{length-set}
use Rattle.boresheet.specs.code.Readings.{readings_of}
use Rattle.sheets.specs.LineNumbers.{count_lf}
use Rattle.boresheet.proofs.ReadingNumbers.{reading-next}
use Rattle.boresheet.proofs.ReadingSteps.{file-all, file-long, file-short, file-bad, file-turn}
use Rattle.boresheet.proofs.readings.readings_of.Goals as goal

pub loop-i-init : goal.loop-i-init
unfolding readings_of count_lf
loop-i-init c = (refl, refl, refl)

pub returns-then-s-at : goal.returns-then-s-at
returns-then-s-at c =
    let v = c.loop-i.invariant in
    file-short _ _ c.loop-i.i _ v.0 (omega arith) _ v.1 (omega arith) c.if-s-at.true

pub returns-in_default : goal.returns-in_default
returns-in_default c =
    let v = c.loop-i.invariant in
    file-bad _ _ c.loop-i.i _ v.0 (omega arith) _ v.1 (omega arith) c.if-s-at.false _ c.reading.ensures c.in_default.is

pub loop-i-preserved : goal.loop-i-preserved
loop-i-preserved c =
    let v = c.loop-i.invariant in
    (simp length-set v.0, file-turn _ _ c.loop-i.i _ v.0 (omega arith) _ v.1 (omega arith) c.if-s-at.false _ c.reading.ensures _ _ c.in-Some.is, reading-next _ _ _ c.reading.ensures _ _ c.in-Some.is _ v.2)

pub returns-then-at-s : goal.returns-then-at-s
returns-then-at-s c =
    let v = c.loop-i.invariant in
    file-long _ _ c.loop-i.i _ v.0 (omega arith) _ v.1 (omega arith) c.if-at-s.true

pub returns : goal.returns
returns c =
    let v = c.loop-i.invariant in
    file-all _ _ c.loop-i.i _ v.0 (omega arith) _ v.1 (omega arith) c.if-at-s.false
