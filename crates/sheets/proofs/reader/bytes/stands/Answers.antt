-- `sheets::reader::bytes::stands` meets its contract. Assumes nothing.
use native.Mathlib.Omega.{arith}
use mathlib.Core.Path.{sym, ◌∙◌}
use Rattle.sheets.proofs.reader.StandSteps.{stands-short, stands-start, begins-turn, begins-not, begins-end}
use Rattle.sheets.proofs.reader.bytes.stands.Goals as goal

pub returns-then-s-at : goal.returns-then-s-at
returns-then-s-at c = stands-short _ _ _ (omega arith)

pub overflow_sub-s : goal.overflow_sub-s
overflow_sub-s c = omega arith

pub returns-then-s-at-2 : goal.returns-then-s-at-2
returns-then-s-at-2 c = stands-short _ _ _ (omega arith)

pub loop-i-init : goal.loop-i-init
loop-i-init c = (omega arith, omega arith, stands-start _ _ _ (omega arith))

pub overflow_add-at : goal.overflow_add-at
overflow_add-at c = omega arith

pub bounds-s-at : goal.bounds-s-at
bounds-s-at c = omega arith

pub bounds-w-i : goal.bounds-w-i
bounds-w-i c = omega arith

pub returns-then-s-at-3 : goal.returns-then-s-at-3
returns-then-s-at-3 c = begins-not _ _ _ c.loop-i.i (omega arith) (omega arith) c.if-s-at-3.true ∙ sym c.loop-i.invariant.2

pub loop-i-smaller : goal.loop-i-smaller
loop-i-smaller c = omega arith

pub loop-i-preserved : goal.loop-i-preserved
loop-i-preserved c = (omega arith, c.loop-i.invariant.1, c.loop-i.invariant.2 ∙ begins-turn _ _ _ c.loop-i.i (omega arith) (omega arith) c.if-s-at-3.false)

pub returns : goal.returns
returns c = begins-end _ _ _ c.loop-i.i (omega arith) ∙ sym c.loop-i.invariant.2
