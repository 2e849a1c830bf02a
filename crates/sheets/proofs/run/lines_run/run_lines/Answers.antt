-- `sheets::run::lines_run::run_lines` meets its contract. Assumes nothing.
use native.Mathlib.Omega.{arith}
use mathlib.Core.Path.{refl, ◌∙◌, ap}
use Rattle.std.specs.Prelude.{Some}
use lib.ListN.{length-set, length-replicate}
use Rattle.sheets.proofs.reader.LineSteps.{head-says}
use Rattle.sheets.proofs.check.NewestLaws.{placed-or}
use Rattle.sheets.proofs.run.RunSteps.{runs-start, runs-end, runs-over, runs-bad, runs-let-not, runs-let, runs-whole-not, runs-whole}
use borrow.Author.Rules.{rules}
use Rattle.sheets.proofs.run.lines_run.run_lines.Goals as goal
use Rattle.sheets.proofs.run.lines_run.run_lines.Goals.{then-loop-line-test+else-at-s, else-loop-line-test}

pub loop-line-init : goal.loop-line-init
loop-line-init c = (simp length-replicate, omega arith, omega arith, refl, runs-start _ _ (search rules) _ _ _ _ c.new-names.ensures _ _ c.new-shown.ensures _ c.put_readings.ensures)

pub overflow_add-line : goal.overflow_add-line
overflow_add-line c = omega arith

pub shape_of-out-in-None : goal.shape_of-out-in-None
shape_of-out-in-None c = c.loop-line.invariant.3

pub returns-in-None : goal.returns-in-None
returns-in-None c = c.loop-line.invariant.4 _ _ (runs-bad c.if-at-s.true (head-says _ _ _ c.line_head.ensures _ c.in-None.is) _ _)

pub overflow_add-n : goal.overflow_add-n
overflow_add-n c = omega arith

pub overflow_mul-n : goal.overflow_mul-n
overflow_mul-n c = omega (arith, c.loop-line.invariant.1, c.loop-line-test.true)

pub let_value-requires : goal.let_value-requires
let_value-requires c = omega (arith, c.loop-line.invariant.1, c.loop-line-test.true)

pub shape_of-out-in-Err : goal.shape_of-out-in-Err
shape_of-out-in-Err c = c.loop-line.invariant.3

pub returns-in-Err : goal.returns-in-Err
returns-in-Err c = c.loop-line.invariant.4 _ _ (runs-let-not c.if-at-s.true _ _ (head-says _ _ _ c.line_head.ensures _ (c.in-Some-Let.is ∙ ap Some c.in-Some-Let.field-0-is)) _ _ _ c.let_value.ensures _ c.in-Err.is _ c.stopped.ensures)

pub give-requires : goal.give-requires
give-requires c = omega (arith, c.loop-line.invariant.1, c.loop-line-test.true)

pub offset_bounds-t-n : goal.offset_bounds-t-n
offset_bounds-t-n c = omega (arith, c.loop-line.invariant.1, c.loop-line-test.true)

pub bounds-t-n : goal.bounds-t-n
bounds-t-n c = omega (arith, c.loop-line.invariant.0, c.loop-line.invariant.1, c.loop-line-test.true)

pub loop-line-smaller-in-Ok : goal.loop-line-smaller-in-Ok
loop-line-smaller-in-Ok c = omega (arith, c.loop-line-test.true)

pub loop-line-preserved-in-Ok : goal.loop-line-preserved-in-Ok
loop-line-preserved-in-Ok c = (simp length-set c.loop-line.invariant.0, omega (arith, c.loop-line.invariant.1), omega (arith, c.loop-line-test.true), c.loop-line.invariant.3, λ q o k. c.loop-line.invariant.4 q o (runs-let c.if-at-s.true _ _ (head-says _ _ _ c.line_head.ensures _ (c.in-Some-Let.is ∙ ap Some c.in-Some-Let.field-0-is)) _ _ _ c.let_value.ensures _ c.in-Ok.is (omega (arith, c.loop-line.invariant.1, c.loop-line-test.true)) _ _ c.give.ensures q o k))

pub bounds-t-j : goal.bounds-t-j
bounds-t-j c = omega (arith, (placed-or _ _ _ c.place.ensures _ c.unwrap_or-j.ensures).most, c.loop-line.invariant.0)

pub whole_line-requires : goal.whole_line-requires
whole_line-requires c = (placed-or _ _ _ c.place.ensures _ c.unwrap_or-j.ensures).most

pub shape_of-out-in-Err-whole_line : goal.shape_of-out-in-Err-whole_line
shape_of-out-in-Err-whole_line c = c.whole_line.auto.out ∙ c.loop-line.invariant.3

pub returns-in-Err-whole_line : goal.returns-in-Err-whole_line
returns-in-Err-whole_line c = c.loop-line.invariant.4 _ _ (runs-whole-not c.if-at-s.true _ c.line_head.ensures _ _ (c.in-Some-Whole.is ∙ ap Some c.in-Some-Whole.field-0-is) (omega (arith, c.loop-line-test.true)) _ c.named.ensures _ (placed-or _ _ _ c.place.ensures _ c.unwrap_or-j.ensures) _ _ _ _ c.whole_line.ensures _ c.in-Err-whole_line.is _ c.stopped-in-Err-whole_line.ensures)

pub loop-line-smaller : goal.loop-line-smaller
loop-line-smaller c = omega (arith, c.loop-line-test.true)

pub loop-line-preserved : goal.loop-line-preserved
loop-line-preserved c =
    let before = c.loop-line.invariant in (
      before.0,
      omega (arith, before.1),
      omega (arith, c.loop-line-test.true),
      c.whole_line.auto.out ∙ before.3,
      λ q o k. before.4 q o (runs-whole c.if-at-s.true _ c.line_head.ensures _ _ (c.in-Some-Whole.is ∙ ap Some c.in-Some-Whole.field-0-is) (omega (arith, c.loop-line-test.true)) _ c.named.ensures _ (placed-or _ _ _ c.place.ensures _ c.unwrap_or-j.ensures) _ _ _ _ c.whole_line.ensures (omega (arith, before.1)) _ c.in-Ok-whole_line.is q o k),
    )

pub shape_of-out : goal.shape_of-out
shape_of-out c = c.loop-line.invariant.3

pub returns : goal.returns
returns c = elim c.loop-line-test.branch [
  | then-loop-line-test+else-at-s w ↦ c.loop-line.invariant.4 _ _ (runs-end w.if-at-s.false _ c.run_answer-2.ensures)
  | else-loop-line-test w ↦ c.loop-line.invariant.4 _ _ (runs-over (omega (arith, w.loop-line-test.false)) _ c.run_answer-2.ensures)
]

pub offset_bounds-t-j : goal.offset_bounds-t-j
offset_bounds-t-j c = omega (arith, (placed-or _ _ _ c.place.ensures _ c.unwrap_or-j.ensures).most)
