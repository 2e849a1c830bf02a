-- `sheets::check::admit::walk_lines` meets its contract. Assumes nothing.
use native.Mathlib.Omega.{arith}
use mathlib.Core.Path.{sym, ap, ◌∙◌}
use lib.ListN.{length}
use lib.Seq.{take-length}
use Rattle.sheets.proofs.check.AdmitSteps.{midway_start, walk_same, walk-done, walk-over, walk-three, walk-fault, walk-on}
use Rattle.std.specs.Prelude.{Err}
use Rattle.sheets.specs.code.check.Walking.{unless_bad}
use borrow.Author.Rules.{rules}
use Rattle.sheets.proofs.check.admit.walk_lines.Goals as goal

pub slice_bounds-s-end : goal.slice_bounds-s-end
slice_bounds-s-end c = sym (ap length (take-length c.args.sheet.now))

pub loop-at-init : goal.loop-at-init
loop-at-init c = (take-length _, midway_start _ c.args.sheet.now _ (take-length _) (search rules) _ c.new-names.ensures)

pub returns-then-passed-ge95 : goal.returns-then-passed-ge95
returns-then-passed-ge95 c = walk_same _ _ c.loop-at.invariant.0 _ _ _ (walk-over _ _ _ _ _ c.loop-at.invariant.1 c.loop-at-test.true c.if-passed-ge95.true _ _ (ap Err c.at.ensures))

pub overflow_add-line : goal.overflow_add-line
overflow_add-line c = omega arith

pub returns-in-Err-Form : goal.returns-in-Err-Form
returns-in-Err-Form c = walk_same _ _ c.loop-at.invariant.0 _ _ _ (walk-three _ _ _ _ _ c.loop-at.invariant.1 c.loop-at-test.true _ (c.line_kind.ensures.is _ _ (_, c.loop-at.invariant.1.stands)) c.if-passed-ge95.false (c.in-Err-Form.is ∙ ap Err c.in-Err-Form.field-0-is) _ _ (ap Err c.at-in-Err-Form.ensures))

pub unless_bad-requires : goal.unless_bad-requires
unless_bad-requires c = c.loop-at.invariant.1.has_number

pub returns-in-Err : goal.returns-in-Err
returns-in-Err c = walk_same _ _ c.loop-at.invariant.0 _ _ _ (walk-fault _ _ _ _ _ c.loop-at.invariant.1 c.loop-at-test.true _ (c.line_kind.ensures.is _ _ (_, c.loop-at.invariant.1.stands)) c.if-passed-ge95.false _ c.in-Err.is _ _ (ap Err (c.unless_bad.ensures _ ∙ ap (unless_bad _) c.at-in-Err.ensures)))

pub overflow_add-passed : goal.overflow_add-passed
overflow_add-passed c = omega arith

pub loop-at-smaller : goal.loop-at-smaller
loop-at-smaller c = omega arith

pub loop-at-preserved : goal.loop-at-preserved
loop-at-preserved c = (c.loop-at.invariant.0, walk-on _ _ _ _ _ c.loop-at.invariant.1 c.loop-at-test.true _ (c.line_kind.ensures.is _ _ (_, c.loop-at.invariant.1.stands)) c.if-passed-ge95.false _ c.in-Ok.is _ c.give.ensures)

pub overflow_add-result : goal.overflow_add-result
overflow_add-result c = omega arith

pub returns : goal.returns
returns c = walk_same _ _ c.loop-at.invariant.0 _ _ _ (walk-done _ _ _ _ _ c.loop-at.invariant.1 c.loop-at-test.false _)
