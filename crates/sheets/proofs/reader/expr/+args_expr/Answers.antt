-- `sheets::reader::expr::args` and `sheets::reader::expr::expr`, which call each other, meet their contracts. Assumes nothing.
use native.Mathlib.Omega.{arith}
use Rattle.sheets.proofs.reader.ExprSteps.{args-close, args_none, args-other, args-bad, args_more, expr-deep, expr-no-word, expr-form, expr-name, expr-num, expr-bad}
use Rattle.sheets.proofs.reader.expr.+args_expr.Goals as goal

pub args-overflow_add-result : goal.args-overflow_add-result
args-overflow_add-result t c = omega arith

pub args-returns-then-b-eq41 : goal.args-returns-then-b-eq41
args-returns-then-b-eq41 t c = args-close _ _ _ _ c.byte-b.ensures.is _ c.if-b-eq41.true

pub args-returns-then-left-eq0 : goal.args-returns-then-left-eq0
args-returns-then-left-eq0 t c = args_none _ _ _ _ c.byte-b.ensures.is _ c.if-b-eq41.false c.if-left-eq0.true

pub args-overflow_add-at : goal.args-overflow_add-at
args-overflow_add-at t c = omega arith

pub args-expr-requires : goal.args-expr-requires
args-expr-requires t c = (omega arith, tt)

pub args-overflow_sub-left : goal.args-overflow_sub-left
args-overflow_sub-left t c = omega arith

pub args-args-requires : goal.args-args-requires
args-args-requires t c = (omega arith, tt)

pub args-returns-in_err-n : goal.args-returns-in_err-n
args-returns-in_err-n t c = rw c.from_residual.ensures (args-bad _ _ _ _ c.byte-b.ensures.is _ c.if-left-eq0.false c.if-b-eq32.true _ c.expr.ensures c.in_err-n.was)

pub args-returns-then-b-eq32 : goal.args-returns-then-b-eq32
args-returns-then-b-eq32 t c = args_more _ _ _ _ c.byte-b.ensures.is _ c.if-left-eq0.false c.if-b-eq32.true _ c.expr.ensures _ c.in_ok-n.was _ c.args-then-b-eq32.ensures

pub args-returns : goal.args-returns
args-returns t c = args-other _ _ _ _ c.byte-b.ensures.is _ c.if-b-eq41.false c.if-b-eq32.false

pub expr-returns-then-depth-eq0 : goal.expr-returns-then-depth-eq0
expr-returns-then-depth-eq0 t c = expr-deep _ _ _ c.byte-b.ensures.is _ c.if-b-eq40.true c.if-depth-eq0.true

pub expr-overflow_add-at : goal.expr-overflow_add-at
expr-overflow_add-at t c = omega arith

pub expr-overflow_sub-depth : goal.expr-overflow_sub-depth
expr-overflow_sub-depth t c = omega arith

pub expr-args-requires : goal.expr-args-requires
expr-args-requires t c = (omega arith, tt)

pub expr-returns-in_err-n : goal.expr-returns-in_err-n
expr-returns-in_err-n t c = rw c.from_residual.ensures (expr-no-word _ _ _ c.byte-b.ensures.is _ c.if-b-eq40.true c.if-depth-eq0.false _ c.word.ensures c.in_err-n.was)

pub expr-returns-then-b-eq40 : goal.expr-returns-then-b-eq40
expr-returns-then-b-eq40 t c = expr-form _ _ _ c.byte-b.ensures.is _ c.if-b-eq40.true c.if-depth-eq0.false _ c.word.ensures _ _ c.in_ok-n.was _ c.args-then-b-eq40.ensures

pub expr-returns-in-Some : goal.expr-returns-in-Some
expr-returns-in-Some t c = expr-name _ _ _ c.byte-b.ensures.is _ c.if-b-eq40.false _ c.word-2.ensures _ _ c.in-Some.is

pub expr-returns : goal.expr-returns
expr-returns t c = expr-num _ _ _ c.byte-b.ensures.is _ c.if-b-eq40.false _ c.word-2.ensures c.in_default.is _ c.num.ensures _ c.in_ok-x.was

pub expr-returns-in_err-x : goal.expr-returns-in_err-x
expr-returns-in_err-x t c = rw c.from_residual-in_err-x.ensures (expr-bad _ _ _ c.byte-b.ensures.is _ c.if-b-eq40.false _ c.word-2.ensures c.in_default.is _ c.num.ensures c.in_err-x.was)
