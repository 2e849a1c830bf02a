-- `sheets::check::kind_walk::gather` and `sheets::check::kind_walk::kind_at`, which call each other, meet their contracts. Assumes nothing.
use native.Mathlib.Omega.{arith}
use mathlib.Core.Path.{ap, sym, ◌∙◌}
use Rattle.std.specs.Prelude.{Err}
use Rattle.std.proofs.lemmas.Result.{err_from_is_err_and}
use Rattle.sheets.proofs.reader.ExprSteps.{expr-deep, expr-no-word}
use Rattle.sheets.proofs.check.KindSteps.{has-none, form-refused, form-no-row, form-row, have-closed, have-sixth, have-other, have-refused, have-more, grown, left-one}
use Rattle.sheets.proofs.check.kind_walk.+gather_kind_at.Goals as goal
use Rattle.sheets.proofs.check.kind_walk.+gather_kind_at.Goals.{gather-else-loop-test, gather-then-loop-test+then-byte-ne32}

pub gather-loop-init : goal.gather-loop-init
gather-loop-init t c = (omega arith, omega arith, λ q h. h)

pub gather-overflow_add-i : goal.gather-overflow_add-i
gather-overflow_add-i t c = omega (arith, c.byte.ensures.inside, c.if-byte-ne32.false)

pub gather-overflow_mul-key : goal.gather-overflow_mul-key
gather-overflow_mul-key t c = omega (arith, grown _ _ c.in_ok-kind.kind c.loop-test.true c.loop.invariant.1 (omega arith))

pub gather-overflow_add-key : goal.gather-overflow_add-key
gather-overflow_add-key t c = omega (arith, grown _ _ c.in_ok-kind.kind c.loop-test.true c.loop.invariant.1 (omega arith))

pub gather-overflow_add-key-in-loop : goal.gather-overflow_add-key-in-loop
gather-overflow_add-key-in-loop t c = omega (arith, grown _ _ c.in_ok-kind.kind c.loop-test.true c.loop.invariant.1 (omega arith))

pub gather-loop-preserved : goal.gather-loop-preserved
gather-loop-preserved t c = (
  omega (arith, c.loop-test.true),
  (grown _ _ c.in_ok-kind.kind c.loop-test.true c.loop.invariant.1 (omega arith)).0,
  λ q h. c.loop.invariant.2 q (record { is = λ ps st. have-more _ _ _ c.byte.ensures.is _ _ _ ps c.if-byte-ne32.false (omega (arith, c.loop-test.true)) _ (c.kind_at.ensures.is ps st) _ _ c.in_ok-kind.was q (left-one _ c.loop-test.true _ _ _ _ _ _ (h.is ps st)) }),
)

pub gather-returns-in_err-kind : goal.gather-returns-in_err-kind
gather-returns-in_err-kind t c =
    let p = err_from_is_err_and c.from_residual.result c.from_residual.ensures.1 in rw (p.1 ∙ ap Err p.2) (c.loop.invariant.2 _ (record { is = λ ps st. have-refused _ _ _ c.byte.ensures.is _ _ _ ps c.if-byte-ne32.false (omega (arith, c.loop-test.true)) _ (c.kind_at.ensures.is ps st) _ c.in_err-kind.was }))

pub gather-overflow_add-result : goal.gather-overflow_add-result
gather-overflow_add-result t c = omega (arith, c.byte-2.ensures.inside, c.if-byte-eq41.true)

pub gather-returns-then-byte-eq41 : goal.gather-returns-then-byte-eq41
gather-returns-then-byte-eq41 t c = c.loop.invariant.2 _ (record { is = λ ps st. have-closed _ _ _ c.byte-2.ensures.is _ _ _ ps c.if-byte-eq41.true })

pub gather-returns : goal.gather-returns
gather-returns t c = elim c.loop-test.branch [
  | gather-else-loop-test w ↦ c.loop.invariant.2 _ (record { is = λ ps st. have-sixth _ _ _ c.byte-2.ensures.is _ _ _ ps _ c.if-byte-eq41.false (omega (arith, w.loop-test.false)) })
  | gather-then-loop-test+then-byte-ne32 w ↦ c.loop.invariant.2 _ (record { is = λ ps st. have-other _ _ _ c.byte-2.ensures.is _ _ _ ps _ (λ e. w.if-byte-ne32.true (w.byte.ensures.is ∙ sym c.byte-2.ensures.is ∙ e)) c.if-byte-eq41.false })
]

pub kind_at-returns-then-depth-eq0 : goal.kind_at-returns-then-depth-eq0
kind_at-returns-then-depth-eq0 t c = record { is = λ ps st. has-none _ _ _ _ _ (expr-deep _ _ _ c.byte-b.ensures.is _ c.if-b-eq40.true c.if-depth-eq0.true) }

pub kind_at-overflow_add-at : goal.kind_at-overflow_add-at
kind_at-overflow_add-at t c = omega arith

pub kind_at-returns-in_default : goal.kind_at-returns-in_default
kind_at-returns-in_default t c = record { is = λ ps st. has-none _ _ _ _ _ (expr-no-word _ _ _ c.byte-b.ensures.is _ c.if-b-eq40.true c.if-depth-eq0.false _ c.word-w.ensures c.in_default.is) }

pub kind_at-overflow_sub-depth : goal.kind_at-overflow_sub-depth
kind_at-overflow_sub-depth t c = omega arith

pub kind_at-gather-requires : goal.kind_at-gather-requires
kind_at-gather-requires t c = (omega arith, tt)

pub kind_at-returns-in_err-key : goal.kind_at-returns-in_err-key
kind_at-returns-in_err-key t c =
    let p = err_from_is_err_and c.from_residual.result c.from_residual.ensures.1 in rw (p.1 ∙ ap Err p.2) (record { is = λ ps st. form-refused _ _ _ c.byte-b.ensures.is _ _ c.if-b-eq40.true c.if-depth-eq0.false _ c.word-w.ensures _ _ c.in-Some.is _ (c.gather.ensures.is ps st) _ c.in_err-key.was })

pub kind_at-returns-in_default-kind_of_row : goal.kind_at-returns-in_default-kind_of_row
kind_at-returns-in_default-kind_of_row t c = record { is = λ ps st. form-no-row _ _ _ c.byte-b.ensures.is _ _ c.if-b-eq40.true c.if-depth-eq0.false _ c.word-w.ensures _ _ c.in-Some.is _ (c.gather.ensures.is ps st) _ _ c.in_ok-key.was _ c.kind_of_row.ensures c.in_default-kind_of_row.is }

pub kind_at-returns-then-b-eq40 : goal.kind_at-returns-then-b-eq40
kind_at-returns-then-b-eq40 t c = record { is = λ ps st. form-row _ _ _ c.byte-b.ensures.is _ _ c.if-b-eq40.true c.if-depth-eq0.false _ c.word-w.ensures _ _ c.in-Some.is _ (c.gather.ensures.is ps st) _ _ c.in_ok-key.was _ c.kind_of_row.ensures _ c.in-Some-kind_of_row.is }

pub kind_at-returns : goal.kind_at-returns
kind_at-returns t c = record { is = λ ps st. (c.leaf_kind.ensures.is ps st).is (λ e. c.if-b-eq40.false (c.byte-b.ensures.is ∙ e)) _ }
