-- `sheets::run::eval::bracket` and `sheets::run::eval::eval`, which call each other, meet their contracts. Assumes nothing.
use native.Mathlib.Omega.{arith}
use mathlib.Core.Path.{refl, sym, ap, ◌∙◌}
use Rattle.std.specs.Prelude.{Err}
use Rattle.std.proofs.lemmas.Result.{err_from_is_err_and}
use Rattle.sheets.proofs.reader.ExprSteps.{expr-deep, expr-no-word}
use Rattle.sheets.proofs.check.KindSteps.{grown}
use Rattle.sheets.proofs.run.EvalSteps.{evals-bad, evals-leaf}
use Rattle.sheets.proofs.run.BracketSteps.{evals-form, bracket-closed, bracket-sixth, bracket-other, bracket-halted, bracket-more, one-fewer}
use Rattle.sheets.proofs.run.eval.+bracket_eval.Goals as goal
use Rattle.sheets.proofs.run.eval.+bracket_eval.Goals.{bracket-else-loop-n-test, bracket-then-loop-n-test+then-byte-ne32}

pub eval-returns-then-depth-eq0 : goal.eval-returns-then-depth-eq0
eval-returns-then-depth-eq0 t c = evals-bad _ _ _ _ _ _ _ _ _ _ (expr-deep _ _ _ c.byte-b.ensures.is _ c.if-b-eq40.true c.if-depth-eq0.true)

pub eval-overflow_add-at : goal.eval-overflow_add-at
eval-overflow_add-at t c = omega (arith, c.byte-b.ensures.inside)

pub eval-returns-in_default : goal.eval-returns-in_default
eval-returns-in_default t c = evals-bad _ _ _ _ _ _ _ _ _ _ (expr-no-word _ _ _ c.byte-b.ensures.is _ c.if-b-eq40.true c.if-depth-eq0.false _ c.word-w.ensures c.in_default.is)

pub eval-overflow_sub-depth : goal.eval-overflow_sub-depth
eval-overflow_sub-depth t c = omega arith

pub eval-bracket-requires : goal.eval-bracket-requires
eval-bracket-requires t c = (omega arith, omega (arith, c.requires))

pub eval-returns-then-b-eq40 : goal.eval-returns-then-b-eq40
eval-returns-then-b-eq40 t c = evals-form _ _ _ c.byte-b.ensures.is _ c.if-b-eq40.true c.if-depth-eq0.false _ c.word-w.ensures _ _ c.in-Some.is _ _ _ _ _ _ _ c.bracket.ensures

pub eval-leaf-requires : goal.eval-leaf-requires
eval-leaf-requires t c = omega (arith, c.requires)

pub eval-returns : goal.eval-returns
eval-returns t c = evals-leaf _ _ _ _ _ _ _ _ _ _ _ c.byte-b.ensures.is c.if-b-eq40.false c.leaf.ensures

pub bracket-loop-n-init : goal.bracket-loop-n-init
bracket-loop-n-init t c = (omega arith, omega arith, λ q m g h. h)

pub bracket-overflow_mul-room : goal.bracket-overflow_mul-room
bracket-overflow_mul-room t c = omega (arith, c.loop-n-test.true)

pub bracket-overflow_add-room : goal.bracket-overflow_add-room
bracket-overflow_add-room t c = omega (arith, c.requires, c.loop-n-test.true)

pub bracket-overflow_add-at : goal.bracket-overflow_add-at
bracket-overflow_add-at t c = omega (arith, c.byte.ensures.inside, c.if-byte-ne32.false)

pub bracket-eval-requires : goal.bracket-eval-requires
bracket-eval-requires t c = (omega arith, omega (arith, c.requires, c.loop-n-test.true))

pub bracket-returns-in_err-kind : goal.bracket-returns-in_err-kind
bracket-returns-in_err-kind t c =
    let p = err_from_is_err_and c.from_residual.result c.from_residual.ensures.1 in rw (p.1 ∙ ap Err p.2) (c.loop-n.invariant.2 _ _ _ (bracket-halted _ _ _ c.byte.ensures.is _ _ _ _ _ _ _ _ c.if-byte-ne32.false (omega (arith, c.loop-n-test.true)) _ (omega (arith, c.loop-n-test.true)) _ _ _ c.eval.ensures _ c.in_err-kind.was _))

pub bracket-overflow_mul-key : goal.bracket-overflow_mul-key
bracket-overflow_mul-key t c = omega (arith, grown _ _ c.in_ok-kind.kind c.loop-n-test.true c.loop-n.invariant.1 (omega arith))

pub bracket-overflow_add-key : goal.bracket-overflow_add-key
bracket-overflow_add-key t c = omega (arith, grown _ _ c.in_ok-kind.kind c.loop-n-test.true c.loop-n.invariant.1 (omega arith))

pub bracket-overflow_add-key-in-loop-n : goal.bracket-overflow_add-key-in-loop-n
bracket-overflow_add-key-in-loop-n t c = omega (arith, grown _ _ c.in_ok-kind.kind c.loop-n-test.true c.loop-n.invariant.1 (omega arith))

pub bracket-loop-n-preserved : goal.bracket-loop-n-preserved
bracket-loop-n-preserved t c = (
  omega (arith, c.loop-n-test.true),
  (grown _ _ c.in_ok-kind.kind c.loop-n-test.true c.loop-n.invariant.1 (omega arith)).0,
  λ q m g h. c.loop-n.invariant.2 q m g (bracket-more _ _ _ c.byte.ensures.is _ _ _ _ _ _ _ _ c.if-byte-ne32.false (omega (arith, c.loop-n-test.true)) _ (omega (arith, c.loop-n-test.true)) _ _ _ c.eval.ensures _ c.in_ok-kind.was _ refl q m g (one-fewer _ c.loop-n-test.true _ _ _ _ _ _ _ _ _ _ _ _ h)),
)

pub bracket-overflow_add-at-then-byte-eq41 : goal.bracket-overflow_add-at-then-byte-eq41
bracket-overflow_add-at-then-byte-eq41 t c = omega (arith, c.byte-2.ensures.inside, c.if-byte-eq41.true)

pub bracket-apply-requires : goal.bracket-apply-requires
bracket-apply-requires t c = omega (arith, c.requires)

pub bracket-returns-then-byte-eq41 : goal.bracket-returns-then-byte-eq41
bracket-returns-then-byte-eq41 t c = c.loop-n.invariant.2 _ _ _ (bracket-closed _ _ _ c.byte-2.ensures.is _ _ _ _ _ _ _ _ c.if-byte-eq41.true _ _ c.apply.ensures)

pub bracket-returns : goal.bracket-returns
bracket-returns t c = elim c.loop-n-test.branch [
  | bracket-else-loop-n-test w ↦ c.loop-n.invariant.2 _ _ _ (bracket-sixth _ _ _ c.byte-2.ensures.is _ _ _ _ _ _ _ _ c.if-byte-eq41.false (omega (arith, w.loop-n-test.false)) _ _ _)
  | bracket-then-loop-n-test+then-byte-ne32 w ↦ c.loop-n.invariant.2 _ _ _ (bracket-other _ _ _ c.byte-2.ensures.is _ _ _ _ _ _ _ _ (λ e. w.if-byte-ne32.true (w.byte.ensures.is ∙ sym c.byte-2.ensures.is ∙ e)) c.if-byte-eq41.false _ _ _)
]
