-- `sheets::reader::form::form_from` meets its contract. Assumes nothing.
use native.Mathlib.Omega.{arith}
use mathlib.Core.Path.{refl}
use borrow.Author.Rules.{rules}
use Rattle.sheets.proofs.reader.FormSteps.{form-number, form-done, form-over, form-bad, form-more}
use Rattle.sheets.proofs.reader.form.form_from.Goals as goal

pub loop-at-init : goal.loop-at-init
loop-at-init c = record { has_number = search rules; rest = λ p. (p, refl) }

pub returns-then-number-gt96 : goal.returns-then-number-gt96
returns-then-number-gt96 c = λ p. let v = c.loop-at.invariant in form-over _ _ _ _ (omega (arith, v.has_number)) _ (v.rest p).1 c.loop-at-test.true c.if-number-gt96.true

pub returns-in_default : goal.returns-in_default
returns-in_default c = λ p. let v = c.loop-at.invariant in form-bad _ _ _ _ (omega (arith, v.has_number)) _ (v.rest p).1 c.loop-at-test.true c.if-number-gt96.false _ c.line_end.ensures c.in_default.is

pub overflow_add-number : goal.overflow_add-number
overflow_add-number c = omega arith

pub loop-at-smaller : goal.loop-at-smaller
loop-at-smaller c = omega arith

pub loop-at-preserved : goal.loop-at-preserved
loop-at-preserved c =
    let v = c.loop-at.invariant in
    record {
      has_number = form-number _ _ _ c.line_end.ensures _ c.in-Some.is _ v.has_number;
      rest = λ p. form-more _ _ _ _ (omega (arith, v.has_number)) _ (v.rest p).1 c.loop-at-test.true c.if-number-gt96.false _ c.line_end.ensures _ c.in-Some.is;
    }

pub overflow_sub-result : goal.overflow_sub-result
overflow_sub-result c = omega (arith, c.loop-at.invariant.has_number)

pub returns : goal.returns
returns c = λ p. let v = c.loop-at.invariant in form-done _ _ _ _ (omega (arith, v.has_number)) _ (v.rest p).1 c.loop-at-test.false
