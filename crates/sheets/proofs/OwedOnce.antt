-- What a call owes is one answer and one buffer: the bytes, what is lent and the readings decide both. Assumes nothing.
use Prim.Native.Nat.{ℕ}
use mathlib.Core.Path.{◌≡◌, sym, ap, subst, ◌∙◌}
use mathlib.Core.List.{List}
use lib.Ieee.{Float}
use Rattle.sheets.specs.Trees.{Sheet}
use Rattle.sheets.specs.Grammar.{Form}
use Rattle.sheets.specs.Machine.{Ran, done, stopped, machine}
use Rattle.sheets.specs.Answers.{Verdict, admitted, refused, verdict, CheckAnswer, check_of, kinds_of_verdict, lent_kinds, CheckOwes, RunAnswer, Tells, RunOf, lent_run, RunOwes}
use Rattle.sheets.proofs.reader.FormLaws.{form-once}

pub check-once : (s kinds : List ℕ) (r q : CheckAnswer) (k l : List ℕ) → CheckOwes s kinds r k → CheckOwes s kinds q l → (r ≡ q) × (k ≡ l)
check-once s kinds r q k l a b =
    let e = form-once s a.form_is b.form_is a.grammar b.grammar in (
      a.answer ∙ ap (λ (o : Form Sheet). check_of (verdict (lent_kinds kinds) s o)) e ∙ sym b.answer,
      a.left ∙ ap (λ (o : Form Sheet). kinds_of_verdict (verdict (lent_kinds kinds) s o) kinds) e ∙ sym b.left,
    )

module _ (rs : List Float) (out : List ℕ) (r q : RunAnswer) (o p : List ℕ) where
  tells-once : (m : Ran) → Tells m out r o → Tells m out q p → (r ≡ q) × (o ≡ p)
  tells-once (done fs s) a b = (a.0 ∙ sym b.0, a.1 ∙ sym b.1)
  tells-once (stopped fs k i s) a b = (a.0 ∙ sym b.0, a.1 ∙ sym b.1)
  tells-once (Rattle.sheets.specs.Machine.stuck _ _ _) a b = elim a [ ]

  verdict-once : (v : Verdict) → RunOf v rs out r o → RunOf v rs out q p → (r ≡ q) × (o ≡ p)
  verdict-once (admitted c cs) a b = tells-once (machine c rs) a b
  verdict-once (refused k j) a b = (a.0 ∙ sym b.0, a.1 ∙ sym b.1)

  pub run-once : (s : List ℕ) → RunOwes s rs out r o → RunOwes s rs out q p → (r ≡ q) × (o ≡ p)
  run-once s a b =
      verdict-once (verdict (lent_run rs out) s b.form_is)
      (subst (λ (f : Form Sheet). RunOf (verdict (lent_run rs out) s f) rs out r o) (form-once s a.form_is b.form_is a.grammar b.grammar) a.answer) b.answer
