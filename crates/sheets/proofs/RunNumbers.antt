-- For a reader: what the invariant of the loop of `run_lines` says of a line's number, where `run` calls it. Assumes nothing.
use Prim.Native.Nat.{ℕ}
use native.Mathlib.Omega.{arith}
use mathlib.Core.Path.{◌≡◌, refl, ap}
use mathlib.Core.Bool.{Bool, true, false, not}
use mathlib.Core.List.{List}
use lib.Dec.{eqb}
use lib.ListN.{length}
use lib.Ieee.{Float}
use borrow.Author.Tests.{eqb-true, eqb-false}
use Rattle.sheets.specs.LineNumbers.{line_number}
use Rattle.sheets.specs.Answers.{RunAnswer, sized, of_form, RunOwes}
use Rattle.sheets.specs.code.reader.Reader.{read_sheet}
use Rattle.sheets.specs.code.check.Walking.{Outcome, Admits}
use Rattle.sheets.specs.declared.check.admit.Admission.{Admission}
use Rattle.std.specs.Prelude.{Ok}
use Rattle.sheets.proofs.run.Stages.{Stage}
use Rattle.sheets.proofs.run.RunSteps.{Decides, runs-numbered}
use Rattle.sheets.proofs.AnswerSteps.{run-lines}
use Rattle.sheets.proofs.OwedOnce.{run-once}

-- The sheet has its size, what is lent its lengths, and the check lets it pass: that is all that `run` has come by. h is what the code holds before a line.
-- With another number than the line's, any answer from there on would be one of the whole, and a run owes one answer alone.
pub run-number : (s : List ℕ) (rs : List Float) (out : List ℕ) → sized s ≡ true → length rs ≡ 16 → length out ≡ 24576
    → (a : Outcome) → Admits s (of_form (read_sheet s)) a → (p : Admission) → a ≡ Ok p
    → (h : Stage) → Decides s p.start p.ellipsoid rs out h → h.line ≡ line_number s h.at
run-number s rs out es er eo a ha p ep h inv = go (eqb h.line (line_number s h.at)) refl
  where
    owed : ((h.line ≡ line_number s h.at) → ⊥) → (r : RunAnswer) → RunOwes s rs out r out
    owed other r = run-lines s (sized s) refl rs out (ap not es) er eo a ha p ep r out (inv r out (runs-numbered other r out))

    never : ((h.line ≡ line_number s h.at) → ⊥) → ⊥
    never other =
        let r : RunAnswer = record { number = 0; line = 0; written = 0 } in
        let q : RunAnswer = record { number = 0; line = 1; written = 0 } in
        omega (arith, ap (λ (x : RunAnswer). x.line) (run-once rs out r q out out s (owed other r) (owed other q)).0)

    go : (b : Bool) → eqb h.line (line_number s h.at) ≡ b → h.line ≡ line_number s h.at
    go true t = eqb-true _ _ t
    go false t = absurd (never (eqb-false _ _ t))
