-- The line that the check or the run answers is at most 97, so that 32 bits hold it. Assumes nothing.
use Prim.Native.Nat.{ℕ, suc, ◌+◌, ◌≤◌}
use native.Mathlib.Omega.{arith}
use mathlib.Core.Bool.{Bool, true, false}
use mathlib.Core.List.{List, [], ◌∷◌}
use lib.ListN.{length}
use lib.Ieee.{Float}
use Rattle.frames.specs.declared.LocalFrame.{LocalFrame}
use Rattle.sheets.specs.Trees.{Line, Sheet, numbered}
use Rattle.sheets.specs.Grammar.{Form, formed, bad_line, Reads}
use Rattle.sheets.specs.Refusals.{Checked, fine, bad}
use Rattle.sheets.specs.Check.{Stateᶜ, stepᶜ, Walked, passes, refuses, onwardᶜ, stepsᶜ, startᶜ, walk}
use Rattle.sheets.specs.Machine.{Out, goes, stops, sticks, State, step, Ran, done, stopped, stuck, afterwards, onward, steps, start, machine}
use Rattle.sheets.specs.Answers.{sized, ranged, Verdict, admitted, refused, of_walked, of_range, of_form, of_size, verdict, check_of, lent_kinds, CheckOwes, Tells, RunOf, lent_run, RunOwes}
use Rattle.sheets.proofs.reader.FormLaws.{bad-range}
use Rattle.sheets.specs.declared.answers.CheckAnswer.{CheckAnswer}
use Rattle.sheets.specs.declared.answers.RunAnswer.{RunAnswer}

-- ---- the walk over kinds

Refused : ℕ → Walked → Type 0
Refused m (passes cs) = Unit {0}
Refused m (refuses f j) = j ≤ m

walk-onward : (o : Checked Stateᶜ) (i m : ℕ) (k : Stateᶜ → Walked) → i ≤ m → ((t : Stateᶜ) → Refused m (k t)) → Refused m (onwardᶜ o i k)
unfolding Refused
walk-onward (fine t) i m k l h = h t
walk-onward (bad c) i m k l h = l

walk-bound : (xs : List Line) (i m : ℕ) (s : Stateᶜ) → i + length xs ≤ m → Refused m (stepsᶜ (numbered i xs) s)
unfolding Refused stepsᶜ
walk-bound [] i m s l = tt
walk-bound (x ∷ xs) i m s l = walk-onward (stepᶜ i s x) i m (λ t. stepsᶜ (numbered (suc i) xs) t) (omega arith) (λ t. walk-bound xs (suc i) m t (omega arith))

-- ---- the machine

Ended : ℕ → Ran → Type 0
Ended m (done fs s) = Unit {0}
Ended m (stopped fs r i s) = i ≤ m
Ended m (stuck fs i s) = i ≤ m

ended-afterwards : (fs : List LocalFrame) (m : ℕ) (r : Ran) → Ended m r → Ended m (afterwards fs r)
unfolding Ended
ended-afterwards fs m (done hs s) h = h
ended-afterwards fs m (stopped hs r i s) h = h
ended-afterwards fs m (stuck hs i s) h = h

ended-onward : (o : Out State) (i m : ℕ) (s : State) (k : State → Ran) → i ≤ m → ((t : State) → Ended m (k t)) → Ended m (onward o i s k)
unfolding Ended
ended-onward (goes fs t) i m s k l h = ended-afterwards fs m (k t) (h t)
ended-onward (stops fs r) i m s k l h = l
ended-onward (sticks fs) i m s k l h = l

steps-bound : (xs : List Line) (i m : ℕ) (s : State) → i + length xs ≤ m → Ended m (steps (numbered i xs) s)
unfolding Ended steps
steps-bound [] i m s l = tt
steps-bound (x ∷ xs) i m s l = ended-onward (step i s x) i m s (λ t. steps (numbered (suc i) xs) t) (omega arith) (λ t. steps-bound xs (suc i) m t (omega arith))

-- ---- the answers

-- of a refusal its line, of an admitted sheet how many lines it has
Settled : Verdict → Type 0
Settled (admitted c cs) = length c.lines ≤ 95
Settled (refused r j) = j ≤ 97

settled-walk : (c : Sheet) (w : Walked) → length c.lines ≤ 95 → Refused 97 w → Settled (of_walked c w)
unfolding Settled Refused
settled-walk c (passes cs) l h = l
settled-walk c (refuses f j) l h = h

settled-range : (b : Bool) (c : Sheet) → length c.lines ≤ 95 → Settled (of_range b c)
unfolding Settled walk
settled-range true c l = settled-walk c (walk c) l (walk-bound c.lines 2 97 startᶜ (omega arith))
settled-range false c l = omega arith

settled-form : (s : List ℕ) (f : Form Sheet) → Reads s f → Settled (of_form f)
unfolding Settled
settled-form s (formed c) w = settled-range (ranged c.head) c w.1.2
settled-form s (bad_line j) w = (bad-range s j w).1

settled : (l : Bool) (s : List ℕ) (f : Form Sheet) → Reads s f → Settled (verdict l s f)
unfolding Settled verdict
settled l s f w = go (sized s) l
  where
    go : (b l : Bool) → Settled (of_size b l f)
    go true true = settled-form s f w
    go true false = omega arith
    go false l = omega arith

check-of : (v : Verdict) → Settled v → (check_of v).line ≤ 97
unfolding Settled
check-of (admitted c cs) h = omega arith
check-of (refused r j) h = h

tells-line : (q : Ran) → Ended 97 q → (out out' : List ℕ) (a : RunAnswer) → Tells q out a out' → a.line ≤ 97
unfolding Ended
tells-line (done fs s) h out out' a (e, o) = rw e (omega arith)
tells-line (stopped fs r i s) h out out' a (e, o) = rw e h
tells-line (stuck fs i s) h out out' a u = elim u [ ]

run_of : (v : Verdict) (rs : List Float) → Settled v → (out out' : List ℕ) (a : RunAnswer) → RunOf v rs out a out' → a.line ≤ 97
unfolding Settled machine
run_of (admitted c cs) rs h out out' a t = tells-line (machine c rs) (steps-bound c.lines 2 97 (start c.head rs) (omega arith)) out out' a t
run_of (refused r j) rs h out out' a (e, o) = rw e h

pub check-line : (s kinds : List ℕ) (a : CheckAnswer) (kinds' : List ℕ) → CheckOwes s kinds a kinds' → a.line ≤ 97
check-line s kinds a kinds' h = rw h.answer (check-of (verdict (lent_kinds kinds) s h.form_is) (settled (lent_kinds kinds) s h.form_is h.grammar))

pub run-line : (s : List ℕ) (rs : List Float) (out : List ℕ) (a : RunAnswer) (out' : List ℕ) → RunOwes s rs out a out' → a.line ≤ 97
run-line s rs out a out' h = run_of (verdict (lent_run rs out) s h.form_is) rs (settled (lent_run rs out) s h.form_is h.grammar) out out' a h.answer
