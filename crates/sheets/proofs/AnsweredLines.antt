-- The line that a call answers, by the number that it answers: none with 0, 1 and 2, the first bad line with 3, and with the others a line of the sheet. The number of a line is one more than the LFs before it. Assumes nothing.
use Prim.Native.Nat.{ℕ, suc, ◌+◌, ◌-◌, ◌<◌, ◌≤◌}
use native.Mathlib.Omega.{arith}
use mathlib.Core.Path.{◌≡◌, refl, sym, subst, ◌∙◌}
use mathlib.Core.Bool.{Bool, true, false}
use mathlib.Core.List.{List, [], ◌∷◌}
use lib.Dec.{leb}
use lib.ListN.{length}
use lib.Ieee.{Float}
use borrow.Author.Tests.{leb-true}
use Rattle.frames.specs.declared.LocalFrame.{LocalFrame}
use Rattle.sheets.specs.Trees.{Line, Sheet, numbered}
use Rattle.sheets.specs.Grammar.{Form, formed, bad_line, Reads, Written, FirstBad}
use Rattle.sheets.specs.LineNumbers.{line_number}
use Rattle.sheets.specs.Refusals.{Fault, name, kind, Stop, limit, centre, apart, stop, fault, refusal_number, Checked, fine, bad}
use Rattle.sheets.specs.Check.{Stateᶜ, stepᶜ, Walked, passes, refuses, onwardᶜ, stepsᶜ, startᶜ, walk}
use Rattle.sheets.specs.Machine.{State, Out, goes, stops, sticks, step, Ran, done, stopped, stuck, afterwards, onward, steps, start, machine}
use Rattle.sheets.specs.Answers.{sized, ranged, Verdict, admitted, refused, of_walked, of_range, of_form, of_size, verdict, check_of, lent_kinds, CheckAnswer, CheckOwes, RunAnswer, Tells, RunOf, lent_run, RunOwes}
use Rattle.sheets.proofs.Bools.{and_both}
use Rattle.sheets.proofs.reader.LineNumbers.{HasLine, first_lines, line-number, bad-number}

-- line j of the sheet that the bytes are: its number is one more than the LFs of the lines before it
abbrev pub InSheet : List ℕ → ℕ → Type 0
InSheet s j = (c : Sheet) × Written s c × (1 ≤ j) × (j ≤ length c.lines + 1) × (line_number s (length (first_lines (j - 1) c)) ≡ j)

-- what a number says of the line beside it
pub record LineTold (s : List ℕ) (number line : ℕ) : Type 0 where
  pub no_line : number < 3 → line ≡ 0
  pub first_bad_line : number ≡ 3 → FirstBad s line × HasLine s line
  pub a_line : 3 < number → InSheet s line

-- ---- the lines on which the walk and the machine end, of lines numbered from i on

-- the walk refused at one of the lines
abbrev RefusedIn : ℕ → ℕ → Walked → Type 0
RefusedIn i n (passes cs) = Unit {0}
RefusedIn i n (refuses f j) = (i ≤ j) × (j < i + n)

refused-in : (i : ℕ) (ls : List Line) (s : Stateᶜ) → RefusedIn i (length ls) (stepsᶜ (numbered i ls) s)
unfolding stepsᶜ
refused-in i [] s = tt
refused-in i (l ∷ ls) s = go (λ t. refused-in (suc i) ls t) (stepᶜ i s l)
  where
    later : (w : Walked) → RefusedIn (suc i) (length ls) w → RefusedIn i (suc (length ls)) w
    later (passes cs) h = tt
    later (refuses f j) h = (omega (arith, h.0), omega (arith, h.1))

    go : ((t : Stateᶜ) → RefusedIn (suc i) (length ls) (stepsᶜ (numbered (suc i) ls) t)) → (o : Checked Stateᶜ) → RefusedIn i (suc (length ls)) (onwardᶜ o i (λ t. stepsᶜ (numbered (suc i) ls) t))
    go rest (fine t) = later (stepsᶜ (numbered (suc i) ls) t) (rest t)
    go rest (bad f) = (omega arith, omega arith)

-- the machine stopped at one of the lines
abbrev StoppedIn : ℕ → ℕ → Ran → Type 0
StoppedIn i n (done fs s) = Unit {0}
StoppedIn i n (stopped fs r j s) = (i ≤ j) × (j < i + n)
StoppedIn i n (stuck fs j s) = Unit {0}

stopped-in : (i : ℕ) (ls : List Line) (s : State) → StoppedIn i (length ls) (steps (numbered i ls) s)
unfolding steps
stopped-in i [] s = tt
stopped-in i (l ∷ ls) s = go (λ t. stopped-in (suc i) ls t) (step i s l)
  where
    later : (fs : List LocalFrame) (r : Ran) → StoppedIn (suc i) (length ls) r → StoppedIn i (suc (length ls)) (afterwards fs r)
    later fs (done hs t) h = tt
    later fs (stopped hs r j t) h = (omega (arith, h.0), omega (arith, h.1))
    later fs (stuck hs j t) h = tt

    go : ((t : State) → StoppedIn (suc i) (length ls) (steps (numbered (suc i) ls) t)) → (o : Out State) → StoppedIn i (suc (length ls)) (onward o i s (λ t. steps (numbered (suc i) ls) t))
    go rest (goes fs t) = later fs (steps (numbered (suc i) ls) t) (rest t)
    go rest (stops fs r) = (omega arith, omega arith)
    go rest (sticks fs) = tt

-- ---- the answers

fault-over : (f : Fault) → 3 < refusal_number (fault f)
fault-over name = omega arith
fault-over kind = omega arith

stop-over : (k : Stop) → 3 < refusal_number (stop k)
stop-over limit = omega arith
stop-over centre = omega arith
stop-over apart = omega arith

-- a sheet that is admitted is written so
abbrev VerdictTold : List ℕ → Verdict → Type 0
VerdictTold s (admitted c cs) = Written s c
VerdictTold s (refused r j) = LineTold s (refusal_number r) j

module _ (s : List ℕ) where
  none_told : (n : ℕ) → n < 3 → LineTold s n 0
  none_told n h = record { no_line = λ l. refl; first_bad_line = λ e. absurd (omega (arith, h, e)); a_line = λ l. absurd (omega (arith, h, l)) }

  bad-told : (j : ℕ) → 0 < length s → FirstBad s j → LineTold s 3 j
  bad-told j n h = record { no_line = λ l. absurd (omega (arith, l)); first_bad_line = λ e. (h, bad-number s j n h); a_line = λ l. absurd (omega (arith, l)) }

  line-told : (c : Sheet) → Written s c → (n j : ℕ) → 3 < n → 1 ≤ j → j ≤ length c.lines + 1 → LineTold s n j
  line-told c h n j big low high = record {
    no_line = λ l. absurd (omega (arith, big, l));
    first_bad_line = λ e. absurd (omega (arith, big, e));
    a_line = λ l. (c, h, low, high, line-number s c h (j - 1) (omega (arith, low, high)) ∙ omega (arith, low));
  }

  walk-told : (c : Sheet) → Written s c → (w : Walked) → RefusedIn 2 (length c.lines) w → VerdictTold s (of_walked c w)
  walk-told c h (passes cs) b = h
  walk-told c h (refuses f j) b = line-told c h (refusal_number (fault f)) j (fault-over f) (omega (arith, b.0)) (omega (arith, b.1))

  form-told : 0 < length s → (f : Form Sheet) → Reads s f → VerdictTold s (of_form f)
  unfolding walk
  form-told n (bad_line j) h = bad-told j n h
  form-told n (formed c) h = go (ranged c.head)
    where
      go : (b : Bool) → VerdictTold s (of_range b c)
      go true = walk-told c h (stepsᶜ (numbered 2 c.lines) startᶜ) (refused-in 2 c.lines startᶜ)
      go false = line-told c h 4 1 (omega arith) (omega arith) (omega arith)

  verdict-told : (l : Bool) (f : Form Sheet) → Reads s f → VerdictTold s (verdict l s f)
  unfolding verdict
  verdict-told l f h = go (sized s) refl l
    where
      go : (b : Bool) → sized s ≡ b → (l : Bool) → VerdictTold s (of_size b l f)
      go true e true = form-told (omega (arith, leb-true 1 (length s) (and_both (leb 1 (length s)) (leb (length s) 16384) e).0)) f h
      go true e false = none_told 2 (omega arith)
      go false e l = none_told 1 (omega arith)

  pub check-told : (kinds : List ℕ) (r : CheckAnswer) (kinds' : List ℕ) → CheckOwes s kinds r kinds' → LineTold s r.number r.line
  check-told kinds r kinds' h = subst (λ (a : CheckAnswer). LineTold s a.number a.line) (sym h.answer) (go (verdict (lent_kinds kinds) s h.form_is) (verdict-told (lent_kinds kinds) h.form_is h.grammar))
    where
      go : (v : Verdict) → VerdictTold s v → LineTold s (check_of v).number (check_of v).line
      go (admitted c cs) t = none_told 0 (omega arith)
      go (refused f j) t = t

  pub run-told : (rs : List Float) (out : List ℕ) (r : RunAnswer) (out' : List ℕ) → RunOwes s rs out r out' → LineTold s r.number r.line
  unfolding machine
  run-told rs out r out' h = go (verdict (lent_run rs out) s h.form_is) (verdict-told (lent_run rs out) h.form_is h.grammar) h.answer
    where
      by : (q : RunAnswer) → r ≡ q → LineTold s q.number q.line → LineTold s r.number r.line
      by q e t = subst (λ (a : RunAnswer). LineTold s a.number a.line) (sym e) t

      ran : (c : Sheet) → Written s c → (m : Ran) → StoppedIn 2 (length c.lines) m → Tells m out r out' → LineTold s r.number r.line
      ran c w (done fs t) b e = by _ e.0 (none_told 0 (omega arith))
      ran c w (stopped fs k i t) b e = by _ e.0 (line-told c w (refusal_number (stop k)) i (stop-over k) (omega (arith, b.0)) (omega (arith, b.1)))
      ran c w (stuck fs i t) b e = absurd e

      go : (v : Verdict) → VerdictTold s v → RunOf v rs out r out' → LineTold s r.number r.line
      go (admitted c cs) w e = ran c w (steps (numbered 2 c.lines) (start c.head rs)) (stopped-in 2 c.lines (start c.head rs)) e
      go (refused f j) t e = by _ e.0 t
