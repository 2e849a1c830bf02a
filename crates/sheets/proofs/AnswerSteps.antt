-- The answers of the check and of the run, one law for each way out of the code. Assumes nothing.
use Prim.Native.Nat.{ℕ, suc, ◌≤◌}
use native.Mathlib.Omega.{arith}
use mathlib.Core.Path.{◌≡◌, refl, sym, ap, subst, ◌∙◌}
use mathlib.Core.Bool.{Bool, true, false, not, ◌&&◌}
use mathlib.Core.List.{List, [], ◌∷◌}
use lib.Dec.{eqb}
use lib.ListN.{length, take, get_or}
use lib.Ieee.{Float, nan}
use borrow.Author.Tests.{eq-eqb, ne_eqb}
use Rattle.sheets.specs.declared.check.admit.Admission.{Admission}
use Rattle.std.specs.Prelude.{Ok, Err}
use Rattle.sheets.specs.declared.refusals.Refused.{Refused}
use Rattle.sheets.specs.code.Refusals.{refusal_of, code_for}
use Rattle.sheets.specs.Trees.{Sheet}
use Rattle.sheets.specs.code.reader.Reader.{Form, formed, bad_line, read_lines, read_sheet}
use Rattle.sheets.specs.Refusals.{Refusal, size, lent, refusal_number}
use Rattle.sheets.specs.code.check.Walking.{Outcome, Admits}
use Rattle.sheets.specs.Machine.{start, surface, machine}
use Rattle.sheets.specs.Check.{Walked, passes, refuses, walk}
use Rattle.sheets.specs.declared.answers.CheckAnswer.{CheckAnswer}
use Rattle.sheets.specs.declared.answers.RunAnswer.{RunAnswer}
use Rattle.sheets.specs.Answers.{sized, ranged, Verdict, admitted, refused, of_walked, of_range, of_form, of_lent, of_size, verdict, check_of, laid, kinds_of_verdict, lent_kinds, CheckOwes, Tells, RunOf, lent_run, RunOwes}
use Rattle.sheets.proofs.Sound.{agree}
use Rattle.sheets.proofs.ClaimHolds.{unstuck, claim}
use Rattle.sheets.proofs.TotalsHold.{totals_add_up}
use Rattle.sheets.proofs.ApartsHold.{collars_stand_apart}
use Rattle.sheets.proofs.Bools.{not-once}
use Rattle.sheets.proofs.ConfinedHolds.{list_confined, output_confined}
use Rattle.sheets.proofs.reader.SheetLaws.{reader-reads}
use Rattle.sheets.specs.Claim.{All}
use Rattle.numbers.proofs.FitLaws.{Fits}
use Rattle.sheets.specs.Both.{Both}
use Rattle.sheets.specs.declared.check_and_run.BothAnswers.{BothAnswers}
use Rattle.sheets.specs.code.run.Running.{Runs}
use Rattle.sheets.proofs.RefusalCodes.{code-is}

-- ---- the check

-- what the check answers of the code's refusal
abbrev pub told : Refused → CheckAnswer
told q = record { number = refusal_number (refusal_of q.refusal); line = q.line }

-- the number and the line of a refusal
module _ (r : Refusal) (i : ℕ) (q : Refused) (a : Outcome) (ea : a ≡ Err (record { refusal = code_for r; line = i })) (eq : a ≡ Err q) where
  same-refused : ◌≡◌ {A = Refused} (record { refusal = code_for r; line = i }) q
  same-refused = cc

  number-is : (k : ℕ) → k ≡ refusal_number (refusal_of q.refusal) → k ≡ refusal_number r
  number-is k ek = ek ∙ ap (λ (x : Refused). refusal_number (refusal_of x.refusal)) (sym same-refused) ∙ ap refusal_number (code-is r)

  line-is : q.line ≡ i
  line-is = ap (λ (x : Refused). x.line) (sym same-refused)

-- the verdict over what the reader reads
abbrev judged : Bool → List ℕ → Verdict
judged l s = verdict l s (read_sheet s)

checks-by : (s kinds : List ℕ) (v : Verdict) → judged (lent_kinds kinds) s ≡ v → (r : CheckAnswer) (kinds' : List ℕ) → r ≡ check_of v → kinds' ≡ kinds_of_verdict v kinds → CheckOwes s kinds r kinds'
checks-by s kinds v e r kinds' er ek = record { form_is = read_sheet s; grammar = reader-reads s; answer = er ∙ ap check_of (sym e); left = ek ∙ ap (λ w. kinds_of_verdict w kinds) (sym e) }

pub few-lines : (s : List ℕ) (v : Verdict) (a : Outcome) → Admits s v a → (p : Admission) → a ≡ Ok p → p.lines ≤ 96
unfolding Admits
few-lines s (admitted c cs) a (m, eh, el, h) p e =
    let o = h.1 in
    let i : ◌≡◌ {A = Admission} (record { lines = length cs; ellipsoid = surface c.head; start = m; codes = h.0 }) p = cc in
    omega (arith, h.2, ap (λ (x : Admission). x.lines) i)
few-lines s (refused r i) a o p e = let z : ◌≡◌ {A = ℕ} 0 1 = cc in absurd (omega arith)

module _ (s : List ℕ) (b : Bool) (eb : b ≡ sized s) where
  too_large : not b ≡ true → (l : Bool) → judged l s ≡ refused size 0
  unfolding verdict
  too_large h l = ap (λ t. of_size t l (read_sheet s)) (sym eb ∙ not-once b true h)

  within-size : not b ≡ false → (l : Bool) → judged l s ≡ of_lent l (read_sheet s)
  unfolding verdict
  within-size h l = ap (λ t. of_size t l (read_sheet s)) (sym eb ∙ not-once b false h)

  module _ (kinds : List ℕ) where
    pub check-size : not b ≡ true → (r : CheckAnswer) → r ≡ record { number = 1; line = 0 } → CheckOwes s kinds r kinds
    check-size h r er = checks-by s kinds (refused size 0) (too_large h (lent_kinds kinds)) _ _ er refl

    pub check-lent : not b ≡ false → (length kinds ≡ 96 → ⊥) → (r : CheckAnswer) → r ≡ record { number = 2; line = 0 } → CheckOwes s kinds r kinds
    check-lent h n r er = checks-by s kinds (refused lent 0) (within-size h (lent_kinds kinds) ∙ ap (λ t. of_lent t (read_sheet s)) (ne_eqb (length kinds) 96 n)) _ _ er refl

    module _ (h : not b ≡ false) (n : length kinds ≡ 96) (a : Outcome) (ha : Admits s (of_form (read_sheet s)) a) where
      formed-is : judged (lent_kinds kinds) s ≡ of_form (read_sheet s)
      formed-is = within-size h (lent_kinds kinds) ∙ ap (λ t. of_lent t (read_sheet s)) (eq-eqb (length kinds) 96 n)

      pub check-refused : (q : Refused) → a ≡ Err q → (r : CheckAnswer) → r ≡ told q → CheckOwes s kinds r kinds
      unfolding Admits
      check-refused q e r er = go (of_form (read_sheet s)) formed-is ha
        where
          go : (v : Verdict) → judged (lent_kinds kinds) s ≡ v → Admits s v a → CheckOwes s kinds r kinds
          go (admitted c cs) ev (m, eh, el, p) = let o = p.1 in let z : ◌≡◌ {A = ℕ} 0 1 = cc in absurd (omega arith)
          go (refused f i) ev o =
              checks-by s kinds (refused f i) ev _ _ (er ∙ ap (λ y. record { number = y; line = q.line }) (number-is f i q a o e _ refl) ∙ ap (λ y. record { number = refusal_number f; line = y }) (line-is f i q a o e)) refl

      pub check-passes : (p : Admission) → a ≡ Ok p → (kinds' : List ℕ) → kinds' ≡ laid (take p.lines p.codes) kinds → CheckOwes s kinds (record { number = 0; line = 0 }) kinds'
      unfolding Admits
      check-passes p e kinds' ek = go (of_form (read_sheet s)) formed-is ha
        where
          go : (v : Verdict) → judged (lent_kinds kinds) s ≡ v → Admits s v a → CheckOwes s kinds (record { number = 0; line = 0 }) kinds'
          go (admitted c cs) ev (m, eh, el, h) =
              let o = h.1 in
              let i : ◌≡◌ {A = Admission} (record { lines = length cs; ellipsoid = surface c.head; start = m; codes = h.0 }) p = cc in
              checks-by s kinds (admitted c cs) ev _ _ refl (ek ∙ ap (λ (x : Admission). laid (take x.lines x.codes) kinds) (sym i) ∙ ap (λ y. laid y kinds) h.3)
          go (refused r i) ev o = let z : ◌≡◌ {A = ℕ} 0 1 = cc in absurd (omega arith)

  -- ---- the run

  module _ (rs : List Float) (out : List ℕ) where
    ran-by : (v : Verdict) → judged (lent_run rs out) s ≡ v → (r : RunAnswer) (out' : List ℕ) → RunOf v rs out r out' → RunOwes s rs out r out'
    ran-by v e r out' h = record { form_is = read_sheet s; grammar = reader-reads s; answer = subst (λ w. RunOf w rs out r out') (sym e) h }

    pub run-size : not b ≡ true → (k : ℕ) → k ≡ 1 → (r : RunAnswer) → r ≡ record { number = k; line = 0; written = 0 } → RunOwes s rs out r out
    run-size h k ek r er = ran-by (refused size 0) (too_large h (lent_run rs out)) r out (er ∙ ap (λ n. record { number = n; line = 0; written = 0 }) ek, refl)

    unlent : not b ≡ false → lent_run rs out ≡ false → (k : ℕ) → k ≡ 2 → (r : RunAnswer) → r ≡ record { number = k; line = 0; written = 0 } → RunOwes s rs out r out
    unlent h e k ek r er = ran-by (refused lent 0) (within-size h (lent_run rs out) ∙ ap (λ t. of_lent t (read_sheet s)) e) r out (er ∙ ap (λ n. record { number = n; line = 0; written = 0 }) ek, refl)

    pub run-readings : not b ≡ false → (length rs ≡ 16 → ⊥) → (k : ℕ) → k ≡ 2 → (r : RunAnswer) → r ≡ record { number = k; line = 0; written = 0 } → RunOwes s rs out r out
    run-readings h n = unlent h (ap (λ t. t && eqb (length out) 24576) (ne_eqb (length rs) 16 n))

    module _ (h : not b ≡ false) (n : length rs ≡ 16) where
      lent_by : (t : Bool) → eqb (length out) 24576 ≡ t → lent_run rs out ≡ t
      lent_by t e = ap (λ u. u && eqb (length out) 24576) (eq-eqb (length rs) 16 n) ∙ e

      pub run_out : (length out ≡ 24576 → ⊥) → (k : ℕ) → k ≡ 2 → (r : RunAnswer) → r ≡ record { number = k; line = 0; written = 0 } → RunOwes s rs out r out
      run_out o = unlent h (lent_by false (ne_eqb (length out) 24576 o))

      module _ (o : length out ≡ 24576) (a : Outcome) (ha : Admits s (of_form (read_sheet s)) a) where
        run-formed : judged (lent_run rs out) s ≡ of_form (read_sheet s)
        run-formed = within-size h (lent_run rs out) ∙ ap (λ t. of_lent t (read_sheet s)) (lent_by true (eq-eqb (length out) 24576 o))

        pub run-refused : (q : Refused) → a ≡ Err q → (k : ℕ) → k ≡ refusal_number (refusal_of q.refusal) → (r : RunAnswer) → r ≡ record { number = k; line = q.line; written = 0 } → RunOwes s rs out r out
        unfolding Admits
        run-refused q e k ek r er = go (of_form (read_sheet s)) run-formed ha
          where
            go : (v : Verdict) → judged (lent_run rs out) s ≡ v → Admits s v a → RunOwes s rs out r out
            go (admitted c cs) ev (m, eh, el, p) = let o = p.1 in let z : ◌≡◌ {A = ℕ} 0 1 = cc in absurd (omega arith)
            go (refused f i) ev p =
                ran-by (refused f i) ev r out (er ∙ ap (λ y. record { number = y; line = q.line; written = 0 }) (number-is f i q a p e k ek) ∙ ap (λ y. record { number = refusal_number f; line = y; written = 0 }) (line-is f i q a p e), refl)

        -- a sheet that passes never sticks, and the run over its lines begins with its ellipsoid at line 2
        pub run-lines : (y : Admission) → a ≡ Ok y → (r : RunAnswer) (out' : List ℕ) → Runs s y.start y.ellipsoid rs out r out' → RunOwes s rs out r out'
        unfolding Admits machine
        run-lines y e r out' hr = go (read_sheet s) refl ha
          where
            starts : (c : Sheet) (cs : List ℕ) (m : ℕ) → read_lines 95 2 0 s m ≡ formed c.lines → (codes : List ℕ) → a ≡ Ok (record { lines = length cs; ellipsoid = surface c.head; start = m; codes = codes }) → (ds : List ℕ) → walk c ≡ passes ds → Tells (machine c rs) out r out'
            starts c cs m el codes p ds ew =
                let i : ◌≡◌ {A = Admission} (record { lines = length cs; ellipsoid = surface c.head; start = m; codes = codes }) y = cc in
                hr.is o c.lines (subst (λ (x : Admission). read_lines 95 2 0 s x.start ≡ formed c.lines) i el) (start c.head rs) (ap (λ (x : Admission). x.ellipsoid) i) refl refl (unstuck (machine c rs) (walk c) ds (agree c rs) ew)

            walked : (c : Sheet) → read_sheet s ≡ formed c → ranged c.head ≡ true → (w : Walked) → walk c ≡ w → Admits s (of_walked c w) a → RunOwes s rs out r out'
            walked c es er (passes ds) ew (m, eh, el, p) =
                ran-by (admitted c (255 ∷ ds)) (run-formed ∙ ap of_form es ∙ ap (λ b. of_range b c) er ∙ ap (of_walked c) ew) r out' (starts c (255 ∷ ds) m el p.0 p.1 ds ew)
            walked c es er (refuses q j) ew p = let z : ◌≡◌ {A = ℕ} 0 1 = cc in absurd (omega arith)

            range : (c : Sheet) → read_sheet s ≡ formed c → (b : Bool) → ranged c.head ≡ b → Admits s (of_range b c) a → RunOwes s rs out r out'
            range c es true er p = walked c es er (walk c) refl p
            range c es false er p = let z : ◌≡◌ {A = ℕ} 0 1 = cc in absurd (omega arith)

            go : (f : Form Sheet) → read_sheet s ≡ f → Admits s (of_form f) a → RunOwes s rs out r out'
            go (formed c) es p = range c es (ranged c.head) refl p
            go (bad_line j) es p = let z : ◌≡◌ {A = ℕ} 0 1 = cc in absurd (omega arith)

-- ---- both

pub all_fit : (R : List Float) → ((i : ℕ) → Fits (get_or R i nan)) → All Fits R
all_fit [] f = tt
all_fit (r ∷ rs) f = (f 0, all_fit rs (λ i. f (suc i)))

pub both : (S : List ℕ) (R : List Float) (kinds out : List ℕ) (r : BothAnswers) (kinds' out' : List ℕ) → CheckOwes S kinds r.checked kinds' → RunOwes S R out r.ran out' → All Fits R → Both S R kinds out r kinds' out'
both S R kinds out r kinds' out' hc hr fits = record {
  checked = hc;
  ran = hr;
  list_confined = list_confined S kinds r.checked kinds' hc;
  output_confined = output_confined S R out r.ran out' hr;
  totals_add_up = totals_add_up S R out r.ran out' fits hr;
  collars_stand_apart = collars_stand_apart S R out r.ran out' hr;
  claimed = λ k n o. claim S R kinds out k n o fits r.checked kinds' hc r.ran out' hr;
}
