-- Demand 1 holds of what the check and the run owe, for lent buffers of every length. Assumes nothing.
use Prim.Native.Nat.{ℕ, suc, ◌+◌, ◌≤◌}
use native.Mathlib.Omega.{arith}
use mathlib.Core.Path.{◌≡◌, refl, sym, ap, ◌∙◌}
use mathlib.Core.Bool.{Bool, true, false, ◌&&◌}
use mathlib.Core.List.{List, [], ◌∷◌}
use lib.Dec.{eqb}
use lib.ListN.{length, drop}
use lib.Seq.{drop-append_seam}
use lib.Ieee.{Float}
use borrow.Author.Tests.{eqb-true}
use Rattle.sheets.specs.Trees.{Line, Sheet}
use Rattle.sheets.specs.Grammar.{Form, Reads}
use Rattle.sheets.specs.Kinds.{Kind}
use Rattle.sheets.specs.Names.{Known}
use Rattle.sheets.specs.Refusals.{limit, centre, refusal_number, apart}
use Rattle.sheets.specs.Machine.{Ran, done, stopped, machine}
use Rattle.sheets.specs.Admitted.{LinesFit}
use Rattle.sheets.specs.Answers.{sized, Verdict, admitted, refused, of_size, verdict, CheckAnswer, check_of, laid, kinds_of_verdict, lent_kinds, CheckOwes, RunAnswer, Tells, RunOf, lent_run, RunOwes}
use Rattle.sheets.specs.Confined.{OutputConfined, ListConfined}
use Rattle.sheets.proofs.run.WritingLaws.{length-laid}
use Rattle.sheets.proofs.run.TextBound.{ran_text, text-fits}
use Rattle.sheets.proofs.ClaimHolds.{refusal-some, Says, says}

-- ---- the verdict by what is lent

-- what is lent has its length, and the verdict says what it says; or it is a refusal
abbrev pub LentSays : Bool → List ℕ → Verdict → Type 0
LentSays l S (admitted c cs) = (l ≡ true) × Says S (admitted c cs)
LentSays l S (refused r j) = Unit {0}

pub lent_says : (S : List ℕ) (l : Bool) (o : Form Sheet) → Reads S o → LentSays l S (verdict l S o)
unfolding verdict
lent_says S true o w = go (verdict true S o) (says S o w)
  where
    go : (v : Verdict) → Says S v → LentSays true S v
    go (admitted c cs) h = (refl, h)
    go (refused r j) h = tt
lent_says S false o w = go (sized S)
  where
    go : (b : Bool) → LentSays false S (of_size b false o)
    go true = tt
    go false = tt

-- ---- the run

-- a text in the first bytes
text-laid : (out t : List ℕ) (n i : ℕ) → length t ≤ length out → (¬ (n ≡ 0) → ¬ (n ≡ 7) → ¬ (n ≡ 8) → ¬ (n ≡ 9) → length t ≡ 0) → OutputConfined out (record { number = n; line = i; written = length t }) (laid t out)
text-laid out t n i fits few = record { output_length = length-laid t out fits; output_rest = drop-append_seam t (drop (length t) out); count_within = fits; refused_count = few }

tells-confined : (out : List ℕ) (q : Ran) → length (ran_text q) ≤ length out → (r : RunAnswer) (out' : List ℕ) → Tells q out r out' → OutputConfined out r out'
tells-confined out (done fs s) fits r out' (er, eo) = rw (er, eo) (text-laid out (ran_text (done fs s)) 0 0 fits (λ a b c d. absurd (a refl)))
tells-confined out (stopped fs limit i s) fits r out' (er, eo) = rw (er, eo) (text-laid out (ran_text (stopped fs limit i s)) 7 i fits (λ a b c d. absurd (b refl)))
tells-confined out (stopped fs centre i s) fits r out' (er, eo) = rw (er, eo) (text-laid out (ran_text (stopped fs centre i s)) 8 i fits (λ a b c d. absurd (c refl)))
tells-confined out (stopped fs apart i s) fits r out' (er, eo) = rw (er, eo) (text-laid out (ran_text (stopped fs apart i s)) 9 i fits (λ a b c d. absurd (d refl)))
tells-confined out (Rattle.sheets.specs.Machine.stuck _ _ _) fits r out' x5 = elim x5 [ ]

pub output_confined : (S : List ℕ) (R : List Float) (out : List ℕ) (r : RunAnswer) (out' : List ℕ) → RunOwes S R out r out' → OutputConfined out r out'
output_confined S R out r out' o = go (verdict (lent_run R out) S o.form_is) (lent_says S (lent_run R out) o.form_is o.grammar) o.answer
  where
    lent_out : (b : Bool) → (b && eqb (length out) 24576) ≡ true → length out ≡ 24576
    lent_out true e = eqb-true (length out) 24576 e
    lent_out false e = let z : ◌≡◌ {A = ℕ} 0 1 = cc in absurd (omega arith)

    go : (v : Verdict) → LentSays (lent_run R out) S v → RunOf v R out r out' → OutputConfined out r out'
    go (admitted c cs) (el, h) t =
        let z = text-fits c R h.2.grammar.1 in
        let n = lent_out (eqb (length R) 16) el in
        tells-confined out (machine c R) (omega arith) r out' t
    go (refused k j) h (er, eo) = rw (er, eo) (text-laid out [] (refusal_number k) j (omega arith) (λ a b c d. refl))

-- ---- the check

codes-length : (xs : List Line) (i : ℕ) (ks : Known Kind) (cs : List ℕ) → LinesFit i ks xs cs → length cs ≡ length xs
codes-length [] i ks cs e = ap length (sym e)
codes-length (l ∷ xs) i ks cs (js, n, ds, f, h, e) = ap length (sym e) ∙ ap (λ n. suc n) (codes-length xs (suc i) js ds h)

pub list_confined : (S kinds : List ℕ) (r : CheckAnswer) (kinds' : List ℕ) → CheckOwes S kinds r kinds' → ListConfined S kinds r kinds'
list_confined S kinds r kinds' o = rw (o.answer, o.left) (go (verdict (lent_kinds kinds) S o.form_is) (lent_says S (lent_kinds kinds) o.form_is o.grammar))
  where
    go : (v : Verdict) → LentSays (lent_kinds kinds) S v → ListConfined S kinds (check_of v) (kinds_of_verdict v kinds)
    go (admitted c cs) (el, w) =
        let (ds, ec, h) = w in
        let n = codes-length c.lines 2 _ ds h.names_and_kinds in
        let e : length cs ≡ length c.lines + 1 = omega (arith, ap length ec, n) in
        let k = eqb-true (length kinds) 96 el in
        let few = h.grammar.1.2 in
        record { list_length = length-laid cs kinds (omega arith); list_filled = λ z. (c, cs, h.grammar, e, refl); list_untouched = λ z. absurd (z refl) }
    go (refused k j) h = record { list_length = refl; list_filled = λ z. absurd (omega (arith, z, refusal-some k)); list_untouched = λ z. refl }
