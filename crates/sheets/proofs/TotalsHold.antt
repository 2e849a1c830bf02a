-- Request Two's sentence holds of every run over doubles: its totals add up. Assumes nothing.
use mathlib.Core.Path.{◌≡◌, refl, sym, ap, ◌∙◌, subst}
use mathlib.Core.List.{List, [], ◌∷◌, ◌++◌, map, append_assoc, append-nil}
use mathlib.Core.Option.{some}
use Prim.Native.Nat.{ℕ, suc}
use lib.ListN.{take}
use lib.Seq.{take-append_seam}
use lib.Ieee.{Float}
use Rattle.numbers.proofs.FitLaws.{Fits}
use Rattle.numbers.specs.Ops.{num}
use Rattle.numbers.specs.Lengths.{metres}
use Rattle.numbers.specs.declared.Length.{Length}
use Rattle.sheets.specs.declared.Value.TheVariants.{Metres}
use Rattle.sheets.specs.Trees.{Line, Sheet, numbered}
use Rattle.sheets.specs.Grammar.{IsWord, AreLines, IsSheet, after as after_phase, Written}
use Rattle.sheets.specs.Letters.{𝐥, held}
use Rattle.sheets.specs.Entries.{Entry, shown, summed, entry_name, entry_value, entry_lines, plus, total}
use Rattle.sheets.specs.Machine.{Out, goes, stops, sticks, State, step, Ran, done, stopped, stuck, onward, steps, start, machine, last_state}
use Rattle.sheets.specs.Answers.{Verdict, admitted, refused, verdict, RunAnswer, Tells, RunOf, lent_run, RunOwes}
use Rattle.sheets.specs.Claim.{All}
use Rattle.sheets.specs.Writes.{Writes, a_show, a-total, nothing, writes}
use Rattle.sheets.specs.Totals.{cut, text_lines, AddUp, TotalsAddUp}
use Rattle.sheets.proofs.reader.FormLaws.{same-sheet}
use Rattle.sheets.proofs.LineWrites.{Left, Wrote, line_wrote, Named, line-named, last-after}
use Rattle.sheets.proofs.run.TextBound.{ran_text}
use Rattle.sheets.proofs.run.SumLaws.{total-show, total-total}
use Rattle.sheets.proofs.ConfinedHolds.{LentSays, lent_says}
use Rattle.sheets.proofs.EveryFrame.{Good, every-shown}
use Rattle.sheets.proofs.TotalText.{bare, value-reads, entries-cut}

-- ---- the entries follow the lines

-- the entries that lines write, where the sum so far is t: a show's by its word, a total's by the sum
abbrev Follows : Length → List Writes → List Entry → Type 0
Follows t [] [] = Unit {0}
Follows t [] (a ∷ ds) = ⊥
Follows t (nothing ∷ ws) ds = Follows t ws ds
Follows t (a_show w ∷ ws) [] = Unit {0}
Follows t (a_show w ∷ ws) (shown i g ∷ ds) = (w ≡ g.name) × Follows (plus t (held 𝐥 g.value)) ws ds
Follows t (a_show w ∷ ws) (summed u ∷ ds) = ⊥
Follows t (a-total ∷ ws) [] = Unit {0}
Follows t (a-total ∷ ws) (shown i g ∷ ds) = ⊥
Follows t (a-total ∷ ws) (summed u ∷ ds) = (u ≡ t) × Follows t ws ds

follows-none : (t : Length) (ws : List Writes) → Follows t ws []
follows-none t [] = tt
follows-none t (nothing ∷ ws) = follows-none t ws
follows-none t (a_show w ∷ ws) = tt
follows-none t (a-total ∷ ws) = tt

-- lines that write so, from the state s on
abbrev More : List Writes → State → List Entry → Type 0
More ws s es = (ds : List Entry) × (es ≡ s.entries ++ ds) × Follows (total s.entries) ws ds

more-none : (ws : List Writes) (s : State) → More ws s s.entries
more-none ws s = ([], sym (append-nil s.entries), follows-none (total s.entries) ws)

more-line : (i : ℕ) (k : Writes) (ws : List Writes) (s t : State) → Wrote i s k t → (es : List Entry) → More ws t es → More (k ∷ ws) s es
more-line i nothing ws s t e es (ds, h, f) = (ds, h ∙ ap (λ (z : List Entry). z ++ ds) e, subst (λ z. Follows (total z) ws ds) e f)
more-line i (a_show w) ws s t (g, ew, e) es (ds, h, f) = (
  shown i g ∷ ds,
  h ∙ ap (λ (z : List Entry). z ++ ds) e ∙ append_assoc s.entries (shown i g ∷ []) ds,
  (ew, subst (λ u. Follows u ws ds) (ap total e ∙ total-show s.entries i g) f),
)
more-line i a-total ws s t e es (ds, h, f) = (
  summed (total s.entries) ∷ ds,
  h ∙ ap (λ (z : List Entry). z ++ ds) e ∙ append_assoc s.entries (summed (total s.entries) ∷ []) ds,
  (refl, subst (λ u. Follows u ws ds) (ap total e ∙ total-total s.entries (total s.entries)) f),
)

more-onward : (i : ℕ) (k : Writes) (ws : List Writes) (s : State) (o : Out State) (on : State → Ran) → Left (Wrote i s k) o → ((t : State) → More ws t (last_state (on t)).entries) → More (k ∷ ws) s (last_state (onward o i s on)).entries
more-onward i k ws s (goes fs t) on h m = more-line i k ws s t h _ (subst (λ (u : State). More ws t u.entries) (sym (last-after fs (on t))) (m t))
more-onward i k ws s (stops fs c) on h m = more-none (k ∷ ws) s
more-onward i k ws s (sticks fs) on h m = more-none (k ∷ ws) s

more-steps : (ls : List Line) (i : ℕ) (s : State) → More (map writes ls) s (last_state (steps (numbered i ls) s)).entries
unfolding steps
more-steps [] i s = more-none [] s
more-steps (l ∷ ls) i s = more-onward i (writes l) (map writes ls) s (step i s l) _ (line_wrote i s l) (λ t. more-steps ls (suc i) t)

-- ---- and their lines, read back, add up

names-given : (p : ℕ) (ls : List Line) → AreLines p ls → All Named (map writes ls)
names-given p [] h = tt
names-given p (l ∷ ls) h = (line-named l h.0, names-given (after_phase p l) ls h.2)

names-are : (t : Length) (ws : List Writes) (ds : List Entry) → All Named ws → Follows t ws ds → All (λ a. IsWord (entry_name a)) ds
names-are t [] [] h f = tt
names-are t [] (a ∷ ds) h f = absurd f
names-are t (nothing ∷ ws) ds h f = names-are t ws ds h.1 f
names-are t (a_show w ∷ ws) [] h f = tt
names-are t (a_show w ∷ ws) (shown i g ∷ ds) h (e, f) = (subst IsWord e h.0, names-are (plus t (held 𝐥 g.value)) ws ds h.1 f)
names-are t (a_show w ∷ ws) (summed u ∷ ds) h f = absurd f
names-are t (a-total ∷ ws) [] h f = tt
names-are t (a-total ∷ ws) (shown i g ∷ ds) h f = absurd f
names-are t (a-total ∷ ws) (summed u ∷ ds) h (e, f) = (h.0, names-are t ws ds h.1 f)

abbrev bares : List Entry → List (List ℕ)
bares ds = map (λ a. bare (entry_name a) (entry_value a)) ds

follows-add : (t : Length) (ws : List Writes) (ds : List Entry) → All (λ a. Good (entry_value a)) ds → Follows t ws ds → AddUp t ws (bares ds)
unfolding AddUp held
follows-add t [] [] g f = refl
follows-add t [] (a ∷ ds) g f = absurd f
follows-add t (nothing ∷ ws) ds g f = follows-add t ws ds g f
follows-add t (a_show w ∷ ws) [] g f = tt
follows-add t (a_show w ∷ ws) (shown i n ∷ ds) g (e, f) = (_, ap (λ v. bare v n.value) (sym e), subst (λ o. AddUp (plus t o) ws (bares ds)) (sym (value-reads n.value g.0)) (follows-add (plus t (held 𝐥 n.value)) ws ds g.1 f))
follows-add t (a_show w ∷ ws) (summed u ∷ ds) g f = absurd f
follows-add t (a-total ∷ ws) [] g f = tt
follows-add t (a-total ∷ ws) (shown i n ∷ ds) g f = absurd f
follows-add t (a-total ∷ ws) (summed u ∷ ds) g (e, f) = (_, refl, value-reads (Metres u) g.0 ∙ ap some e, follows-add t ws ds g.1 f)

text-adds : (c : Sheet) (rs : List Float) → IsSheet c → All Fits rs → AddUp (metres (num 0)) (map writes c.lines) (text_lines (ran_text (machine c rs)))
unfolding machine total
text-adds c rs h fit =
    let ws = map writes c.lines in
    let (ds, e, f) = more-steps c.lines 2 (start c.head rs) in
    let names = names-are (metres (num 0)) ws ds (names-given 0 c.lines h.1) f in
    let good = subst (All (λ a. Good (entry_value a))) e (every-shown c rs fit) in
    subst (λ s. AddUp (metres (num 0)) ws (text_lines s)) (ap entry_lines (sym e)) (subst (AddUp (metres (num 0)) ws) (sym (entries-cut ds names)) (follows-add (metres (num 0)) ws ds good f))

-- ---- the first bytes of the output are the text

adds_none : (t : Length) (ws : List Writes) → AddUp t ws []
unfolding AddUp
adds_none t [] = refl
adds_none t (nothing ∷ ws) = adds_none t ws
adds_none t (a_show w ∷ ws) = tt
adds_none t (a-total ∷ ws) = tt

tells-text : (q : Ran) (out : List ℕ) (r : RunAnswer) (out' : List ℕ) → Tells q out r out' → take r.written out' ≡ ran_text q
tells-text (done fs s) out r out' (er, eo) = rw (er, eo) (take-append_seam (entry_lines s.entries) _)
tells-text (stopped fs c i s) out r out' (er, eo) = rw (er, eo) (take-append_seam (entry_lines s.entries) _)
tells-text (stuck fs i s) out r out' h = absurd h

-- the run over any doubles, lent any output
pub totals_add_up : (S : List ℕ) (R : List Float) (out : List ℕ) (r : RunAnswer) (out' : List ℕ) → All Fits R → RunOwes S R out r out' → TotalsAddUp S r out'
unfolding cut
totals_add_up S R out r out' fit o = record {
  adds = λ c w. go c w (verdict (lent_run R out) S o.form_is) (lent_says S (lent_run R out) o.form_is o.grammar) o.answer;
}
  where
    go : (c : Sheet) → Written S c → (v : Verdict) → LentSays (lent_run R out) S v → RunOf v R out r out' → AddUp (metres (num 0)) (map writes c.lines) (text_lines (take r.written out'))
    go c w (admitted d cs) (l, h) t = subst (λ s. AddUp (metres (num 0)) (map writes c.lines) (text_lines s)) (sym (tells-text (machine d R) out r out' t ∙ ap (λ d. ran_text (machine d R)) (sym (same-sheet S c d w h.2.grammar)))) (text-adds c R w.1 fit)
    go c w (refused k j) h (er, eo) = rw er (adds_none (metres (num 0)) (map writes c.lines))
