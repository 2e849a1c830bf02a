-- Request Three's sentences hold of every run: one that passes has no close pair among the names shown before an apart, and one that is refused there has some. Assumes nothing.
use Prim.Native.Nat.{ℕ, suc, ◌<◌, ◌≤◌}
use native.Mathlib.Omega.{arith}
use mathlib.Core.Path.{◌≡◌, refl, sym, ap, subst, ◌∙◌}
use mathlib.Core.Logic.{◌⊎◌, inl, inr}
use mathlib.Core.Bool.{Bool, true, false}
use mathlib.Core.List.{List, [], ◌∷◌, ◌++◌}
use mathlib.Core.Option.{Option, none, some}
use lib.Ieee.{Float}
use Rattle.frames.specs.declared.GeocentricPosition.{GeocentricPosition}
use Rattle.frames.specs.declared.Ellipsoid.{Ellipsoid}
use Rattle.frames.specs.declared.LocalFrame.{LocalFrame}
use Rattle.sheets.specs.declared.Value.{Value}
use Rattle.sheets.specs.declared.Value.TheVariants.{Number, Metres}
use Rattle.sheets.specs.Trees.{Unsigned, signless, Expr, Exprs, word_expr, num_expr, form_expr, nil, ◌▸◌, Line, let_line, show_line, total_line, apart_line, Sheet, Numbered, numbered}
use Rattle.sheets.specs.Grammar.{Written, Form, formed, bad_line}
use Rattle.sheets.specs.Table.{on, table}
use Rattle.sheets.specs.Lookup.{Hit, find}
use Rattle.sheets.specs.Names.{Given, Known, given_on, lookup}
use Rattle.sheets.specs.Scopes.{Scope, give}
use Rattle.sheets.specs.Limits.{num_value, in_limit}
use Rattle.sheets.specs.Entries.{Entry, shown, summed, total}
use Rattle.sheets.specs.Aparts.{Fix, fixes, stand_apart}
use Rattle.sheets.specs.Refusals.{limit, centre, apart, name, kind, stop, refusal_number, Checked, fine, bad}
use Rattle.sheets.specs.Writes.{Writes, a_show, a-total, nothing, writes}
use Rattle.sheets.specs.Machine.{Out, goes, stops, sticks, after, then, or_sticks, test, met, meet, made, result, provided, apply_row, eval, evals, State, held_apart, step, Ran, done, stopped, stuck, last_state, afterwards, onward, steps, start, machine}
use Rattle.sheets.specs.Admitted.{In}
use Rattle.sheets.specs.Check.{Walked, passes, refuses, walk}
use Rattle.sheets.specs.Answers.{sized, ranged, Verdict, admitted, refused, of_walked, of_range, of_form, of_size, verdict, RunAnswer, RunOf, Tells, lent_run, RunOwes}
use Rattle.sheets.specs.Collars.{AsksOn, ShownBefore, far_enough, StandApart}
use Rattle.sheets.proofs.Members.{in_either}
use Rattle.sheets.proofs.ApartLaws.{clear-two, not-clear, every_two, some-two, shown-fix, fix-shown}
use Rattle.sheets.proofs.LineWrites.{Left, Wrote, line_wrote}
use Rattle.sheets.proofs.ConfinedHolds.{LentSays, lent_says}
use Rattle.sheets.proofs.ClaimHolds.{refusal-some}
use Rattle.sheets.proofs.reader.FormLaws.{same-sheet}

-- ---- the entries of the lines before line i

abbrev ShownBelow : List Entry → ℕ → Type 0
ShownBelow es i = (j : ℕ) (g : Given Value) → In (shown j g) es → j < i

-- after line i all that is shown was shown up to it, and what was shown before it was there already
abbrev Grown : ℕ → State → State → Type 0
Grown i s t = ShownBelow t.entries (suc i) × ((j : ℕ) (g : Given Value) → In (shown j g) t.entries → j < i → In (shown j g) s.entries)

later : (i j : ℕ) (es : List Entry) (g : Given Value) → ShownBelow es i → In (shown j g) es → j < suc i
later i j es g h k = omega (arith, h j g k)

one_more : (i : ℕ) (s t : State) (w : Writes) → ShownBelow s.entries i → Wrote i s w t → Grown i s t
one_more i s t nothing h e = ((λ j g k. later i j s.entries g h (subst (In (shown j g)) e k)), (λ j g k l. subst (In (shown j g)) e k))
one_more i s t (a_show w) h (n, ew, e) = ((λ j g k. go j g (subst (In (shown j g)) e k)), (λ j g k l. before j g l (subst (In (shown j g)) e k)))
  where
    here : (j : ℕ) (g : Given Value) → In (shown j g) (shown i n ∷ []) → j ≡ i
    here j g (inl e) = cc
    here j g (inr x4) = elim x4 [ ]

    go : (j : ℕ) (g : Given Value) → In (shown j g) (s.entries ++ (shown i n ∷ [])) → j < suc i
    go j g k = elim (in_either (shown j g) s.entries (shown i n ∷ []) k) [
      | inl k ↦ later i j s.entries g h k
      | inr k ↦ omega (arith, here j g k)
    ]

    before : (j : ℕ) (g : Given Value) → j < i → In (shown j g) (s.entries ++ (shown i n ∷ [])) → In (shown j g) s.entries
    before j g l k = elim (in_either (shown j g) s.entries (shown i n ∷ []) k) [
      | inl k ↦ k
      | inr k ↦ absurd (omega (arith, here j g k))
    ]
one_more i s t a-total h e = ((λ j g k. later i j s.entries g h (back j g (subst (In (shown j g)) e k))), (λ j g k l. back j g (subst (In (shown j g)) e k)))
  where
    none-such : {C : Type 0} (j : ℕ) (g : Given Value) → In (shown j g) (summed (total s.entries) ∷ []) → C
    none-such j g (inl e) = let z : ◌≡◌ {A = ℕ} 0 1 = cc in absurd (omega arith)
    none-such {C = C} j g (inr x3) = elim x3 [ ]

    back : (j : ℕ) (g : Given Value) → In (shown j g) (s.entries ++ (summed (total s.entries) ∷ [])) → In (shown j g) s.entries
    back j g k = elim (in_either (shown j g) s.entries (summed (total s.entries) ∷ []) k) [
      | inl k ↦ k
      | inr k ↦ none-such j g k
    ]

-- ---- an apart that goes on, and one that does not

-- an apart that goes on holds what was shown
abbrev Holding : State → Line → Type 0
Holding s (let_line w x) = Unit {0}
Holding s (show_line w) = Unit {0}
Holding s total_line = Unit {0}
Holding s (apart_line q) = stand_apart (num_value (signless q)) (fixes s.entries) ≡ true

-- where refusal 9 stops a line, it is an apart that does not
abbrev Breaking : State → Line → Type 0
Breaking s l = (q : Unsigned) × (l ≡ apart_line q) × (stand_apart (num_value (signless q)) (fixes s.entries) ≡ false)

abbrev Decided : State → Line → Out State → Type 0
Decided s l (goes fs t) = Holding s l
Decided s l (stops fs r) = r ≡ apart → Breaking s l
Decided s l (sticks fs) = Unit {0}

-- an expression is never stopped by 9
abbrev NotNine : {A : Type 0} → Out A → Type 0
NotNine (goes fs x) = Unit {0}
NotNine (stops fs r) = ¬ (r ≡ apart)
NotNine (sticks fs) = Unit {0}

limit-not : ¬ (limit ≡ apart)
limit-not e = let z : ◌≡◌ {A = ℕ} 7 9 = ap (λ r. refusal_number (stop r)) e in omega arith

centre-not : ¬ (centre ≡ apart)
centre-not e = let z : ◌≡◌ {A = ℕ} 8 9 = ap (λ r. refusal_number (stop r)) e in omega arith

not_after : {A : Type 0} (fs : List LocalFrame) (o : Out A) → NotNine o → NotNine (after fs o)
not_after fs (goes hs x) h = h
not_after fs (stops hs r) h = h
not_after fs (sticks hs) h = h

not-then : {A B : Type 0} (o : Out A) (k : A → Out B) → NotNine o → ((x : A) → NotNine (k x)) → NotNine (then o k)
not-then (goes fs x) k h i = not_after fs (k x) (i x)
not-then (stops fs r) k h i = h
not-then (sticks fs) k h i = h

not_test : (fs : List LocalFrame) (b : Bool) (x : Value) → NotNine (test fs b x)
not_test fs true x = tt
not_test fs false x = limit-not

not-meet : (o : Option Value) → NotNine (meet o)
not-meet none = tt
not-meet (some x) = not_test [] (in_limit x) x

not-row : (e : Ellipsoid) (o : Option Hit) → NotNine (apply_row e o)
not-row e none = tt
not-row e (some h) = go (on h.row.takes (h.row.centred e) h.args)
  where
    go : (b : Bool) → NotNine (provided b (λ u. result (on h.row.takes (h.row.apply e) h.args)))
    go true = let x = on h.row.takes (h.row.apply e) h.args in not_test (made x) (in_limit x) x
    go false = centre-not

mutual
  unfolding eval

  not-eval : (x : Expr) (e : Ellipsoid) (ps : Known Value) → NotNine (eval x e ps)
  not-eval (word_expr w) e ps = not-meet (lookup w ps)
  not-eval (num_expr q) e ps = not_test [] (in_limit (Number (num_value q))) (Number (num_value q))
  not-eval (form_expr w xs) e ps = not-then (evals xs e ps) _ (not-evals xs e ps) (λ vs. not-row e (find table w vs))

  not-evals : (xs : Exprs) (e : Ellipsoid) (ps : Known Value) → NotNine (evals xs e ps)
  not-evals nil e ps = tt
  not-evals (x ▸ xs) e ps = not-then (eval x e ps) _ (not-eval x e ps) (λ y. not-then (evals xs e ps) _ (not-evals xs e ps) (λ ys. tt))

-- of a line that is no apart
no-apart : (s : State) (l : Line) (o : Out State) → Holding s l → NotNine o → Decided s l o
no-apart s l (goes fs t) h n = h
no-apart s l (stops fs r) h n = λ e. absurd (n e)
no-apart s l (sticks fs) h n = tt

decided : (i : ℕ) (s : State) (l : Line) → Decided s l (step i s l)
unfolding step
decided i s (let_line w x) = no-apart s (let_line w x) (step i s (let_line w x)) tt (not-then (eval x s.ellipsoid s.scope.known) _ (not-eval x s.ellipsoid s.scope.known) (λ y. not-then (or_sticks (give (given_on i w y) s.scope)) _ (go (give (given_on i w y) s.scope)) (λ d. tt)))
  where
    go : (c : Checked (Scope Value)) → NotNine (or_sticks c)
    go (fine d) = tt
    go (bad f) = tt
decided i s (show_line w) = no-apart s (show_line w) (step i s (show_line w)) tt (not-then (meet (lookup w s.scope.known)) _ (not-meet (lookup w s.scope.known)) (λ y. tt))
decided i s total_line = no-apart s total_line (step i s total_line) tt (not-then (met (Metres (total s.entries))) _ (not_test [] (in_limit (Metres (total s.entries))) (Metres (total s.entries))) (λ y. tt))
decided i s (apart_line q) = go (in_limit (Number (num_value (signless q)))) (stand_apart (num_value (signless q)) (fixes s.entries)) refl
  where
    go : (n b : Bool) → stand_apart (num_value (signless q)) (fixes s.entries) ≡ b → Decided s (apart_line q) (then (test [] n (Number (num_value (signless q)))) (λ y. held_apart b s))
    go false b e = λ h. absurd (limit-not h)
    go true true e = e
    go true false e = λ h. (q, refl, e)

-- ---- a run from line i on, in the state s

-- of `all`, what was shown before line k is among es
abbrev Before : List Entry → ℕ → List Entry → Type 0
Before all k es = (j : ℕ) (g : Given Value) → In (shown j g) all → j < k → In (shown j g) es

abbrev Ended : ℕ → State → List Line → Ran → Type 0
Ended i s ls (done fs t) = Before t.entries i s.entries
    × ((k : ℕ) (q : Unsigned) → In (k, apart_line q) (numbered i ls) → (es : List Entry) × (stand_apart (num_value (signless q)) (fixes es) ≡ true) × Before t.entries k es)
Ended i s ls (stopped fs r k t) = r ≡ apart → (q : Unsigned) × In (k, apart_line q) (numbered i ls) × (stand_apart (num_value (signless q)) (fixes t.entries) ≡ false) × ShownBelow t.entries k
Ended i s ls (stuck fs k t) = Unit {0}

goes_on : (i : ℕ) (s t : State) (l : Line) (ls : List Line) (fs : List LocalFrame) (r : Ran) → Holding s l → Grown i s t → Ended (suc i) t ls r → Ended i s (l ∷ ls) (afterwards fs r)
goes_on i s t l ls fs (done hs u) h w (old, all) = (before, aparts)
  where
    before : Before u.entries i s.entries
    before j g k m = w.1 j g (old j g k (omega arith)) m

    aparts : (k : ℕ) (q : Unsigned) → In (k, apart_line q) ((i, l) ∷ numbered (suc i) ls) → (es : List Entry) × (stand_apart (num_value (signless q)) (fixes es) ≡ true) × Before u.entries k es
    aparts k q (inl e) =
        let ek : k ≡ i = ap (λ (n : Numbered). n.0) e in
        let el : apart_line q ≡ l = ap (λ (n : Numbered). n.1) e in
        (s.entries, subst (Holding s) (sym el) h, λ j g m n. before j g m (omega arith))
    aparts k q (inr m) = all k q m
goes_on i s t l ls fs (stopped hs r k u) h w e = λ a. let (q, m, b, c) = e a in (q, inr m, b, c)
goes_on i s t l ls fs (stuck hs k u) h w e = tt

ends : (ls : List Line) (i : ℕ) (s : State) → ShownBelow s.entries i → Ended i s ls (steps (numbered i ls) s)
unfolding steps
ends [] i s h = ((λ j g k l. k), (λ k q m. absurd m))
ends (l ∷ ls) i s h = go (step i s l) (line_wrote i s l) (decided i s l) (λ t w. ends ls (suc i) t w)
  where
    go : (o : Out State) → Left (Wrote i s (writes l)) o → Decided s l o → ((t : State) → ShownBelow t.entries (suc i) → Ended (suc i) t ls (steps (numbered (suc i) ls) t))
        → Ended i s (l ∷ ls) (onward o i s (λ t. steps (numbered (suc i) ls) t))
    go (goes fs t) w d on = let g = one_more i s t (writes l) h w in goes_on i s t l ls fs (steps (numbered (suc i) ls) t) d g (on t g.0)
    go (stops fs r) w d on = λ a. let (q, e, b) = d a in (q, inl (ap (λ (l : Line). (i, l)) (sym e)), b, h)
    go (sticks fs) w d on = tt

machine-ends : (c : Sheet) (R : List Float) → Ended 2 (start c.head R) c.lines (machine c R)
unfolding machine
machine-ends c R = ends c.lines 2 (start c.head R) (λ j g k. absurd k)

-- ---- the sentences, by what the machine came to

-- the name of the let on line i, at a position
abbrev fix_of : ℕ → GeocentricPosition → Fix
fix_of i a = record { line = i; position = a }

shown-in : (all es : List Entry) (k i : ℕ) (a : GeocentricPosition) → Before all k es → ShownBefore all k i a → In (fix_of i a) (fixes es)
shown-in all es k i a h (j, g, m, l, e, ev) = subst (λ n. In (fix_of n a) (fixes es)) e (shown-fix es j g a (h j g m l) ev)

far_apart : (all es : List Entry) (k : ℕ) (q : Unsigned) → stand_apart (num_value (signless q)) (fixes es) ≡ true → Before all k es
    → (i j : ℕ) (a b : GeocentricPosition) → ShownBefore all k i a → ShownBefore all k j b → ¬ (i ≡ j) → far_enough q a b ≡ true
far_apart all es k q h b4 i j a b x y n =
    sym (clear-two (num_value (signless q)) (fix_of i a) (fix_of j b) n)
    ∙ every_two (num_value (signless q)) (fixes es) h (fix_of i a) (fix_of j b) (shown-in all es k i a b4 x) (shown-in all es k j b b4 y)

close-pair : (es : List Entry) (k : ℕ) (q : Unsigned) → stand_apart (num_value (signless q)) (fixes es) ≡ false → ShownBelow es k
    → (i j : ℕ) × (a b : GeocentricPosition) × ShownBefore es k i a × ShownBefore es k j b × ¬ (i ≡ j) × (far_enough q a b ≡ false)
close-pair es k q h s =
    let (x, y, ix, iy, c) = some-two (num_value (signless q)) (fixes es) h in
    let two = not-clear (num_value (signless q)) x y c in
    (x.line, y.line, x.position, y.position, before x ix, before y iy, two, sym (clear-two (num_value (signless q)) x y two) ∙ c)
  where
    before : (x : Fix) → In x (fixes es) → ShownBefore es k x.line x.position
    before x m = let (j, g, i, e, ev) = fix-shown es x m in (j, g, i, s j g i, e, ev)

-- of what the machine came to, and what the run told of it
module _ (c : Sheet) (R : List Float) (out : List ℕ) (r : RunAnswer) (out' : List ℕ) where
  ran-passes : (m : Ran) → Ended 2 (start c.head R) c.lines m → Tells m out r out' → r.number ≡ 0 → (k : ℕ) (q : Unsigned) → AsksOn c k q → (i j : ℕ) (a b : GeocentricPosition)
      → ShownBefore (last_state m).entries k i a → ShownBefore (last_state m).entries k j b → ¬ (i ≡ j) → far_enough q a b ≡ true
  ran-passes (done fs t) (old, all) h n = λ k q ask. let (es, e, b) = all k q ask in far_apart t.entries es k q e b
  ran-passes (stopped fs s l t) h (e, o) n = absurd (omega (arith, refusal-some (stop s), ap (λ (r : RunAnswer). r.number) e))
  ran-passes (stuck fs l t) h x n = absurd x

  ran-breaks : (m : Ran) → Ended 2 (start c.head R) c.lines m → Tells m out r out' → r.number ≡ 9 → (q : Unsigned) × AsksOn c r.line q × ((i j : ℕ) × (a b : GeocentricPosition)
      × ShownBefore (last_state m).entries r.line i a × ShownBefore (last_state m).entries r.line j b × ¬ (i ≡ j) × (far_enough q a b ≡ false))
  ran-breaks (done fs t) h (e, o) n = absurd (omega (arith, ap (λ (r : RunAnswer). r.number) e))
  ran-breaks (stopped fs limit l t) h (e, o) n = absurd (omega (arith, ap (λ (r : RunAnswer). r.number) e))
  ran-breaks (stopped fs centre l t) h (e, o) n = absurd (omega (arith, ap (λ (r : RunAnswer). r.number) e))
  ran-breaks (stopped fs apart l t) h (e, o) n = rw e (let (q, m, b, s) = h refl in (q, m, close-pair t.entries l q b s))
  ran-breaks (stuck fs l t) h x n = absurd x

-- the check's refusals are 1 to 6
abbrev Early : Verdict → Type 0
Early (admitted c cs) = Unit {0}
Early (refused r j) = refusal_number r ≤ 6

early : (l : Bool) (S : List ℕ) (o : Form Sheet) → Early (verdict l S o)
unfolding verdict
early l S o = by_size (sized S) l
  where
    by-walk : (c : Sheet) (w : Walked) → Early (of_walked c w)
    by-walk c (passes cs) = tt
    by-walk c (refuses name j) = omega arith
    by-walk c (refuses kind j) = omega arith

    by-range : (b : Bool) (c : Sheet) → Early (of_range b c)
    by-range true c = by-walk c (walk c)
    by-range false c = omega arith

    by_form : (o : Form Sheet) → Early (of_form o)
    by_form (bad_line j) = omega arith
    by_form (formed c) = by-range (ranged c.head) c

    by_size : (b l : Bool) → Early (of_size b l o)
    by_size true true = by_form o
    by_size true false = omega arith
    by_size false l = omega arith

-- the run over any readings, lent any output
pub collars_stand_apart : (S : List ℕ) (R : List Float) (out : List ℕ) (r : RunAnswer) (out' : List ℕ) → RunOwes S R out r out' → StandApart S R r
collars_stand_apart S R out r out' o = record {
  passed = λ n c w. ran-passes c R out r out' (machine c R) (machine-ends c R) (tells c w (inl n) (verdict (lent_run R out) S o.form_is) (early (lent_run R out) S o.form_is) (lent_says S (lent_run R out) o.form_is o.grammar) o.answer) n;
  refused = λ n c w. ran-breaks c R out r out' (machine c R) (machine-ends c R) (tells c w (inr (omega arith)) (verdict (lent_run R out) S o.form_is) (early (lent_run R out) S o.form_is) (lent_says S (lent_run R out) o.form_is o.grammar) o.answer) n;
}
  where
    tells : (c : Sheet) → Written S c → (r.number ≡ 0) ⊎ (7 ≤ r.number) → (v : Verdict) → Early v → LentSays (lent_run R out) S v → RunOf v R out r out' → Tells (machine c R) out r out'
    tells c w n (admitted d cs) e (l, h) t = subst (λ d. Tells (machine d R) out r out') (sym (same-sheet S c d w h.2.grammar)) t
    tells c w n (refused k j) e h (er, eo) = absurd (never (ap (λ (r : RunAnswer). r.number) er) n)
      where
        never : r.number ≡ refusal_number k → (r.number ≡ 0) ⊎ (7 ≤ r.number) → ⊥
        never e' (inl z) = omega (arith, refusal-some k)
        never e' (inr z) = omega arith
