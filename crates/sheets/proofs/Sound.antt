-- A sheet that the check's walk passes never sticks, and each name that the machine gives has the kind code that the walk has for that line.
-- One that it refuses sticks at that line, unless refusal 7, 8 or 9 stopped it before. Assumes nothing.
use mathlib.Core.Path.{◌≡◌, refl, ap, sym, ◌∙◌, subst}
use mathlib.Core.List.{List, [], ◌∷◌, ◌++◌, append_assoc, append-nil}
use Prim.Native.Nat.{ℕ, zero, suc, ◌+◌, ◌-◌, ◌≤◌, ◌<◌}
use native.Mathlib.Omega.{arith}
use mathlib.Core.Bool.{Bool, true, false}
use lib.ListN.{length, get_or, length-append, get_or-append}
use lib.Ieee.{Float}
use Rattle.frames.specs.declared.LocalFrame.{LocalFrame}
use Rattle.sheets.specs.Text.{Word}
use Rattle.sheets.specs.Trees.{Line, let_line, show_line, total_line, Sheet, numbered, apart_line}
use Rattle.sheets.specs.Kinds.{Kind, kind_code}
use Rattle.sheets.specs.Names.{Given, lookup, barred, given_on}
use Rattle.sheets.specs.Scopes.{Scope, give_if}
use Rattle.sheets.specs.Refusals.{Fault, name, Checked, fine, bad, thenᶜ, known?}
use Rattle.sheets.specs.Machine.{Out, goes, stops, sticks, State, step, Ran, done, stopped, stuck, afterwards, onward, steps, start, machine}
use Rattle.sheets.specs.Check.{kind_of_expr, Stateᶜ, lineᶜ, noted, stepᶜ, Walked, passes, refuses, onwardᶜ, stepsᶜ, startᶜ, walk}
use Rattle.sheets.specs.Claim.{All}
use Rattle.sheets.proofs.Agree.{Agree, View, agree-step, start_seen}

-- ---- the codes of the walk: one more for each line, and each name's on its line

-- the name's line is one of those done, and has the code of its kind
abbrev pub OnLine : List ℕ → Given Kind → Type 0
OnLine cs g = (2 ≤ g.line) × (g.line < length cs + 2) × (get_or cs (g.line - 2) 0 ≡ kind_code g.value)

-- before line i
pub record Tidy (i : ℕ) (s : Stateᶜ) : Type 0 where
  pub here : i ≡ length s.codes + 2
  pub listed : All (OnLine s.codes) s.scope.given

last_code : (cs : List ℕ) (c n : ℕ) → n ≡ length cs → get_or (cs ++ (c ∷ [])) n 0 ≡ c
last_code [] c n e = ap (λ (k : ℕ). get_or (c ∷ []) k 0) e
last_code (d ∷ cs) c zero e = absurd (omega arith)
last_code (d ∷ cs) c (suc n) e = last_code cs c n (omega arith)

length_last : (cs : List ℕ) (c : ℕ) → length (cs ++ (c ∷ [])) ≡ length cs + 1
length_last cs c = length-append cs (c ∷ [])

pub on-later : (cs ds : List ℕ) (g : Given Kind) → OnLine cs g → OnLine (cs ++ ds) g
on-later cs ds g h =
    (h.0, simp length-append (omega arith), get_or-append cs ds 0 (g.line - 2) (omega arith) ∙ h.2)

pub all-later : (cs ds : List ℕ) (gs : List (Given Kind)) → All (OnLine cs) gs → All (OnLine (cs ++ ds)) gs
all-later cs ds [] h = tt
all-later cs ds (g ∷ gs) h = (on-later cs ds g h.0, all-later cs ds gs h.1)

-- ---- a line of the walk: it is left tidy, with one code more

abbrev Next : ℕ → Stateᶜ → Checked Stateᶜ → Type 0
Next i s (fine t) = Tidy (suc i) t × ((n : ℕ) × (t.codes ≡ s.codes ++ (n ∷ [])))
Next i s (bad f) = Unit {0}

-- its code and what it leaves are noted in a tidy way
abbrev Noting : ℕ → Stateᶜ → Checked (ℕ × Scope Kind) → Type 0
Noting i s (fine p) = Tidy (suc i) (noted s p)
Noting i s (bad f) = Unit {0}

noting-then : {A : Type 0} (i : ℕ) (s : Stateᶜ) (c : Checked A) (k : A → Checked (ℕ × Scope Kind)) → ((x : A) → Noting i s (k x)) → Noting i s (thenᶜ c k)
noting-then i s (fine x) k h = h x
noting-then i s (bad f) k h = tt

-- a line that gives no name
noting-none : (i : ℕ) (s : Stateᶜ) (n : ℕ) (c : Scope Kind) → Tidy i s → c.given ≡ s.scope.given → Tidy (suc i) (noted s (n, c))
noting-none i s n c h e = record {
  here = simp length_last (omega (arith, h.here));
  listed = subst (λ gs. All (OnLine (s.codes ++ (n ∷ []))) gs) (sym e) (all-later s.codes (n ∷ []) s.scope.given h.listed);
}

noting-give : (b : Bool) (i : ℕ) (s : Stateᶜ) (w : Word) (k : Kind) → Tidy i s → Noting i s (thenᶜ (give_if b (given_on i w k) s.scope) (λ d. fine (kind_code k, d)))
noting-give true i s w k h = tt
noting-give false i s w k h =
    let m = noting-none i s (kind_code k) s.scope h refl in
    let e : i ≡ length s.codes + 2 = h.here in
    record {
      here = m.here;
      listed = ((omega arith, simp length_last (omega arith), last_code s.codes (kind_code k) (i - 2) (omega arith)), m.listed);
    }

noting : (i : ℕ) (s : Stateᶜ) (x : Line) → Tidy i s → Noting i s (lineᶜ i s.scope x)
unfolding lineᶜ
noting i s (let_line w x) h = noting-then i s (kind_of_expr x s.scope.known) _ (λ k. noting-give (barred w s.scope.known) i s w k h)
noting i s (show_line w) h = noting-then i s (known? name (lookup w s.scope.known)) _ (λ k. noting-none i s (kind_code k) s.scope h refl)
noting i s total_line h = noting-none i s 2 s.scope h refl
noting i s (apart_line q) h = noting-none i s 254 s.scope h refl

next-step : (i : ℕ) (s : Stateᶜ) (x : Line) → Tidy i s → Next i s (stepᶜ i s x)
unfolding stepᶜ
next-step i s x h = go (lineᶜ i s.scope x) (noting i s x h)
  where
    go : (o : Checked (ℕ × Scope Kind)) → Noting i s o → Next i s (thenᶜ o (λ p. fine (noted s p)))
    go (fine p) t = (t, (p.0, refl))
    go (bad f) t = tt

-- ---- what the walk, at line i in the state s, can still come to

abbrev pub Later : ℕ → Stateᶜ → Walked → Type 0
Later i s (passes cs) = (ds : List ℕ) × (cs ≡ s.codes ++ ds)
Later i s (refuses f j) = i ≤ j

later-next : (i : ℕ) (s t : Stateᶜ) (n : ℕ) (o : Walked) → t.codes ≡ s.codes ++ (n ∷ []) → Later (suc i) t o → Later i s o
later-next i s t n (passes cs) e p = (n ∷ p.0, p.1 ∙ ap (λ (ms : List ℕ). ms ++ p.0) e ∙ append_assoc s.codes (n ∷ []) p.0)
later-next i s t n (refuses f j) e p = omega arith

later-step : (i : ℕ) (s : Stateᶜ) (c : Checked Stateᶜ) (k : Stateᶜ → Walked) → Next i s c → ((t : Stateᶜ) → Tidy (suc i) t → Later (suc i) t (k t)) → Later i s (onwardᶜ c i k)
later-step i s (fine t) k h r = later-next i s t h.1.0 (k t) h.1.1 (r t h.0)
later-step i s (bad f) k h r = omega arith

later : (xs : List Line) (i : ℕ) (s : Stateᶜ) → Tidy i s → Later i s (stepsᶜ (numbered i xs) s)
unfolding stepsᶜ
later [] i s h = ([], sym (append-nil s.codes))
later (x ∷ xs) i s h = later-step i s (stepᶜ i s x) _ (next-step i s x h) (λ t g. later xs (suc i) t g)

-- ---- a whole sheet

-- the walk's state that the machine's is alike to, and what the walk comes to from there
abbrev pub AgreeRan : Ran → Walked → Type 0
AgreeRan (done fs s) o = (c : Stateᶜ) × View s c × (o ≡ passes c.codes) × All (OnLine c.codes) c.scope.given
AgreeRan (stopped fs r i s) o = (c : Stateᶜ) × View s c × Later i c o × All (OnLine c.codes) c.scope.given
AgreeRan (stuck fs i s) o = (f : Fault) × (o ≡ refuses f i)

agree-afterwards : (fs : List LocalFrame) (r : Ran) (o : Walked) → AgreeRan r o → AgreeRan (afterwards fs r) o
agree-afterwards fs (done hs s) o p = p
agree-afterwards fs (stopped hs c i s) o p = p
agree-afterwards fs (stuck hs i s) o p = p

agree-onward : (o : Out State) (i : ℕ) (s : State) (c : Stateᶜ) (d : Checked Stateᶜ) (k : State → Ran) (q : Stateᶜ → Walked)
    → View s c → Agree View o d → Next i c d → Tidy i c → ((t : State) (u : Stateᶜ) → View t u → Tidy (suc i) u → AgreeRan (k t) (q u)) → Later i c (onwardᶜ d i q)
    → AgreeRan (onward o i s k) (onwardᶜ d i q)
agree-onward (goes fs t) i s c d k q v p y z h m =
    agree-afterwards fs (k t) (onwardᶜ d i q) (subst (λ e. AgreeRan (k t) (onwardᶜ e i q)) (sym p.1) (h t p.0 p.2 (subst (Next i c) p.1 y).0))
agree-onward (stops fs r) i s c d k q v p y z h m = (c, v, m, z.listed)
agree-onward (sticks fs) i s c d k q v p y z h m = (p.0, ap (λ e. onwardᶜ e i q) p.1)

agree-steps : (xs : List Line) (i : ℕ) (s : State) (c : Stateᶜ) → View s c → Tidy i c → AgreeRan (steps (numbered i xs) s) (stepsᶜ (numbered i xs) c)
unfolding steps stepsᶜ
agree-steps [] i s c v h = (c, v, refl, h.listed)
agree-steps (x ∷ xs) i s c v h =
    agree-onward (step i s x) i s c (stepᶜ i c x) _ _ v (agree-step i s c x v) (next-step i c x h) h
    (λ t u w g. agree-steps xs (suc i) t u w g) (later (x ∷ xs) i c h)

-- the machine over any readings, and the walk
pub agree : (c : Sheet) (rs : List Float) → AgreeRan (machine c rs) (walk c)
unfolding machine walk
agree c rs = agree-steps c.lines 2 (start c.head rs) startᶜ (start_seen rs) (record { here = refl; listed = tt })
