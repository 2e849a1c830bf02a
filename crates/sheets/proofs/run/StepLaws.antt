-- The machine's step over a line, by what the code of the line answers. Assumes nothing.
use Rattle.std.specs.Prelude.{Ok, Err}
use Prim.Native.Nat.{ℕ, suc, ◌+◌}
use native.Mathlib.Omega.{arith}
use mathlib.Core.Path.{◌≡◌, refl, sym, ap, ap₂, subst, ◌∙◌}
use mathlib.Core.Bool.{Bool, true, false}
use mathlib.Core.List.{List, [], ◌∷◌, ◌++◌}
use lib.ListN.{length}
use lib.Ieee.{Float}
use Rattle.frames.specs.declared.LocalFrame.{LocalFrame}
use Rattle.sheets.specs.declared.Value.{Value}
use Rattle.sheets.specs.declared.answers.RunAnswer.{RunAnswer}
use Rattle.sheets.specs.declared.Halt.{Halt}
use Rattle.sheets.specs.Text.{Word}
use Rattle.sheets.specs.Trees.{Expr, Line, let_line, numbered}
use Rattle.sheets.specs.Kinds.{kind_of, kind_code}
use Rattle.sheets.specs.Names.{barred, given_on}
use Rattle.sheets.specs.Scopes.{with_name, give_if, give}
use Rattle.sheets.specs.Refusals.{Refusal, stop, refusal_number}
use Rattle.sheets.specs.Entries.{entry_lines}
use Rattle.sheets.specs.Machine.{Out, goes, stops, sticks, after, then as thenᵒ, eval, State, rescoped, step, Ran, done, stopped, stuck, afterwards, steps}
use Rattle.sheets.specs.Answers.{laid, Tells}
use Rattle.sheets.specs.Claim.{Unstuck}
use Rattle.sheets.specs.code.Refusals.{code_for}
use Rattle.sheets.specs.code.rows.KindCodes.{kind_at}
use Rattle.sheets.specs.code.run.Floats.{value_at, Lies}
use Rattle.sheets.specs.code.run.Evaluating.{Evaluated, evaluated, LiesOf, Answers}
use Rattle.sheets.specs.code.run.Running.{stopped_at}
use Rattle.sheets.proofs.RefusalCodes.{code-is}
use Rattle.sheets.proofs.rows.KindRowLaws.{kind-at}
use Rattle.sheets.proofs.run.RunParts.{same-ok, not-ok}

-- ---- the answer does not say which frames were made

tells-after : (r : RunAnswer) (out d : List ℕ) (fs : List LocalFrame) (q : Ran) → Tells q d r out → Tells (afterwards fs q) d r out
tells-after r out d fs (done hs s) a = a
tells-after r out d fs (stopped hs c i s) a = a
tells-after r out d fs (stuck hs i s) a = a

unstuck-after : (fs : List LocalFrame) (q : Ran) → Unstuck (afterwards fs q) → Unstuck q
unstuck-after fs (done hs s) u = u
unstuck-after fs (stopped hs c i s) u = u
unstuck-after fs (stuck hs i s) u = u

-- ---- the machine's step

-- what the rest answers from the state that a line leaves
pub onwards : (i : ℕ) (st st' : State) (y : Line) (ys : List Line) (fs : List LocalFrame) → step i st y ≡ goes fs st' → (d : List ℕ) (q : RunAnswer) (out' : List ℕ)
    → (Unstuck (steps (numbered (i + 1) ys) st') → Tells (steps (numbered (i + 1) ys) st') d q out') → Unstuck (steps (numbered i (y ∷ ys)) st) → Tells (steps (numbered i (y ∷ ys)) st) d q out'
unfolding steps
onwards i st st' y ys fs es d q out' k un =
    let j : i + 1 ≡ suc i = omega arith in
    let k' = subst (λ m. Unstuck (steps (numbered m ys) st') → Tells (steps (numbered m ys) st') d q out') j k in
    rw es (tells-after q out' d fs (steps (numbered (suc i) ys) st') (k' (unstuck-after fs (steps (numbered (suc i) ys) st') (rw es at un))))

-- a line that comes to no value
pub line-stops : (i : ℕ) (st : State) (y : Line) (ys : List Line) (o : Out Value) (k : Value → Out State) → step i st y ≡ thenᵒ o k → (h : Halt) → Err h ≡ evaluated o
    → (n : ℕ) → n ≡ length (entry_lines st.entries) → (d out : List ℕ) → out ≡ laid (entry_lines st.entries) d → (a : RunAnswer) → a ≡ stopped_at h i n
    → Unstuck (steps (numbered i (y ∷ ys)) st) → Tells (steps (numbered i (y ∷ ys)) st) d a out
unfolding steps evaluated stopped_at
line-stops i st y ys (goes fs v) k es h er n en d out eo a ea un = not-ok h _ er
line-stops i st y ys (stops fs c) k es h er n en d out eo a ea un =
    let eh : h ≡ Halt.Refused (code_for (stop c)) = cc in
    rw es (ea ∙ ap (λ z. stopped_at z i n) eh ∙ ap₂ (λ (q : Refusal) (z : ℕ). record { number = refusal_number q; line = i; written = z }) (code-is (stop c)) en, eo)
line-stops i st y ys (sticks fs) k es h er n en d out eo a ea un = absurd (rw es at un)

-- a let that does not stick gives its name
abbrev pub given : ℕ → Word → Value → State → State
given i w v st = record { ellipsoid = st.ellipsoid; scope = with_name (given_on i w v) st.scope; entries = st.entries }

pub let-step : (i : ℕ) (st : State) (w : Word) (x : Expr) (fs : List LocalFrame) (v : Value) → eval x st.ellipsoid st.scope.known ≡ goes fs v
    → (y : Line) → y ≡ let_line w x → (ys : List Line) → Unstuck (steps (numbered i (y ∷ ys)) st) → step i st y ≡ goes (fs ++ []) (given i w v st)
unfolding step steps
let-step i st w x fs v e y ey ys un =
    go (barred w st.scope.known) (ap (step i st) ey ∙ ap (λ o. thenᵒ o (λ u. rescoped st (give (given_on i w u) st.scope))) e)
  where
    go : (b : Bool) → step i st y ≡ after fs (rescoped st (give_if b (given_on i w v) st.scope)) → step i st y ≡ goes (fs ++ []) (given i w v st)
    go true es = absurd (rw es at un)
    go false es = es

-- where a let's answer is a value, it lies at the place
pub answers-is : (o : Out Value) (top : ℕ) (f : List Float) (r : Evaluated) (g : List Float) → Answers o top f r g → (kind : ℕ) → r ≡ Ok kind
    → (fs : List LocalFrame) × (v : Value) × (o ≡ goes fs v) × (v ≡ value_at (kind_at kind) g top) × Lies g top v × (kind ≡ kind_code (kind_of v))
unfolding evaluated LiesOf
answers-is (goes fs v) top f r g a kind er =
    let ek = same-ok (sym er ∙ a.is) in
    (fs, v, refl, sym a.lies.is ∙ ap (λ k. value_at k g top) (sym (kind-at (kind_of v)).0 ∙ ap kind_at (sym ek)), a.lies, ek)
answers-is (stops fs c) top f r g a kind er = not-ok _ _ (sym a.is ∙ er)
answers-is (sticks fs) top f r g a kind er = not-ok _ _ (sym a.is ∙ er)
