-- What a line writes: one entry more or none, under a WORD; and the state in which a run came to its end. Assumes nothing.
use mathlib.Core.Path.{◌≡◌, refl}
use mathlib.Core.Bool.{Bool, true, false}
use mathlib.Core.List.{List, [], ◌∷◌, ◌++◌}
use Prim.Native.Nat.{ℕ}
use Rattle.frames.specs.declared.LocalFrame.{LocalFrame}
use Rattle.sheets.specs.declared.Value.{Value}
use Rattle.sheets.specs.declared.Value.TheVariants.{Number, Metres}
use Rattle.sheets.specs.Text.{ascii}
use Rattle.sheets.specs.Trees.{Line, let_line, show_line, total_line, apart_line, signless}
use Rattle.sheets.specs.Grammar.{IsWord, IsLine}
use Rattle.sheets.specs.Names.{lookup, given_on, Given}
use Rattle.sheets.specs.Scopes.{give}
use Rattle.sheets.specs.Entries.{shown, summed, total}
use Rattle.sheets.specs.Limits.{num_value}
use Rattle.sheets.specs.Aparts.{fixes, stand_apart}
use Rattle.sheets.specs.Machine.{Out, goes, stops, sticks, after, then, met, meet, eval, State, or_sticks, step, Ran, done, stopped, stuck, afterwards, held_apart, last_state}
use Rattle.sheets.specs.Writes.{Writes, a_show, a-total, nothing, writes}

-- what holds of the result of a step that goes on
abbrev pub Left : {A : Type 0} → (A → Type 0) → Out A → Type 0
Left P (goes fs x) = P x
Left P (stops fs c) = Unit {0}
Left P (sticks fs) = Unit {0}

left_after : {A : Type 0} (P : A → Type 0) (fs : List LocalFrame) (o : Out A) → Left P o → Left P (after fs o)
left_after P fs (goes hs x) h = h
left_after P fs (stops hs c) h = h
left_after P fs (sticks hs) h = h

left-then : {A B : Type 0} (P : B → Type 0) (o : Out A) (k : A → Out B) → ((x : A) → Left P (k x)) → Left P (then o k)
left-then P (goes fs x) k h = left_after P fs (k x) (h x)
left-then P (stops fs c) k h = tt
left-then P (sticks fs) k h = tt

-- what line i leaves of the entries
abbrev pub Wrote : ℕ → State → Writes → State → Type 0
Wrote i s nothing t = t.entries ≡ s.entries
Wrote i s (a_show w) t = (g : Given Value) × (w ≡ g.name) × (t.entries ≡ s.entries ++ (shown i g ∷ []))
Wrote i s a-total t = t.entries ≡ s.entries ++ (summed (total s.entries) ∷ [])

pub line_wrote : (i : ℕ) (s : State) (l : Line) → Left (Wrote i s (writes l)) (step i s l)
unfolding step
line_wrote i s (let_line w x) = left-then (Wrote i s nothing) (eval x s.ellipsoid s.scope.known) _ (λ y. left-then (Wrote i s nothing) (or_sticks (give (given_on i w y) s.scope)) _ (λ c. refl))
line_wrote i s (show_line w) = left-then (Wrote i s (a_show w)) (meet (lookup w s.scope.known)) _ (λ y. (_, refl, refl))
line_wrote i s total_line = left-then (Wrote i s a-total) (met (Metres (total s.entries))) _ (λ y. refl)
line_wrote i s (apart_line q) = left-then (Wrote i s nothing) (met (Number (num_value (signless q)))) _ (λ y. go (stand_apart (num_value (signless q)) (fixes s.entries)))
  where
    go : (b : Bool) → Left (Wrote i s nothing) (held_apart b s)
    go true = refl
    go false = tt

-- the name of what is written
abbrev pub Named : Writes → Type 0
Named nothing = Unit {0}
Named (a_show w) = IsWord w
Named a-total = IsWord (ascii "total")

pub line-named : (l : Line) → IsLine l → Named (writes l)
line-named (let_line w x) h = tt
line-named (show_line w) h = h.0.1.0
line-named total_line h = h.0.0
line-named (apart_line q) h = tt

-- ---- the state in which a run came to its end
pub last-after : (fs : List LocalFrame) (r : Ran) → last_state (afterwards fs r) ≡ last_state r
last-after fs (done hs s) = refl
last-after fs (stopped hs c i s) = refl
last-after fs (stuck hs i s) = refl
