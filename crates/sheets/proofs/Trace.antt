-- What holds of every frame that the machine makes and of every value shown, from a law of each row: a law of values that readings, NUMs and totals have, and that every row keeps. Assumes nothing.
use mathlib.Core.List.{List, [], ◌∷◌, ◌++◌}
use mathlib.Core.Option.{Option, none, some}
use mathlib.Core.Bool.{Bool, true, false}
use Prim.Native.Nat.{ℕ, suc}
use lib.Ieee.{Float}
use Rattle.numbers.specs.Ops.{num}
use Rattle.frames.specs.declared.Ellipsoid.{Ellipsoid}
use Rattle.frames.specs.declared.LocalFrame.{LocalFrame}
use Rattle.sheets.proofs.ByCases.{by_cases}
use Rattle.sheets.specs.declared.Value.{Value}
use Rattle.sheets.specs.declared.Value.TheVariants.{Number, Radians, Metres, Geocentric, Geodetic, Vector, Frame}
use Rattle.sheets.specs.Text.{Word}
use Rattle.sheets.specs.Trees.{Num, Expr, Exprs, word_expr, num_expr, form_expr, nil, ◌▸◌, Line, let_line, show_line, total_line, Sheet, numbered, apart_line, signless}
use Rattle.sheets.specs.Letters.{Letter, 𝐧, 𝐚, 𝐥, 𝐠, 𝐝, 𝐯, 𝐟, ⟦◌⟧, Holds, held, hold, both, orientations}
use Rattle.sheets.specs.Table.{Row, on, when, table}
use Rattle.sheets.specs.Lookup.{same_word, shared, Hit, hit, find}
use Rattle.sheets.specs.Names.{Given, Known, or_else, lookup, barred, reading_words, given_on, line_of_let}
use Rattle.sheets.specs.Entries.{Entry, shown, summed, entry_value, total}
use Rattle.sheets.specs.Scopes.{give_if}
use Rattle.sheets.specs.Limits.{num_value, in_limit}
use Rattle.sheets.specs.Aparts.{fixes, stand_apart}
use Rattle.sheets.specs.Machine.{Out, goes, stops, sticks, after, then, test, met, meet, made, result, provided, apply_row, eval, evals, State, rescoped, write, step, Ran, done, stopped, stuck, afterwards, onward, steps, readings, start, machine, held_apart, last_state}
use Rattle.sheets.specs.Claim.{All, frames_made}

each_append : {A : Type 0} (P : A → Type 0) (xs ys : List A) → All P xs → All P ys → All P (xs ++ ys)
each_append P [] ys h k = k
each_append P (x ∷ xs) ys h k = (h.0, each_append P xs ys h.1 k)

-- the value of a letter
abbrev pub value_of : (s : Letter) → ⟦ s ⟧ → Value
value_of 𝐧 x = Number x
value_of 𝐚 x = Radians x
value_of 𝐥 x = Metres x
value_of 𝐠 x = Geocentric x
value_of 𝐝 x = Geodetic x
value_of 𝐯 x = Vector x
value_of 𝐟 x = Frame x

-- a law of the values, and one of the frames made, that a row keeps
module _ (Good : Value → Type 0) (Fine : LocalFrame → Type 0) where
  abbrev pub GoodArgs : (ss : List Letter) → Holds ss → Type 0
  GoodArgs [] xs = Unit {0}
  GoodArgs (s ∷ ss) xs = Good (value_of s xs.0) × GoodArgs ss xs.1

  abbrev pub Keeps : Row → Type 0
  Keeps r = (e : Ellipsoid) (xs : Holds r.takes) → GoodArgs r.takes xs → Good (on r.takes (r.apply e) xs) × All Fine (made (on r.takes (r.apply e) xs))

module _ (Good : Value → Type 0) (Fine : LocalFrame → Type 0) (nums : (q : Num) → Good (Number (num_value q))) (sums : (es : List Entry) → Good (Metres (total es))) (rows : All (Keeps Good Fine) table) where
  abbrev GoodOption : (s : Letter) → Option ⟦ s ⟧ → Type 0
  GoodOption s none = Unit {0}
  GoodOption s (some y) = Good (value_of s y)

  abbrev GoodAs : Letter → Value → Type 0
  GoodAs s x = Good x → GoodOption s (held s x)

  good-held : (s : Letter) (x : Value) → GoodAs s x
  unfolding held
  good-held 𝐧 = by_cases (GoodAs 𝐧) (λ x h. h) (λ x h. tt) (λ x h. tt) (λ x h. tt) (λ x h. tt) (λ x h. tt) (λ x h. tt)
  good-held 𝐚 = by_cases (GoodAs 𝐚) (λ x h. tt) (λ x h. h) (λ x h. tt) (λ x h. tt) (λ x h. tt) (λ x h. tt) (λ x h. tt)
  good-held 𝐥 = by_cases (GoodAs 𝐥) (λ x h. tt) (λ x h. tt) (λ x h. h) (λ x h. tt) (λ x h. tt) (λ x h. tt) (λ x h. tt)
  good-held 𝐠 = by_cases (GoodAs 𝐠) (λ x h. tt) (λ x h. tt) (λ x h. tt) (λ x h. h) (λ x h. tt) (λ x h. tt) (λ x h. tt)
  good-held 𝐝 = by_cases (GoodAs 𝐝) (λ x h. tt) (λ x h. tt) (λ x h. tt) (λ x h. tt) (λ x h. h) (λ x h. tt) (λ x h. tt)
  good-held 𝐯 = by_cases (GoodAs 𝐯) (λ x h. tt) (λ x h. tt) (λ x h. tt) (λ x h. tt) (λ x h. tt) (λ x h. h) (λ x h. tt)
  good-held 𝐟 = by_cases (GoodAs 𝐟) (λ x h. tt) (λ x h. tt) (λ x h. tt) (λ x h. tt) (λ x h. tt) (λ x h. tt) (λ x h. h)

  abbrev GoodHeld : (ss : List Letter) → Option (Holds ss) → Type 0
  GoodHeld ss none = Unit {0}
  GoodHeld ss (some xs) = GoodArgs Good Fine ss xs

  good-both : (s : Letter) (ss : List Letter) (o : Option ⟦ s ⟧) (p : Option (Holds ss)) → GoodOption s o → GoodHeld ss p → GoodHeld (s ∷ ss) (both o p)
  good-both s ss none p h i = tt
  good-both s ss (some x) none h i = tt
  good-both s ss (some x) (some xs) h i = (h, i)

  good-hold : (ss : List Letter) (xs : List Value) → All Good xs → GoodHeld ss (hold ss xs)
  unfolding hold
  good-hold [] [] h = tt
  good-hold [] (x ∷ xs) h = tt
  good-hold (s ∷ ss) [] h = tt
  good-hold (s ∷ ss) (x ∷ xs) h = good-both s ss (held s x) (hold ss xs) (good-held s x h.0) (good-hold ss xs h.1)

  abbrev GoodHit : Option Hit → Type 0
  GoodHit none = Unit {0}
  GoodHit (some h) = Keeps Good Fine h.row × GoodArgs Good Fine h.row.takes h.args

  good-hit : (r : Row) (b : Bool) (o : Option (Holds r.takes)) (p : Option Hit) → Keeps Good Fine r → GoodHeld r.takes o → GoodHit p → GoodHit (hit r b o p)
  good-hit r false o p k h i = i
  good-hit r true none p k h i = i
  good-hit r true (some xs) p k h i = go (shared r.over (orientations r.takes xs))
    where
      go : (b : Bool) → GoodHit (when b (some (record { row = r; args = xs })) p)
      go true = (k, h)
      go false = i

  good-find : (rs : List Row) (w : Word) (xs : List Value) → All (Keeps Good Fine) rs → All Good xs → GoodHit (find rs w xs)
  unfolding find
  good-find [] w xs k h = tt
  good-find (r ∷ rs) w xs k h = good-hit r (same_word w r.word) (hold r.takes xs) (find rs w xs) k.0 (good-hold r.takes xs h) (good-find rs w xs k.1 h)

  -- a result is good, and the frames made on the way are fine
  abbrev GoodOut : {A : Type 0} → (A → Type 0) → Out A → Type 0
  GoodOut P (goes fs x) = P x × All Fine fs
  GoodOut P (stops fs c) = All Fine fs
  GoodOut P (sticks fs) = All Fine fs

  good-after : {A : Type 0} (P : A → Type 0) (fs : List LocalFrame) (o : Out A) → All Fine fs → GoodOut P o → GoodOut P (after fs o)
  good-after P fs (goes hs x) h i = (i.0, each_append Fine fs hs h i.1)
  good-after P fs (stops hs c) h i = each_append Fine fs hs h i
  good-after P fs (sticks hs) h i = each_append Fine fs hs h i

  good-then : {A B : Type 0} (P : A → Type 0) (Q : B → Type 0) (o : Out A) (k : A → Out B) → GoodOut P o → ((x : A) → P x → GoodOut Q (k x)) → GoodOut Q (then o k)
  good-then P Q (goes fs x) k h i = good-after Q fs (k x) h.1 (i x h.0)
  good-then P Q (stops fs c) k h i = h
  good-then P Q (sticks fs) k h i = h

  good-test : (fs : List LocalFrame) (b : Bool) (x : Value) → All Fine fs → Good x → GoodOut Good (test fs b x)
  good-test fs true x h i = (i, h)
  good-test fs false x h i = h

  abbrev GoodKnown : Known Value → Type 0
  GoodKnown ps = All (λ g. Good g.value) ps

  abbrev GoodFound : Option Value → Type 0
  GoodFound none = Unit {0}
  GoodFound (some x) = Good x

  good-lookup : (w : Word) (ps : Known Value) → GoodKnown ps → GoodFound (lookup w ps)
  good-lookup w [] h = tt
  good-lookup w (p ∷ ps) h = go (same_word w p.name) (lookup w ps) (good-lookup w ps h.1)
    where
      go : (b : Bool) (o : Option Value) → GoodFound o → GoodFound (or_else b p.value o)
      go true o i = h.0
      go false o i = i

  good-meet : (o : Option Value) → GoodFound o → GoodOut Good (meet o)
  good-meet none h = tt
  good-meet (some x) h = good-test [] (in_limit x) x tt h

  good-provided : (b : Bool) (k : Unit {0} → Out Value) → GoodOut Good (k tt) → GoodOut Good (provided b k)
  good-provided true k h = h
  good-provided false k h = tt

  good-row : (e : Ellipsoid) (o : Option Hit) → GoodHit o → GoodOut Good (apply_row e o)
  good-row e none h = tt
  good-row e (some i) h =
      let r = i.row in
      let x = on r.takes (r.apply e) i.args in
      let k = h.0 e i.args h.1 in
      good-provided (on r.takes (r.centred e) i.args) (λ u. result x) (good-test (made x) (in_limit x) x k.1 k.0)

  mutual
    unfolding eval

    good-eval : (x : Expr) (e : Ellipsoid) (ps : Known Value) → GoodKnown ps → GoodOut Good (eval x e ps)
    good-eval (word_expr w) e ps h = good-meet (lookup w ps) (good-lookup w ps h)
    good-eval (num_expr q) e ps h = good-test [] (in_limit (Number (num_value q))) (Number (num_value q)) tt (nums q)
    good-eval (form_expr w xs) e ps h =
        good-then (All Good) Good (evals xs e ps) _ (good-evals xs e ps h) (λ vs i. good-row e (find table w vs) (good-find table w vs rows i))

    good-evals : (xs : Exprs) (e : Ellipsoid) (ps : Known Value) → GoodKnown ps → GoodOut (All Good) (evals xs e ps)
    good-evals nil e ps h = (tt, tt)
    good-evals (x ▸ xs) e ps h =
        good-then Good (All Good) (eval x e ps) _ (good-eval x e ps h) (λ y i.
        good-then (All Good) (All Good) (evals xs e ps) _ (good-evals xs e ps h) (λ ys j. ((i, j), tt)))

  -- what is known and what is shown are good
  abbrev GoodState : State → Type 0
  GoodState s = GoodKnown s.scope.known × All (λ a. Good (entry_value a)) s.entries

  good-write : (s : State) (a : Entry) → GoodState s → Good (entry_value a) → GoodState (write s a)
  good-write s a h j = (h.0, each_append (λ a. Good (entry_value a)) s.entries (a ∷ []) h.1 (j, tt))

  good-give : (b : Bool) (g : Given Value) (s : State) → GoodState s → Good g.value → GoodOut GoodState (rescoped s (give_if b g s.scope))
  good-give true g s h j = tt
  good-give false g s h j = (((j, h.0), h.1), tt)

  good-step : (i : ℕ) (s : State) (x : Line) → GoodState s → GoodOut GoodState (step i s x)
  unfolding step
  good-step i s (let_line w x) h =
      good-then Good GoodState (eval x s.ellipsoid s.scope.known) _ (good-eval x s.ellipsoid s.scope.known h.0) (λ y j. good-give (barred w s.scope.known) (given_on i w y) s h j)
  good-step i s (show_line w) h = good-then Good GoodState (meet (lookup w s.scope.known)) _ (good-meet (lookup w s.scope.known) (good-lookup w s.scope.known h.0)) (λ y j. (good-write s (shown i (given_on (line_of_let w s.scope.known) w y)) h j, tt))
  good-step i s total_line h = good-then Good GoodState (met (Metres (total s.entries))) _ (good-test [] (in_limit (Metres (total s.entries))) (Metres (total s.entries)) tt (sums s.entries)) (λ y j. (good-write s (summed (total s.entries)) h (sums s.entries), tt))
  good-step i s (apart_line q) h =
      let x = Number (num_value (signless q)) in
      good-then Good GoodState (met x) _ (good-test [] (in_limit x) x tt (nums (signless q))) (λ y j. go (stand_apart (num_value (signless q)) (fixes s.entries)))
    where
      go : (b : Bool) → GoodOut GoodState (held_apart b s)
      go true = (h, tt)
      go false = tt

  -- so are the frames made, however the run came to its end
  abbrev GoodRan : Ran → Type 0
  GoodRan r = All Fine (frames_made r) × GoodState (last_state r)

  good-afterwards : (fs : List LocalFrame) (r : Ran) → All Fine fs → GoodRan r → GoodRan (afterwards fs r)
  good-afterwards fs (done hs s) h i = (each_append Fine fs hs h i.0, i.1)
  good-afterwards fs (stopped hs c j s) h i = (each_append Fine fs hs h i.0, i.1)
  good-afterwards fs (stuck hs j s) h i = (each_append Fine fs hs h i.0, i.1)

  good-onward : (o : Out State) (i : ℕ) (s : State) (k : State → Ran) → GoodState s → GoodOut GoodState o → ((t : State) → GoodState t → GoodRan (k t)) → GoodRan (onward o i s k)
  good-onward (goes fs t) i s k g h j = good-afterwards fs (k t) h.1 (j t h.0)
  good-onward (stops fs c) i s k g h j = (h, g)
  good-onward (sticks fs) i s k g h j = (h, g)

  good-steps : (xs : List Line) (i : ℕ) (s : State) → GoodState s → GoodRan (steps (numbered i xs) s)
  unfolding steps
  good-steps [] i s h = (tt, h)
  good-steps (x ∷ xs) i s h = good-onward (step i s x) i s _ h (good-step i s x h) (λ t j. good-steps xs (suc i) t j)

  good-readings : (ws : List Word) (rs : List Float) → Good (Number (num 0)) → All (λ r. Good (Number r)) rs → GoodKnown (readings ws rs)
  good-readings [] rs z h = tt
  good-readings (w ∷ ws) [] z h = (z, good-readings ws [] z tt)
  good-readings (w ∷ ws) (r ∷ rs) z h = (h.0, good-readings ws rs z h.1)

  -- every frame that the machine makes is fine, and every value shown good, stopped or stuck though it may be
  pub good-ran : (c : Sheet) (rs : List Float) → Good (Number (num 0)) → All (λ r. Good (Number r)) rs → All Fine (frames_made (machine c rs)) × All (λ a. Good (entry_value a)) (last_state (machine c rs)).entries
  unfolding machine
  good-ran c rs z h = let g = good-steps c.lines 2 (start c.head rs) (good-readings reading_words rs z h, tt) in (g.0, g.1.1)
