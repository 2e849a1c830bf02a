-- Document 01's machine: it takes lines in order and arguments left to right, inner first, with no kinds worked out beforehand.
use Rattle.std.specs.Prelude.{List, [], ◌∷◌, ◌++◌, Bool, true, false, ℕ, Float}
use Rattle.std.proofs.Math.Option.{Option, none, some}
use Rattle.numbers.specs.Ops.{num}
use Rattle.numbers.specs.Lengths.{metres}
use Rattle.frames.specs.Ellipsoids.{wgs84 as surface_wgs84, ellipsoid as surface_of}
use Rattle.frames.specs.declared.Ellipsoid.{Ellipsoid}
use Rattle.frames.specs.declared.LocalFrame.{LocalFrame}
use Rattle.sheets.specs.declared.Value.{Value}
use Rattle.sheets.specs.declared.Value.TheVariants.{Number, Radians, Metres, Geocentric, Geodetic, Vector, Frame}
use Rattle.sheets.specs.Text.{Word}
use Rattle.sheets.specs.Trees.{signless, Expr, Exprs, word_expr, num_expr, form_expr, nil, ◌▸◌, Line, let_line, show_line, total_line, apart_line, Head, wgs84, custom, Sheet, Numbered, numbered}
use Rattle.sheets.specs.Table.{on, table}
use Rattle.sheets.specs.Lookup.{Hit, find}
use Rattle.sheets.specs.Names.{Known, given_on, lookup, line_of_let, reading_words}
use Rattle.sheets.specs.Scopes.{Scope, opened, give}
use Rattle.sheets.specs.Limits.{num_value, in_limit}
use Rattle.sheets.specs.Entries.{Entry, shown, summed, total}
use Rattle.sheets.specs.Aparts.{fixes, stand_apart}
use Rattle.sheets.specs.Refusals.{Stop, limit, centre, apart, Checked, fine, bad}

-- what a step comes to, with the frames that it made: it goes on with a result, refusal 7, 8 or 9 stops it, or it sticks
pub data Out (A : Type 0) : Type 0 where
  goes : List LocalFrame → A → Out A
  stops : List LocalFrame → Stop → Out A
  sticks : List LocalFrame → Out A

abbrev pub after : {A : Type 0} → List LocalFrame → Out A → Out A
after fs (goes hs x) = goes (fs ++ hs) x
after fs (stops hs r) = stops (fs ++ hs) r
after fs (sticks hs) = sticks (fs ++ hs)

abbrev pub then : {A B : Type 0} → Out A → (A → Out B) → Out B
then (goes fs x) k = after fs (k x)
then (stops fs r) k = stops fs r
then (sticks fs) k = sticks fs

-- it sticks where the check meets a fault
abbrev pub or_sticks : {A : Type 0} → Checked A → Out A
or_sticks (fine x) = goes [] x
or_sticks (bad f) = sticks []

-- ---- expressions

abbrev pub test : List LocalFrame → Bool → Value → Out Value
test fs true x = goes fs x
test fs false x = stops fs limit

-- a NUM's or a word's value is tested where it is met, a total's sum and an apart's NUM on their lines
abbrev pub met : Value → Out Value
met x = test [] (in_limit x) x

abbrev pub meet : Option Value → Out Value
meet none = sticks []
meet (some x) = met x

-- the frame that a row makes, even if the test then refuses it
abbrev pub made : Value → List LocalFrame
made (Number x) = []
made (Radians x) = []
made (Metres x) = []
made (Geocentric x) = []
made (Geodetic x) = []
made (Vector x) = []
made (Frame f) = f ∷ []

abbrev pub result : Value → Out Value
result x = test (made x) (in_limit x) x

abbrev pub provided : Bool → (Unit {0} → Out Value) → Out Value
provided true k = k tt
provided false k = stops [] centre

-- the row that fits: refusal 8, then the row by its definition, then refusal 7
abbrev pub apply_row : Ellipsoid → Option Hit → Out Value
apply_row e none = sticks []
apply_row e (some h) =
    let r = h.row in
    provided (on r.takes (r.centred e) h.args) (λ u. result (on r.takes (r.apply e) h.args))

unfoldable mutual
  pub eval : Expr → Ellipsoid → Known Value → Out Value
  eval (word_expr w) e ps = meet (lookup w ps)
  eval (num_expr q) e ps = met (Number (num_value q))
  eval (form_expr w xs) e ps = then (evals xs e ps) (λ vs. apply_row e (find table w vs))

  pub evals : Exprs → Ellipsoid → Known Value → Out (List Value)
  evals nil e ps = goes [] []
  evals (x ▸ xs) e ps = then (eval x e ps) (λ y. then (evals xs e ps) (λ ys. goes [] (y ∷ ys)))

-- ---- lines

-- the ellipsoid, what the lines done leave to those after them, and what the output lines show
pub record State : Type 0 where
  pub ellipsoid : Ellipsoid
  pub scope : Scope Value
  pub entries : List Entry

-- it goes on in the scope that it comes to
abbrev pub rescoped : State → Checked (Scope Value) → Out State
rescoped s c = then (or_sticks c) (λ d. goes [] (record { ellipsoid = s.ellipsoid; scope = d; entries = s.entries }))

-- one output line more
abbrev pub write : State → Entry → State
write s e = record { ellipsoid = s.ellipsoid; scope = s.scope; entries = s.entries ++ (e ∷ []) }

-- refusal 9, where the names shown do not stand apart
abbrev pub held_apart : Bool → State → Out State
held_apart true s = goes [] s
held_apart false s = stops [] apart

-- line i: a let's expression is read before its name is given; a total is the sum of what was shown before it, and an apart holds what was shown before it
unfoldable pub step : ℕ → State → Line → Out State
step i s (let_line w x) = then (eval x s.ellipsoid s.scope.known) (λ y. rescoped s (give (given_on i w y) s.scope))
step i s (show_line w) = then (meet (lookup w s.scope.known)) (λ y. goes [] (write s (shown i (given_on (line_of_let w s.scope.known) w y))))
step i s total_line = let t = total s.entries in then (met (Metres t)) (λ y. goes [] (write s (summed t)))
step i s (apart_line q) = let least = num_value (signless q) in then (met (Number least)) (λ y. held_apart (stand_apart least (fixes s.entries)) s)

-- ---- a sheet

-- how a run ends: the frames made, and the state after the last line, or before the line that ended it
pub data Ran : Type 0 where
  done : List LocalFrame → State → Ran
  stopped : List LocalFrame → Stop → ℕ → State → Ran
  stuck : List LocalFrame → ℕ → State → Ran

-- the state in which it ended
abbrev pub last_state : Ran → State
last_state (done fs s) = s
last_state (stopped fs r i s) = s
last_state (stuck fs i s) = s

abbrev pub afterwards : List LocalFrame → Ran → Ran
afterwards fs (done hs s) = done (fs ++ hs) s
afterwards fs (stopped hs r i s) = stopped (fs ++ hs) r i s
afterwards fs (stuck hs i s) = stuck (fs ++ hs) i s

abbrev pub onward : Out State → ℕ → State → (State → Ran) → Ran
onward (goes fs t) i s k = afterwards fs (k t)
onward (stops fs r) i s k = stopped fs r i s
onward (sticks fs) i s k = stuck fs i s

unfoldable pub steps : List Numbered → State → Ran
steps [] s = done [] s
steps (l ∷ ls) s = onward (step l.0 s l.1) l.0 s (λ t. steps ls t)

-- line 1
unfoldable pub surface : Head → Ellipsoid
surface wgs84 = surface_wgs84
surface (custom q r) = surface_of (metres (num_value q)) (num_value r)

-- r0 to r15 hold the readings (one that is lacking counts as 0: a run has all sixteen)
abbrev pub readings : List Word → List Float → Known Value
readings [] rs = []
readings (w ∷ ws) [] = given_on 0 w (Number (num 0)) ∷ readings ws []
readings (w ∷ ws) (r ∷ rs) = given_on 0 w (Number r) ∷ readings ws rs

abbrev pub start : Head → List Float → State
start h rs = record { ellipsoid = surface h; scope = opened (readings reading_words rs); entries = [] }

unfoldable pub machine : Sheet → List Float → Ran
machine c rs = steps (numbered 2 c.lines) (start c.head rs)
