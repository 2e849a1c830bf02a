-- What the code knows where a pattern fits or does not: whether a value is of a letter. Assumes nothing.
use Rattle.std.specs.Prelude.{Result, Ok, Err, IsErrAnd, ⊤}
use mathlib.Core.Path.{◌≡◌, refl, sym, ap, ◌∙◌}
use mathlib.Core.Logic.{◌⊎◌, inl, inr}
use mathlib.Core.Bool.{Bool, true, false, not}
use mathlib.Core.List.{List, [], ◌∷◌}
use mathlib.Core.Option.{Option, none, some}
use Prim.Native.Nat.{suc}
use lib.ListN.{length}
use lib.Ieee.{Float}
use Rattle.numbers.specs.declared.Angle.{Angle}
use Rattle.numbers.specs.declared.Length.{Length}
use Rattle.frames.specs.declared.Ellipsoid.{Ellipsoid}
use Rattle.frames.specs.declared.GeocentricPosition.{GeocentricPosition}
use Rattle.frames.specs.declared.GeodeticPosition.{GeodeticPosition}
use Rattle.frames.specs.declared.LocalVector.{LocalVector}
use Rattle.frames.specs.declared.LocalFrame.{LocalFrame}
use denote.Enum.Bare.{sameb}
use Rattle.frames.specs.contracts.Orientation as orientation_type
use Rattle.frames.specs.declared.Orientation.{Orientation}
use Rattle.frames.specs.declared.Orientation.TheVariants.{Enu, Ned, Body, Wan}
use Rattle.sheets.proofs.ByCases.{by_cases}
use Rattle.sheets.specs.declared.Value.{Value}
use Rattle.sheets.specs.declared.Value.TheVariants.{Number, Radians, Metres, Geocentric, Geodetic, Vector, Frame}
use Rattle.sheets.specs.declared.Unapplied.{Unapplied}
use Rattle.sheets.specs.declared.Unapplied.TheVariants.{NoRow, Centre}
use Rattle.sheets.specs.Kinds.{same_orientation}
use Rattle.sheets.specs.Table.{far, not_body, enu_or_ned}
use Rattle.sheets.specs.Letters.{Letter, 𝐧, 𝐚, 𝐥, 𝐠, 𝐝, 𝐯, 𝐟, ⟦◌⟧, held, hold, both}
use Rattle.sheets.specs.code.rows.Applied.{or_no_row, argument, unless_near, far_enough}

both-none : {X Y : Type 0} (o : Option X) → both {X = X} {Y = Y} o none ≡ none
both-none none = refl
both-none (some x) = refl

-- so many arguments are not what the row takes
pub wrong-length : (ss : List Letter) (vs : List Value) → (length vs ≡ length ss → ⊥) → hold ss vs ≡ none
unfolding hold
wrong-length [] [] t = absurd (t refl)
wrong-length [] (x ∷ xs) t = refl
wrong-length (s ∷ ss) [] t = refl
wrong-length (s ∷ ss) (x ∷ xs) t = ap (both (held s x)) (wrong-length ss xs (λ e. t (ap suc e))) ∙ both-none (held s x)

-- ---- an argument taken

-- what was made of it
abbrev back : {X : Type 0} → Result X Unapplied → Option X
back (Ok x) = some x
back (Err u) = none

back-is : {X : Type 0} (o : Option X) → back (or_no_row o) ≡ o
back-is none = refl
back-is (some x) = refl

abbrev why : {X : Type 0} → Result X Unapplied → Unapplied
why (Ok x) = NoRow
why (Err u) = u

why-is : {X : Type 0} (o : Option X) → why (or_no_row o) ≡ NoRow
why-is none = refl
why-is (some x) = refl

-- a value of the letter
pub taken : (s : Letter) (v : Value) {x : ⟦ s ⟧} → Ok x ≡ argument s v → held s v ≡ some x
taken s v e = sym (back-is (held s v)) ∙ ap back (sym e)

-- what a `?` hands on
handed : {X : Type 0} (r : Result X Unapplied) (u : Unapplied) → IsErrAnd r (λ f. f ≡ u) → r ≡ Err u
handed (Ok x) u h = absurd h
handed (Err f) u h = ap Err h

-- a value of another letter
pub refused : (s : Letter) (v : Value) {u : Unapplied} {X : Type 0} {r : Result X Unapplied} → Err u ≡ argument s v → IsErrAnd r (λ f. f ≡ u) → (r ≡ Err NoRow) × (held s v ≡ none)
refused s v {u} {X} {r} e h = (handed r u h ∙ ap Err (ap why e ∙ why-is (held s v)), sym (back-is (held s v)) ∙ ap back (sym e))

-- ---- the test of refusal 8

abbrev tested : Result ⊤ Unapplied → Bool
tested (Ok x) = true
tested (Err u) = false

tested-is : (b : Bool) → tested (unless_near b tt) ≡ b
tested-is true = refl
tested-is false = refl

near-why : (b : Bool) {u : Unapplied} → ◌≡◌ {A = Result ⊤ Unapplied} (Err u) (unless_near b tt) → b ≡ false → u ≡ Centre
near-why true e p = cc
near-why false e p = ap why e

pub far-is : (e : Ellipsoid) (g : GeocentricPosition) {x : ⊤} → Ok x ≡ far_enough e g → far e g ≡ true
far-is e g p = sym (tested-is (far e g)) ∙ ap tested (sym p)

pub near-is : (e : Ellipsoid) (g : GeocentricPosition) {u : Unapplied} {X : Type 0} {r : Result X Unapplied} → Err u ≡ far_enough e g → IsErrAnd r (λ f. f ≡ u) → (r ≡ Err Centre) × (far e g ≡ false)
near-is e g {u} {X} {r} p h =
    let n : far e g ≡ false = sym (tested-is (far e g)) ∙ ap tested (sym p) in
    (handed r u h ∙ ap Err (near-why (far e g) p n), n)

-- ---- a value, matched

pub not-𝐧 : (v : Value) → ((x : Float) → v ≡ Number x → ⊥) → held 𝐧 v ≡ none
unfolding held
not-𝐧 = by_cases (λ v. ((x : Float) → v ≡ Number x → ⊥) → held 𝐧 v ≡ none) (λ x h. absurd (h x refl)) (λ x h. refl) (λ x h. refl) (λ x h. refl) (λ x h. refl) (λ x h. refl) (λ x h. refl)

pub is-𝐧 : {v : Value} {x : Float} → v ≡ Number x → held 𝐧 v ≡ some x
unfolding held
is-𝐧 e = ap (held 𝐧) e

pub not-𝐚 : (v : Value) → ((x : Angle) → v ≡ Radians x → ⊥) → held 𝐚 v ≡ none
unfolding held
not-𝐚 = by_cases (λ v. ((x : Angle) → v ≡ Radians x → ⊥) → held 𝐚 v ≡ none) (λ x h. refl) (λ x h. absurd (h x refl)) (λ x h. refl) (λ x h. refl) (λ x h. refl) (λ x h. refl) (λ x h. refl)

pub is-𝐚 : {v : Value} {x : Angle} → v ≡ Radians x → held 𝐚 v ≡ some x
unfolding held
is-𝐚 e = ap (held 𝐚) e

pub not-𝐥 : (v : Value) → ((x : Length) → v ≡ Metres x → ⊥) → held 𝐥 v ≡ none
unfolding held
not-𝐥 = by_cases (λ v. ((x : Length) → v ≡ Metres x → ⊥) → held 𝐥 v ≡ none) (λ x h. refl) (λ x h. refl) (λ x h. absurd (h x refl)) (λ x h. refl) (λ x h. refl) (λ x h. refl) (λ x h. refl)

pub is-𝐥 : {v : Value} {x : Length} → v ≡ Metres x → held 𝐥 v ≡ some x
unfolding held
is-𝐥 e = ap (held 𝐥) e

pub not-𝐠 : (v : Value) → ((x : GeocentricPosition) → v ≡ Geocentric x → ⊥) → held 𝐠 v ≡ none
unfolding held
not-𝐠 = by_cases (λ v. ((x : GeocentricPosition) → v ≡ Geocentric x → ⊥) → held 𝐠 v ≡ none) (λ x h. refl) (λ x h. refl) (λ x h. refl) (λ x h. absurd (h x refl)) (λ x h. refl) (λ x h. refl) (λ x h. refl)

pub is-𝐠 : {v : Value} {x : GeocentricPosition} → v ≡ Geocentric x → held 𝐠 v ≡ some x
unfolding held
is-𝐠 e = ap (held 𝐠) e

pub not-𝐝 : (v : Value) → ((x : GeodeticPosition) → v ≡ Geodetic x → ⊥) → held 𝐝 v ≡ none
unfolding held
not-𝐝 = by_cases (λ v. ((x : GeodeticPosition) → v ≡ Geodetic x → ⊥) → held 𝐝 v ≡ none) (λ x h. refl) (λ x h. refl) (λ x h. refl) (λ x h. refl) (λ x h. absurd (h x refl)) (λ x h. refl) (λ x h. refl)

pub is-𝐝 : {v : Value} {x : GeodeticPosition} → v ≡ Geodetic x → held 𝐝 v ≡ some x
unfolding held
is-𝐝 e = ap (held 𝐝) e

pub not-𝐯 : (v : Value) → ((x : LocalVector) → v ≡ Vector x → ⊥) → held 𝐯 v ≡ none
unfolding held
not-𝐯 = by_cases (λ v. ((x : LocalVector) → v ≡ Vector x → ⊥) → held 𝐯 v ≡ none) (λ x h. refl) (λ x h. refl) (λ x h. refl) (λ x h. refl) (λ x h. refl) (λ x h. absurd (h x refl)) (λ x h. refl)

pub is-𝐯 : {v : Value} {x : LocalVector} → v ≡ Vector x → held 𝐯 v ≡ some x
unfolding held
is-𝐯 e = ap (held 𝐯) e

pub not-𝐟 : (v : Value) → ((x : LocalFrame) → v ≡ Frame x → ⊥) → held 𝐟 v ≡ none
unfolding held
not-𝐟 = by_cases (λ v. ((x : LocalFrame) → v ≡ Frame x → ⊥) → held 𝐟 v ≡ none) (λ x h. refl) (λ x h. refl) (λ x h. refl) (λ x h. refl) (λ x h. refl) (λ x h. refl) (λ x h. absurd (h x refl))

pub is-𝐟 : {v : Value} {x : LocalFrame} → v ≡ Frame x → held 𝐟 v ≡ some x
unfolding held
is-𝐟 e = ap (held 𝐟) e

-- a geocentric position is not a geodetic one, nor the other way
pub 𝐠-not-𝐝 : {v : Value} {x : GeocentricPosition} → v ≡ Geocentric x → held 𝐝 v ≡ none
unfolding held
𝐠-not-𝐝 e = ap (held 𝐝) e

pub 𝐝-not-𝐠 : {v : Value} {x : GeodeticPosition} → v ≡ Geodetic x → held 𝐠 v ≡ none
unfolding held
𝐝-not-𝐠 e = ap (held 𝐠) e

-- ---- orientations compared

flip : (b : Bool) → true ≡ not b → b ≡ false
flip true e = e
flip false e = refl

unflip : (b : Bool) → false ≡ not b → b ≡ true
unflip true e = refl
unflip false e = e

same-is : (o p : Orientation) → sameb orientation_type.the_type o p ≡ same_orientation o p
same-is Enu Enu = refl
same-is Enu Ned = refl
same-is Enu Body = refl
same-is Enu Wan = refl
same-is Ned Enu = refl
same-is Ned Ned = refl
same-is Ned Body = refl
same-is Ned Wan = refl
same-is Body Enu = refl
same-is Body Ned = refl
same-is Body Body = refl
same-is Body Wan = refl
same-is Wan Enu = refl
same-is Wan Ned = refl
same-is Wan Body = refl
same-is Wan Wan = refl

pub same : (o p : Orientation) → false ≡ not (sameb orientation_type.the_type o p) → same_orientation o p ≡ true
same o p e = sym (same-is o p) ∙ unflip _ e

pub differs : (o p : Orientation) → true ≡ not (sameb orientation_type.the_type o p) → same_orientation o p ≡ false
differs o p e = sym (same-is o p) ∙ flip _ e

pub is-body : (o : Orientation) → true ≡ sameb orientation_type.the_type o Body → not_body o ≡ false
is-body Enu e = e
is-body Ned e = e
is-body Body e = refl
is-body Wan e = e

pub other-body : (o : Orientation) → false ≡ sameb orientation_type.the_type o Body → not_body o ≡ true
other-body Enu e = refl
other-body Ned e = refl
other-body Body e = e
other-body Wan e = refl

pub enu-or-ned : (o : Orientation) → (o ≡ Enu) ⊎ (o ≡ Ned) → enu_or_ned o ≡ true
enu-or-ned o (inl e) = ap enu_or_ned e
enu-or-ned o (inr e) = ap enu_or_ned e

pub body-or-wan : (o : Orientation) → (o ≡ Body) ⊎ (o ≡ Wan) → enu_or_ned o ≡ false
body-or-wan o (inl e) = ap enu_or_ned e
body-or-wan o (inr e) = ap enu_or_ned e
