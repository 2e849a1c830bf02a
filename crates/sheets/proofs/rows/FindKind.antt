-- The row that the values find gives the kind that their kinds find: the machine and the check look into one table. Assumes nothing.
use mathlib.Core.Path.{◌≡◌, refl, sym, ap, ◌∙◌}
use mathlib.Core.Bool.{Bool, true, false, ◌&&◌, true≢false, false≢true}
use mathlib.Core.List.{List, [], ◌∷◌, map}
use mathlib.Core.Option.{Option, none, some}
use Rattle.numbers.proofs.ArcLaws.{and-false}
use Rattle.frames.specs.declared.Orientation.{Orientation}
use Rattle.frames.specs.declared.Orientation.TheVariants.{Enu, Ned, Body, Wan}
use Rattle.sheets.proofs.ByCases.{by_cases}
use Rattle.sheets.specs.declared.Value.{Value}
use Rattle.sheets.specs.Text.{Word}
use Rattle.sheets.specs.Kinds.{Kind, kind_of, same_orientation, same_kinds}
use Rattle.sheets.specs.Letters.{Letter, 𝐧, 𝐚, 𝐥, 𝐠, 𝐝, 𝐯, 𝐟, ⟦◌⟧, kind_in, Holds, held, hold, both, orientations}
use Rattle.sheets.specs.Table.{Row, when}
use Rattle.sheets.specs.Lookup.{same_word, alike, shared, Hit, hit, find, KindRow, kind_row, oriented, only, spread, kind_rows, search, find_kind}

-- the orientation that a row's arguments share
abbrev pub lead : List Orientation → Orientation
lead [] = Enu
lead (o ∷ os) = o

abbrev pub given : Hit → Kind
given h = h.row.gives (lead (orientations h.row.takes h.args))

abbrev pub mapped : {X Y : Type 0} → (X → Y) → Option X → Option Y
mapped f none = none
mapped f (some x) = some (f x)

-- ---- the kinds of values of these letters, in an orientation

abbrev on_hold : (ss : List Letter) → Option (Holds ss) → Orientation → Bool
on_hold ss none o = false
on_hold ss (some xs) o = alike o (orientations ss xs)

-- one value more: of a letter without an orientation, and of v or f
plain : (s : Letter) (x : ⟦ s ⟧) (ss : List Letter) (h : Option (Holds ss)) (o : Orientation) → ((xs : Holds ss) → orientations ss xs ≡ orientations (s ∷ ss) (x, xs)) → on_hold ss h o ≡ on_hold (s ∷ ss) (both (some x) h) o
plain s x ss none o e = refl
plain s x ss (some xs) o e = ap (alike o) (e xs)

turned : (s : Letter) (x : ⟦ s ⟧) (q : Orientation) (ss : List Letter) (h : Option (Holds ss)) (o : Orientation) → ((xs : Holds ss) → q ∷ orientations ss xs ≡ orientations (s ∷ ss) (x, xs))
    → (same_orientation o q && on_hold ss h o) ≡ on_hold (s ∷ ss) (both (some x) h) o
turned s x q ss none o e = and-false (same_orientation o q)
turned s x q ss (some xs) o e = ap (alike o) (e xs)

abbrev KindHolds : (s : Letter) → List Letter → List Value → Orientation → Value → Type 0
KindHolds s ss vs o x = same_kinds (map (kind_in o) ss) (map kind_of vs) ≡ on_hold ss (hold ss vs) o → same_kinds (kind_in o s ∷ map (kind_in o) ss) (kind_of x ∷ map kind_of vs) ≡ on_hold (s ∷ ss) (both (held s x) (hold ss vs)) o

kind-holds : (s : Letter) (ss : List Letter) (vs : List Value) (o : Orientation) (x : Value) → KindHolds s ss vs o x
unfolding held
kind-holds 𝐧 ss vs o = by_cases (KindHolds 𝐧 ss vs o) (λ x h. h ∙ plain 𝐧 x ss (hold ss vs) o (λ xs. refl)) (λ x h. refl) (λ x h. refl) (λ x h. refl) (λ x h. refl) (λ x h. refl) (λ x h. refl)
kind-holds 𝐚 ss vs o = by_cases (KindHolds 𝐚 ss vs o) (λ x h. refl) (λ x h. h ∙ plain 𝐚 x ss (hold ss vs) o (λ xs. refl)) (λ x h. refl) (λ x h. refl) (λ x h. refl) (λ x h. refl) (λ x h. refl)
kind-holds 𝐥 ss vs o = by_cases (KindHolds 𝐥 ss vs o) (λ x h. refl) (λ x h. refl) (λ x h. h ∙ plain 𝐥 x ss (hold ss vs) o (λ xs. refl)) (λ x h. refl) (λ x h. refl) (λ x h. refl) (λ x h. refl)
kind-holds 𝐠 ss vs o = by_cases (KindHolds 𝐠 ss vs o) (λ x h. refl) (λ x h. refl) (λ x h. refl) (λ x h. h ∙ plain 𝐠 x ss (hold ss vs) o (λ xs. refl)) (λ x h. refl) (λ x h. refl) (λ x h. refl)
kind-holds 𝐝 ss vs o = by_cases (KindHolds 𝐝 ss vs o) (λ x h. refl) (λ x h. refl) (λ x h. refl) (λ x h. refl) (λ x h. h ∙ plain 𝐝 x ss (hold ss vs) o (λ xs. refl)) (λ x h. refl) (λ x h. refl)
kind-holds 𝐯 ss vs o = by_cases (KindHolds 𝐯 ss vs o) (λ x h. refl) (λ x h. refl) (λ x h. refl) (λ x h. refl) (λ x h. refl) (λ x h. ap (λ b. same_orientation o x.orientation && b) h ∙ turned 𝐯 x x.orientation ss (hold ss vs) o (λ xs. refl)) (λ x h. refl)
kind-holds 𝐟 ss vs o = by_cases (KindHolds 𝐟 ss vs o) (λ x h. refl) (λ x h. refl) (λ x h. refl) (λ x h. refl) (λ x h. refl) (λ x h. refl) (λ x h. ap (λ b. same_orientation o x.orientation && b) h ∙ turned 𝐟 x x.orientation ss (hold ss vs) o (λ xs. refl))

kinds-hold : (ss : List Letter) (vs : List Value) (o : Orientation) → same_kinds (map (kind_in o) ss) (map kind_of vs) ≡ on_hold ss (hold ss vs) o
unfolding hold
kinds-hold [] [] o = refl
kinds-hold [] (x ∷ vs) o = refl
kinds-hold (s ∷ ss) [] o = refl
kinds-hold (s ∷ ss) (x ∷ vs) o = kind-holds s ss vs o x (kinds-hold ss vs o)

no-orientations : (ss : List Letter) → oriented ss ≡ false → (xs : Holds ss) → orientations ss xs ≡ []
no-orientations [] e xs = refl
no-orientations (𝐧 ∷ ss) e xs = no-orientations ss e xs.1
no-orientations (𝐚 ∷ ss) e xs = no-orientations ss e xs.1
no-orientations (𝐥 ∷ ss) e xs = no-orientations ss e xs.1
no-orientations (𝐠 ∷ ss) e xs = no-orientations ss e xs.1
no-orientations (𝐝 ∷ ss) e xs = no-orientations ss e xs.1
no-orientations (𝐯 ∷ ss) e xs = absurd (true≢false e)
no-orientations (𝐟 ∷ ss) e xs = absurd (true≢false e)

some-orientations : (ss : List Letter) → oriented ss ≡ true → (xs : Holds ss) → (o : Orientation) × (os : List Orientation) × (orientations ss xs ≡ o ∷ os)
some-orientations [] e xs = absurd (false≢true e)
some-orientations (𝐧 ∷ ss) e xs = some-orientations ss e xs.1
some-orientations (𝐚 ∷ ss) e xs = some-orientations ss e xs.1
some-orientations (𝐥 ∷ ss) e xs = some-orientations ss e xs.1
some-orientations (𝐠 ∷ ss) e xs = some-orientations ss e xs.1
some-orientations (𝐝 ∷ ss) e xs = some-orientations ss e xs.1
some-orientations (𝐯 ∷ ss) e xs = (xs.0.orientation, orientations ss xs.1, refl)
some-orientations (𝐟 ∷ ss) e xs = (xs.0.orientation, orientations ss xs.1, refl)

-- ---- a row

only-search : (t : Bool) (p : KindRow) (ps : List KindRow) (w : Word) (ks : List Kind)
    → search (only t p ps) w ks ≡ when (same_word w p.word && (same_kinds p.takes ks && t)) (some p.gives) (search ps w ks)
unfolding search
only-search true p ps w ks = go (same_word w p.word) (same_kinds p.takes ks)
  where
    go : (a b : Bool) → when (a && b) (some p.gives) (search ps w ks) ≡ when (a && (b && true)) (some p.gives) (search ps w ks)
    go true true = refl
    go true false = refl
    go false b = refl
only-search false p ps w ks = go (same_word w p.word) (same_kinds p.takes ks)
  where
    go : (a b : Bool) → search ps w ks ≡ when (a && (b && false)) (some p.gives) (search ps w ks)
    go true true = refl
    go true false = refl
    go false b = refl

-- a row's search, by whether the word is its own and the values are as it takes them, in each orientation
abbrev four : Row → Bool → (Orientation → Bool) → Option Kind → Option Kind
four r a s o =
    when (a && (s Enu && r.over Enu)) (some (r.gives Enu))
    (when (a && (s Ned && r.over Ned)) (some (r.gives Ned))
    (when (a && (s Body && r.over Body)) (some (r.gives Body))
    (when (a && (s Wan && r.over Wan)) (some (r.gives Wan)) o)))

four_is : (r : Row) (a : Bool) (h : Option (Holds r.takes)) → oriented r.takes ≡ true → (o : Option Hit)
    → mapped given (hit r a h o) ≡ four r a (λ q. on_hold r.takes h q) (mapped given o)
four_is r false h e o = refl
four_is r true none e o = refl
four_is r true (some xs) e o = let (q, qs, t) = some-orientations r.takes e xs in go q qs t
  where
    R : List Orientation → Option Kind
    R ts = four r true (λ q. alike q ts) (mapped given o)

    L : List Orientation → Option Kind
    L ts = mapped given (when (shared r.over ts) (some (record { row = r; args = xs })) o)

    turn : (b : Bool) (p : Orientation) → lead (orientations r.takes xs) ≡ p → mapped given (when b (some (record { row = r; args = xs })) o) ≡ when b (some (r.gives p)) (mapped given o)
    turn true p e = ap (λ z. some (r.gives z)) e
    turn false p e = refl

    go : (q : Orientation) (qs : List Orientation) → orientations r.takes xs ≡ q ∷ qs → L (orientations r.takes xs) ≡ R (orientations r.takes xs)
    go Enu qs t = rw t (turn (alike Enu qs && r.over Enu) Enu (ap lead t))
    go Ned qs t = rw t (turn (alike Ned qs && r.over Ned) Ned (ap lead t))
    go Body qs t = rw t (turn (alike Body qs && r.over Body) Body (ap lead t))
    go Wan qs t = rw t (turn (alike Wan qs && r.over Wan) Wan (ap lead t))

one-is : (r : Row) (a : Bool) (h : Option (Holds r.takes)) → oriented r.takes ≡ false → (o : Option Hit)
    → mapped given (hit r a h o) ≡ when (a && on_hold r.takes h Enu) (some (r.gives Enu)) (mapped given o)
one-is r false h e o = refl
one-is r true none e o = refl
one-is r true (some xs) e o = go (orientations r.takes xs) (no-orientations r.takes e xs)
  where
    go : (ts : List Orientation) → ts ≡ []
        → mapped given (when (shared r.over ts) (some (record { row = r; args = xs })) o) ≡ when (alike Enu ts) (some (r.gives Enu)) (mapped given o)
    go ts t = rw t (ap (λ z. some (r.gives (lead z))) (no-orientations r.takes e xs))

four-search : (r : Row) (ps : List KindRow) (w : Word) (ks : List Kind)
    → search (spread true r ps) w ks ≡ four r (same_word w r.word) (λ q. same_kinds (map (kind_in q) r.takes) ks) (search ps w ks)
four-search r ps w ks =
    let p4 = only (r.over Wan) (kind_row r Wan) ps in
    let p3 = only (r.over Body) (kind_row r Body) p4 in
    let p2 = only (r.over Ned) (kind_row r Ned) p3 in
    only-search (r.over Enu) (kind_row r Enu) p2 w ks
    ∙ ap (λ o. past Enu o) (only-search (r.over Ned) (kind_row r Ned) p3 w ks
    ∙ ap (λ o. past Ned o) (only-search (r.over Body) (kind_row r Body) p4 w ks
    ∙ ap (λ o. past Body o) (only-search (r.over Wan) (kind_row r Wan) ps w ks)))
  where
    past : Orientation → Option Kind → Option Kind
    past q o = when (same_word w r.word && (same_kinds (map (kind_in q) r.takes) ks && r.over q)) (some (r.gives q)) o

pub find-kind : (rs : List Row) (w : Word) (vs : List Value) → mapped given (find rs w vs) ≡ find_kind rs w (map kind_of vs)
unfolding find find_kind kind_rows search
find-kind [] w vs = refl
find-kind (r ∷ rs) w vs = go (oriented r.takes) refl (find-kind rs w vs)
  where
    go : (b : Bool) → oriented r.takes ≡ b → mapped given (find rs w vs) ≡ search (kind_rows rs) w (map kind_of vs)
        → mapped given (hit r (same_word w r.word) (hold r.takes vs) (find rs w vs)) ≡ search (spread b r (kind_rows rs)) w (map kind_of vs)
    go true e ih =
        four_is r (same_word w r.word) (hold r.takes vs) e (find rs w vs)
        ∙ rw (sym (kinds-hold r.takes vs Enu), sym (kinds-hold r.takes vs Ned), sym (kinds-hold r.takes vs Body), sym (kinds-hold r.takes vs Wan), ih) refl
        ∙ sym (four-search r (kind_rows rs) w (map kind_of vs))
    go false e ih =
        one-is r (same_word w r.word) (hold r.takes vs) e (find rs w vs)
        ∙ rw (sym (kinds-hold r.takes vs Enu), ih) refl
