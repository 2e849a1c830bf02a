-- The check's walk passes exactly the lines that the rules admit, with their kind codes. Assumes nothing.
use mathlib.Core.Path.{◌≡◌, refl, sym, ap, ap₂, ◌∙◌, subst}
use mathlib.Core.Logic.{◌↔◌, inl, inr}
use mathlib.Core.List.{List, [], ◌∷◌}
use mathlib.Core.Option.{Option, none, some}
use mathlib.Core.Bool.{Bool, true, false, ◌&&◌}
use Prim.Native.Nat.{ℕ}
use lib.Dec.{T, eqb, eqb→eq}
use Rattle.frames.specs.declared.Orientation.{Orientation}
use Rattle.frames.specs.declared.Orientation.TheVariants.{Enu, Ned, Body, Wan}
use Rattle.sheets.specs.Text.{Word}
use Rattle.sheets.specs.Trees.{Expr, Exprs, word_expr, num_expr, form_expr, nil, ◌▸◌}
use Rattle.sheets.specs.Kinds.{Kind, number, angle, len, geocentric, geodetic, vector, frame, place, letter_of, orientation_of, same_orientation, same_kind, same_kinds}
use Rattle.sheets.specs.Table.{when, table}
use Rattle.sheets.specs.Lookup.{same_word, KindRow, kind_rows, search, find_kind}
use Rattle.sheets.specs.Names.{Known, lookup}
use Rattle.sheets.specs.Refusals.{Fault, name, kind, Checked, fine, bad, thenᶜ, known?}
use Rattle.sheets.specs.Check.{kind_of_expr, kinds_of_exprs}
use Rattle.sheets.specs.Admitted.{In, HasKind, HaveKinds}

-- ---- tests

true-T : (b : Bool) → b ≡ true → T b
true-T b e = subst T (sym e) tt

T-left : (a b : Bool) → T (a && b) → T a
T-left true b h = tt
T-left false b h = absurd h

T-right : (a b : Bool) → T (a && b) → T b
T-right true b h = h
T-right false b h = absurd h

pub same_word_lem : (s t : Word) → T (same_word s t) → s ≡ t
same_word_lem [] [] h = refl
same_word_lem [] (y ∷ t) h = absurd h
same_word_lem (x ∷ s) [] h = absurd h
same_word_lem (x ∷ s) (y ∷ t) h = ap₂ (λ p q. p ∷ q) (eqb→eq x y (T-left (eqb x y) (same_word s t) h)) (same_word_lem s t (T-right (eqb x y) (same_word s t) h))

-- an orientation by its place, and a kind by its letter and its orientation
abbrev orientation_at : ℕ → Orientation
orientation_at n = when (eqb n 0) Enu (when (eqb n 1) Ned (when (eqb n 2) Body Wan))

orientation-at : (o : Orientation) → orientation_at (place o) ≡ o
orientation-at Enu = refl
orientation-at Ned = refl
orientation-at Body = refl
orientation-at Wan = refl

abbrev kind_at : ℕ → Orientation → Kind
kind_at n o = when (eqb n 0) number (when (eqb n 1) angle (when (eqb n 2) len (when (eqb n 3) geocentric (when (eqb n 4) geodetic (when (eqb n 5) (vector o) (frame o))))))

kind-at : (k : Kind) → kind_at (letter_of k) (orientation_of k) ≡ k
kind-at number = refl
kind-at angle = refl
kind-at len = refl
kind-at geocentric = refl
kind-at geodetic = refl
kind-at (vector o) = refl
kind-at (frame o) = refl

pub same_kind_lem : (j k : Kind) → T (same_kind j k) → j ≡ k
same_kind_lem j k h =
    let a = eqb→eq (letter_of j) (letter_of k) (T-left (eqb (letter_of j) (letter_of k)) (same_orientation (orientation_of j) (orientation_of k)) h) in
    let b = eqb→eq (place (orientation_of j)) (place (orientation_of k)) (T-right (eqb (letter_of j) (letter_of k)) (same_orientation (orientation_of j) (orientation_of k)) h) in
    let c : orientation_of j ≡ orientation_of k = sym (orientation-at (orientation_of j)) ∙ ap orientation_at b ∙ orientation-at (orientation_of k) in
    sym (kind-at j) ∙ ap₂ kind_at a c ∙ kind-at k

pub same-kinds : (js ks : List Kind) → T (same_kinds js ks) → js ≡ ks
same-kinds [] [] h = refl
same-kinds [] (k ∷ ks) h = absurd h
same-kinds (j ∷ js) [] h = absurd h
same-kinds (j ∷ js) (k ∷ ks) h =
    ap₂ (λ x y. x ∷ y) (same_kind_lem j k (T-left (same_kind j k) (same_kinds js ks) h)) (same-kinds js ks (T-right (same_kind j k) (same_kinds js ks) h))

-- ---- rows

abbrev Found : List KindRow → Word → List Kind → Option Kind → Type 0
Found rs w js none = Unit {0}
Found rs w js (some k) = (r : KindRow) × In r rs × (w ≡ r.word) × (r.takes ≡ js) × (r.gives ≡ k)

found-later : (q : KindRow) (rs : List KindRow) (w : Word) (js : List Kind) (o : Option Kind) → Found rs w js o → Found (q ∷ rs) w js o
found-later q rs w js none h = tt
found-later q rs w js (some k) h = (h.0, inr h.1, h.2, h.3, h.4)

found : (rs : List KindRow) (w : Word) (js : List Kind) → Found rs w js (search rs w js)
unfolding search
found [] w js = tt
found (r ∷ rs) w js = go (same_word w r.word) (same_kinds r.takes js) refl refl (found-later r rs w js (search rs w js) (found rs w js))
  where
    go : (b c : Bool) → same_word w r.word ≡ b → same_kinds r.takes js ≡ c → Found (r ∷ rs) w js (search rs w js)
        → Found (r ∷ rs) w js (when (b && c) (some r.gives) (search rs w js))
    go true true e i h = (r, inl refl, same_word_lem w r.word (true-T (same_word w r.word) e), same-kinds r.takes js (true-T (same_kinds r.takes js) i), refl)
    go true false e i h = h
    go false c e i h = h

-- no two rows share a word and the kinds that they take: a test over the table
abbrev gives? : Option Kind → Kind → Bool
gives? none k = false
gives? (some j) k = same_kind j k

abbrev all_first : List KindRow → Bool
all_first [] = true
all_first (r ∷ rs) = gives? (find_kind table r.word r.takes) r.gives && all_first rs

all_first_lem : all_first (kind_rows table) ≡ true
unfolding table find_kind kind_rows search
all_first_lem = refl

gives-is : (o : Option Kind) (k : Kind) → T (gives? o k) → o ≡ some k
gives-is none k h = absurd h
gives-is (some j) k h = ap some (same_kind_lem j k h)

first-in : (rs : List KindRow) (r : KindRow) → T (all_first rs) → In r rs → find_kind table r.word r.takes ≡ some r.gives
first-in [] r h i = absurd i
first-in (q ∷ rs) r h (inl e) =
    subst (λ p. find_kind table p.word p.takes ≡ some p.gives) (sym e)
    (gives-is (find_kind table q.word q.takes) q.gives (T-left (gives? (find_kind table q.word q.takes) q.gives) (all_first rs) h))
first-in (q ∷ rs) r h (inr i) = first-in rs r (T-right (gives? (find_kind table q.word q.takes) q.gives) (all_first rs) h) i

-- ---- expressions

abbrev Walks : {A : Type 0} → (A → Type 0) → Checked A → Type 0
Walks P (fine x) = P x
Walks P (bad c) = Unit {0}

walks-then : {A B : Type 0} (P : A → Type 0) (Q : B → Type 0) (o : Checked A) (k : A → Checked B) → Walks P o → ((x : A) → P x → Walks Q (k x)) → Walks Q (thenᶜ o k)
walks-then P Q (fine x) k h i = i x h
walks-then P Q (bad c) k h i = tt

walks-known : (P : Kind → Type 0) (c : Fault) (o : Option Kind) → ((k : Kind) → o ≡ some k → P k) → Walks P (known? c o)
walks-known P c none h = tt
walks-known P c (some k) h = h k refl

mutual
  unfolding kind_of_expr find_kind

  walks : (x : Expr) (ks : Known Kind) → Walks (HasKind x ks) (kind_of_expr x ks)
  walks (word_expr w) ks = walks-known (HasKind (word_expr w) ks) name (lookup w ks) (λ k e. e)
  walks (num_expr q) ks = refl
  walks (form_expr w xs) ks =
      walks-then (HaveKinds xs ks) (HasKind (form_expr w xs) ks) (kinds_of_exprs xs ks) _ (walks-all xs ks) (λ js h.
      walks-known (HasKind (form_expr w xs) ks) kind (find_kind table w js) (λ k e.
      let i = subst (Found (kind_rows table) w js) e (found (kind_rows table) w js) in
      (i.0, i.1, i.2, subst (HaveKinds xs ks) (sym i.3) h, i.4)))

  walks-all : (xs : Exprs) (ks : Known Kind) → Walks (HaveKinds xs ks) (kinds_of_exprs xs ks)
  walks-all nil ks = refl
  walks-all (x ▸ xs) ks =
      walks-then (HasKind x ks) (HaveKinds (x ▸ xs) ks) (kind_of_expr x ks) _ (walks x ks) (λ j h.
      walks-then (HaveKinds xs ks) (HaveKinds (x ▸ xs) ks) (kinds_of_exprs xs ks) _ (walks-all xs ks) (λ js i. (j, js, h, i, refl)))

mutual
  unfolding kind_of_expr

  finds : (x : Expr) (ks : Known Kind) (k : Kind) → HasKind x ks k → kind_of_expr x ks ≡ fine k
  finds (word_expr w) ks k h = ap (known? name) h
  finds (num_expr q) ks k h = ap fine h
  finds (form_expr w xs) ks k h =
      ap (λ o. thenᶜ o (λ js. known? kind (find_kind table w js))) (finds-all xs ks h.0.takes h.3)
      ∙ ap (known? kind) (subst (λ u. find_kind table u h.0.takes ≡ some h.0.gives) (sym h.2) (first-in (kind_rows table) h.0 (true-T (all_first (kind_rows table)) all_first_lem) h.1))
      ∙ ap fine h.4

  finds-all : (xs : Exprs) (ks : Known Kind) (js : List Kind) → HaveKinds xs ks js → kinds_of_exprs xs ks ≡ fine js
  finds-all nil ks js h = ap fine h
  finds-all (x ▸ xs) ks js h =
      ap (λ o. thenᶜ o (λ j. thenᶜ (kinds_of_exprs xs ks) (λ is. fine (j ∷ is)))) (finds x ks h.0 h.2)
      ∙ ap (λ o. thenᶜ o (λ is. fine (h.0 ∷ is))) (finds-all xs ks h.1 h.3)
      ∙ ap fine h.4

-- the walk gives an expression a kind exactly where the rules do
pub kind-exact : (x : Expr) (ks : Known Kind) (k : Kind) → (kind_of_expr x ks ≡ fine k) ↔ HasKind x ks k
kind-exact x ks k = ((λ e. subst (Walks (HasKind x ks)) e (walks x ks)), finds x ks k)
