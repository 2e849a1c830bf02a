-- A number that one of several arms takes: a word's code or a key, and what it stands for. Assumes nothing.
use Rattle.std.specs.Prelude.{Result}
use Prim.Native.Nat.{ℕ, zero, suc, ◌+◌, ◌-◌, ◌<◌, ◌≤◌}
use native.Mathlib.Omega.{arith}
use mathlib.Core.Path.{◌≡◌, refl, sym, ap, subst, ◌∙◌}
use mathlib.Core.Bool.{Bool, true, false}
use mathlib.Core.Logic.{inl, inr, ⊎_elim}
use mathlib.Core.List.{List, [], ◌∷◌, ◌++◌, map}
use lib.Dec.{T, eqb, ltb}
use lib.Ieee.{Float}
use mir.Val.{has_key}
use types.Run.{OneOf, hit}
use borrow.Author.Tests.{eqb-true, ltb-true, ltb-false}
use Rattle.frames.specs.declared.Ellipsoid.{Ellipsoid}
use Rattle.sheets.specs.declared.Value.{Value}
use Rattle.sheets.specs.declared.Unapplied.{Unapplied}
use Rattle.sheets.specs.Text.{Word}
use Rattle.sheets.specs.Kinds.{Kind, geocentric, geodetic}
use Rattle.sheets.specs.Table.{when, table}
use Rattle.sheets.specs.Lookup.{find}
use Rattle.sheets.specs.Claim.{All}
use Rattle.sheets.specs.code.reader.Codes.{code_of}
use Rattle.sheets.specs.code.rows.Applied.{applied, giving, RowGives}
use Rattle.sheets.specs.code.rows.KindCodes.{kind_at, Missed}
use Rattle.sheets.specs.code.run.Floats.{values_at}
use Rattle.sheets.specs.code.run.Evaluating.{Evaluated, LaidAs, RowLaid}
use Rattle.sheets.proofs.rows.KindRowLaws.{MissedEach}
use Rattle.sheets.proofs.rows.WordLaws.{spelt}
use Rattle.sheets.proofs.run.LaidSteps.{row_laid}

-- ---- a number that is one of several

-- what holds of each of us holds at the one whose number it is
at_one : {A Q : Type 0} (num : A → ℕ) (P : A → Type 0) (us : List A) → All P us → {x : ℕ} → OneOf (map num us) x → ((u : A) → P u → x ≡ num u → Q) → Q
at_one num P [] r o k = absurd o
at_one num P (u ∷ []) r e k = k u r.0 e
at_one num P (u ∷ v ∷ us) r (inl e) k = k u r.0 e
at_one num P (u ∷ v ∷ us) r (inr o) k = at_one num P (v ∷ us) r.1 o k

-- it is a's number, for the a that it is found to stand for
pub named : {A : Type 0} (num : A → ℕ) (back : ℕ → A) (us : List A) → All (λ u. back (num u) ≡ u) us → {x : ℕ} {a : A} → OneOf (map num us) x → a ≡ back x → x ≡ num a
named num back us r o h = at_one num (λ u. back (num u) ≡ u) us r o (λ u p e. e ∙ ap num (sym (h ∙ ap back e ∙ p)))

-- the row for one of several words: for the a that the word's code is found to stand for
abbrev Stands : {A : Type 0} → (A → Word) → (ℕ → A) → A → Type 0
Stands word back u = (back (code_of (word u)) ≡ u) × T (spelt (word u))

pub row_by : {A : Type 0} (word : A → Word) (back : ℕ → A) (us : List A) → All (Stands word back) us → {X : Type 0} (value : X → Value) {e : Ellipsoid} {code : ℕ} {ks : List Kind} {f : List Float} {at : ℕ} {vs : List Value} → vs ≡ values_at ks f at
    → (a : A) → a ≡ back code → (r : Result X Unapplied) → RowGives value e (word a) vs r → {q : Evaluated} {f' : List Float} → LaidAs (giving value r) f at q f' → OneOf (map (λ u. code_of (word u)) us) code → RowLaid e code ks f at q f'
row_by word back us t value {e} {code} {ks} {f} {at} {vs} hv a ha r hr {q} {f'} laid o = at_one (λ u. code_of (word u)) (Stands word back) us t o (λ u p c.
    row_laid (word u) p.1 value e code ks f at vs hv r (hr ∙ ap (λ w. applied e (find table (word w) vs)) (ha ∙ ap back c ∙ p.0)) q f' laid c)

-- n numbers from k on
abbrev pub from : ℕ → ℕ → List ℕ
from k zero = []
from k (suc n) = k ∷ from (suc k) n

pub one_from : (k n x : ℕ) → k ≤ x → x < k + n → OneOf (from k n) x
one_from k zero x l u = omega arith
one_from k (suc zero) x l u = omega arith
one_from k (suc (suc n)) x l u = go (x - k) refl (λ m. one_from (suc k) (suc n) x m (omega arith))
  where
    go : (d : ℕ) → x - k ≡ d → (suc k ≤ x → OneOf (from (suc k) (suc n)) x) → OneOf (from k (suc (suc n))) x
    go zero e later = inl (omega arith)
    go (suc d) e later = inr (later (omega arith))

in-range : (k n x : ℕ) → OneOf (from k n) x → (k ≤ x) × (x < k + n)
in-range k zero x o = absurd o
in-range k (suc zero) x e = (omega arith, omega arith)
in-range k (suc (suc n)) x (inl e) = (omega arith, omega arith)
in-range k (suc (suc n)) x (inr o) =
    let h = in-range (suc k) (suc n) x o in
    (omega (arith, h.0), omega (arith, h.1))

pub none_below : (k n : ℕ) {x : ℕ} → x < k → OneOf (from k n) x → ⊥
none_below k n {x} l o = omega (arith, l, (in-range k n x o).0)

pub none_above : (k n : ℕ) {x : ℕ} → k + n ≤ x → OneOf (from k n) x → ⊥
none_above k n {x} l o = omega (arith, l, (in-range k n x o).1)

-- the row over a position, by its kind's code
pub of-position : {e : Ellipsoid} {code k : ℕ} {f : List Float} {at : ℕ} {q : Evaluated} {f' : List Float} → 3 ≤ k → k ≤ 4 → RowLaid e code (geocentric ∷ []) f at q f' → RowLaid e code (geodetic ∷ []) f at q f' → RowLaid e code (kind_at k ∷ []) f at q f'
of-position {e} {code} {k} {f} {at} {q} {f'} l u g d = ⊎_elim (λ c. rw c g) (λ c. rw c d) (one_from 3 2 k l (omega arith))

-- ---- which of several

not_in : (ks : List ℕ) (x : ℕ) → (OneOf ks x → ⊥) → has_key ks x ≡ false
not_in ks x m = go (has_key ks x) refl
  where
    go : (b : Bool) → has_key ks x ≡ b → has_key ks x ≡ false
    go true h = absurd (m (hit ks x (subst T (sym h) tt)))
    go false h = h

-- the last of four, where the number is none of the others'
pub fourth : {A : Type 0} (a b d : List ℕ) (w x y z : A) (n : ℕ) → (OneOf a n → ⊥) → (OneOf b n → ⊥) → (OneOf d n → ⊥) → z ≡ when (has_key a n) w (when (has_key b n) x (when (has_key d n) y z))
fourth a b d w x y z n p q r = rw (not_in a n p, not_in b n q, not_in d n r) refl

not-eq : (k x : ℕ) → (x ≡ k → ⊥) → eqb k x ≡ false
not-eq k x m = go (eqb k x) refl
  where
    go : (b : Bool) → eqb k x ≡ b → eqb k x ≡ false
    go true h = absurd (m (sym (eqb-true k x h)))
    go false h = h

-- the last of three
pub third : {A : Type 0} (a b : ℕ) (x y z : A) (n : ℕ) → (n ≡ a → ⊥) → (n ≡ b → ⊥) → z ≡ when (eqb a n) x (when (eqb b n) y z)
third a b x y z n p q = rw (not-eq a n p, not-eq b n q) refl

-- which of two, by a bound
pub below-is : {A : Type 0} (k n : ℕ) (x y : A) → k < n → when (ltb k n) x y ≡ x
below-is k n x y l = go (ltb k n) refl
  where
    go : (b : Bool) → ltb k n ≡ b → when b x y ≡ x
    go true h = refl
    go false h = absurd (omega (arith, l, ltb-false k n h))

pub beyond-is : {A : Type 0} (k n : ℕ) (x y : A) → n ≤ k → when (ltb k n) x y ≡ y
beyond-is k n x y l = go (ltb k n) refl
  where
    go : (b : Bool) → ltb k n ≡ b → when b x y ≡ y
    go true h = absurd (omega (arith, l, ltb-true k n h))
    go false h = refl

-- ---- none of the numbers of some arms, the last arm first

abbrev pub flat : List (List ℕ) → List ℕ
flat [] = []
flat (ks ∷ kss) = ks ++ flat kss

missed_more : (ks js : List ℕ) (x : ℕ) → (OneOf ks x → ⊥) → Missed js x → Missed (ks ++ js) x
missed_more [] js x n m = m
missed_more (k ∷ []) js x n m = (m, n)
missed_more (k ∷ j ∷ ks) js x n m = (missed_more (j ∷ ks) js x (λ o. n (inr o)) m, λ e. n (inl e))

pub missed-flat : (kss : List (List ℕ)) (x : ℕ) → MissedEach kss x → Missed (flat kss) x
missed-flat [] x m = tt
missed-flat (ks ∷ kss) x m = missed_more ks (flat kss) x m.1 (missed-flat kss x m.0)
