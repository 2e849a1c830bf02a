-- What an answer of the code says of the reading that it is a view of. Assumes nothing.
use Rattle.std.specs.Prelude.{Option, Some, None}
use Prim.Native.Nat.{ℕ}
use native.Mathlib.Omega.{arith}
use mathlib.Core.Path.{◌≡◌, refl, sym, ap, ◌∙◌}
use lib.Ieee.{Float}
use Rattle.sheets.specs.Text.{Word}
use Rattle.sheets.specs.Trees.{Num}
use Rattle.sheets.specs.code.reader.Codes.{code_of}
use Rattle.sheets.specs.code.reader.Reader.{Got, none, got}
use Rattle.sheets.specs.Limits.{num_value}
use Rattle.sheets.specs.code.reader.Views.{place, coded, counted, numeral_of, doubled_by, name_at, named_at}
use Rattle.sheets.specs.declared.reader.num.Numeral.{Numeral}
use Rattle.sheets.specs.declared.reader.lines.NameAt.{NameAt}

-- a value and a place that are one answer are one value and one place
pub some_pair : {A B : Type 0} (x y : A) (m n : B) → ◌≡◌ {A = Option (A × B)} (Some (x, m)) (Some (y, n)) → (x ≡ y) × (m ≡ n)
some_pair {A} {B} x y m n e = let i : ◌≡◌ {A = A × B} (x, m) (y, n) = cc in (ap (λ (p : A × B). p.0) i, ap (λ (p : A × B). p.1) i)

pub placed-none : {A : Type 0} (o : Got A) (r : Option ℕ) → r ≡ place o → r ≡ None → o ≡ none
unfolding place
placed-none none r e h = refl
placed-none (got x n) r e h = let z : ◌≡◌ {A = ℕ} 0 1 = cc in absurd (omega arith)

pub placed-got : {A : Type 0} (o : Got A) (r : Option ℕ) → r ≡ place o → (n : ℕ) → r ≡ Some n → (x : A) × (o ≡ got x n)
unfolding place
placed-got none r e n h = let z : ◌≡◌ {A = ℕ} 0 1 = cc in absurd (omega arith)
placed-got (got x m) r e n h = let k : m ≡ n = cc in (x, rw k refl)

pub coded_none : (o : Got Word) (r : Option (ℕ × ℕ)) → r ≡ coded o → r ≡ None → o ≡ none
unfolding coded
coded_none none r e h = refl
coded_none (got x n) r e h = let z : ◌≡◌ {A = ℕ} 0 1 = cc in absurd (omega arith)

pub coded-got : (o : Got Word) (r : Option (ℕ × ℕ)) → r ≡ coded o → (k n : ℕ) → r ≡ Some (k, n) → (w : Word) × (o ≡ got w n) × (k ≡ code_of w)
unfolding coded
coded-got none r e k n h = let z : ◌≡◌ {A = ℕ} 0 1 = cc in absurd (omega arith)
coded-got (got w m) r e k n h = let (i, j) = some_pair _ _ _ _ (sym h ∙ e) in (w, rw (sym j) refl, i)

pub counted_none : (o : Got Num) (r : Option Numeral) → r ≡ counted o → r ≡ None → o ≡ none
unfolding counted
counted_none none r e h = refl
counted_none (got x n) r e h = let z : ◌≡◌ {A = ℕ} 0 1 = cc in absurd (omega arith)

pub counted-got : (o : Got Num) (r : Option Numeral) → r ≡ counted o → (y : Numeral) → r ≡ Some y → (q : Num) × (o ≡ got q y.end) × (y ≡ numeral_of q y.end)
unfolding counted
counted-got none r e y h = let z : ◌≡◌ {A = ℕ} 0 1 = cc in absurd (omega arith)
counted-got (got q n) r e y h = let i : numeral_of q n ≡ y = cc in let j : n ≡ y.end = ap (λ (x : Numeral). x.end) i in (q, rw j refl, sym i ∙ ap (numeral_of q) j)

pub doubled-none : {A : Type 0} (f : A → Num) (o : Got A) (r : Option (Float × ℕ)) → r ≡ doubled_by f o → r ≡ None → o ≡ none
unfolding doubled_by
doubled-none f none r e h = refl
doubled-none f (got x n) r e h = let z : ◌≡◌ {A = ℕ} 0 1 = cc in absurd (omega arith)

pub doubled-got : {A : Type 0} (f : A → Num) (o : Got A) (r : Option (Float × ℕ)) → r ≡ doubled_by f o → (x : Float) (n : ℕ) → r ≡ Some (x, n) → (q : A) × (o ≡ got q n) × (x ≡ num_value (f q))
unfolding doubled_by
doubled-got f none r e x n h = let z : ◌≡◌ {A = ℕ} 0 1 = cc in absurd (omega arith)
doubled-got f (got q m) r e x n h = let (i, j) = some_pair _ _ _ _ (sym h ∙ e) in (q, ap (got q) (sym j), i)

pub named_none : (at : ℕ) (o : Got Word) (r : Option (NameAt × ℕ)) → r ≡ named_at at o → r ≡ None → o ≡ none
unfolding named_at
named_none at none r e h = refl
named_none at (got x n) r e h = let z : ◌≡◌ {A = ℕ} 0 1 = cc in absurd (omega arith)

pub named-got : (at : ℕ) (o : Got Word) (r : Option (NameAt × ℕ)) → r ≡ named_at at o → (y : NameAt) (n : ℕ) → r ≡ Some (y, n) → (w : Word) × (o ≡ got w n) × (y ≡ name_at w at)
unfolding named_at
named-got at none r e y n h = let z : ◌≡◌ {A = ℕ} 0 1 = cc in absurd (omega arith)
named-got at (got w m) r e y n h = let (i, j) = some_pair _ _ _ _ (sym h ∙ e) in (w, ap (got w) (sym j), i)
