-- The pieces of a line, a step at a time, as the code reads them: `(` and a word, a space and what follows it, `)` and LF. Assumes nothing.
use Rattle.std.specs.Prelude.{Option, Some, None}
use Prim.Native.Nat.{ℕ, ◌+◌, ◌<◌}
use native.Mathlib.Omega.{arith}
use mathlib.Core.Path.{◌≡◌, refl, ap, ◌∙◌}
use mathlib.Core.Bool.{Bool, true, false}
use mathlib.Core.List.{List}
use lib.Dec.{eqb}
use lib.ListN.{length, get_or}
use borrow.Author.Tests.{eq-eqb, ne_eqb, eqb-true}
use Rattle.sheets.specs.code.reader.Reader.{Got, none, got, ◌then◌, or_else, nothing, opening, spaced, closing}
use Rattle.sheets.specs.code.reader.Views.{place, closed}
use Rattle.sheets.proofs.reader.ReaderLaws.{mapped, closing-mapped, byte_inside}
use Rattle.sheets.proofs.reader.Viewed.{placed-none, placed-got}

module _ (s : List ℕ) (at b : ℕ) (eb : b ≡ get_or s at 0) where
  pub open_none : (b ≡ 40 → ⊥) → opening s at ≡ none
  unfolding opening or_else
  open_none h = rw (← eb, ne_eqb b 40 h) refl

  module _ {A : Type 0} (f : ℕ → Got A) where
    pub spaced-none : (b ≡ 32 → ⊥) → spaced f s at ≡ none
    unfolding spaced or_else
    spaced-none h = rw (← eb, ne_eqb b 32 h) refl

  pub close-none : (b ≡ 41 → ⊥) → None ≡ closed s at
  unfolding closing or_else place
  close-none h = rw (← eb, ne_eqb b 41 h) refl

  module _ (h : b ≡ 41) (c : ℕ) (ec : c ≡ get_or s (at + 1) 0) where
    pub close-is : c ≡ 10 → Some (at + 2) ≡ closed s at
    unfolding closing or_else place
    close-is i = rw (← eb, eq-eqb b 41 h, ← ec, eq-eqb c 10 i) refl

    pub close-no-end : (c ≡ 10 → ⊥) → None ≡ closed s at
    unfolding closing or_else place
    close-no-end i = rw (← eb, eq-eqb b 41 h, ← ec, ne_eqb c 10 i) refl

-- ---- readings put together
module _ {A B : Type 0} (o : Got A) (k : A → ℕ → Got B) where
  pub then-none : o ≡ none → (o then k) ≡ none
  unfolding ◌then◌
  then-none e = rw e refl

module _ {A : Type 0} (f : ℕ → Got A) (s : List ℕ) (at : ℕ) (x : A) (n : ℕ) (e : spaced f s at ≡ got x n) where
  pub spaced-got : (get_or s at 0 ≡ 32) × (f (at + 1) ≡ got x n)
  unfolding spaced or_else
  spaced-got = go (eqb (get_or s at 0) 32) refl e
    where
      go : (t : Bool) → eqb (get_or s at 0) 32 ≡ t → or_else t (λ n. f (n + 1)) nothing at ≡ got x n → (get_or s at 0 ≡ 32) × (f (at + 1) ≡ got x n)
      go true h i = (eqb-true _ _ h, i)
      go false h i = let z : ◌≡◌ {A = ℕ} 0 1 = cc in absurd (omega arith)

  pub spaced-inside : at < length s
  spaced-inside = byte_inside s at 32 spaced-got.0 (omega arith)

module _ {A : Type 0} (x : A) (s : List ℕ) (at : ℕ) (r : Option ℕ) (er : r ≡ closed s at) where
  pub closing-none : r ≡ None → closing x s at ≡ none
  unfolding mapped
  closing-none h = closing-mapped x s at ∙ ap (mapped (λ u. x)) (placed-none (closing tt s at) r er h)

  pub closing-got : (n : ℕ) → r ≡ Some n → closing x s at ≡ got x n
  unfolding mapped
  closing-got n h = let (u, eu) = placed-got (closing tt s at) r er n h in closing-mapped x s at ∙ ap (mapped (λ u. x)) eu
