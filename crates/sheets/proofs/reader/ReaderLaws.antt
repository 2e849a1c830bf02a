-- The reader, a step at a time: what it answers under the tests that it makes. Assumes nothing.
use Prim.Native.Nat.{ℕ, zero, suc, ◌+◌, ◌-◌, ◌<◌, ◌≤◌}
use native.Mathlib.Omega.{arith}
use native.Mathlib.Numerals.{sub-one}
use mathlib.Core.Path.{◌≡◌, refl}
use mathlib.Core.Bool.{Bool, true, false}
use mathlib.Core.List.{List, [], ◌∷◌}
use lib.Dec.{eqb, leb}
use lib.ListN.{length, get_or, get_or-eq_default}
use borrow.Author.Tests.{eq-eqb, ne_eqb, le-leb, leb-true, leb-false}
use Rattle.sheets.specs.Trees.{Expr, nil}
use Rattle.sheets.specs.code.reader.Reader.{Got, none, got, ◌then◌, chars_if, chars, part_end, part_if, whole_step, args_step, read_args, read_leaf, expr_step, read_expr, or_else, nothing, opening, read_word, spaced, closing, limit}

-- ---- runs of characters
module _ (f : ℕ → ℕ) (s : List ℕ) where
  pub chars-stop : (k at : ℕ) → f (get_or s at 0) ≡ 0 → chars f k s at ≡ []
  unfolding chars chars_if
  chars-stop zero at h = refl
  chars-stop (suc k) at h = rw (eq-eqb (f (get_or s at 0)) 0 h) refl

  pub chars-more : (k at : ℕ) → 0 < k → (f (get_or s at 0) ≡ 0 → ⊥) → chars f k s at ≡ get_or s at 0 ∷ chars f (k - 1) s (at + 1)
  unfolding chars chars_if
  chars-more zero at pos h = absurd (omega arith)
  chars-more (suc k) at pos h = rw (ne_eqb (f (get_or s at 0)) 0 h, sub-one) refl

-- ---- numbers
pub whole_is : (m : Bool) (ds s : List ℕ) (at : ℕ) → (length ds ≡ 0 → ⊥) → whole_step m ds s at ≡ part_if (eqb (get_or s (at + length ds) 0) 46) m ds s (at + length ds)
unfolding whole_step
whole_is m [] s at h = absurd (h refl)
whole_is m (c ∷ w) s at h = refl

pub part-is : (m : Bool) (w ds : List ℕ) (at : ℕ) → (length ds ≡ 0 → ⊥) → part_end m w ds at ≡ got (record { minus = m; whole = w; part = ds }) (at + length ds)
unfolding part_end
part-is m w [] at h = absurd (h refl)
part-is m w (c ∷ t) at h = refl

-- ---- readings put together
pub then-got : {A B : Type 0} (o : Got A) (k : A → ℕ → Got B) (x : A) (n : ℕ) → o ≡ got x n → (o then k) ≡ k x n
unfolding ◌then◌
then-got o k x n e = rw e refl

-- what was read, made into something else
unfoldable pub mapped : {A B : Type 0} → (A → B) → Got A → Got B
mapped g none = none
mapped g (got x n) = got (g x) n

-- the next space and the end of a line, whatever was read before them
module _ {A : Type 0} (x : A) (s : List ℕ) (at : ℕ) where
  pub space-mapped : spaced (got x) s at ≡ mapped (λ u. x) (spaced {A = Unit {0}} (got tt) s at)
  unfolding spaced or_else mapped
  space-mapped = go (eqb (get_or s at 0) 32)
    where
      go : (b : Bool) → or_else b (λ n. got x (n + 1)) nothing at ≡ mapped (λ u. x) (or_else {A = Unit {0}} b (λ n. got tt (n + 1)) nothing at)
      go true = refl
      go false = refl

  pub closing-mapped : closing x s at ≡ mapped (λ u. x) (closing {A = Unit {0}} tt s at)
  unfolding closing or_else mapped
  closing-mapped = go (eqb (get_or s at 0) 41) (eqb (get_or s (at + 1) 0) 10)
    where
      go : (b c : Bool) → or_else b (or_else c (λ n. got x (n + 2)) nothing) nothing at ≡ mapped (λ u. x) (or_else {A = Unit {0}} b (or_else c (λ n. got tt (n + 2)) nothing) nothing at)
      go true true = refl
      go true false = refl
      go false c = refl

-- a byte that is not 0 stands before the end
pub byte_inside : (s : List ℕ) (at b : ℕ) → get_or s at 0 ≡ b → 0 < b → at < length s
byte_inside s at b e pos = go (leb (length s) at) refl
  where
    go : (t : Bool) → leb (length s) at ≡ t → at < length s
    go true h = let z : get_or s at 0 ≡ 0 = get_or-eq_default s 0 (leb-true _ _ h) in absurd (omega arith)
    go false h = leb-false _ _ h

-- at most 200 bytes
pub limit_is : {A : Type 0} (at : ℕ) (x : A) (n : ℕ) → n ≤ at + 200 → limit at (got x n) ≡ got x n
unfolding limit or_else
limit_is at x n h = rw (le-leb n (at + 200) h) refl

-- ---- where the byte b stands
pub close-read : (x : ℕ → Got Expr) (s : List ℕ) (at b : ℕ) → b ≡ get_or s at 0 → (left : ℕ) → b ≡ 41 → read_args x left s at ≡ got nil (at + 1)
unfolding read_args args_step
close-read x s at b eb zero e = rw (eq-eqb (get_or s at 0) 41 (cc)) refl
close-read x s at b eb (suc n) e = rw (eq-eqb (get_or s at 0) 41 (cc)) refl

module _ (s : List ℕ) (at b : ℕ) (eb : b ≡ get_or s at 0) where
  pub expr-leaf : (depth : ℕ) → (b ≡ 40 → ⊥) → read_expr depth s at ≡ read_leaf s at
  unfolding read_expr expr_step
  expr-leaf zero e = rw (ne_eqb (get_or s at 0) 40 (rw eb at e)) refl
  expr-leaf (suc n) e = rw (ne_eqb (get_or s at 0) 40 (rw eb at e)) refl

  pub open_is : b ≡ 40 → opening s at ≡ read_word s (at + 1)
  unfolding opening or_else
  open_is h = rw (← eb, eq-eqb b 40 h) refl

  pub spaced-is : {A : Type 0} (f : ℕ → Got A) → b ≡ 32 → spaced f s at ≡ f (at + 1)
  unfolding spaced or_else
  spaced-is f h = rw (← eb, eq-eqb b 32 h) refl
