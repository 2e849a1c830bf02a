-- A line's opening word and what follows it, a step at a time, as code reads it, whatever the line. Assumes nothing.
use Rattle.std.specs.Prelude.{Option, Some, None}
use Prim.Native.Nat.{ℕ, ◌+◌}
use mathlib.Core.Path.{◌≡◌, refl, sym, ap, ◌∙◌}
use mathlib.Core.Bool.{Bool, true, false}
use mathlib.Core.List.{List, [], ◌∷◌}
use lib.Dec.{eqb}
use lib.ListN.{get_or}
use borrow.Author.Tests.{ne_eqb}
use Rattle.sheets.specs.Text.{Word}
use Rattle.sheets.specs.code.reader.Codes.{code_of}
use Rattle.sheets.specs.code.reader.Reader.{Got, none, got, ◌then◌, read_word, or_else, nothing, opening, spaced, closing, more, first, one, read_the, Row, from_rows, read_rows}
use Rattle.sheets.specs.code.reader.Views.{coded}
use Rattle.sheets.proofs.reader.ReaderLaws.{then-got, mapped, space-mapped, closing-mapped}
use Rattle.sheets.proofs.reader.PieceSteps.{then-none}
use Rattle.sheets.proofs.reader.Viewed.{coded_none, coded-got}

-- the opening word tells the row
module _ {A : Type 0} (rs : List (Row A)) (s : List ℕ) (at : ℕ) (r : Option (ℕ × ℕ)) (er : r ≡ coded (opening s at)) where
  pub rows_none : r ≡ None → read_rows rs s at ≡ none
  unfolding read_rows
  rows_none h = then-none (opening s at) (λ k n. from_rows rs (code_of k) s n) (coded_none _ r er h)

  pub rows-got : (k n : ℕ) → r ≡ Some (k, n) → read_rows rs s at ≡ from_rows rs k s n
  unfolding read_rows
  rows-got k n h = let (w, ew, ek) = coded-got (opening s at) r er k n h in then-got (opening s at) _ w n ew ∙ ap (λ c. from_rows rs c s n) (sym ek)

-- no row has the word with this code
abbrev pub NoneOf : {A : Type 0} → List (Row A) → ℕ → Type 0
NoneOf [] k = Unit {0}
NoneOf (r ∷ rs) k = (k ≡ code_of r.opener → ⊥) × NoneOf rs k

pub rows-miss : {A : Type 0} (rs : List (Row A)) (k : ℕ) (s : List ℕ) (at : ℕ) → NoneOf rs k → from_rows rs k s at ≡ none
unfolding from_rows or_else
rows-miss [] k s at h = refl
rows-miss (r ∷ rs) k s at h = rw (ne_eqb k (code_of r.opener) h.0) (rows-miss rs k s at h.1)

module _ {A B : Type 0} (f : List ℕ → ℕ → Got B) (k : B → List ℕ → ℕ → Got A) (s : List ℕ) (at : ℕ) where
  -- no space, or no such part
  pub more-none : spaced (f s) s at ≡ none → more f k s at ≡ none
  unfolding more ◌then◌
  more-none e = rw e refl

  -- a part: what follows it decides
  pub more-got : (v : B) (n : ℕ) → spaced (f s) s at ≡ got v n → more f k s at ≡ k v s n
  unfolding more
  more-got v n e = then-got (spaced (f s) s at) _ v n e

-- lines of the same parts differ only in what is made of them: one function in code reads them all
module _ {A B : Type 0} (f : List ℕ → ℕ → Got A) (g : A → B) (s : List ℕ) (at : ℕ) where
  more-mapped : (k : A → List ℕ → ℕ → Got A) (l : A → List ℕ → ℕ → Got B) → ((v : A) (n : ℕ) → l v s n ≡ mapped g (k v s n)) → more f l s at ≡ mapped g (more f k s at)
  unfolding more mapped ◌then◌
  more-mapped k l h = go (spaced (f s) s at)
    where
      go : (o : Got A) → (o then (λ v n. l v s n)) ≡ mapped g (o then (λ v n. k v s n))
      go none = refl
      go (got v n) = h v n

  twice : (v : A) (c : Got (Unit {0})) → mapped (λ u. g v) c ≡ mapped g (mapped (λ u. v) c)
  unfolding mapped
  twice v none = refl
  twice v (got u n) = refl

  pub first-mapped : first f g s at ≡ mapped g (first f (λ v. v) s at)
  first-mapped = more-mapped _ _ (λ v n. space-mapped (g v) s n ∙ twice v (spaced (got tt) s n) ∙ ap (mapped g) (sym (space-mapped v s n)))

  pub one-mapped : one f g s at ≡ mapped g (one f (λ v. v) s at)
  one-mapped = more-mapped _ _ (λ v n. closing-mapped (g v) s n ∙ twice v (closing tt s n) ∙ ap (mapped g) (sym (closing-mapped v s n)))

-- where this word must stand, any word may be read and tested at the end
pub one-the : {A : Type 0} (v : Word) (l : A) (s : List ℕ) (at : ℕ) → one (read_the v) (λ u. l) s at ≡ (one read_word (λ w. w) s at then (λ w n. or_else (eqb (code_of w) (code_of v)) (got l) nothing n))
unfolding more spaced read_the or_else mapped ◌then◌
one-the {A} v l s at = go (eqb (get_or s at 0) 32)
  where
    test : Word → ℕ → Got A
    test w n = or_else (eqb (code_of w) (code_of v)) (got l) nothing n

    ends : (w : Word) (n : ℕ) (t : Bool) → eqb (code_of w) (code_of v) ≡ t → (c : Got (Unit {0})) → closing l s n ≡ mapped (λ u. l) c
        → (or_else {A = Unit {0}} t (got tt) nothing n then (λ u m. closing l s m)) ≡ (mapped (λ u. w) c then test)
    ends w n true e none q = q
    ends w n true e (got u m) q = rw e q
    ends w n false e none q = refl
    ends w n false e (got u m) q = rw e refl

    next : (o : Got Word) → ((o then (λ w n. or_else {A = Unit {0}} (eqb (code_of w) (code_of v)) (got tt) nothing n)) then (λ u n. closing l s n)) ≡ ((o then (λ w n. closing w s n)) then test)
    next none = refl
    next (got w n) = ends w n (eqb (code_of w) (code_of v)) refl (closing tt s n) (closing-mapped l s n) ∙ ap (λ o. o then test) (sym (closing-mapped w s n))

    go : (b : Bool) → (or_else b (λ n. read_the v s (n + 1)) nothing at then (λ u n. closing l s n)) ≡ ((or_else b (λ n. read_word s (n + 1)) nothing at then (λ w n. closing w s n)) then test)
    go true = next (read_word s (at + 1))
    go false = refl
