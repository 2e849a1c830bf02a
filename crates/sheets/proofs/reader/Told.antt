-- What the answer of `head` says of line 1: which it is, and its numbers by their doubles. Assumes nothing.
use Rattle.std.specs.Prelude.{Option, Some, None}
use Prim.Native.Nat.{ℕ}
use mathlib.Core.Path.{◌≡◌, refl, sym, ◌∙◌, subst}
use Rattle.sheets.specs.Trees.{Num, Head, wgs84, custom}
use Rattle.sheets.specs.Limits.{num_value}
use Rattle.sheets.specs.code.reader.Reader.{Got, none, got}
use Rattle.sheets.specs.code.reader.Views.{head_of}
use Rattle.sheets.specs.declared.reader.head.HeadLine.{HeadLine}

abbrev Says : Got Head → Option (HeadLine × ℕ) → Type 0
Says o None = o ≡ none
Says o (Some (HeadLine.Wgs84, n)) = o ≡ got wgs84 n
Says o (Some (HeadLine.Custom x y, n)) = (p q : Num) × (o ≡ got (custom p q) n) × (x ≡ num_value p) × (y ≡ num_value q)

pub head-told : (o : Got Head) (r : Option (HeadLine × ℕ)) → r ≡ head_of o → (q : Option (HeadLine × ℕ)) → r ≡ q → Says o q
unfolding head_of
head-told o r t q h = subst (Says o) (sym t ∙ h) (go o)
  where
    go : (o : Got Head) → Says o (head_of o)
    go none = refl
    go (got wgs84 n) = refl
    go (got (custom p q) n) = (p, q, refl, refl, refl)

pub headed-none : (o : Got Head) (r : Option (HeadLine × ℕ)) → r ≡ head_of o → r ≡ None → o ≡ none
headed-none o r t h = head-told o r t None h

-- whichever it is, it is read up to the place of line 2
pub headed-got : (o : Got Head) (r : Option (HeadLine × ℕ)) → r ≡ head_of o → (y : HeadLine) (n : ℕ) → r ≡ Some (y, n) → (x : Head) × (o ≡ got x n)
headed-got o r t HeadLine.Wgs84 n h = (wgs84, head-told o r t _ h)
headed-got o r t (HeadLine.Custom x y) n h = let (p, q, e, ex, ey) = head-told o r t _ h in (custom p q, e)
