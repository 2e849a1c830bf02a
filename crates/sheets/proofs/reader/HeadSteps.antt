-- Line 1, a step at a time, as the code reads it: a law for each way out. Assumes nothing.
use Rattle.std.specs.Prelude.{Option, Some, None}
use Prim.Native.Nat.{ℕ, ◌+◌}
use mathlib.Core.Path.{◌≡◌, refl, sym, ap, ap₂, ◌∙◌}
use mathlib.Core.List.{List}
use lib.Dec.{eqb}
use lib.Ieee.{Float}
use borrow.Author.Tests.{eq-eqb, ne_eqb}
use Rattle.sheets.specs.Text.{Word, ascii}
use Rattle.sheets.specs.Trees.{Head, wgs84, custom}
use Rattle.sheets.specs.code.reader.Codes.{word_char, code_from, code_of}
use Rattle.sheets.specs.code.reader.Reader.{Got, none, got, ◌then◌, read_word, read_num, or_else, nothing, opening, spaced, closing, more, one, two, read_the, ◌or◌, from_rows, head_rows, read_head}
use Rattle.sheets.specs.code.reader.Views.{place, coded, doubled, closed, named_at, head_of}
use Rattle.sheets.proofs.reader.Spans.{Holds, holds-none, holds_at}
use Rattle.sheets.proofs.reader.PieceLaws.{closing-holds}
use Rattle.sheets.proofs.reader.LineLaws.{head-unlimited}
use Rattle.sheets.proofs.reader.PieceSteps.{closing-none, closing-got}
use Rattle.sheets.proofs.reader.RowSteps.{rows_none, rows-got, more-none, more-got, one-the}
use Rattle.sheets.proofs.reader.Viewed.{placed-none, placed-got, doubled-none, doubled-got, named_none, named-got}
use Rattle.sheets.specs.declared.reader.lines.NameAt.{NameAt}
use Rattle.sheets.specs.declared.reader.head.HeadLine.{HeadLine}

head-none : (o : Got Head) → o ≡ none → None ≡ head_of o
unfolding head_of
head-none o e = rw e refl

-- ---- two numbers
module _ (s : List ℕ) (at : ℕ) (v : Option (Float × ℕ)) (ev : v ≡ doubled (spaced (read_num s) s at)) where
  pub custom-no-first : v ≡ None → None ≡ head_of (two read_num read_num custom s at)
  custom-no-first h = head-none _ (more-none read_num _ s at (doubled-none (λ q. q) _ v ev h))

  module _ (x : Float) (n : ℕ) (h : v ≡ Some (x, n)) (u : Option (Float × ℕ)) (eu : u ≡ doubled (spaced (read_num s) s n)) where
    pub custom-no-second : u ≡ None → None ≡ head_of (two read_num read_num custom s at)
    custom-no-second i =
        let (p, ep, ex) = doubled-got (λ q. q) _ v ev x n h in
        head-none _ (more-got read_num _ s at p n ep ∙ more-none read_num _ s n (doubled-none (λ q. q) _ u eu i))

    module _ (y : Float) (m : ℕ) (i : u ≡ Some (y, m)) (c : Option ℕ) (ec : c ≡ closed s m) where
      pub custom-no-end : c ≡ None → None ≡ head_of (two read_num read_num custom s at)
      custom-no-end j =
          let (p, ep, ex) = doubled-got (λ q. q) _ v ev x n h in
          let (q, eq, ey) = doubled-got (λ q. q) _ u eu y m i in
          head-none _ (more-got read_num _ s at p n ep ∙ more-got read_num _ s n q m eq ∙ closing-none (custom p q) s m c ec j)

      pub custom-done : (k : ℕ) → c ≡ Some k → Some (HeadLine.Custom x y, k) ≡ head_of (two read_num read_num custom s at)
      unfolding head_of
      custom-done k j =
          let (p, ep, ex) = doubled-got (λ q. q) _ v ev x n h in
          let (q, eq, ey) = doubled-got (λ q. q) _ u eu y m i in
          ap₂ (λ a b. Some (HeadLine.Custom a b, k)) ex ey ∙ sym (ap head_of (more-got read_num _ s at p n ep ∙ more-got read_num _ s n q m eq ∙ closing-got (custom p q) s m c ec k j))

-- ---- the word wgs84
is-wgs : (s : List ℕ) (at : ℕ) → Holds (λ h n. h ≡ wgs84) (one (read_the (ascii "wgs84")) (λ u. wgs84) s at)
unfolding more ◌then◌
is-wgs s at = go (spaced (read_the (ascii "wgs84") s) s at)
  where
    go : (o : Got (Unit {0})) → Holds (λ h n. h ≡ wgs84) (o then (λ u n. closing wgs84 s n))
    go none = holds-none (λ h n. h ≡ wgs84)
    go (got u n) = closing-holds (λ h n. h ≡ wgs84) wgs84 s n (λ m. refl)

module _ (s : List ℕ) (at : ℕ) (v : Option (NameAt × ℕ)) (ev : v ≡ named_at (at + 1) (one read_word (λ w. w) s at)) where
  wgs-by : (o : Got Word) → one read_word (λ w. w) s at ≡ o → one (read_the (ascii "wgs84")) (λ u. wgs84) s at ≡ (o then (λ w n. or_else (eqb (code_of w) (code_of (ascii "wgs84"))) (got wgs84) nothing n))
  unfolding code_from word_char
  wgs-by o eo = one-the (ascii "wgs84") wgs84 s at ∙ ap (λ g. g then (λ w n. or_else (eqb (code_of w) (code_of (ascii "wgs84"))) (got wgs84) nothing n)) eo

  pub wgs-no-word : v ≡ None → None ≡ place (one (read_the (ascii "wgs84")) (λ u. wgs84) s at)
  unfolding place ◌then◌
  wgs-no-word e = ap place (sym (wgs-by none (named_none (at + 1) _ v ev e)))

  module _ (y : NameAt) (n : ℕ) (e : v ≡ Some (y, n)) where
    pub wgs-word : y.code ≡ code_of (ascii "wgs84") → Some n ≡ place (one (read_the (ascii "wgs84")) (λ u. wgs84) s at)
    unfolding place ◌then◌ or_else
    wgs-word j =
        let (w, ew, ey) = named-got (at + 1) _ v ev y n e in
        let c : code_of w ≡ code_of (ascii "wgs84") = sym (ap (λ (z : NameAt). z.code) ey) ∙ j in
        rw (wgs-by (got w n) ew, eq-eqb (code_of w) (code_of (ascii "wgs84")) c) refl

    pub wgs-other : (y.code ≡ code_of (ascii "wgs84") → ⊥) → None ≡ place (one (read_the (ascii "wgs84")) (λ u. wgs84) s at)
    unfolding place ◌then◌ or_else
    wgs-other j =
        let (w, ew, ey) = named-got (at + 1) _ v ev y n e in
        rw (wgs-by (got w n) ew, ne_eqb (code_of w) (code_of (ascii "wgs84")) (λ c. j (ap (λ (z : NameAt). z.code) ey ∙ c))) refl

-- ---- line 1
module _ (s : List ℕ) (r : Option (ℕ × ℕ)) (er : r ≡ coded (opening s 0)) where
  pub head-no-word : r ≡ None → None ≡ head_of (read_head s)
  head-no-word h = head-none _ (head-unlimited s ∙ rows_none head_rows s 0 r er h)

  module _ (k n : ℕ) (h : r ≡ Some (k, n)) where
    head-is : read_head s ≡ from_rows head_rows k s n
    head-is = head-unlimited s ∙ rows-got head_rows s 0 r er k n h

    pub head-other : (k ≡ code_of (ascii "ellipsoid") → ⊥) → None ≡ head_of (read_head s)
    unfolding from_rows head_rows or_else code_from word_char
    head-other i = head-none _ (head-is ∙ rw (ne_eqb k (code_of (ascii "ellipsoid")) i) refl)

    module _ (i : k ≡ code_of (ascii "ellipsoid")) (v : Option ℕ) (ev : v ≡ place (one (read_the (ascii "wgs84")) (λ u. wgs84) s n)) where
      head-by : (o : Got Head) → one (read_the (ascii "wgs84")) (λ u. wgs84) s n ≡ o → read_head s ≡ (o or two read_num read_num custom s n)
      unfolding from_rows head_rows or_else code_from word_char
      head-by o eo = head-is ∙ rw (i, eo) refl

      pub head-wgs : (m : ℕ) → v ≡ Some m → Some (HeadLine.Wgs84, m) ≡ head_of (read_head s)
      unfolding head_of ◌or◌
      head-wgs m e = let (x, ex) = placed-got _ v ev m e in ap head_of (sym (head-by (got wgs84 m) (ex ∙ ap (λ h. got h m) (holds_at (λ h n. h ≡ wgs84) _ x m (is-wgs s n) ex))))

      pub head-custom : v ≡ None → (f : Option (HeadLine × ℕ)) → f ≡ head_of (two read_num read_num custom s n) → f ≡ head_of (read_head s)
      unfolding ◌or◌
      head-custom e f ef = rw (head-by none (placed-none _ v ev e)) ef
