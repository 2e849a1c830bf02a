-- Bytes that stand at a place, as the code compares them, and a line's word known by them. Assumes nothing.
use Rattle.std.specs.Prelude.{Some}
use Prim.Native.Nat.{ℕ, suc, ◌+◌, ◌<◌, ◌≤◌}
use native.Mathlib.Omega.{arith}
use native.Mathlib.Numerals.{add-one}
use mathlib.Core.Path.{◌≡◌, refl, sym, ap, ap₂, ◌∙◌}
use mathlib.Core.Bool.{Bool, true, false}
use mathlib.Core.List.{List, [], ◌∷◌, ◌++◌}
use lib.Dec.{eqb, leb}
use lib.ListN.{length, get_or, drop, drop_of_length-le}
use lib.Seq.{drop-cons}
use borrow.Author.Tests.{le-leb, lt-leb, leb-true, eq-eqb, ne_eqb, eqb-true}
use Rattle.sheets.specs.Text.{Word, ascii}
use Rattle.sheets.specs.Grammar.{IsWord}
use Rattle.sheets.specs.Table.{when}
use Rattle.sheets.specs.code.reader.Codes.{letter, word_char, code_from, code_of}
use Rattle.sheets.specs.code.reader.Reader.{got, chars_if, chars, word_if, read_word, opening}
use Rattle.sheets.specs.code.reader.Views.{begins, stands_at, coded}
use Rattle.sheets.proofs.reader.Spans.{Spans, spans-split, spans-end, drop-spans}
use Rattle.sheets.proofs.reader.ReaderLaws.{open_is}
use Rattle.sheets.proofs.reader.TokenLaws.{Stops, space-stops, close-stops, word-complete}
use Rattle.sheets.proofs.reader.CodeLaws.{word-by}

-- ---- the loop: all of w stands there where the rest of it begins the bytes behind the first i
module _ (w s : List ℕ) (at : ℕ) where
  pub stands-short : length s < at + length w → false ≡ stands_at w s at
  unfolding stands_at
  stands-short h = rw (lt-leb (at + length w) (length s) h) refl

  pub stands-start : at + length w ≤ length s → stands_at w s at ≡ begins (drop 0 w) (drop (at + 0) s)
  unfolding stands_at
  stands-start h = let z : at ≡ at + 0 = omega arith in rw (le-leb (at + length w) (length s) h) (ap (λ i. begins w (drop i s)) z)

  module _ (i : ℕ) where
    pub begins-end : length w ≤ i → true ≡ begins (drop i w) (drop (at + i) s)
    unfolding begins
    begins-end h = rw (drop_of_length-le w h) refl

    module _ (h : i < length w) (k : at + i < length s) where
      by_heads : begins (drop i w) (drop (at + i) s) ≡ when (eqb (get_or s (at + i) 0) (get_or w i 0)) (begins (drop (suc i) w) (drop (suc (at + i)) s)) false
      unfolding begins
      by_heads = ap₂ begins (drop-cons w i 0 h) (drop-cons s (at + i) 0 k)

      pub begins-turn : get_or s (at + i) 0 ≡ get_or w i 0 → begins (drop i w) (drop (at + i) s) ≡ begins (drop (i + 1) w) (drop (at + (i + 1)) s)
      begins-turn e =
          let z : suc (at + i) ≡ at + (i + 1) = omega arith in
          by_heads ∙ ap (λ b. when b (begins (drop (suc i) w) (drop (suc (at + i)) s)) false) (eq-eqb (get_or s (at + i) 0) (get_or w i 0) e) ∙ ap₂ (λ a b. begins (drop a w) (drop b s)) (sym (add-one i)) z

      pub begins-not : (get_or s (at + i) 0 ≡ get_or w i 0 → ⊥) → false ≡ begins (drop i w) (drop (at + i) s)
      begins-not e = sym (by_heads ∙ ap (λ b. when b (begins (drop (suc i) w) (drop (suc (at + i)) s)) false) (ne_eqb (get_or s (at + i) 0) (get_or w i 0) e))

-- ---- a line's word

begun : (w l : List ℕ) → begins w l ≡ true → (q : List ℕ) × (l ≡ w ++ q)
unfolding begins
begun [] l e = (l, refl)
begun (b ∷ w) [] e = let z : ◌≡◌ {A = ℕ} 0 1 = cc in absurd (omega arith)
begun (b ∷ w) (a ∷ l) e = go (eqb a b) refl (begun w l) e
  where
    go : (t : Bool) → eqb a b ≡ t → (begins w l ≡ true → (q : List ℕ) × (l ≡ w ++ q)) → when t (begins w l) false ≡ true → (q : List ℕ) × (a ∷ l ≡ (b ∷ w) ++ q)
    go true h k e = let (q, eq) = k e in (q, ap₂ (λ x r. x ∷ r) (eqb-true a b h) eq)
    go false h k e = let z : ◌≡◌ {A = ℕ} 0 1 = cc in absurd (omega arith)

pub stands-begun : (w s : List ℕ) (at : ℕ) → stands_at w s at ≡ true → (q : List ℕ) × (drop at s ≡ w ++ q) × (at + length w ≤ length s)
unfolding stands_at
stands-begun w s at e = go (leb (at + length w) (length s)) refl e
  where
    go : (t : Bool) → leb (at + length w) (length s) ≡ t → when t (begins w (drop at s)) false ≡ true → (q : List ℕ) × (drop at s ≡ w ++ q) × (at + length w ≤ length s)
    go true h e = let (q, eq) = begun w (drop at s) e in (q, eq, leb-true (at + length w) (length s) h)
    go false h e = let z : ◌≡◌ {A = ℕ} 0 1 = cc in absurd (omega arith)

module _ (s : List ℕ) (at : ℕ) (q : List ℕ) where
  -- by the byte c, which ends the word
  opened : (v : Word) → IsWord v → (c : ℕ) → ((m : ℕ) → get_or s m 0 ≡ c → Stops s m) → (n : ℕ) → n ≡ at + 1 + length v → drop at s ≡ ((40 ∷ v) ++ (c ∷ [])) ++ q → Some (code_of v, n) ≡ coded (opening s at)
  unfolding Spans coded
  opened v hv c ends n en e =
      let (m, a, b) = spans-split s (40 ∷ v) (c ∷ []) at _ (drop-spans s ((40 ∷ v) ++ (c ∷ [])) q at e).0 in
      let i : m ≡ n = spans-end s v (at + 1) m a.1 ∙ sym en in
      sym (ap coded (open_is s at (get_or s at 0) refl a.0 ∙ word-complete s v (at + 1) m a.1 hv (ends m b.0) ∙ ap (got v) i))

  pub opened-show : drop at s ≡ ascii "(show " ++ q → Some (code_of (ascii "show"), at + 5) ≡ coded (opening s at)
  unfolding read_word word_if chars chars_if letter word_char code_from
  opened-show e = opened (ascii "show") (word-by (ascii "show") refl) 32 (space-stops s) (at + 5) (omega arith) e

  pub opened-let : drop at s ≡ ascii "(let " ++ q → Some (code_of (ascii "let"), at + 4) ≡ coded (opening s at)
  unfolding read_word word_if chars chars_if letter word_char code_from
  opened-let e = opened (ascii "let") (word-by (ascii "let") refl) 32 (space-stops s) (at + 4) (omega arith) e

  pub opened-total : drop at s ≡ ascii "(total)" ++ q → Some (code_of (ascii "total"), at + 6) ≡ coded (opening s at)
  unfolding read_word word_if chars chars_if letter word_char code_from
  opened-total e = opened (ascii "total") (word-by (ascii "total") refl) 41 (close-stops s) (at + 6) (omega arith) e
