-- A word that was read, as a part of the bytes. Assumes nothing.
use Prim.Native.Nat.{ℕ, ◌+◌, ◌-◌, ◌<◌, ◌≤◌}
use native.Mathlib.Omega.{arith}
use mathlib.Core.Path.{◌≡◌, ap, ◌∙◌}
use mathlib.Core.Logic.{◌⊎◌, inl, inr}
use mathlib.Core.List.{List, [], ◌∷◌}
use lib.ListN.{length, take, drop}
use lib.Seq.{take-append_seam}
use Rattle.sheets.specs.Text.{Word}
use Rattle.sheets.specs.Grammar.{Letter, Digit, Each, IsWord}
use Rattle.sheets.specs.code.reader.Reader.{got, read_word}
pub use Rattle.sheets.specs.code.run.Writing.{part}
use Rattle.sheets.proofs.reader.Spans.{Spans, spans-end, spans-drop, holds_at}
use Rattle.sheets.proofs.reader.ReaderLaws.{byte_inside}
use Rattle.sheets.proofs.reader.TokenLaws.{WordAt, word_sound}

part-is : (s x : List ℕ) (at n : ℕ) → Spans s x at n → n ≤ length s → part s at n ≡ x
part-is s x at n p h =
    let e : n - at ≡ length x = omega (arith, spans-end s x at n p) in
    ap (λ k. take k (drop at s)) e ∙ ap (take (length x)) (spans-drop s x at n p h) ∙ take-append_seam x (drop n s)

-- ---- words

char-inside : (s w : List ℕ) (at n : ℕ) → Each (λ b. Letter b ⊎ Digit b) w → Spans s w at n → at ≤ length s → n ≤ length s
unfolding Spans
char-inside s [] at n h p le = omega (arith, p)
char-inside s (c ∷ w) at n h p le = char-inside s w (at + 1) n h.1 p.1 (omega (arith, byte_inside s at c p.0 (some h.0)))
  where
    some : Letter c ⊎ Digit c → 0 < c
    some (inl h) = omega arith
    some (inr h) = omega arith

word-inside : (s w : List ℕ) (at n : ℕ) → IsWord w → Spans s w at n → n ≤ length s
unfolding Spans
word-inside s [] at n h p = absurd h
word-inside s (c ∷ w) at n h p = char-inside s w (at + 1) n h.1 p.1 (omega (arith, byte_inside s at c p.0 (omega (arith, h.0))))

module _ (s : List ℕ) (at : ℕ) (w : Word) (n : ℕ) (e : read_word s at ≡ got w n) where
  stood : WordAt s at w n
  stood = holds_at (WordAt s at) (read_word s at) w n (word_sound s at) e

  pub word-is : IsWord w
  word-is = stood.1

  -- the word's bytes, and the place after them
  pub word-part : (part s at n ≡ w) × (n ≡ at + length w) × (n ≤ length s)
  word-part =
      let h = word-inside s w at n word-is stood.0 in
      (part-is s w at n stood.0 h, spans-end s w at n stood.0, h)
