-- Two words with one code are one word: a code is the word's characters as digits 1 to 36 to the base 37. Assumes nothing.
use Prim.Native.Nat.{ℕ, ◌+◌, ◌-◌, ◌*◌, ◌<◌}
use native.Mathlib.Omega.{arith}
use mathlib.Core.Path.{◌≡◌, refl, sym, ap, ◌∙◌, subst}
use mathlib.Core.List.{List, [], ◌∷◌, ◌++◌, append-nil}
use mathlib.Core.Logic.{◌⊎◌, inl, inr}
use lib.ListN.{length}
use borrow.Author.Tests.{le-leb, lt-leb}
use Rattle.sheets.specs.Text.{Word}
use Rattle.sheets.specs.Grammar.{Letter, Digit, Each, IsWord}
use Rattle.sheets.specs.code.reader.Codes.{word_char, code_from, code_of}
use Rattle.sheets.specs.code.reader.Reader.{got, read_word}
use Rattle.sheets.proofs.reader.Spans.{holds_at}
use Rattle.sheets.proofs.reader.TokenLaws.{WordAt, word_sound}

letter-code : (b : ℕ) → Letter b → word_char b ≡ b - 96
unfolding word_char
letter-code b h = rw (le-leb 97 b h.0, le-leb b 122 h.1) refl

digit-code : (b : ℕ) → Digit b → word_char b ≡ b - 21
unfolding word_char
digit-code b h = rw (lt-leb 97 b (omega arith), le-leb 48 b h.0, le-leb b 57 h.1) refl

char-same : (a b : ℕ) → Letter a ⊎ Digit a → Letter b ⊎ Digit b → word_char a ≡ word_char b → a ≡ b
char-same a b (inl x) (inl y) e = omega (arith, letter-code a x, letter-code b y)
char-same a b (inl x) (inr y) e = omega (arith, letter-code a x, digit-code b y)
char-same a b (inr x) (inl y) e = omega (arith, digit-code a x, letter-code b y)
char-same a b (inr x) (inr y) e = omega (arith, digit-code a x, digit-code b y)

char-small : (a : ℕ) → Letter a ⊎ Digit a → (0 < word_char a) × (word_char a < 37)
char-small a (inl x) = (omega (arith, letter-code a x), omega (arith, letter-code a x))
char-small a (inr x) = (omega (arith, digit-code a x), omega (arith, digit-code a x))

abbrev pub Chars : List ℕ → Type 0
Chars w = Each (λ b. Letter b ⊎ Digit b) w

-- the code of a word, its last character first
abbrev back_code : List ℕ → ℕ
back_code [] = 0
back_code (b ∷ r) = back_code r * 37 + word_char b

back-same : (v w : List ℕ) → Chars v → Chars w → back_code v ≡ back_code w → v ≡ w
back-same [] [] hv hw e = refl
back-same [] (b ∷ w) hv hw e = absurd (omega (arith, char-small b hw.0))
back-same (a ∷ v) [] hv hw e = absurd (omega (arith, char-small a hv.0))
back-same (a ∷ v) (b ∷ w) hv hw e =
    let sa = char-small a hv.0 in
    let sb = char-small b hw.0 in
    let h : word_char a ≡ word_char b = omega arith in
    let t : back_code v ≡ back_code w = omega arith in
    let p : a ≡ b = char-same a b hv.0 hw.0 h in
    let q : v ≡ w = back-same v w hv.1 hw.1 t in
    cc

abbrev onto : List ℕ → List ℕ → List ℕ
onto [] a = a
onto (b ∷ w) a = onto w (b ∷ a)

code-back : (w a : List ℕ) → code_from (back_code a) w ≡ back_code (onto w a)
unfolding code_from
code-back [] a = refl
code-back (b ∷ w) a = code-back w (b ∷ a)

onto-onto : (w a b : List ℕ) → onto (onto w a) b ≡ onto a (w ++ b)
onto-onto [] a b = refl
onto-onto (c ∷ w) a b = onto-onto w (c ∷ a) b

onto-chars : (w a : List ℕ) → Chars w → Chars a → Chars (onto w a)
onto-chars [] a hw ha = ha
onto-chars (b ∷ w) a hw ha = onto-chars w (b ∷ a) hw.1 (hw.0, ha)

pub word-chars : (w : Word) → IsWord w → Chars w
word-chars [] h = absurd h
word-chars (c ∷ w) h = (inl h.0, h.1)

code-chars : (v w : List ℕ) → Chars v → Chars w → code_of v ≡ code_of w → v ≡ w
code-chars v w hv hw e =
    let h : onto v [] ≡ onto w [] = back-same (onto v []) (onto w []) (onto-chars v [] hv tt) (onto-chars w [] hw tt) (sym (code-back v []) ∙ e ∙ code-back w []) in
    sym (append-nil v) ∙ sym (onto-onto v [] []) ∙ ap (λ z. onto z []) h ∙ onto-onto w [] [] ∙ append-nil w

pub code_same : (v w : Word) → IsWord v → IsWord w → code_of v ≡ code_of w → v ≡ w
code_same v w hv hw e = code-chars v w (word-chars v hv) (word-chars w hw) e

-- the code that stands for no word
pub code-none : (w : Word) → IsWord w → code_of [] ≡ code_of w → ⊥
code-none w h e = subst IsWord (sym (code-chars [] w tt (word-chars w h) e)) h

-- a word that the reader reads whole
pub word-by : (w : Word) → read_word w 0 ≡ got w (length w) → IsWord w
word-by w e = (holds_at (WordAt w 0) (read_word w 0) w (length w) (word_sound w 0) e).1
