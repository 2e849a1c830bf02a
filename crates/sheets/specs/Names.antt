-- Known words: what they stand for, and which words a let may give.
use Rattle.std.specs.Prelude.{List, [], ◌∷◌, Bool, true, false, ◌||◌, ℕ}
use Rattle.std.proofs.Math.Option.{Option, none, some}
use Rattle.sheets.specs.Text.{Word, ascii}
use Rattle.sheets.specs.Table.{when, table}
use Rattle.sheets.specs.Lookup.{same_word, opens}

-- a word with what it stands for, and the line of the let that gave it, 0 for a reading
pub record Given (A : Type 0) : Type 0 where
  pub line : ℕ
  pub name : Word
  pub value : A

abbrev pub given_on : {A : Type 0} → ℕ → Word → A → Given A
given_on i w x = record { line = i; name = w; value = x }

-- known words, the newest first
abbrev pub Known : Type 0 → Type 0
Known A = List (Given A)

abbrev pub or_else : {A : Type 0} → Bool → A → Option A → Option A
or_else true x o = some x
or_else false x o = o

-- what a word stands for
abbrev pub lookup : {A : Type 0} → Word → Known A → Option A
lookup w [] = none
lookup w (g ∷ gs) = or_else (same_word w g.name) g.value (lookup w gs)

-- the line of the let that gave a word, 0 where none did
abbrev pub line_of_let : {A : Type 0} → Word → Known A → ℕ
line_of_let w [] = 0
line_of_let w (g ∷ gs) = when (same_word w g.name) g.line (line_of_let w gs)

abbrev pub knows : {A : Type 0} → Word → Known A → Bool
knows w [] = false
knows w (g ∷ gs) = same_word w g.name || knows w gs

-- a word that cannot be given: an operator's, or one that is known
abbrev pub barred : {A : Type 0} → Word → Known A → Bool
barred w ps = opens table w || knows w ps

-- the words known from the start
abbrev pub reading_words : List Word
reading_words =
    ascii "r0" ∷ ascii "r1" ∷ ascii "r2" ∷ ascii "r3" ∷ ascii "r4" ∷ ascii "r5" ∷ ascii "r6" ∷ ascii "r7"
    ∷ ascii "r8" ∷ ascii "r9" ∷ ascii "r10" ∷ ascii "r11" ∷ ascii "r12" ∷ ascii "r13" ∷ ascii "r14" ∷ ascii "r15" ∷ []
