-- The readings' words are words; their codes. Assumes nothing.
use Prim.Native.Nat.{ℕ}
use mathlib.Core.Path.{refl}
use mathlib.Core.List.{List, [], ◌∷◌, map}
use Rattle.sheets.specs.Text.{Word, ascii}
use Rattle.sheets.specs.Grammar.{IsWord}
use Rattle.sheets.specs.code.reader.Codes.{code_of}
use Rattle.sheets.specs.code.reader.Reader.{reading}
use Rattle.sheets.specs.Names.{reading_words}
use Rattle.sheets.proofs.reader.CodeLaws.{word-by}

abbrev pub codes_of : List Word → List ℕ
codes_of vs = map code_of vs

abbrev pub AreWords : List Word → Type 0
AreWords [] = Unit {0}
AreWords (v ∷ vs) = IsWord v × AreWords vs

abbrev pub reading_codes : List ℕ
reading_codes = codes_of reading_words

pub readings-are : AreWords reading_words
unfolding reading
readings-are = (word-by (ascii "r0") refl, (word-by (ascii "r1") refl, (word-by (ascii "r2") refl, (word-by (ascii "r3") refl, (word-by (ascii "r4") refl, (word-by (ascii "r5") refl, (word-by (ascii "r6") refl, (word-by (ascii "r7") refl, (word-by (ascii "r8") refl, (word-by (ascii "r9") refl, (word-by (ascii "r10") refl, (word-by (ascii "r11") refl, (word-by (ascii "r12") refl, (word-by (ascii "r13") refl, (word-by (ascii "r14") refl, (word-by (ascii "r15") refl, tt))))))))))))))))
