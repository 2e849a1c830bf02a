-- What a word stands for by the table of names and the readings, and what the evaluator is lent for the table.
-- No part of what must be believed: they only tie the code to the machine.
use Rattle.std.specs.Prelude.{ℕ, zero, suc, ◌+◌, ◌*◌, ◌<◌, ◌≤◌, ◌≡◌, List, [], ◌∷◌, map, eqb, leb, length, get_or, Float}
use Rattle.std.proofs.Math.Option.{Option, none, some}
use Rattle.numbers.specs.Ops.{num}
use Rattle.sheets.specs.declared.Value.{Value}
use Rattle.sheets.specs.declared.Value.TheVariants.{Number}
use Rattle.sheets.specs.declared.rows.value.Slot.{Slot}
use Rattle.sheets.specs.Text.{Word}
use Rattle.sheets.specs.Grammar.{IsWord}
use Rattle.sheets.specs.Kinds.{kind_of, kind_code}
use Rattle.sheets.specs.Table.{when}
use Rattle.sheets.specs.Names.{Known, lookup, reading_words}
use Rattle.sheets.specs.code.reader.Codes.{code_of}
use Rattle.sheets.specs.declared.check.names.Names.{Names}
use Rattle.sheets.specs.code.check.Newest.{Newest}
use Rattle.sheets.specs.code.run.Slots.{empty_slot}
use Rattle.sheets.specs.code.run.Floats.{float_at, Lies}

-- the place of a number in a list, the list's length where it is not there
unfoldable pub index_in : List ℕ → ℕ → ℕ
index_in [] c = 0
index_in (k ∷ ks) c = when (eqb c k) 0 (suc (index_in ks c))

-- the number of the reading whose word has this code, r0 to r15; 16 for none
unfoldable pub reading_index : ℕ → ℕ
reading_index c = index_in (map code_of reading_words) c

-- that reading's value
unfoldable pub reading_found : ℕ → List Float → Option Value
reading_found c rs = let i = reading_index c in when (leb 16 i) none (some (Number (get_or rs i (num 0))))

-- by the place j of the word with this code: the value v of the slot there, or else, where j is 0, the reading, which stands among the floats
unfoldable pub found_at : Value → List Float → ℕ → ℕ → Option Value
found_at v f c j = let i = reading_index c in when (eqb j 0) (when (leb 16 i) none (some (Number (float_at f i)))) (some v)

-- the word with this code among the first n slots after slot 0, the newest first, and then the readings
unfoldable pub word_found : List Slot → List Float → ℕ → ℕ → Option Value
word_found t rs zero c = reading_found c rs
word_found t rs (suc n) c = when (eqb (get_or t (suc n) empty_slot).word c) (some (get_or t (suc n) empty_slot).value) (word_found t rs n c)

-- n slots and the readings stand for the known words ps
pub record Tabled (ps : Known Value) (t : List Slot) (n : ℕ) (rs : List Float) : Type 0 where
  pub is : (w : Word) → IsWord w → lookup w ps ≡ word_found t rs n (code_of w)

-- ---- what is lent

-- the word, the kind and the value of a slot stand at its place
pub record SlotListed (x : Slot) (names : Names) (f : List Float) (j : ℕ) : Type 0 where
  pub word : get_or names.words j 0 ≡ x.word
  pub kind : get_or names.kinds j 0 ≡ kind_code (kind_of x.value)
  pub lies : Lies f (21 * j) x.value

-- so stand the first n slots after slot 0; and the readings stand first among the floats
pub record Listed (t : List Slot) (rs : List Float) (names : Names) (f : List Float) (n : ℕ) : Type 0 where
  pub slots : length t ≡ 96
  pub size : length f ≡ 2940
  pub place : (i : ℕ) → i < n → SlotListed (get_or t (suc i) empty_slot) names f (suc i)
  pub reading : (i : ℕ) → i < 16 → float_at f i ≡ get_or rs i (num 0)
  pub from : Newest names n

-- they stand for the known words ps, and lie below `top`
pub record Ready (ps : Known Value) (names : Names) (f : List Float) (top : ℕ) : Type 0 where
  pub slots : List Slot
  pub readings : List Float
  pub n : ℕ
  pub listed : Listed slots readings names f n
  pub tabled : Tabled ps slots n readings
  pub below : 21 * n + 21 ≤ top
