-- The known words: the slots of the table and the readings stand for them at the start, and after each let. Assumes nothing.
use Prim.Native.Nat.{ℕ, zero, suc, ◌+◌, ◌<◌}
use native.Mathlib.Omega.{arith}
use mathlib.Core.Path.{◌≡◌, refl, sym, ap, ◌∙◌}
use mathlib.Core.Bool.{Bool, true, false}
use mathlib.Core.Option.{Option, none, some}
use mathlib.Core.List.{List, [], ◌∷◌}
use lib.Dec.{eqb, leb}
use lib.ListN.{length, get_or, set}
use lib.Seq.{get_or-set_same, get_or-set_other}
use lib.Ieee.{Float}
use borrow.Author.Tests.{le-leb, lt-leb, eq-eqb, ne_eqb, eqb-true, eqb-false, leb-true, leb-false}
use Rattle.numbers.specs.Ops.{num}
use Rattle.sheets.specs.declared.Value.{Value}
use Rattle.sheets.specs.declared.Value.TheVariants.{Number}
use Rattle.sheets.specs.declared.rows.value.Slot.{Slot}
use Rattle.sheets.specs.code.run.Slots.{empty_slot}
use Rattle.sheets.specs.Text.{Word}
use Rattle.sheets.specs.Grammar.{IsWord}
use Rattle.sheets.specs.code.reader.Codes.{code_of, code_from, word_char}
use Rattle.sheets.specs.Table.{when}
use Rattle.sheets.specs.Lookup.{same_word}
use Rattle.sheets.specs.Names.{Known, lookup, or_else, reading_words, given_on}
use Rattle.sheets.specs.Machine.{readings}
use Rattle.sheets.proofs.check.ReadingLaws.{codes_of, AreWords, reading_codes, readings-are}
use Rattle.sheets.proofs.rows.KindRowLaws.{words-agree}
use Rattle.sheets.specs.code.run.Known.{word_found, index_in, reading_index, reading_found, Tabled}

-- what is read within a list does not depend on the default
pub get_or-inside : {A : Type 0} (xs : List A) (i : ℕ) (a b : A) → i < length xs → get_or xs i a ≡ get_or xs i b
get_or-inside [] i a b h = absurd (omega arith)
get_or-inside (x ∷ xs) zero a b h = refl
get_or-inside (x ∷ xs) (suc i) a b h = get_or-inside xs i a b (omega arith)

-- ---- all readings, by their words' codes

pub eqb_comm : (a b : ℕ) → eqb a b ≡ eqb b a
eqb_comm a b = go (eqb a b) refl
  where
    go : (t : Bool) → eqb a b ≡ t → eqb a b ≡ eqb b a
    go true e = e ∙ sym (eq-eqb b a (sym (eqb-true a b e)))
    go false e = e ∙ sym (ne_eqb b a (λ q. eqb-false a b e (sym q)))

-- the value under the first of the codes that is c: the readings from the i-th on
unfoldable by_code : List ℕ → ℕ → List Float → ℕ → Option Value
by_code [] c rs i = none
by_code (k ∷ cs) c rs i = when (eqb c k) (some (Number (get_or rs i (num 0)))) (by_code cs c rs (suc i))

abbrev at-index : ℕ → ℕ → List Float → ℕ → Option Value
at-index n j rs i = when (leb n j) none (some (Number (get_or rs (i + j) (num 0))))

leb-suc : (a b : ℕ) → leb (suc a) (suc b) ≡ leb a b
leb-suc a b = go (leb a b) refl
  where
    go : (t : Bool) → leb a b ≡ t → leb (suc a) (suc b) ≡ leb a b
    go true e = le-leb (suc a) (suc b) (omega (arith, leb-true a b e)) ∙ sym e
    go false e = lt-leb (suc a) (suc b) (omega (arith, leb-false a b e)) ∙ sym e

by_index : (ks : List ℕ) (c : ℕ) (rs : List Float) (i : ℕ) → by_code ks c rs i ≡ at-index (length ks) (index_in ks c) rs i
unfolding by_code index_in
by_index [] c rs i = refl
by_index (k ∷ ks) c rs i = go (eqb c k) (by_index ks c rs (suc i))
  where
    go : (b : Bool) → by_code ks c rs (suc i) ≡ at-index (length ks) (index_in ks c) rs (suc i)
        → when b (some (Number (get_or rs i (num 0)))) (by_code ks c rs (suc i)) ≡ at-index (suc (length ks)) (when b 0 (suc (index_in ks c))) rs i
    go true h =
        ap (λ m. some (Number (get_or rs m (num 0)))) (omega arith)
        ∙ ap (λ b. when b none (some (Number (get_or rs (i + 0) (num 0))))) (sym (lt-leb (suc (length ks)) 0 (omega arith)))
    go false h =
        h
        ∙ ap (λ b. when b none (some (Number (get_or rs (suc i + index_in ks c) (num 0))))) (sym (leb-suc (length ks) (index_in ks c)))
        ∙ ap (λ m. when (leb (suc (length ks)) (suc (index_in ks c))) none (some (Number (get_or rs m (num 0))))) (omega arith)

found-or : (b : Bool) (x : Value) (o : Option Value) → or_else b x o ≡ when b (some x) o
found-or true x o = refl
found-or false x o = refl

-- the readings from the i-th on, where the first i are left out
known-by-code : (ws : List Word) → AreWords ws → (w : Word) → IsWord w → (all : List Float) (i : ℕ) (rs : List Float) → ((j : ℕ) → get_or rs j (num 0) ≡ get_or all (i + j) (num 0)) → lookup w (readings ws rs) ≡ by_code (codes_of ws) (code_of w) all i
unfolding by_code
known-by-code [] a w iw all i rs g = refl
known-by-code (v ∷ ws) a w iw all i [] g =
    found-or (same_word w v) (Number (num 0)) (lookup w (readings ws []))
    ∙ ap (λ b. when b (some (Number (num 0))) (lookup w (readings ws []))) (sym (words-agree v w a.0 iw) ∙ eqb_comm (code_of v) (code_of w))
    ∙ ap (λ x. when (eqb (code_of w) (code_of v)) (some (Number x)) (lookup w (readings ws []))) (g 0 ∙ ap (λ k. get_or all k (num 0)) (omega arith))
    ∙ ap (λ o. when (eqb (code_of w) (code_of v)) (some (Number (get_or all i (num 0)))) o) (known-by-code ws a.1 w iw all (suc i) [] (λ j. g (suc j) ∙ ap (λ k. get_or all k (num 0)) (omega arith)))
known-by-code (v ∷ ws) a w iw all i (r ∷ rs) g =
    found-or (same_word w v) (Number r) (lookup w (readings ws rs))
    ∙ ap (λ b. when b (some (Number r)) (lookup w (readings ws rs))) (sym (words-agree v w a.0 iw) ∙ eqb_comm (code_of v) (code_of w))
    ∙ ap (λ x. when (eqb (code_of w) (code_of v)) (some (Number x)) (lookup w (readings ws rs))) (g 0 ∙ ap (λ k. get_or all k (num 0)) (omega arith))
    ∙ ap (λ o. when (eqb (code_of w) (code_of v)) (some (Number (get_or all i (num 0)))) o) (known-by-code ws a.1 w iw all (suc i) rs (λ j. g (suc j) ∙ ap (λ k. get_or all k (num 0)) (omega arith)))

sixteen : (c : ℕ) (rs : List Float) → by_code reading_codes c rs 0 ≡ reading_found c rs
unfolding reading_found reading_index code_from word_char
sixteen c rs = by_index reading_codes c rs 0 ∙ ap (λ m. when (leb 16 (reading_index c)) none (some (Number (get_or rs m (num 0))))) (omega arith)

-- ---- the table

pub tabled_start : (rs : List Float) (t : List Slot) → Tabled (readings reading_words rs) t 0 rs
unfolding word_found
tabled_start rs t = record { is = λ w iw. known-by-code reading_words readings-are w iw rs 0 rs (λ j. ap (λ k. get_or rs k (num 0)) (omega arith)) ∙ sixteen (code_of w) rs }

slots_kept : (n k : ℕ) → n < k → (t : List Slot) (rs : List Float) (y : Slot) (c : ℕ) → word_found (set t k y) rs n c ≡ word_found t rs n c
unfolding word_found
slots_kept zero k h t rs y c = refl
slots_kept (suc n) k h t rs y c = rw (get_or-set_other t k (suc n) y empty_slot (λ e. omega arith), slots_kept n k (omega arith) t rs y c) refl

-- a let gives the word w the value x
pub tabled-let : (ps : Known Value) (t : List Slot) (n : ℕ) (rs : List Float) → Tabled ps t n rs → suc n < length t → (w : Word) → IsWord w → (x : Value) (y : Slot) → y.word ≡ code_of w → y.value ≡ x → (i : ℕ) → Tabled (given_on i w x ∷ ps) (set t (suc n) y) (suc n) rs
unfolding word_found
tabled-let ps t n rs tb h w iw x y ew ev i = record {
  is = λ v iv.
      found-or (same_word v w) x (lookup v ps)
      ∙ ap (λ b. when b (some x) (lookup v ps)) (sym (words-agree w v iw iv))
      ∙ ap (λ o. when (eqb (code_of w) (code_of v)) (some x) o) (tb.is v iv)
      ∙ sym (now-there v);
}
  where
    now-there : (v : Word) → word_found (set t (suc n) y) rs (suc n) (code_of v) ≡ when (eqb (code_of w) (code_of v)) (some x) (word_found t rs n (code_of v))
    now-there v =
        ap (λ (z : Slot). when (eqb z.word (code_of v)) (some z.value) (word_found (set t (suc n) y) rs n (code_of v))) (get_or-set_same t (suc n) y empty_slot h)
        ∙ ap (λ k. when (eqb k (code_of v)) (some y.value) (word_found (set t (suc n) y) rs n (code_of v))) ew
        ∙ ap (λ u. when (eqb (code_of w) (code_of v)) (some u) (word_found (set t (suc n) y) rs n (code_of v))) ev
        ∙ ap (λ f. when (eqb (code_of w) (code_of v)) (some x) f) (slots_kept n (suc n) (omega arith) t rs y (code_of v))
