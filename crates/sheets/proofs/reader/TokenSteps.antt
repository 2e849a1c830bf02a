-- Words and numbers, a step at a time, as the code reads them: a law for each way out of `word`, `digits`, `num_whole` and `num`. Assumes nothing.
use Rattle.std.specs.Prelude.{Option, Some, None}
use Prim.Native.Nat.{ℕ, zero, suc, ◌+◌, ◌-◌, ◌*◌, ◌^◌, ◌<◌, ◌≤◌, min}
use native.Mathlib.Nat.{pow-suc, pow-le-pow_right, suc-mul, mul-le-mul_right}
use native.Mathlib.Omega.{arith}
use mathlib.Core.Path.{◌≡◌, refl, sym, ap, ap₂, ◌∙◌}
use mathlib.Core.Bool.{Bool, true, false, cond}
use mathlib.Core.List.{List, [], ◌∷◌}
use lib.Dec.{eqb, leb}
use lib.ListN.{length, get_or, get_or-eq_default}
use borrow.Author.Tests.{eq-eqb, ne_eqb, leb-true, leb-false}
use Rattle.sheets.specs.Trees.{decimal_from}
use Rattle.sheets.specs.code.reader.Codes.{letter, word_char, digit, code_from}
use Rattle.sheets.specs.code.reader.Reader.{chars, word_if, read_word, part_end, part_if, whole_step, read_whole, sign_if, read_num}
use Rattle.sheets.proofs.reader.ReaderLaws.{chars-stop, chars-more, whole_is, part-is}
use Rattle.sheets.proofs.reader.TokenLaws.{Counted, digit-is, each_map, chars-run}
use Rattle.sheets.proofs.reader.NumLaws.{digit_value_lem, decimal-bound, decimal-append}
use Rattle.sheets.specs.Grammar.{Digit}
use Rattle.sheets.specs.code.reader.Views.{coded, digits_read, counted}
use Rattle.sheets.specs.declared.reader.num.DigitsRead.{DigitsRead}
use Rattle.sheets.specs.declared.reader.num.Numeral.{Numeral}

-- one more digit to the base b, of at most `top`
pub grow : (b top left code d : ℕ) → 0 < left → left ≤ top → code < b ^ (top - left) → d < b → code * b + d < b ^ (top - (left - 1))
grow b top left code d pos le h hd =
    let e : top - (left - 1) ≡ suc (top - left) = omega arith in
    rw (e, pow-suc) (omega (arith, suc-mul code b, mul-le-mul_right b h))

pub cap : (b top left : ℕ) → 0 < b → b ^ (top - left) ≤ b ^ top
cap b top left pos = pow-le-pow_right pos (omega arith)

-- ---- runs of characters
module _ (f : ℕ → ℕ) (s : List ℕ) where
  pub chars-none : (k at : ℕ) → k ≤ 0 → chars f k s at ≡ []
  unfolding chars
  chars-none zero at h = refl
  chars-none (suc k) at h = absurd (omega arith)

-- ---- words
abbrev pub word_of : ℕ → List ℕ → ℕ → Option (ℕ × ℕ)
word_of code w i = Some (code_from code w, i + length w)

word-ends : (code i : ℕ) (w : List ℕ) (r : Option (ℕ × ℕ)) → w ≡ [] → word_of code w i ≡ r → Some (code, i) ≡ r
unfolding code_from
word-ends code i w r e h = let k : word_of code [] i ≡ r = rw e at h in ap (λ n. Some (code, n)) (omega arith) ∙ k

pub word_none : (s : List ℕ) (at b d : ℕ) → b ≡ get_or s at 0 → d ≡ letter b → d ≡ 0 → None ≡ coded (read_word s at)
unfolding read_word word_if coded
word_none s at b d eb ed h = rw (eq-eqb (letter (get_or s at 0)) 0 (cc)) refl

letter-char : (b : ℕ) → (letter b ≡ 0 → ⊥) → letter b ≡ word_char b
unfolding letter word_char
letter-char b = go (leb 97 b)
  where
    go : (t : Bool) → (cond t (cond (leb b 122) (b - 96) 0) 0 ≡ 0 → ⊥)
        → cond t (cond (leb b 122) (b - 96) 0) 0 ≡ cond t (cond (leb b 122) (b - 96) 0) (cond (leb 48 b) (cond (leb b 57) (b - 21) 0) 0)
    go true h = refl
    go false h = absurd (h refl)

pub word_some : (s : List ℕ) (at b d : ℕ) → b ≡ get_or s at 0 → d ≡ letter b → (d ≡ 0 → ⊥) → word_of d (chars word_char (at + 12 - (at + 1)) s (at + 1)) (at + 1) ≡ coded (read_word s at)
unfolding read_word word_if coded code_from
word_some s at b d eb ed h =
    let e : d ≡ letter (get_or s at 0) = cc in
    let n : letter (get_or s at 0) ≡ 0 → ⊥ = rw e at h in
    let l : d ≡ 0 * 37 + word_char (get_or s at 0) = e ∙ letter-char (get_or s at 0) n ∙ omega arith in
    let k : at + 12 - (at + 1) ≡ 11 = omega arith in
    rw (ne_eqb (letter (get_or s at 0)) 0 n, k)
    (ap₂ (λ x y. Some (code_from x (chars word_char 11 s (at + 1)), y)) l (omega arith))

-- a word's code stays below the power of 37 for its characters so far: one, and one more before the place `top`, where the word ends at the latest
pub word_small : (at d : ℕ) → d < 37 → d < 37 ^ (12 - (at + 12 - (at + 1)))
word_small at d h = let e : 12 - (at + 12 - (at + 1)) ≡ 1 = omega arith in rw e (omega arith)

pub word-grow : (top i code d : ℕ) → i < top → top - i ≤ 12 → code < 37 ^ (12 - (top - i)) → d < 37 → code * 37 + d < 37 ^ (12 - (top - (i + 1)))
word-grow top i code d pos le h hd = let e : top - (i + 1) ≡ top - i - 1 = omega arith in rw e (grow 37 12 (top - i) code d (omega arith) le h hd)

module _ (s : List ℕ) (d code i top : ℕ) (r : Option (ℕ × ℕ)) (ed : d ≡ word_char (get_or s i 0)) where
  pub word-turn : i < top → (d ≡ 0 → ⊥) → word_of code (chars word_char (top - i) s i) i ≡ r → word_of (code * 37 + d) (chars word_char (top - (i + 1)) s (i + 1)) (i + 1) ≡ r
  unfolding code_from
  word-turn pos h inv =
      let e : top - (i + 1) ≡ top - i - 1 = omega arith in
      let k = rw (chars-more word_char s (top - i) i (omega arith) (rw ed at h)) at inv in
      rw e (ap₂ (λ x y. Some (code_from (code * 37 + x) (chars word_char (top - i - 1) s (i + 1)), y)) ed (omega arith) ∙ k)

  pub word-stop : d ≡ 0 → word_of code (chars word_char (top - i) s i) i ≡ r → Some (code, i) ≡ r
  word-stop h inv = word-ends code i _ r (chars-stop word_char s (top - i) i (cc)) inv

pub word_end : (s : List ℕ) (code i top : ℕ) (r : Option (ℕ × ℕ)) → min (length s) top ≤ i → word_of code (chars word_char (top - i) s i) i ≡ r → Some (code, i) ≡ r
unfolding word_char
word_end s code i top r h inv = word-ends code i _ r (go (leb top i) refl) inv
  where
    go : (b : Bool) → leb top i ≡ b → chars word_char (top - i) s i ≡ []
    go true q = chars-none word_char s (top - i) i (omega (arith, leb-true top i q))
    go false q = chars-stop word_char s (top - i) i (ap word_char (get_or-eq_default s 0 (omega (arith, leb-false top i q))))

-- ---- digits
abbrev pub digits_of : ℕ → ℕ → List ℕ → ℕ → DigitsRead
digits_of value count ds i = record { value = decimal_from value ds; count = count + length ds; end = i + length ds }

digits_of_lem : (v c i j n : ℕ) (ds : List ℕ) (r : DigitsRead) → n ≡ c → j ≡ i → record { value = v; count = n; end = j } ≡ r → record { value = v; count = c; end = i } ≡ r
digits_of_lem v c i j n ds r en ej h = ap₂ (λ x y. record { value = v; count = x; end = y }) (sym en) (sym ej) ∙ h

digits-ends : (v c i : ℕ) (ds : List ℕ) (r : DigitsRead) → ds ≡ [] → digits_of v c ds i ≡ r → record { value = v; count = c; end = i } ≡ r
unfolding decimal_from
digits-ends v c i ds r e h = let k : digits_of v c [] i ≡ r = rw e at h in digits_of_lem v c i (i + 0) (c + 0) ds r (omega arith) (omega arith) k

pub digits-start : (before at : ℕ) (ds : List ℕ) → digits_of before 0 ds at ≡ digits_read before ds at
digits-start before at ds = ap (λ x. record { value = decimal_from before ds; count = x; end = at + length ds }) (omega arith)

module _ (s : List ℕ) (b d value count i left : ℕ) (r : DigitsRead) (eb : b ≡ get_or s i 0) (ed : d ≡ digit b) where
  pub digits-turn : 0 < left → (d ≡ 0 → ⊥) → digits_of value count (chars digit left s i) i ≡ r
      → digits_of (value * 10 + (d - 1)) (count + 1) (chars digit (left - 1) s (i + 1)) (i + 1) ≡ r
  unfolding decimal_from
  digits-turn pos h inv =
      let e : d ≡ digit (get_or s i 0) = cc in
      let k = rw (chars-more digit s left i pos (rw e at h)) at inv in
      let t = chars digit (left - 1) s (i + 1) in
      digits_of_lem (decimal_from (value * 10 + (d - 1)) t) (count + 1 + length t) (i + 1 + length t) (i + suc (length t)) (count + suc (length t)) [] r (omega arith) (omega arith)
      (ap (λ x. record { value = decimal_from (value * 10 + x) t; count = count + suc (length t); end = i + suc (length t) }) (ap (λ x. x - 1) e ∙ digit_value_lem (get_or s i 0) (digit-is (get_or s i 0) (rw e at h))) ∙ k)

  pub digits-stop : d ≡ 0 → digits_of value count (chars digit left s i) i ≡ r → record { value = value; count = count; end = i } ≡ r
  digits-stop h inv = digits-ends value count i _ r (chars-stop digit s left i (cc)) inv

-- a turn with the digit's value
pub digits-next : (s : List ℕ) (b d value count i left : ℕ) (r : DigitsRead) → b ≡ get_or s i 0 → digit b ≡ suc d → 0 < left → digits_of value count (chars digit left s i) i ≡ r
    → digits_of (value * 10 + d) (count + 1) (chars digit (left - 1) s (i + 1)) (i + 1) ≡ r
digits-next s b d value count i left r eb ed pos inv =
    let z : d ≡ suc d - 1 = omega arith in
    ap (λ k. digits_of (value * 10 + k) (count + 1) (chars digit (left - 1) s (i + 1)) (i + 1)) z ∙ digits-turn s b (suc d) value count i left r eb (sym ed) pos (λ h. omega arith) inv

pub digits-end : (s : List ℕ) (value count i left : ℕ) (r : DigitsRead) → left ≤ 0 → digits_of value count (chars digit left s i) i ≡ r → record { value = value; count = count; end = i } ≡ r
digits-end s value count i left r h inv = digits-ends value count i _ r (chars-none digit s left i h) inv

-- ---- numbers
-- the digits' number is below a power of ten
pub chars-bound : (n k : ℕ) (s : List ℕ) (value i : ℕ) → value < 10 ^ k → decimal_from value (chars digit n s i) < 10 ^ (k + n)
chars-bound n k s value i h =
    let r = chars-run digit s n i in
    omega (arith, decimal-bound (chars digit n s i) value k (each_map (Counted digit) Digit digit-is (chars digit n s i) r.each) h, pow-le-pow_right {n = 10} (omega arith) {i = k + length (chars digit n s i)} {j = k + n} (omega (arith, r.most)))

empty-is : (ds : List ℕ) → length ds ≡ 0 → ds ≡ []
empty-is [] h = refl
empty-is (c ∷ ds) h = absurd (omega arith)

-- d, the digits before the point
module _ (m : Bool) (s : List ℕ) (at : ℕ) (d : DigitsRead) (ed : d ≡ digits_read 0 (chars digit 9 s at) at) where
  pub num-no-whole : d.count ≡ 0 → None ≡ counted (read_whole m s at)
  unfolding read_whole whole_step counted
  num-no-whole h = rw (empty-is (chars digit 9 s at) (sym (ap (λ (x : DigitsRead). x.count) ed) ∙ h)) refl

  module _ (some : d.count ≡ 0 → ⊥) (b : ℕ) (eb : b ≡ get_or s d.end 0) where
    num-goes : (t : Bool) → eqb b 46 ≡ t → read_whole m s at ≡ part_if t m (chars digit 9 s at) s d.end
    unfolding read_whole
    num-goes t e =
        let n : d.end ≡ at + length (chars digit 9 s at) = ap (λ (x : DigitsRead). x.end) ed in
        whole_is m (chars digit 9 s at) s at (λ z. some (ap (λ (x : DigitsRead). x.count) ed ∙ z)) ∙ rw (← n, ← eb, e) refl

    pub num-no-point : (b ≡ 46 → ⊥) → Some (record { minus = m; digits = d.value; behind = 0; end = d.end }) ≡ counted (read_whole m s at)
    unfolding counted part_if decimal_from
    num-no-point h =
        let v : d.value ≡ decimal_from 0 (chars digit 9 s at) = ap (λ (x : DigitsRead). x.value) ed in
        rw (num-goes false (ne_eqb b 46 h), v) (ap (λ z. Some (record { minus = m; digits = z; behind = 0; end = d.end })) (sym (decimal-append 0 (chars digit 9 s at) [])))

    module _ (h : b ≡ 46) (f : DigitsRead) (ef : f ≡ digits_read d.value (chars digit 6 s (d.end + 1)) (d.end + 1)) where
      pub num-no-part : f.count ≡ 0 → None ≡ counted (read_whole m s at)
      unfolding counted part_if part_end
      num-no-part z = rw (num-goes true (eq-eqb b 46 h), empty-is (chars digit 6 s (d.end + 1)) (sym (ap (λ (x : DigitsRead). x.count) ef) ∙ z)) refl

      pub num-part : (f.count ≡ 0 → ⊥) → Some (record { minus = m; digits = f.value; behind = f.count; end = f.end }) ≡ counted (read_whole m s at)
      unfolding counted part_if
      num-part z =
          let v : d.value ≡ decimal_from 0 (chars digit 9 s at) = ap (λ (x : DigitsRead). x.value) ed in
          let t = chars digit 6 s (d.end + 1) in
          rw (num-goes true (eq-eqb b 46 h), part-is m (chars digit 9 s at) (chars digit 6 s (d.end + 1)) (d.end + 1) (λ y. z (ap (λ (x : DigitsRead). x.count) ef ∙ y)), ef, v)
          (ap (λ z. Some (record { minus = m; digits = z; behind = length t; end = d.end + 1 + length t })) (sym (decimal-append 0 (chars digit 9 s at) t)))

module _ (s : List ℕ) (at b : ℕ) (eb : b ≡ get_or s at 0) where
  pub num-minus : b ≡ 45 → (r : Option Numeral) → r ≡ counted (read_whole true s (at + 1)) → r ≡ counted (read_num s at)
  unfolding read_num sign_if
  num-minus h r e = rw (← eb, eq-eqb b 45 h) e

  pub num-plus : (b ≡ 45 → ⊥) → (r : Option Numeral) → r ≡ counted (read_whole false s at) → r ≡ counted (read_num s at)
  unfolding read_num sign_if
  num-plus h r e = rw (← eb, ne_eqb b 45 h) e
