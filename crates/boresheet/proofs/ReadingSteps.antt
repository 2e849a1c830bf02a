-- A file of readings, a step at a time, as the code reads it: a law for each way out of a function and for each turn of a loop. Assumes nothing.
use Rattle.std.specs.Prelude.{Option, Some, None}
use Prim.Native.Nat.{ℕ, zero, suc, ◌+◌, ◌-◌, ◌*◌, ◌<◌, ◌≤◌}
use native.Mathlib.Numerals.{add-one, sub-one}
use native.Mathlib.Omega.{arith}
use mathlib.Core.Path.{◌≡◌, refl, sym, ap, ap₂, ◌∙◌}
use mathlib.Core.List.{List, [], ◌∷◌, ◌++◌}
use Rattle.std.proofs.Common.{Result, Ok, Err}
use lib.Dec.{leb}
use lib.ListN.{length, get_or, take, set}
use lib.Seq.{length-take-le, take_all, take-suc-set}
use lib.Ieee.{Float, binary64, of_bits}
use borrow.Author.Tests.{eq-eqb, ne_eqb, le-leb, lt-leb}
use Rattle.sheets.specs.code.reader.Reader.{read_num}
use Rattle.sheets.specs.code.reader.Views.{doubled}
use Rattle.boresheet.specs.declared.readings.BadReadings.{BadReadings}
use Rattle.boresheet.specs.Format.{hex_number}
use Rattle.boresheet.specs.code.Readings.{hex_if, hex_from, hex_at, end_if, ended_at, or_else, reading_at, lastly, line_if, readings_from}

-- ---- hexadecimal digits

module _ (s : List ℕ) (b bits i : ℕ) (q : Option (Float × ℕ)) (eb : b ≡ get_or s i 0) where
  pub hex-stop : (left : ℕ) → 0 < left → hex_number b ≡ 16 → hex_from left bits s i ≡ q → None ≡ q
  unfolding hex_from hex_if
  hex-stop zero pos h inv = absurd (omega arith)
  hex-stop (suc k) pos h inv = rw (eq-eqb (hex_number (get_or s i 0)) 16 (sym (ap hex_number eb) ∙ h)) at inv

  pub hex-turn : (left d : ℕ) → 0 < left → d ≡ hex_number b → d < 16 → hex_from left bits s i ≡ q → hex_from (left - 1) (bits * 16 + d) s (i + 1) ≡ q
  unfolding hex_from hex_if
  hex-turn zero d pos e h inv = absurd (omega arith)
  hex-turn (suc k) d pos e h inv =
      let number : d ≡ hex_number (get_or s i 0) = e ∙ ap hex_number eb in
      let n = ne_eqb (hex_number (get_or s i 0)) 16 (λ z. omega (arith, number, z, h)) in
      rw (sub-one, number) (rw n at inv)

pub hex-end : (s : List ℕ) (bits i left : ℕ) (q : Option (Float × ℕ)) (x : Float) → left ≤ 0 → x ≡ of_bits binary64 bits → hex_from left bits s i ≡ q → Some (x, i) ≡ q
unfolding hex_from
hex-end s bits i zero q x h e inv = ap (λ z. Some (z, i)) e ∙ inv
hex-end s bits i (suc k) q x h e inv = absurd (omega arith)

-- ---- a line

module _ (s : List ℕ) (d : Option (Float × ℕ)) where
  pub ended-none : d ≡ None → None ≡ ended_at s d
  unfolding ended_at
  ended-none h = rw h refl

  module _ (x : Float) (n b : ℕ) (h : d ≡ Some (x, n)) (eb : b ≡ get_or s n 0) where
    pub ended_is : b ≡ 10 → Some (x, n + 1) ≡ ended_at s d
    unfolding ended_at end_if
    ended_is e = rw (h, eq-eqb (get_or s n 0) 10 (sym eb ∙ e)) refl

    pub ended-not : (b ≡ 10 → ⊥) → None ≡ ended_at s d
    unfolding ended_at end_if
    ended-not e = rw (h, ne_eqb (get_or s n 0) 10 (λ z. e (eb ∙ z))) refl

module _ (s : List ℕ) (at : ℕ) (d r : Option (Float × ℕ)) (ed : d ≡ doubled (read_num s at)) (er : r ≡ ended_at s d) where
  numbered : r ≡ ended_at s (doubled (read_num s at))
  numbered = er ∙ ap (ended_at s) ed

  pub reading-number : (x : Float) (n : ℕ) → r ≡ Some (x, n) → Some (x, n) ≡ reading_at s at
  unfolding reading_at or_else
  reading-number x n h = rw (sym numbered ∙ h) refl

  pub reading-hex : (g t : Option (Float × ℕ)) → r ≡ None → g ≡ hex_at s at → t ≡ ended_at s g → t ≡ reading_at s at
  unfolding reading_at or_else
  reading-hex g t h eg et = rw (sym numbered ∙ h) (et ∙ ap (ended_at s) eg)

-- ---- the file

module _ (s : List ℕ) (at i : ℕ) (vs : List Float) (l : length vs ≡ 16) (le : i ≤ 16) (q : Result (List Float) BadReadings) (inv : readings_from (16 - i) (take i vs) s at ≡ q) where
  count : length (take i vs) ≡ i
  count = length-take-le i vs (omega (arith, l))

  steps : (k : ℕ) (xs : List Float) → 0 < k → readings_from k xs s at ≡ line_if (leb (length s) at) (reading_at s at) xs (λ x n. readings_from (k - 1) (xs ++ (x ∷ [])) s n)
  unfolding readings_from
  steps zero xs pos = absurd (omega arith)
  steps (suc k) xs pos = rw sub-one refl

  pub file-all : 16 ≤ i → length s ≤ at → Ok vs ≡ q
  unfolding readings_from lastly
  file-all h t =
      let z : 16 - i ≡ 0 = omega arith in
      ap Ok (sym (take_all i vs (omega (arith, l)))) ∙ (rw (z, le-leb (length s) at t) at inv)

  pub file-long : 16 ≤ i → at < length s → Err BadReadings.Long ≡ q
  unfolding readings_from lastly
  file-long h t = let z : 16 - i ≡ 0 = omega arith in rw (z, lt-leb (length s) at t) at inv

  pub file-short : i < 16 → length s ≤ at → Err (BadReadings.Short i) ≡ q
  unfolding line_if
  file-short h t =
      ap (λ n. Err (BadReadings.Short n)) (sym count) ∙ (rw (steps (16 - i) (take i vs) (omega arith), le-leb (length s) at t) at inv)

  module _ (h : i < 16) (t : at < length s) (g : Option (Float × ℕ)) (eg : g ≡ reading_at s at) where
    pub file-bad : g ≡ None → Err (BadReadings.Line (i + 1)) ≡ q
    unfolding line_if
    file-bad e =
        ap (λ n. Err (BadReadings.Line (n + 1))) (sym count) ∙ (rw (steps (16 - i) (take i vs) (omega arith), lt-leb (length s) at t, sym eg ∙ e) at inv)

    pub file-turn : (x : Float) (n : ℕ) → g ≡ Some (x, n) → readings_from (16 - (i + 1)) (take (i + 1) (set vs i x)) s n ≡ q
    unfolding line_if
    file-turn x n e =
        let z : 16 - (i + 1) ≡ 16 - i - 1 = omega arith in
        let k = rw (steps (16 - i) (take i vs) (omega arith), lt-leb (length s) at t, sym eg ∙ e) at inv in
        ap₂ (λ j v. readings_from j v s n) z (ap (λ j. take j (set vs i x)) (add-one i) ∙ take-suc-set vs i x (omega (arith, l))) ∙ k
