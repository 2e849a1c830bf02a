-- The double of a NUM: what the digits that the code read have to do with the nearest double to the NUM; and of one without a minus. Assumes nothing.
use Rattle.std.specs.Prelude.{Option, Some, None}
use Prim.Native.Nat.{ℕ, ◌+◌, ◌^◌, ◌<◌, ◌≤◌}
use native.Mathlib.Nat.{pow-le-pow_right}
use native.Mathlib.Omega.{arith}
use mathlib.Core.Path.{◌≡◌, refl, sym, ap, ◌∙◌}
use mathlib.Core.Bool.{false}
use mathlib.Core.List.{List}
use lib.Dec.{eqb}
use lib.ListN.{length, get_or}
use borrow.Author.Tests.{ne_eqb}
use lib.Ieee.{Float}
use Rattle.numbers.specs.Floats.{nearest, divided}
use Rattle.numbers.proofs.Quotient.{divided-nearest}
use Rattle.sheets.specs.Trees.{Num, signless, num_digits}
use Rattle.sheets.specs.code.reader.Reader.{Got, none, got, ◌then◌, chars_if, chars, whole_step, read_whole, sign_if, read_num, read_unsigned, one}
use Rattle.sheets.specs.code.reader.Codes.{digit}
use Rattle.sheets.specs.Limits.{num_value}
use Rattle.sheets.specs.code.reader.Views.{counted, numeral_of, closed, doubled_by, doubled, unsigned_double}
use Rattle.sheets.specs.declared.reader.num.Numeral.{Numeral}
use Rattle.sheets.proofs.reader.ReaderLaws.{spaced-is}
use Rattle.sheets.proofs.reader.Spans.{Holds, holds_at}
use Rattle.sheets.proofs.reader.TokenLaws.{NumAt, WholeAt, whole-sound, num-sound}
use Rattle.sheets.proofs.reader.PieceSteps.{spaced-none, closing-none, closing-got}
use Rattle.sheets.proofs.reader.RowSteps.{more-none, more-got}
use Rattle.sheets.proofs.reader.NumLaws.{num-small}
use Rattle.sheets.proofs.reader.Viewed.{counted_none, counted-got, doubled-none, doubled-got}

-- the double of the digits read is that of the NUM
pub numeral-value : (q : Num) (n : ℕ) (y : Numeral) → y ≡ numeral_of q n → nearest y.minus y.digits (10 ^ y.behind) ≡ num_value q
unfolding num_value
numeral-value q n y e = ap (λ (x : Numeral). nearest x.minus x.digits (10 ^ x.behind)) e

-- v is what `num` answered
module _ (s : List ℕ) (at : ℕ) (v : Option Numeral) (ev : v ≡ counted (read_num s at)) where
  pub double-none : v ≡ None → None ≡ doubled (read_num s at)
  unfolding doubled_by
  double-none h = rw (counted_none (read_num s at) v ev h) refl

  module _ (y : Numeral) (h : v ≡ Some y) where
    -- the digits are a double exactly
    pub numeral-small : (y.digits ≤ 2 ^ 53) × (y.behind ≤ 6)
    numeral-small =
        let (q, eq, ey) = counted-got (read_num s at) v ev y h in
        let p = num-small q (holds_at (NumAt s at) (read_num s at) q y.end (num-sound s at) eq).1 in
        let d : y.digits ≡ num_digits q = ap (λ (x : Numeral). x.digits) ey in
        let b : y.behind ≡ length q.part = ap (λ (x : Numeral). x.behind) ey in
        (omega (arith, p.0), omega (arith, p.1))

    module _ (t : ℕ) (et : t ≡ 10 ^ y.behind) where
      tens-small : (t ≤ 2 ^ 53) × (0 < t)
      tens-small =
          let a = pow-le-pow_right {n = 10} (omega arith) {i = y.behind} {j = 6} numeral-small.1 in
          let b = pow-le-pow_right {n = 10} (omega arith) {i = 0} {j = y.behind} (omega arith) in
          (omega arith, omega arith)

      pub double-is : (r : Float) → r ≡ divided y.minus y.digits t → Some (r, y.end) ≡ doubled (read_num s at)
      unfolding doubled_by
      double-is r er =
          let (q, eq, ey) = counted-got (read_num s at) v ev y h in
          let en = divided-nearest y.minus y.digits t numeral-small.0 tens-small.0 tens-small.1 in
          ap (λ x. Some (x, y.end)) (er ∙ en ∙ ap (λ x. nearest y.minus y.digits x) et ∙ numeral-value q y.end y ey) ∙ sym (ap doubled eq)

-- ---- without a minus: b is the byte at the place

module _ (s : List ℕ) (at b : ℕ) (eb : b ≡ get_or s at 0) where
  pub unsigned-minus : b ≡ 45 → None ≡ unsigned_double (read_unsigned s at)
  unfolding read_unsigned read_whole whole_step chars chars_if digit doubled_by ◌then◌
  unsigned-minus h = rw (← eb, h) refl

  pub unsigned_is : (b ≡ 45 → ⊥) → (r : Option (Float × ℕ)) → r ≡ doubled (read_num s at) → r ≡ unsigned_double (read_unsigned s at)
  unfolding read_num sign_if read_unsigned doubled_by Holds ◌then◌
  unsigned_is h r er = er ∙ ap (λ t. doubled (sign_if t s at)) (ap (λ z. eqb z 45) (sym eb) ∙ ne_eqb b 45 h) ∙ go (read_whole false s at) (whole-sound s false at)
    where
      go : (o : Got Num) → Holds (WholeAt s false at) o → doubled o ≡ unsigned_double (o then (λ q n. got (record { whole = q.whole; part = q.part }) n))
      go none h = refl
      go (got q n) h = ap (λ m. Some (num_value (record { minus = m; whole = q.whole; part = q.part }), n)) h.2

-- a space, such a NUM and the end of the line
module _ (s : List ℕ) (at b : ℕ) (eb : b ≡ get_or s at 0) where
  abbrev OneIs : Option (Float × ℕ) → Type 0
  OneIs q = q ≡ unsigned_double (one read_unsigned (λ q. q) s at)

  pub unsigned-unspaced : (b ≡ 32 → ⊥) → OneIs None
  unfolding doubled_by
  unsigned-unspaced h = ap unsigned_double (sym (more-none read_unsigned _ s at (spaced-none s at b eb (read_unsigned s) h)))

  module _ (h : b ≡ 32) (r : Option (Float × ℕ)) (er : r ≡ unsigned_double (read_unsigned s (at + 1))) where
    pub unsigned-none : r ≡ None → OneIs None
    unfolding doubled_by
    unsigned-none i = ap unsigned_double (sym (more-none read_unsigned _ s at (spaced-is s at b eb (read_unsigned s) h ∙ doubled-none signless _ r er i)))

    module _ (x : Float) (n : ℕ) (i : r ≡ Some (x, n)) (c : Option ℕ) (ec : c ≡ closed s n) where
      pub unsigned-unended : c ≡ None → OneIs None
      unfolding doubled_by
      unsigned-unended j =
          let (q, eq, ex) = doubled-got signless _ r er x n i in
          ap unsigned_double (sym (more-got read_unsigned _ s at q n (spaced-is s at b eb (read_unsigned s) h ∙ eq) ∙ closing-none q s n c ec j))

      pub unsigned-read : (m : ℕ) → c ≡ Some m → OneIs (Some (x, m))
      unfolding doubled_by
      unsigned-read m j =
          let (q, eq, ex) = doubled-got signless _ r er x n i in
          ap (λ x. Some (x, m)) ex ∙ ap unsigned_double (sym (more-got read_unsigned _ s at q n (spaced-is s at b eb (read_unsigned s) h ∙ eq) ∙ closing-got q s n c ec m j))
