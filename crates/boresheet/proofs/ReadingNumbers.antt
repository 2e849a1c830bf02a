-- The number of a line of a file of readings is one more than the LFs before it: from each line to the next, and of the line that is told to be none. Assumes nothing.
use Rattle.std.specs.Prelude.{Option, Some}
use Prim.Native.Nat.{ℕ, ◌+◌}
use native.Mathlib.Omega.{arith}
use mathlib.Core.Path.{◌≡◌, refl, sym, ap, subst, ◌∙◌}
use mathlib.Core.Logic.{inl, inr}
use Rattle.std.proofs.Common.{Result, Err}
use mathlib.Core.List.{List, [], ◌∷◌, ◌++◌, append_assoc}
use lib.ListN.{length}
use lib.Ieee.{Float}
use Rattle.sheets.specs.Text.{◌⌢◌, lf}
use Rattle.sheets.specs.LineNumbers.{count_lf, line_number}
use Rattle.sheets.proofs.reader.LineNumbers.{count-append, NoLF, each_none, num-none, WholeLines, HasLine, begins, one_further}
use Rattle.boresheet.specs.declared.readings.BadReadings.{BadReadings}
use Rattle.boresheet.specs.Format.{hex_number, HexDigit, Line, Lines, ComesTo, all, short, bad, long}
use Rattle.boresheet.specs.code.Readings.{reading_at}
use Rattle.boresheet.proofs.FormatLaws.{hex-lf, line-sound}

-- a line has no LF but the one that ends it
line-none : (t : List ℕ) (x : Float) → Line t x → NoLF t
line-none t x (inl (q, h, e, v)) = subst NoLF (sym e) (num-none q h)
line-none t x (inr (h, n, v)) = each_none HexDigit (λ b d e. omega (arith, d, ap (λ c. hex_number c) e, hex-lf)) t h

-- the turn of the loop of `readings_of`
pub reading-next : (s : List ℕ) (at : ℕ) (r : Option (Float × ℕ)) → r ≡ reading_at s at → (x : Float) (n : ℕ) → r ≡ Some (x, n) → (i : ℕ) → i ≡ line_number s at → i + 1 ≡ line_number s n
reading-next s at r er x n e = let (t, l, p, h) = line-sound s at x n (sym er ∙ e) in one_further s (t ++ lf) at n p h (t, refl, (line-none t x l).zero_lf)

-- as many LFs as lines, and the last byte is one
lines-lf : (u : List ℕ) (xs : List Float) → Lines u xs → count_lf u ≡ length xs
unfolding count_lf
lines-lf u [] h = ap count_lf h
lines-lf u (x ∷ xs) (t, r, e, l, h) = ap count_lf e ∙ count-append t (lf ++ r) ∙ omega (arith, (line-none t x l).zero_lf, lines-lf r xs h)

lines-whole : (u : List ℕ) (xs : List Float) → Lines u xs → WholeLines u
lines-whole u [] h = inl h
lines-whole u (x ∷ xs) (t, r, e, l, h) = go (lines-whole r xs h)
  where
    go : WholeLines r → WholeLines u
    go (inl i) = inr (t, e ∙ ap (λ z. t ⌢ lf ⌢ z) i)
    go (inr (v, i)) = inr (t ⌢ lf ⌢ v, e ∙ ap (λ z. t ⌢ lf ⌢ z) i ∙ sym (append_assoc t (lf ++ v) lf))

pub bad-reading : (s : List ℕ) (r : Result (List Float) BadReadings) → ComesTo s r → (j : ℕ) → r ≡ Err (BadReadings.Line j) → HasLine s j
bad-reading s r (all xs l n) j e = cc
bad-reading s r (short xs l n) j e = cc
bad-reading s r (bad u b v xs es l n h) j e = let i : length xs + 1 ≡ j = cc in subst (HasLine s) (ap (λ k. k + 1) (lines-lf u xs l) ∙ i) (begins s u b v es (lines-whole u xs l))
bad-reading s r (long u b v xs es l n) j e = cc
