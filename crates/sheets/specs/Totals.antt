-- Document 02, request Two, by its sentence: a total's sum equals the one over the output lines before it, each show counted.
-- It goes by the sheet's lines and the text alone: the nth output line is that of the nth line that writes one, and a length is read back from its digits.
-- That the text is the machine's, with no line less, is said in Answers.antt.
use Rattle.std.specs.Prelude.{◌≡◌, List, [], ◌∷◌, ◌++◌, map, Bool, cond, ◌&&◌, ℕ, ◌+◌, ◌-◌, ◌*◌, eqb, ltb, length, get_or, take, drop}
use Rattle.std.proofs.Math.Option.{Option, none, some}
use Rattle.std.specs.Float.{binary64}
use Rattle.std.specs.Float.Ieee.{of_bits}
use Rattle.numbers.specs.Ops.{num}
use Rattle.numbers.specs.Lengths.{metres}
use Rattle.numbers.specs.declared.Length.{Length}
use Rattle.sheets.specs.Text.{ascii, ◌⌢◌}
use Rattle.sheets.specs.Trees.{Sheet}
use Rattle.sheets.specs.Grammar.{Written}
use Rattle.sheets.specs.Writes.{Writes, a_show, a-total, nothing, writes}
use Rattle.sheets.specs.Entries.{plus}
use Rattle.sheets.specs.Answers.{RunAnswer}

-- ---- the lines of a text, each without its LF; the bytes l have come since the last one
unfoldable pub cut : List ℕ → List ℕ → List (List ℕ)
cut l [] = []
cut l (b ∷ s) = cond (eqb b 10) (l ∷ cut [] s) (cut (l ++ (b ∷ [])) s)

abbrev pub text_lines : List ℕ → List (List ℕ)
text_lines s = cut [] s

-- ---- the length that an output line shows, from what stands behind its name and a space: l, a space and the sixteen digits of the length's bits

-- 0 to 9, a to f; digits as one number, after those that made the number n
abbrev pub digit_value : ℕ → ℕ
digit_value b = cond (ltb b 97) (b - 48) (b - 87)

unfoldable pub hex_value : ℕ → List ℕ → ℕ
hex_value n [] = n
hex_value n (b ∷ s) = hex_value (n * 16 + digit_value b) s

abbrev pub shows_length : List ℕ → Bool
shows_length s = eqb (get_or s 0 0) 108 && (eqb (get_or s 1 0) 32 && eqb (length s) 18)

abbrev pub length_in : List ℕ → Option Length
length_in s = cond (shows_length s) (some (metres (of_bits binary64 (hex_value 0 (drop 2 s))))) none

-- ---- Of lines that write so, and a text's lines, where the sum so far is t: each show's length goes into it, and each total shows it. A run that was stopped has written fewer lines.
unfoldable pub AddUp : Length → List Writes → List (List ℕ) → Type 0
AddUp t [] outs = outs ≡ []
AddUp t (nothing ∷ ws) outs = AddUp t ws outs
AddUp t (a_show w ∷ ws) [] = Unit {0}
AddUp t (a_show w ∷ ws) (o ∷ outs) = (s : List ℕ) × (o ≡ w ⌢ ascii " " ⌢ s) × AddUp (plus t (length_in s)) ws outs
AddUp t (a-total ∷ ws) [] = Unit {0}
AddUp t (a-total ∷ ws) (o ∷ outs) = (s : List ℕ) × (o ≡ ascii "total" ⌢ ascii " " ⌢ s) × (length_in s ≡ some t) × AddUp t ws outs

-- The run of the bytes s answers r and leaves out' in its output: in the bytes that it wrote the totals add up, from +0.
pub record TotalsAddUp (s : List ℕ) (r : RunAnswer) (out' : List ℕ) : Type 0 where
  pub adds : (c : Sheet) → Written s c → AddUp (metres (num 0)) (map writes c.lines) (text_lines (take r.written out'))
