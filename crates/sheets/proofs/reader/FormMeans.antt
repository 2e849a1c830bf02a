-- What the form pass answers, in the grammar's own terms: the bytes are a sheet of so many lines, or the line of that number is the first bad one;
-- and that number is one more than the LFs before it. Assumes nothing.
use Rattle.std.specs.Prelude.{Result, Ok, Err}
use Prim.Native.Nat.{ℕ, ◌+◌, ◌<◌}
use native.Mathlib.Omega.{arith}
use mathlib.Core.Path.{◌≡◌, refl, sym, ap, ◌∙◌}
use mathlib.Core.List.{List}
use lib.ListN.{length}
use Rattle.sheets.specs.Trees.{Sheet}
use Rattle.sheets.specs.Grammar.{Written, FirstBad}
use Rattle.sheets.specs.code.reader.Reader.{Form, formed, bad_line, read_sheet}
use Rattle.sheets.specs.code.reader.Views.{form_of}
use Rattle.sheets.proofs.reader.SheetLaws.{sheet-reads, sheet-breaks}
use Rattle.sheets.proofs.reader.LineNumbers.{HasLine, bad-number}

-- r is what `form` answered
module _ (s : List ℕ) (r : Result ℕ ℕ) (e : r ≡ form_of (read_sheet s)) where
  pub fine-means : (n : ℕ) → r ≡ Ok n → (c : Sheet) × Written s c × (n ≡ length c.lines + 1)
  unfolding form_of
  fine-means n h = go (read_sheet s) refl (sym e ∙ h)
    where
      go : (f : Form Sheet) → read_sheet s ≡ f → form_of f ≡ Ok n → (c : Sheet) × Written s c × (n ≡ length c.lines + 1)
      go (formed c) ef g = (c, (sheet-reads s c).0 ef, cc)
      go (bad_line j) ef g = let z : ◌≡◌ {A = ℕ} 0 1 = cc in absurd (omega arith)

  pub bad-means : (j : ℕ) → r ≡ Err j → FirstBad s j
  unfolding form_of
  bad-means j h = go (read_sheet s) refl (sym e ∙ h)
    where
      go : (f : Form Sheet) → read_sheet s ≡ f → form_of f ≡ Err j → FirstBad s j
      go (formed c) ef g = let z : ◌≡◌ {A = ℕ} 0 1 = cc in absurd (omega arith)
      go (bad_line i) ef g = let k : i ≡ j = cc in (sheet-breaks s j).0 (ef ∙ ap (λ x. bad_line x) k)

  pub bad-counts : (j : ℕ) → 0 < length s → r ≡ Err j → HasLine s j
  bad-counts j n h = bad-number s j n (bad-means j h)

  pub is-fine : (c : Sheet) → Written s c → r ≡ Ok (length c.lines + 1)
  unfolding form_of
  is-fine c w = e ∙ ap form_of ((sheet-reads s c).1 w)

  pub is-bad : (j : ℕ) → FirstBad s j → r ≡ Err j
  unfolding form_of
  is-bad j w = e ∙ ap form_of ((sheet-breaks s j).1 w)
