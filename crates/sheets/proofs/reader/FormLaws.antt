-- The grammar makes one thing of every list of bytes, and only one: a sheet, of one tree; or the first line that breaks it, one from 1 to 97. Assumes nothing.
use Prim.Native.Nat.{ℕ, ◌≤◌}
use native.Mathlib.Omega.{arith}
use mathlib.Core.Path.{◌≡◌, sym, ◌∙◌}
use mathlib.Core.List.{List}
use Rattle.sheets.specs.Trees.{Sheet}
use Rattle.sheets.specs.Grammar.{Written, FirstBad, at_head, at_line, at_97, Form, formed, Reads}
use Rattle.sheets.specs.code.reader.Reader.{read_sheet}
use Rattle.sheets.proofs.reader.SheetLaws.{reader-reads, reader-only}

module _ (s : List ℕ) where
  pub form-exists : (o : Form Sheet) × Reads s o
  form-exists = (read_sheet s, reader-reads s)

  pub form-once : (o p : Form Sheet) → Reads s o → Reads s p → o ≡ p
  form-once o p ho hp = sym (reader-only s o ho) ∙ reader-only s p hp

  -- one sheet
  pub same-sheet : (c d : Sheet) → Written s c → Written s d → c ≡ d
  same-sheet c d v w = let e = form-once (formed c) (formed d) v w in cc

  pub bad-range : (j : ℕ) → FirstBad s j → (1 ≤ j) × (j ≤ 97)
  bad-range j (at_head h) = (omega arith, omega arith)
  bad-range j (at_line c b r e h w) = (omega arith, omega (arith, h.2))
  bad-range j (at_97 c b r e h n) = (omega arith, omega arith)
