-- What the output lines show, in order: the text is their lines, and totals and aparts look back on them.
use Rattle.std.specs.Prelude.{ℕ, List, [], ◌∷◌}
use Rattle.std.proofs.Math.Option.{Option, none, some}
use Rattle.numbers.specs.Ops.{num}
use Rattle.numbers.specs.Lengths.{metres, length_add}
use Rattle.numbers.specs.declared.Length.{Length}
use Rattle.sheets.specs.declared.Value.{Value}
use Rattle.sheets.specs.declared.Value.TheVariants.{Metres}
use Rattle.sheets.specs.Text.{Word, ascii, ◌⌢◌}
use Rattle.sheets.specs.Letters.{𝐥, held}
use Rattle.sheets.specs.Names.{Given}
use Rattle.sheets.specs.Output.{output_line}

-- an output line: that of the show on this line, of this name; or that of a total, of this sum
pub data Entry : Type 0 where
  shown : ℕ → Given Value → Entry
  summed : Length → Entry

-- the name and the value that it prints: a total writes `total`, the word l and one field
abbrev pub entry_name : Entry → Word
entry_name (shown i g) = g.name
entry_name (summed t) = ascii "total"

abbrev pub entry_value : Entry → Value
entry_value (shown i g) = g.value
entry_value (summed t) = Metres t

abbrev pub entry_line : Entry → List ℕ
entry_line e = output_line (entry_name e) (entry_value e)

abbrev pub entry_lines : List Entry → List ℕ
entry_lines [] = []
entry_lines (e ∷ es) = entry_line e ⌢ entry_lines es

-- ---- a total, after document 02, request Two: the sum, from +0 in line order, of every l value shown, totals aside

-- a sum and the length behind it, where there is one
abbrev pub plus : Length → Option Length → Length
plus t none = t
plus t (some l) = length_add t l

abbrev pub sum_from : Length → List Entry → Length
sum_from t [] = t
sum_from t (shown i g ∷ es) = sum_from (plus t (held 𝐥 g.value)) es
sum_from t (summed s ∷ es) = sum_from t es

unfoldable pub total : List Entry → Length
total es = sum_from (metres (num 0)) es
