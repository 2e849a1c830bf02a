-- `unfolding computed` under a theorem's signature has every definition here computed, with those of `frames` and `numbers`.
use mathlib.Core.Bool.{Bool, true}
use Rattle.numbers.proofs.Computed.{computed as numbers_computed}
use Rattle.frames.proofs.Computed.{computed as frames_computed}
use Rattle.sheets.specs.Trees.{decimal_from}
use Rattle.sheets.specs.code.reader.Reader.{reading}
use Rattle.sheets.specs.Letters.{held, hold}
use Rattle.sheets.specs.Table.{far, table}
use Rattle.sheets.specs.Lookup.{find, kind_rows, search, find_kind}
use Rattle.sheets.specs.Limits.{num_value, in_limit}
use Rattle.sheets.specs.Output.{output_line}
use Rattle.sheets.specs.Machine.{eval, step, steps, surface, machine}
use Rattle.sheets.specs.Entries.{total}
use Rattle.sheets.specs.Aparts.{fixes, distance, stand_apart}
use Rattle.sheets.specs.Check.{kind_of_expr, lineᶜ, stepᶜ, stepsᶜ, walk}
use Rattle.sheets.specs.Answers.{ranged, verdict}

unfoldable pub computed : Bool
unfolding numbers_computed frames_computed decimal_from reading held hold far table find kind_rows search find_kind num_value in_limit output_line total fixes distance stand_apart eval step steps surface machine kind_of_expr lineᶜ stepᶜ stepsᶜ walk ranged verdict
computed = true
