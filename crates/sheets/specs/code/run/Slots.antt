-- A slot of the table of names where no word stands: all 96 are so at the start.
use Rattle.numbers.specs.Ops.{num}
use Rattle.sheets.specs.declared.Value.TheVariants.{Number}
use Rattle.sheets.specs.declared.rows.value.Slot.{Slot}

abbrev pub empty_slot : Slot
empty_slot = record { word = 0; value = Number (num 0) }
