-- The loop of `boresheet::readings::readings_of`.
use Prim.Native.Nat.{◌+◌, ◌-◌}
use mathlib.Core.Path.{◌≡◌}
use lib.ListN.{length, take}
use Rattle.boresheet.specs.code.Readings.{readings_from, readings_of}
use Rattle.sheets.specs.LineNumbers.{line_number}
use Rattle.boresheet.proofs.readings.readings_of.Given as goal

abbrev pub invariant-loop-i : goal.invariant-loop-i
invariant-loop-i l = (length l.values ≡ 16) × (readings_from (16 - l.i) (take l.i l.values) l.s l.at ≡ readings_of l.s) × (l.i + 1 ≡ line_number l.s l.at)
