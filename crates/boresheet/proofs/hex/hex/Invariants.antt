-- The loop of `boresheet::hex::hex`.
use Prim.Native.Nat.{◌+◌, ◌-◌, ◌^◌, ◌<◌}
use mathlib.Core.Path.{◌≡◌}
use Rattle.boresheet.specs.code.Readings.{hex_from, hex_at}
use Rattle.boresheet.proofs.hex.hex.Given as goal

abbrev pub invariant-loop-i : goal.invariant-loop-i
invariant-loop-i l = (l.bits < 16 ^ l.i) × (l.at + l.i < 2 ^ 64) × (hex_from (16 - l.i) l.bits l.s (l.at + l.i) ≡ hex_at l.s l.at)
