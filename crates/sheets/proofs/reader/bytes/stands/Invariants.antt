-- The loop of `sheets::reader::bytes::stands`.
use Prim.Native.Nat.{◌+◌, ◌-◌, ◌≤◌}
use mathlib.Core.Path.{◌≡◌}
use lib.ListN.{length, drop}
use Rattle.sheets.specs.code.reader.Views.{begins, stands_at}
use Rattle.sheets.proofs.reader.bytes.stands.Given as goal

abbrev pub invariant-loop-i : goal.invariant-loop-i
invariant-loop-i l = (l.i ≤ length l.w) × (l.at + length l.w ≤ length l.s) × (stands_at l.w l.s l.at ≡ begins (drop l.i l.w) (drop (l.at + l.i) l.s))

abbrev pub decreases-loop-i : goal.decreases-loop-i
decreases-loop-i l = length l.w - l.i
