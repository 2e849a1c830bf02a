-- The loop of `sheets::run::fields::put_text`.
use mathlib.Core.Path.{◌≡◌}
use Prim.Native.Nat.{◌+◌}
use lib.ListN.{length, take}
use Rattle.sheets.specs.code.run.Writing.{Written}
use Rattle.sheets.proofs.run.fields.put_text.Given as goal

abbrev pub invariant-loop-b : goal.invariant-loop-b
invariant-loop-b l = (l.n ≡ l.at + l.b-index) × (length l.out ≡ length l.initial.out) × Written l.initial.out l.at (take l.b-index l.text) l.out l.n
