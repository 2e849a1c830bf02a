-- The loop of `sheets::run::fields::put_fields`.
use mathlib.Core.Path.{◌≡◌}
use Prim.Native.Nat.{◌+◌, ◌*◌}
use lib.ListN.{length, take}
use Rattle.sheets.specs.Output.{fields_text}
use Rattle.sheets.specs.code.run.Writing.{Written}
use Rattle.sheets.proofs.run.fields.put_fields.Given as goal

abbrev pub invariant-loop-x : goal.invariant-loop-x
invariant-loop-x l = (l.n ≡ l.at + l.x-index * 17) × (length l.out ≡ length l.initial.out) × Written l.initial.out l.at (fields_text (take l.x-index l.fields)) l.out l.n
