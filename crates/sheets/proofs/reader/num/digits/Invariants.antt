-- The loop of `sheets::reader::num::digits`.
use Prim.Native.Nat.{◌<◌, ◌-◌, ◌+◌, ◌^◌}
use mathlib.Core.Path.{◌≡◌}
use Rattle.sheets.specs.code.reader.Codes.{digit}
use Rattle.sheets.specs.code.reader.Reader.{chars}
use Rattle.sheets.specs.code.reader.Views.{digits_read}
use Rattle.sheets.proofs.reader.TokenSteps.{digits_of}
use Rattle.sheets.proofs.reader.num.digits.Given as goal

abbrev pub invariant-loop-count : goal.invariant-loop-count
invariant-loop-count l = (l.at + l.count < 2 ^ 64) × (l.value < 10 ^ (18 - (l.most - l.count))) × (digits_of l.value l.count (chars digit (l.most - l.count) l.s (l.at + l.count)) (l.at + l.count) ≡ digits_read l.before (chars digit l.most l.s l.at) l.at)
