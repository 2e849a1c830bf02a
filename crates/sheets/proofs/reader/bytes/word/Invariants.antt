-- The loop of `sheets::reader::bytes::word`.
use Prim.Native.Nat.{◌<◌, ◌-◌, ◌+◌, ◌^◌}
use mathlib.Core.Path.{◌≡◌}
use Rattle.sheets.specs.code.reader.Codes.{word_char}
use Rattle.sheets.specs.code.reader.Reader.{chars, read_word}
use Rattle.sheets.specs.code.reader.Views.{coded}
use Rattle.sheets.proofs.reader.TokenSteps.{word_of}
use Rattle.sheets.proofs.reader.bytes.word.Given as goal

abbrev pub invariant-loop-i : goal.invariant-loop-i
invariant-loop-i l = (l.at < l.i) × (l.code < 37 ^ (12 - (l.at + 12 - l.i))) × (word_of l.code (chars word_char (l.at + 12 - l.i) l.s l.i) l.i ≡ coded (read_word l.s l.at))

abbrev pub decreases-loop-i : goal.decreases-loop-i
decreases-loop-i l = l.end - l.i
