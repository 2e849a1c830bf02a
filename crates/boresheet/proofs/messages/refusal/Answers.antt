-- `boresheet::messages::refusal` meets its contract: its parts make the line. Assumes nothing.
use Rattle.std.proofs.Common.{arith}
use mathlib.Core.List.{append_assoc}
use Rattle.boresheet.specs.Messages.{refusal_line}
use Rattle.boresheet.proofs.MessageSteps.{number_digits}
use Rattle.boresheet.proofs.messages.refusal.Goals as goal

pub returns : goal.returns
unfolding refusal_line
returns c =
    simp (c.push_str-5.ensures.bytes, c.push_place.ensures.text, c.push_str-4.ensures.bytes, c.push_str-3.ensures.bytes, c.name.ensures.text, c.push_str-2.ensures.bytes, c.push_decimal.ensures.text, c.push_str.ensures.bytes, c.new-text.ensures, number_digits c.args.number (omega arith), append_assoc)
