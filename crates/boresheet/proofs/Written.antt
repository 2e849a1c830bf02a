-- The bytes that the run counts are within the output that it leaves. Assumes nothing.
use Prim.Native.Nat.{ℕ}
use native.Mathlib.Omega.{arith}
use mathlib.Core.List.{List}
use lib.Ieee.{Float}
use Rattle.std.specs.Counts.{IsPrefixLen}
use Rattle.boresheet.proofs.Counting.{prefix_len_of_le}
use Rattle.sheets.specs.declared.answers.RunAnswer.{RunAnswer}
use Rattle.sheets.specs.Answers.{RunOwes}
use Rattle.sheets.proofs.ConfinedHolds.{output_confined}

pub run-counts : (s : List ℕ) (rs : List Float) (out e : List ℕ) (r : RunAnswer) → RunOwes s rs out r e → IsPrefixLen r.written e
run-counts s rs out e r h = let o = output_confined s rs out r e h in prefix_len_of_le r.written e (omega (arith, o.count_within, o.output_length))
