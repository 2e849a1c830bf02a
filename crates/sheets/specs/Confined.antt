-- Demand 1: what is lent changes only where it is said, whatever its length. (Sheet and readings are lent to be read alone.)
use Rattle.std.specs.Prelude.{ℕ, ◌+◌, ◌≤◌, ◌≡◌, List, length, drop}
use Rattle.sheets.specs.Trees.{Sheet}
use Rattle.sheets.specs.Grammar.{Written}
use Rattle.sheets.specs.Answers.{laid, CheckAnswer, RunAnswer}

-- The run, lent `out`, answers r and leaves out'.
pub record OutputConfined (out : List ℕ) (r : RunAnswer) (out' : List ℕ) : Type 0 where
  -- the output keeps its length, and differs from what was lent only in its first n bytes, n being the count answered
  pub output_length : length out' ≡ length out
  pub output_rest : drop r.written out' ≡ drop r.written out
  pub count_within : r.written ≤ length out
  -- every refusal's count is 0 but for 7, 8 and 9
  pub refused_count : ¬ (r.number ≡ 0) → ¬ (r.number ≡ 7) → ¬ (r.number ≡ 8) → ¬ (r.number ≡ 9) → r.written ≡ 0

-- The check of the bytes s, lent `kinds`, answers r and leaves kinds'.
pub record ListConfined (s kinds : List ℕ) (r : CheckAnswer) (kinds' : List ℕ) : Type 0 where
  -- the kind list keeps its length; where the check passes it is filled to the sheet's last line, a code for each line, and else untouched
  pub list_length : length kinds' ≡ length kinds
  pub list_filled : r.number ≡ 0 → (c : Sheet) × (codes : List ℕ) × Written s c × (length codes ≡ length c.lines + 1) × (kinds' ≡ laid codes kinds)
  pub list_untouched : ¬ (r.number ≡ 0) → kinds' ≡ kinds
