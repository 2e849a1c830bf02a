-- What `check_and_run` owes: what each of the two calls owes; demand 1; the sentences of requests Two and Three; and, where what is lent has its length, demand 3 of what they answered and wrote.
use Rattle.std.specs.Prelude.{ℕ, ◌≡◌, List, length, Float}
use Rattle.sheets.specs.Answers.{CheckOwes, RunOwes}
use Rattle.sheets.specs.Confined.{OutputConfined, ListConfined}
use Rattle.sheets.specs.Totals.{TotalsAddUp}
use Rattle.sheets.specs.Collars.{StandApart}
use Rattle.sheets.specs.Claim.{Claim}
use Rattle.sheets.specs.declared.check_and_run.BothAnswers.{BothAnswers}

-- of the sheet S and the readings R: lent `kinds` and `out`, the calls answer r and leave kinds' and out'
pub record Both (S : List ℕ) (R : List Float) (kinds out : List ℕ) (r : BothAnswers) (kinds' out' : List ℕ) : Type 0 where
  pub checked : CheckOwes S kinds r.checked kinds'
  pub ran : RunOwes S R out r.ran out'
  pub list_confined : ListConfined S kinds r.checked kinds'
  pub output_confined : OutputConfined out r.ran out'
  pub totals_add_up : TotalsAddUp S r.ran out'
  pub collars_stand_apart : StandApart S R r.ran
  pub claimed : length kinds ≡ 96 → length R ≡ 16 → length out ≡ 24576 → Claim S R kinds r.checked kinds' out r.ran out'
