-- Why a sheet is refused, by the numbers of documents 01 and 02.
use Rattle.std.specs.Prelude.{ℕ}
use Rattle.std.proofs.Math.Option.{Option, none, some}

-- what the check meets in the machine's order: 5 and 6
pub data Fault : Type 0 where
  name kind : Fault

-- what stops the machine: 7, 8 and, of names that do not stand apart, 9
pub data Stop : Type 0 where
  limit centre apart : Stop

pub data Refusal : Type 0 where
  size lent form ellipsoid : Refusal
  fault : Fault → Refusal
  stop : Stop → Refusal

abbrev pub refusal_number : Refusal → ℕ
refusal_number size = 1
refusal_number lent = 2
refusal_number form = 3
refusal_number ellipsoid = 4
refusal_number (fault name) = 5
refusal_number (fault kind) = 6
refusal_number (stop limit) = 7
refusal_number (stop centre) = 8
refusal_number (stop apart) = 9

-- ---- a result, or the fault met on the way to it

pub data Checked (A : Type 0) : Type 0 where
  fine : A → Checked A
  bad : Fault → Checked A

abbrev pub thenᶜ : {A B : Type 0} → Checked A → (A → Checked B) → Checked B
thenᶜ (fine x) k = k x
thenᶜ (bad f) k = bad f

-- what is there, or the fault
abbrev pub known? : {A : Type 0} → Fault → Option A → Checked A
known? f none = bad f
known? f (some x) = fine x
