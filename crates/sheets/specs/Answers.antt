-- The answers of the check and of the run over bytes and lent buffers: refusals 1 to 9 in checking order, and what each call leaves in its buffer.
use Rattle.std.specs.Prelude.{◌≡◌, List, ◌∷◌, ◌++◌, Bool, true, false, ◌&&◌, ℕ, leb, eqb, length, drop, Float}
use Rattle.numbers.specs.Ops.{num}
use Rattle.sheets.specs.Trees.{Head, wgs84, custom, Sheet}
use Rattle.sheets.specs.Grammar.{Form, formed, bad_line, Reads}
use Rattle.sheets.specs.Limits.{num_value, between}
use Rattle.sheets.specs.Refusals.{Refusal, size, lent, form, ellipsoid, fault, stop, refusal_number}
pub use Rattle.sheets.specs.declared.answers.CheckAnswer.{CheckAnswer}
pub use Rattle.sheets.specs.declared.answers.RunAnswer.{RunAnswer}
use Rattle.sheets.specs.Machine.{State, Ran, done, stopped, stuck, machine}
use Rattle.sheets.specs.Entries.{entry_lines}
use Rattle.sheets.specs.Check.{Walked, passes, refuses, walk}

-- ---- refusals 1 to 6

-- refusal 1
abbrev pub sized : List ℕ → Bool
sized s = leb 1 (length s) && leb (length s) 16384

-- refusal 4
unfoldable pub ranged : Head → Bool
ranged wgs84 = true
ranged (custom q r) = between (num 1000000) (num 10000000) (num_value q) && between (num 100) (num 1000) (num_value r)

-- the sheet and the kind code of each line, 255 for line 1; or the refusal and its line
pub data Verdict : Type 0 where
  admitted : Sheet → List ℕ → Verdict
  refused : Refusal → ℕ → Verdict

abbrev pub of_walked : Sheet → Walked → Verdict
of_walked c (passes cs) = admitted c (255 ∷ cs)
of_walked c (refuses f j) = refused (fault f) j

abbrev pub of_range : Bool → Sheet → Verdict
of_range true c = of_walked c (walk c)
of_range false c = refused ellipsoid 1

abbrev pub of_form : Form Sheet → Verdict
of_form (bad_line j) = refused form j
of_form (formed c) = of_range (ranged c.head) c

abbrev pub of_lent : Bool → Form Sheet → Verdict
of_lent true o = of_form o
of_lent false o = refused lent 0

abbrev pub of_size : Bool → Bool → Form Sheet → Verdict
of_size true l o = of_lent l o
of_size false l o = refused size 0

-- on bytes of which the grammar makes o, where the flag tells whether what is lent has its length
unfoldable pub verdict : Bool → List ℕ → Form Sheet → Verdict
verdict l s o = of_size (sized s) l o

-- ---- the check, lent a kind list

abbrev pub check_of : Verdict → CheckAnswer
check_of (admitted c cs) = record { number = 0; line = 0 }
check_of (refused r j) = record { number = refusal_number r; line = j }

-- a buffer whose first bytes are these, and the rest as it was
abbrev pub laid : List ℕ → List ℕ → List ℕ
laid x buffer = x ++ drop (length x) buffer

abbrev pub kinds_of_verdict : Verdict → List ℕ → List ℕ
kinds_of_verdict (admitted c cs) kinds = laid cs kinds
kinds_of_verdict (refused r j) kinds = kinds

abbrev pub lent_kinds : List ℕ → Bool
lent_kinds kinds = eqb (length kinds) 96

-- What the check owes: of the bytes s, lent `kinds`, it answers r and leaves kinds', by what the grammar makes of s, one thing and only one.
pub record CheckOwes (s kinds : List ℕ) (r : CheckAnswer) (kinds' : List ℕ) : Type 0 where
  pub form_is : Form Sheet
  pub grammar : Reads s form_is
  pub answer : r ≡ check_of (verdict (lent_kinds kinds) s form_is)
  pub left : kinds' ≡ kinds_of_verdict (verdict (lent_kinds kinds) s form_is) kinds

-- ---- the run, lent readings and an output

abbrev pub told : ℕ → ℕ → State → RunAnswer
told n i s = record { number = n; line = i; written = length (entry_lines s.entries) }

-- The machine came to this, lent `out`: the run answers its number, its line and its count of bytes, and leaves its text in the first bytes.
-- A machine that sticks has no answer: an admitted sheet never sticks.
abbrev pub Tells : Ran → List ℕ → RunAnswer → List ℕ → Type 0
Tells (done fs s) out r out' = (r ≡ told 0 0 s) × (out' ≡ laid (entry_lines s.entries) out)
Tells (stopped fs k i s) out r out' = (r ≡ told (refusal_number (stop k)) i s) × (out' ≡ laid (entry_lines s.entries) out)
Tells (stuck fs i s) out r out' = ⊥

abbrev pub RunOf : Verdict → List Float → List ℕ → RunAnswer → List ℕ → Type 0
RunOf (admitted c cs) rs out r out' = Tells (machine c rs) out r out'
RunOf (refused k j) rs out r out' = (r ≡ record { number = refusal_number k; line = j; written = 0 }) × (out' ≡ out)

abbrev pub lent_run : List Float → List ℕ → Bool
lent_run rs out = eqb (length rs) 16 && eqb (length out) 24576

-- What the run owes: of the bytes s over the readings rs, lent `out`, it answers r and leaves out', by what the grammar makes of s.
pub record RunOwes (s : List ℕ) (rs : List Float) (out : List ℕ) (r : RunAnswer) (out' : List ℕ) : Type 0 where
  pub form_is : Form Sheet
  pub grammar : Reads s form_is
  pub answer : RunOf (verdict (lent_run rs out) s form_is) rs out r out'
