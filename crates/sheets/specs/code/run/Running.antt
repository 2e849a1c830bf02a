-- What the pieces of the run answer, said of the machine over what the reader reads.
-- No part of what must be believed: they only tie the code to the machine.
use Rattle.std.specs.Prelude.{ℕ, ◌*◌, ◌<◌, ◌≡◌, List, [], length, get_or, replicate, Float}
use Rattle.numbers.specs.Ops.{num}
use Rattle.frames.specs.declared.Ellipsoid.{Ellipsoid}
use Rattle.sheets.specs.declared.Value.{Value}
use Rattle.sheets.specs.declared.rows.value.Slot.{Slot}
use Rattle.sheets.specs.declared.answers.RunAnswer.{RunAnswer}
use Rattle.sheets.specs.declared.Halt.{Halt}
use Rattle.sheets.specs.Text.{Word}
use Rattle.sheets.specs.Trees.{Expr, Line, let_line, numbered}
use Rattle.sheets.specs.Names.{Known, reading_words}
use Rattle.sheets.specs.Machine.{eval, State, steps, readings}
use Rattle.sheets.specs.Answers.{Tells}
use Rattle.sheets.specs.Claim.{Unstuck}
use Rattle.sheets.specs.Refusals.{refusal_number}
use Rattle.sheets.specs.code.Refusals.{refusal_of}
use Rattle.sheets.specs.code.reader.Reader.{got, let_word, rest, formed, read_lines}
use Rattle.sheets.specs.code.rows.KindCodes.{kind_at}
use Rattle.sheets.specs.code.run.Floats.{float_at, value_at}
use Rattle.sheets.specs.code.run.Known.{Ready}
use Rattle.sheets.specs.declared.check.names.Names.{Names}
use Rattle.sheets.specs.code.check.Newest.{with_name}
use Rattle.sheets.specs.code.run.Evaluating.{Evaluated, AnswersTo}

-- the readings stand first among the floats, 0 for one that is lacking, where there were only zeros
pub record WithReadings (rs f f' : List Float) : Type 0 where
  pub is : f ≡ replicate 2940 (num 0) → (length f' ≡ 2940) × ((i : ℕ) → i < 16 → float_at f' i ≡ get_or rs i (num 0))

-- ---- a line

-- what is left of a let from the place of its expression: its value, and where there is one, the place m of the next line
pub record LetWith (s : List ℕ) (at : ℕ) (e : Ellipsoid) (names : Names) (f : List Float) (top : ℕ) (r : Evaluated) (m : ℕ) (f' : List Float) : Type 0 where
  pub is : (ps : Known Value) → Ready ps names f top → (w : Word) (l : Line) (n : ℕ) → rest s (let_word w) at ≡ got l n → (x : Expr) × (l ≡ let_line w x) × AnswersTo (eval x e ps) n top f r m f'

-- a name given at a place: x is its slot, and it is given among the names
pub record GivenAt (word kind place : ℕ) (f : List Float) (names : Names) (x : Slot) (names' : Names) : Type 0 where
  pub slot_is : x ≡ record { word = word; value = value_at (kind_at kind) f (21 * place) }
  pub names_are : names' ≡ with_name names word kind place

-- the answer where a line does not go on
unfoldable pub stopped_at : Halt → ℕ → ℕ → RunAnswer
stopped_at (Halt.Refused r) i m = record { number = refusal_number (refusal_of r); line = i; written = m }
stopped_at Halt.Sticks i m = record { number = 0; line = i; written = m }

-- ---- the lines

-- from line 2, which stands at `start`, over the readings: of lines that do not stick, r and out' tell what the machine comes to
pub record Runs (s : List ℕ) (start : ℕ) (e : Ellipsoid) (rs : List Float) (out : List ℕ) (r : RunAnswer) (out' : List ℕ) : Type 0 where
  pub is : length out ≡ 24576 → (ls : List Line) → read_lines 95 2 0 s start ≡ formed ls
      → (st : State) → st.ellipsoid ≡ e → st.scope.known ≡ readings reading_words rs → st.entries ≡ []
      → Unstuck (steps (numbered 2 ls) st) → Tells (steps (numbered 2 ls) st) out r out'
