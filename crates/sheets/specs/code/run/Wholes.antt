-- What the run makes of a line that is read whole: its output line, and what is kept of it.
-- No part of what must be believed: they only tie the code to the machine.
use Rattle.std.specs.Prelude.{ℕ, ◌≡◌, Bool, true, false, List, Float, Result, Ok, Err}
use Rattle.std.proofs.Math.Option.{Option, none, some}
use Rattle.numbers.specs.declared.Length.{Length}
use Rattle.sheets.specs.declared.Value.{Value}
use Rattle.sheets.specs.declared.Value.TheVariants.{Metres}
use Rattle.sheets.specs.declared.reader.lines.NameAt.{NameAt}
use Rattle.sheets.specs.declared.reader.lines.WholeLine.{WholeLine}
use Rattle.sheets.specs.declared.refusals.Refusal.{Refusal as Code}
use Rattle.sheets.specs.declared.Halt.{Halt}
use Rattle.sheets.specs.declared.run.shown.Shown.{Shown}
use Rattle.sheets.specs.Text.{ascii}
use Rattle.sheets.specs.Letters.{𝐥, 𝐠, held}
use Rattle.sheets.specs.Limits.{in_limit}
use Rattle.sheets.specs.Entries.{plus}
use Rattle.sheets.specs.code.run.Keeping.{keep}
use Rattle.sheets.specs.code.run.Apart.{apart_answer}
use Rattle.sheets.specs.code.run.Known.{found_at}
use Rattle.sheets.specs.code.run.Writing.{Written, line_if, room}

-- c is the code of a show's word
pub record Names (line : WholeLine) (c : ℕ) : Type 0 where
  pub is : (name : NameAt) → line ≡ WholeLine.Show name → c ≡ name.code

-- the line of a value under the name that stands in s from `from` to `end`, and the bytes then written; or refusal 7
unfoldable pub TestedIf : Bool → List ℕ → ℕ → ℕ → Value → List ℕ → ℕ → Result ℕ Halt → List ℕ → Type 0
TestedIf true s from end v out written r out' = (m : ℕ) × (r ≡ Ok m) × Written out written (line_if (room s from end out written) s from end v) out' m
TestedIf false s from end v out written r out' = (r ≡ Err (Halt.Refused Code.Limit)) × (out' ≡ out)

pub record TestedLine (s : List ℕ) (from end : ℕ) (v : Value) (out : List ℕ) (written : ℕ) (r : Result ℕ Halt) (out' : List ℕ) : Type 0 where
  pub is : TestedIf (in_limit v) s from end v out written r out'

-- the place j of a g that is shown is kept, and a length goes into the sum
unfoldable pub KeptIf : Bool → Value → ℕ → Shown → Shown → Type 0
KeptIf true v j k k' = (k'.places ≡ keep k.places j (held 𝐠 v)) × (k'.sum ≡ plus k.sum (held 𝐥 v))
KeptIf false v j k k' = k' ≡ k

-- a show of what was found at the place j
unfoldable pub ShownIf : List ℕ → NameAt → Option Value → ℕ → Shown → List ℕ → ℕ → Result ℕ Halt → Shown → List ℕ → Type 0
ShownIf s name (some v) j k out written r k' out' = TestedLine s name.from name.end v out written r out' × KeptIf (in_limit v) v j k k'
ShownIf s name none j k out written r k' out' = (r ≡ Err Halt.Sticks) × (k' ≡ k) × (out' ≡ out)

pub record ShownAs (s : List ℕ) (name : NameAt) (x : Option Value) (j : ℕ) (k : Shown) (out : List ℕ) (written : ℕ) (r : Result ℕ Halt) (k' : Shown) (out' : List ℕ) : Type 0 where
  pub is : ShownIf s name x j k out written r k' out'

-- a total of this sum
abbrev pub TotalLine : Length → List ℕ → ℕ → Result ℕ Halt → List ℕ → Type 0
TotalLine t out written r out' = TestedLine (ascii "total") 0 5 (Metres t) out written r out'

-- a line whose word stands at the place j, where the slot holds v
unfoldable pub Does : List ℕ → WholeLine → ℕ → Value → List Float → Shown → List ℕ → ℕ → Result ℕ Halt → Shown → List ℕ → Type 0
Does s (WholeLine.Show name) j v f k out written r k' out' = ShownAs s name (found_at v f name.code j) j k out written r k' out'
Does s WholeLine.Total j v f k out written r k' out' = TotalLine k.sum out written r out' × (k' ≡ k)
Does s (WholeLine.Apart x) j v f k out written r k' out' = (r ≡ apart_answer x f k.places written) × (k' ≡ k) × (out' ≡ out)

pub record LineDoes (s : List ℕ) (line : WholeLine) (j : ℕ) (v : Value) (f : List Float) (k : Shown) (out : List ℕ) (written : ℕ) (r : Result ℕ Halt) (k' : Shown) (out' : List ℕ) : Type 0 where
  pub is : Does s line j v f k out written r k' out'
