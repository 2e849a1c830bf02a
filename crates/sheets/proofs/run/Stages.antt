-- What the code of `run_lines` holds before a line, and the machine's state that it stands for. Assumes nothing.
use Prim.Native.Nat.{ℕ, ◌+◌, ◌-◌, ◌*◌, ◌≤◌}
use mathlib.Core.Path.{◌≡◌}
use mathlib.Core.List.{List}
use lib.ListN.{length}
use lib.Ieee.{Float}
use Rattle.frames.specs.declared.Ellipsoid.{Ellipsoid}
use Rattle.sheets.specs.declared.rows.value.Slot.{Slot}
use Rattle.sheets.specs.declared.check.names.Names.{Names}
use Rattle.sheets.specs.declared.run.shown.Shown.{Shown}
use Rattle.sheets.specs.Trees.{Line}
use Rattle.sheets.specs.LineNumbers.{line_number}
use Rattle.sheets.specs.Entries.{entry_lines, total}
use Rattle.sheets.specs.Aparts.{fixes}
use Rattle.sheets.specs.Machine.{State}
use Rattle.sheets.specs.Answers.{laid}
use Rattle.sheets.specs.code.reader.Reader.{formed, read_lines}
use Rattle.sheets.specs.code.run.Known.{Tabled, Listed}
use Rattle.sheets.specs.code.run.Keeping.{Rising, Lined, FixesKept}

-- what the code holds before a line, which stands at a place
pub record Stage : Type 0 where
  pub at : ℕ
  pub line : ℕ
  pub slots : List Slot
  pub names : Names
  pub shown : Shown
  pub floats : List Float
  pub n : ℕ
  pub written : ℕ
  pub out : List ℕ

-- the line's number is one more than the LFs before it, the lines ls are left, and what is held stands for the machine's state; d is what was lent for the text, and the names' lets stand on the lines `lets`
pub record Now (s : List ℕ) (e : Ellipsoid) (rs : List Float) (d : List ℕ) (h : Stage) (ls : List Line) (st : State) : Type 0 where
  pub size : length d ≡ 24576
  pub has_number : h.line ≡ line_number s h.at
  pub left : ℕ
  pub phase : ℕ
  pub reads : read_lines left h.line phase s h.at ≡ formed ls
  pub lines : h.line + left ≡ 97
  pub surface : st.ellipsoid ≡ e
  pub tabled : Tabled st.scope.known h.slots h.n rs
  pub listed : Listed h.slots rs h.names h.floats h.n
  pub lets : ℕ → ℕ
  pub rising : Rising lets h.n h.line
  pub lined : Lined st.scope.known h.names.words h.n lets
  pub kept : FixesKept (fixes st.entries) lets h.shown.places h.floats h.n
  pub sums : h.shown.sum ≡ total st.entries
  pub count : h.written ≡ length (entry_lines st.entries)
  pub bound : h.written ≤ 223 * (h.line - 2)
  pub text : h.out ≡ laid (entry_lines st.entries) d
