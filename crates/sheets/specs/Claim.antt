-- Demand 3: one claim about a whole sheet and its readings.
use Rattle.std.specs.Prelude.{◌≡◌, ◌↔◌, List, [], ◌∷◌, true, ℕ, ◌-◌, ◌≤◌, T, get_or, Float}
use Rattle.std.specs.Float.Ieee.Scale.{finite}
use Rattle.numbers.specs.Mat.{exchanged}
use Rattle.numbers.specs.declared.Vec3.{Vec3}
use Rattle.numbers.specs.declared.Mat33.{Mat33}
use Rattle.frames.specs.Vectors.{local_zero}
use Rattle.frames.specs.Frames.{frame_origin, destination_position, local_vector_to}
use Rattle.frames.specs.declared.LocalFrame.{LocalFrame}
use Rattle.sheets.specs.declared.Value.{Value}
use Rattle.sheets.specs.Trees.{Sheet}
use Rattle.sheets.specs.Grammar.{Written, FirstBad}
use Rattle.sheets.specs.Names.{Given}
use Rattle.sheets.specs.Kinds.{kind_of, kind_code}
use Rattle.sheets.specs.Refusals.{Fault, refusal_number, fault}
use Rattle.sheets.specs.Machine.{Ran, done, stopped, stuck, machine, last_state}
use Rattle.sheets.specs.Check.{reading_kinds}
use Rattle.sheets.specs.Admitted.{LinesFit}
use Rattle.sheets.specs.Answers.{sized, ranged, laid, CheckAnswer, RunAnswer, Tells}

-- 01's size, grammar, ellipsoid range, name rule and kind table admit S: it is the sheet c, and its lines from line 2 have these kind codes
pub record Admits (S : List ℕ) (c : Sheet) (codes : List ℕ) : Type 0 where
  pub size : sized S ≡ true
  pub grammar : Written S c
  pub range : ranged c.head ≡ true
  pub names_and_kinds : LinesFit 2 reading_kinds c.lines codes

-- ---- of a run of the machine

abbrev pub Unstuck : Ran → Type 0
Unstuck (done fs s) = Unit {0}
Unstuck (stopped fs r i s) = Unit {0}
Unstuck (stuck fs i s) = ⊥

abbrev pub names_given : Ran → List (Given Value)
names_given r = (last_state r).scope.given

abbrev pub frames_made : Ran → List LocalFrame
frames_made (done fs s) = fs
frames_made (stopped fs r i s) = fs
frames_made (stuck fs i s) = fs

abbrev pub All : {A : Type 0} → (A → Type 0) → List A → Type 0
All P [] = Unit {0}
All P (x ∷ xs) = P x × All P xs

-- it sticks at line j, or refusal 7, 8 or 9 stopped it before
abbrev pub SticksAt : ℕ → Ran → Type 0
SticksAt j (done fs s) = ⊥
SticksAt j (stopped fs r i s) = i ≤ j
SticksAt j (stuck fs i s) = i ≡ j

-- ---- of a frame

abbrev pub FiniteVec3 : Vec3 → Type 0
FiniteVec3 v = T (finite v.x) × T (finite v.y) × T (finite v.z)

abbrev pub FiniteMat33 : Mat33 → Type 0
FiniteMat33 m = FiniteVec3 m.r0 × FiniteVec3 m.r1 × FiniteVec3 m.r2

-- the inverse matrix is the transpose of the direction matrix, bit for bit: rows and columns exchanged, nothing added; if the entries are finite, the zero vector leads from the frame to its origin, and the vector to its origin is zero
pub record FrameHolds (f : LocalFrame) : Type 0 where
  pub inverse : f.inv_rm ≡ exchanged f.dir_rm
  pub out : FiniteVec3 f.origin → FiniteMat33 f.dir_rm → FiniteMat33 f.inv_rm → destination_position f (local_zero f.orientation) ≡ frame_origin f
  pub back : FiniteVec3 f.origin → FiniteMat33 f.dir_rm → FiniteMat33 f.inv_rm → local_vector_to f (frame_origin f) ≡ local_zero f.orientation

-- ---- the claim

-- Of the sheet S and the sixteen readings R. The check, lent `kinds`, answers `checked` and leaves `kinds'`; the run, lent `out`, answers `ran` and leaves `out'`.
pub record Claim (S : List ℕ) (R : List Float) (kinds : List ℕ) (checked : CheckAnswer) (kinds' : List ℕ) (out : List ℕ) (ran : RunAnswer) (out' : List ℕ) : Type 0 where
  -- the check passes S exactly when 01 admits it; it then writes 255 for line 1 and a code for each further line
  pub exactly : (checked.number ≡ 0) ↔ ((c : Sheet) × (codes : List ℕ) × Admits S c codes)
  pub codes_written : (c : Sheet) (codes : List ℕ) → Admits S c codes → kinds' ≡ laid (255 ∷ codes) kinds
  -- then the machine never sticks on S over R
  pub never_sticks : (c : Sheet) (codes : List ℕ) → Admits S c codes → Unstuck (machine c R)
  -- and each name it gives has the kind that the check wrote on that line
  pub names_have_kinds : (c : Sheet) (codes : List ℕ) → Admits S c codes → All (λ g. get_or kinds' (g.line - 1) 0 ≡ kind_code (kind_of g.value)) (names_given (machine c R))
  -- the run then answers exactly the machine's number, line and byte count, and writes exactly its text
  pub run_is_machine : (c : Sheet) (codes : List ℕ) → Admits S c codes → Tells (machine c R) out ran out'
  -- each frame that the machine makes then holds
  pub frames_hold : (c : Sheet) (codes : List ℕ) → Admits S c codes → All FrameHolds (frames_made (machine c R))
  -- the check answers 3 at line j exactly when the size of S is right and line j is the first that breaks the grammar
  pub refused_form : (j : ℕ) → ((checked.number ≡ 3) × (checked.line ≡ j)) ↔ ((sized S ≡ true) × FirstBad S j)
  -- if the check refuses S for a name or a kind, the machine sticks at the line that the check answers, or 7, 8 or 9 stopped it before
  pub refused_sticks : (f : Fault) → checked.number ≡ refusal_number (fault f) → (c : Sheet) × Written S c × SticksAt checked.line (machine c R)
