-- What the evaluator answers, by what the machine comes to.
-- No part of what must be believed: the run's answer is said by the machine.
use Rattle.std.specs.Prelude.{ℕ, ◌+◌, ◌/◌, ◌≡◌, List, [], ◌∷◌, ◌++◌, eqb, ltb, length, Float, Result, Ok, Err}
use mir.Val.{has_key}
use Rattle.frames.specs.declared.Ellipsoid.{Ellipsoid}
use Rattle.frames.specs.declared.Orientation.{Orientation}
use Rattle.frames.specs.declared.Orientation.TheVariants.{Enu, Ned, Body, Wan}
use Rattle.sheets.specs.declared.Value.{Value}
use Rattle.sheets.specs.declared.Unapplied.{Unapplied}
use Rattle.sheets.specs.declared.Unapplied.TheVariants.{NoRow, Centre}
use Rattle.sheets.specs.declared.rows.args.Axis.{Axis}
use Rattle.sheets.specs.declared.refusals.Refusal.{Refusal as Code}
use Rattle.sheets.specs.declared.Halt.{Halt}
use Rattle.sheets.specs.Text.{Word}
use Rattle.sheets.specs.Trees.{Expr, Exprs}
use Rattle.sheets.specs.Grammar.{IsWord}
use Rattle.sheets.specs.Kinds.{Kind, kind_of, kind_code, place}
use Rattle.sheets.specs.Limits.{in_limit}
use Rattle.sheets.specs.Table.{when, table}
use Rattle.sheets.specs.Lookup.{find}
use Rattle.sheets.specs.Names.{Known, lookup}
use Rattle.sheets.specs.Refusals.{centre, stop}
use Rattle.sheets.specs.Machine.{Out, goes, stops, sticks, then, meet, result, apply_row, eval, evals}
use Rattle.sheets.specs.code.Refusals.{code_for}
use Rattle.sheets.specs.code.reader.Codes.{code_of}
use Rattle.sheets.specs.code.reader.Reader.{got, read_args, read_leaf, read_expr}
use Rattle.sheets.specs.code.rows.Applied.{vector_word, aer_word, axis_word}
use Rattle.sheets.specs.code.rows.KindCodes.{kind_at, key_of, Missed}
use Rattle.sheets.specs.code.run.Floats.{value_at, values_at, Lies, KeptBelow}
use Rattle.sheets.specs.code.run.Known.{Ready}
use Rattle.sheets.specs.declared.check.names.Names.{Names}

-- a kind's code, or why the machine halts
abbrev pub Evaluated : Type 0
Evaluated = Result ℕ Halt

-- the code of the value's kind, or the refusal that stops the machine
unfoldable pub evaluated : Out Value → Evaluated
evaluated (goes fs x) = Ok (kind_code (kind_of x))
evaluated (stops fs r) = Err (Halt.Refused (code_for (stop r)))
evaluated (sticks fs) = Err Halt.Sticks

-- the value, where there is one, lies at a place
unfoldable pub LiesOf : Out Value → List Float → ℕ → Type 0
LiesOf (goes fs x) f at = Lies f at x
LiesOf (stops fs r) f at = Unit {0}
LiesOf (sticks fs) f at = Unit {0}

-- r answers what the machine comes to, and the value lies at `top`, where f was and f' is now
pub record Answers (o : Out Value) (top : ℕ) (f : List Float) (r : Evaluated) (f' : List Float) : Type 0 where
  pub is : r ≡ evaluated o
  pub lies : LiesOf o f' top
  pub kept : KeptBelow f top f'

-- the same, where what was read ends at n and m is the place after the call: where there is a value, m is n
pub record AnswersTo (o : Out Value) (n top : ℕ) (f : List Float) (r : Evaluated) (m : ℕ) (f' : List Float) : Type 0 where
  pub answers : Answers o top f r f'
  pub ends : (k : ℕ) → r ≡ Ok k → m ≡ n

-- the test of refusal 7
abbrev pub tested_at : ℕ → List Float → ℕ → Evaluated
tested_at k f at = when (in_limit (value_at (kind_at k) f at)) (Ok k) (Err (Halt.Refused Code.Limit))

-- ---- a row

-- what the machine's step comes to by a row's answer
abbrev pub out_of : Result Value Unapplied → Out Value
out_of (Ok x) = result x
out_of (Err NoRow) = sticks []
out_of (Err Centre) = stops [] centre

-- where there is no value: the machine sticks, or refusal 8 stops it
abbrev pub unapplied : Unapplied → Halt
unapplied NoRow = Halt.Sticks
unapplied Centre = Halt.Refused (code_for (stop centre))

-- q answers a row's answer
pub record LaidAs (r : Result Value Unapplied) (f : List Float) (at : ℕ) (q : Evaluated) (f' : List Float) : Type 0 where
  pub is : length f ≡ 2940 → Answers (out_of r) at f q f'

-- q answers the row for the word with this code over values of these kinds that lie at a place
pub record RowLaid (e : Ellipsoid) (code : ℕ) (ks : List Kind) (f : List Float) (at : ℕ) (q : Evaluated) (f' : List Float) : Type 0 where
  pub is : length f ≡ 2940 → (w : Word) → IsWord w → code ≡ code_of w → Answers (apply_row e (find table w (values_at ks f at))) at f q f'

-- q answers the row over values of the kinds that made the key
pub record ForKinds (e : Ellipsoid) (code key : ℕ) (f : List Float) (at : ℕ) (q : Evaluated) (f' : List Float) : Type 0 where
  pub is : (ks : List Kind) → key_of ks ≡ key → RowLaid e code ks f at q f'

-- the same, for a key that is none of these
pub record ForKindsBeyond (keys : List ℕ) (e : Ellipsoid) (code key : ℕ) (f : List Float) (at : ℕ) (q : Evaluated) (f' : List Float) : Type 0 where
  pub is : Missed keys key → ForKinds e code key f at q f'

-- the keys of the rows that take no vector and no frame, in the order of the code's arms, the last first
unfoldable pub plain_keys : List ℕ
plain_keys = 0x552 ∷ 0x442 ∷ 0x2225 ∷ 0x2224 ∷ 0x25 ∷ 0x24 ∷ 0x5 ∷ 0x4 ∷ 0x223 ∷ 0x333 ∷ 0x1 ∷ []

-- the orientation among whose numbers this one is, or the last
abbrev orientation_having : (Orientation → List ℕ) → ℕ → Orientation
orientation_having ns n = when (has_key (ns Enu) n) Enu (when (has_key (ns Ned) n) Ned (when (has_key (ns Body) n) Body Wan))

-- by the digit, in a key, of a vector's or a frame's kind
unfoldable pub orientation_at : ℕ → Orientation
orientation_at = orientation_having (λ o. (6 + place o) ∷ (10 + place o) ∷ [])

-- by a key's first digit, of one, two or five
unfoldable pub orientation_by : ℕ → Orientation
orientation_by k = when (ltb k 0x10) (orientation_at k) (when (ltb k 0x100) (orientation_at (k / 0x10)) (orientation_at (k / 0x10000)))

-- by the code of a word that makes a vector
unfoldable pub orientation_in : ℕ → Orientation
orientation_in = orientation_having (λ o. code_of (aer_word o) ∷ code_of (vector_word o) ∷ [])

-- the axis by the code of a word for an angle of a frame
unfoldable pub axis_in : ℕ → Axis
axis_in c = when (eqb (code_of (axis_word Axis.Z)) c) Axis.Z (when (eqb (code_of (axis_word Axis.Y)) c) Axis.Y Axis.X)

-- ---- expressions

-- r answers the expression that the reader reads at a place, and m is the place after the call
pub record Evals (s : List ℕ) (at depth : ℕ) (e : Ellipsoid) (ps : Known Value) (f : List Float) (top : ℕ) (r : Evaluated) (m : ℕ) (f' : List Float) : Type 0 where
  pub is : (x : Expr) (n : ℕ) → read_expr depth s at ≡ got x n → AnswersTo (eval x e ps) n top f r m f'

-- r answers a bracket from a place on, and m is the place after the call: its arguments there, at most `left`, after the values vs, and then the row for w
pub record Bracket (s : List ℕ) (at depth left : ℕ) (e : Ellipsoid) (w : Word) (ps : Known Value) (vs : List Value) (f : List Float) (top : ℕ) (r : Evaluated) (m : ℕ) (f' : List Float) : Type 0 where
  pub is : (xs : Exprs) (n : ℕ) → read_args (read_expr depth s) left s at ≡ got xs n → AnswersTo (then (evals xs e ps) (λ us. apply_row e (find table w (vs ++ us)))) n top f r m f'

-- ---- over what is lent: for the known words that it stands for

pub record EvalsWith (s : List ℕ) (at depth : ℕ) (e : Ellipsoid) (names : Names) (f : List Float) (top : ℕ) (r : Evaluated) (m : ℕ) (f' : List Float) : Type 0 where
  pub is : (ps : Known Value) → Ready ps names f top → Evals s at depth e ps f top r m f'

-- a known word
pub record KnownWith (code : ℕ) (names : Names) (f : List Float) (top : ℕ) (r : Evaluated) (f' : List Float) : Type 0 where
  pub is : (ps : Known Value) → Ready ps names f top → (w : Word) → IsWord w → code ≡ code_of w → Answers (meet (lookup w ps)) top f r f'

-- a word or a NUM
pub record LeafWith (s : List ℕ) (at : ℕ) (names : Names) (f : List Float) (top : ℕ) (r : Evaluated) (m : ℕ) (f' : List Float) : Type 0 where
  pub is : (ps : Known Value) → Ready ps names f top → (e : Ellipsoid) (x : Expr) (n : ℕ) → read_leaf s at ≡ got x n → AnswersTo (eval x e ps) n top f r m f'

-- a bracket whose word has this code, after values of the kinds that made the key
pub record BracketWith (s : List ℕ) (at depth left : ℕ) (e : Ellipsoid) (code : ℕ) (names : Names) (key : ℕ) (f : List Float) (top : ℕ) (r : Evaluated) (m : ℕ) (f' : List Float) : Type 0 where
  pub is : (ps : Known Value) → Ready ps names f top → (ks : List Kind) → key_of ks ≡ key → length ks + left ≡ 5 → (w : Word) → IsWord w → code ≡ code_of w → Bracket s at depth left e w ps (values_at ks f top) f top r m f'
