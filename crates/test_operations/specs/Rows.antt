-- A table of operations by their numbers.
use Rattle.std.specs.Prelude.{ℕ, List, [], ◌∷◌, eqb}
use Rattle.numbers.specs.Ops.{pick}

-- an operation's number, and the words that it answers to the words that it is given
pub record Row : Type 0 where
  pub op : ℕ
  pub answer : List ℕ → List ℕ

infix 5 ◌⟼◌
abbrev pub ◌⟼◌ : ℕ → (List ℕ → List ℕ) → Row
n ⟼ f = record { op = n; answer = f }

-- the answer of the first row with the number; no word where there is none
unfoldable pub answered : List Row → ℕ → List ℕ → List ℕ
answered [] op a = []
answered (r ∷ rs) op a = pick (eqb op r.op) (r.answer a) (answered rs op a)
