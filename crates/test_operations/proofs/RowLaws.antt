-- What a `match` on an operation's number has left of a table in its last arm. Assumes nothing.
use Prim.Native.Nat.{ℕ, zero, suc}
use mathlib.Core.Path.{◌≡◌, refl, ◌∙◌}
use mathlib.Core.List.{List, [], ◌∷◌}
use lib.ListN.{drop}
use borrow.Author.Tests.{ne_eqb}
use Rattle.test_operations.specs.Rows.{Row, answered}

-- P, and the number is none of the first n rows'
abbrev pub Missed : ℕ → List Row → ℕ → Type 0 → Type 0
Missed zero rs op P = P
Missed (suc n) [] op P = P
Missed (suc n) (r ∷ rs) op P = Missed n rs op (P × (op ≡ r.op → ⊥))

miss : (r : Row) (rs : List Row) (op : ℕ) (a : List ℕ) → (op ≡ r.op → ⊥) → answered (r ∷ rs) op a ≡ answered rs op a
unfolding answered
miss r rs op a h = rw (ne_eqb op r.op h) refl

-- so the rows after them answer
pub skipped : (n : ℕ) (rs : List Row) (op : ℕ) (a : List ℕ) {P : Type 0} → Missed n rs op P → (answered rs op a ≡ answered (drop n rs) op a) × P
skipped zero rs op a m = (refl, m)
skipped (suc n) [] op a m = (refl, m)
skipped (suc n) (r ∷ rs) op a m =
    let h = skipped n rs op a m in
    (miss r rs op a h.1.1 ∙ h.0, h.1.0)
