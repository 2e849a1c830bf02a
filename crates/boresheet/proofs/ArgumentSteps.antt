-- std's equality of slices is the specification's of words. Assumes nothing.
use Rattle.std.proofs.Common.{ℕ, ◌≡◌, List, [], ◌∷◌, eqb, ap, refl}
use Rattle.std.specs.Cmp.Lexicographic.{pointwise}
use mathlib.Core.Bool.{◌&&◌}
use Rattle.sheets.specs.Lookup.{same_word}

pub pointwise_same : (a b : List ℕ) → pointwise eqb a b ≡ same_word a b
pointwise_same [] [] = refl
pointwise_same [] (y ∷ b) = refl
pointwise_same (x ∷ a) [] = refl
pointwise_same (x ∷ a) (y ∷ b) = ap (λ t. eqb x y && t) (pointwise_same a b)
