-- Being one of two lists put together. Assumes nothing.
use mathlib.Core.Logic.{◌⊎◌, inl, inr}
use mathlib.Core.List.{List, [], ◌∷◌, ◌++◌}
use Rattle.sheets.specs.Admitted.{In}

module _ {A : Type 0} (x : A) where
  pub in_left : (xs ys : List A) → In x xs → In x (xs ++ ys)
  in_left (y ∷ xs) ys (inl e) = inl e
  in_left (y ∷ xs) ys (inr i) = inr (in_left xs ys i)
  in_left [] ys x'' = elim x'' [ ]

  pub in_right : (xs ys : List A) → In x ys → In x (xs ++ ys)
  in_right [] ys i = i
  in_right (y ∷ xs) ys i = inr (in_right xs ys i)

  pub in_either : (xs ys : List A) → In x (xs ++ ys) → In x xs ⊎ In x ys
  in_either [] ys i = inr i
  in_either (y ∷ xs) ys (inl e) = inl (inl e)
  in_either (y ∷ xs) ys (inr i) = elim (in_either xs ys i) [
    | inl j ↦ inl (inr j)
    | inr j ↦ inr j
  ]
