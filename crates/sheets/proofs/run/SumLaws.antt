-- The sum of the lengths shown: one addition at each. Assumes nothing.
use Prim.Native.Nat.{ℕ}
use mathlib.Core.Path.{◌≡◌, refl}
use mathlib.Core.List.{List, [], ◌∷◌, ◌++◌}
use Rattle.numbers.specs.Ops.{num}
use Rattle.numbers.specs.Lengths.{metres}
use Rattle.numbers.specs.declared.Length.{Length}
use Rattle.sheets.specs.declared.Value.{Value}
use Rattle.sheets.specs.Letters.{𝐥, held}
use Rattle.sheets.specs.Names.{Given}
use Rattle.sheets.specs.Entries.{Entry, shown, summed, plus, sum_from, total}

sum-append : (t : Length) (es ds : List Entry) → sum_from t (es ++ ds) ≡ sum_from (sum_from t es) ds
sum-append t [] ds = refl
sum-append t (shown i g ∷ es) ds = sum-append (plus t (held 𝐥 g.value)) es ds
sum-append t (summed u ∷ es) ds = sum-append t es ds

pub total-show : (es : List Entry) (i : ℕ) (g : Given Value) → total (es ++ (shown i g ∷ [])) ≡ plus (total es) (held 𝐥 g.value)
unfolding total
total-show es i g = sum-append (metres (num 0)) es (shown i g ∷ [])

pub total-total : (es : List Entry) (u : Length) → total (es ++ (summed u ∷ [])) ≡ total es
unfolding total
total-total es u = sum-append (metres (num 0)) es (summed u ∷ [])
