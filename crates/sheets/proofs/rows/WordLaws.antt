-- The operators' words are words, and a code that was met is none of those missed. Assumes nothing.
use Prim.Native.Nat.{ℕ}
use mathlib.Core.Path.{◌≡◌, refl, sym}
use mathlib.Core.Bool.{Bool, true, false, ◌&&◌, ◌||◌}
use mathlib.Core.List.{List, [], ◌∷◌}
use mathlib.Core.Logic.{◌⊎◌, inl}
use lib.Dec.{T, leb, leb→le, eqb}
use lib.ListN.{length}
use mir.Facts.{and_yes}
use mir.Val.{has_key}
use borrow.Author.Tests.{eqb-true}
use Rattle.sheets.specs.Text.{Word}
use Rattle.sheets.specs.Grammar.{Letter, Digit, Each, IsWord}
use Rattle.sheets.specs.code.rows.KindCodes.{Missed}

-- ---- the operators' words are words: letters throughout

abbrev is_letter : ℕ → Bool
is_letter b = leb 97 b && leb b 122

abbrev are_letters : Word → Bool
are_letters [] = true
are_letters (b ∷ w) = is_letter b && are_letters w

abbrev pub spelt : Word → Bool
spelt [] = false
spelt (b ∷ w) = is_letter b && (are_letters w && leb (length w) 11)

letter-is : (b : ℕ) → T (is_letter b) → Letter b
letter-is b t =
    let h = and_yes (leb 97 b) (leb b 122) t in
    (leb→le 97 b h.0, leb→le b 122 h.1)

letters-are : (w : Word) → T (are_letters w) → Each (λ b. Letter b ⊎ Digit b) w
letters-are [] t = tt
letters-are (b ∷ w) t =
    let h = and_yes (is_letter b) (are_letters w) t in
    (inl (letter-is b h.0), letters-are w h.1)

pub spelt_is : (w : Word) → T (spelt w) → IsWord w
spelt_is [] t = absurd t
spelt_is (b ∷ w) t =
    let h = and_yes (is_letter b) (are_letters w && leb (length w) 11) t in
    let j = and_yes (are_letters w) (leb (length w) 11) h.1 in
    (letter-is b h.0, letters-are w j.0, leb→le (length w) 11 j.1)

-- ---- none of the codes

pub missed-none : (ks : List ℕ) (x : ℕ) → T (has_key ks x) → Missed ks x → ⊥
missed-none [] x t m = t
missed-none (k ∷ ks) x t m = go (eqb k x) refl t (λ u. missed-none ks x u m.0)
  where
    go : (b : Bool) → eqb k x ≡ b → T (b || has_key ks x) → (T (has_key ks x) → ⊥) → ⊥
    go true h u n = m.1 (sym (eqb-true k x h))
    go false h u n = n u
