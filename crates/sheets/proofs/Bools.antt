-- Tests put together, and turned round. Assumes nothing.
use mathlib.Core.Path.{◌≡◌, refl, sym}
use mathlib.Core.Logic.{◌⊎◌, inl, inr}
use mathlib.Core.Bool.{Bool, true, false, not, ◌&&◌, false≢true}

pub and_both : (a b : Bool) → (a && b) ≡ true → (a ≡ true) × (b ≡ true)
and_both true b e = (refl, e)
and_both false b e = absurd (false≢true e)

pub and-some : (a b : Bool) → (a && b) ≡ false → (a ≡ false) ⊎ (b ≡ false)
and-some true b e = inr e
and-some false b e = inl refl

pub not-once : (a b : Bool) → not a ≡ b → a ≡ not b
not-once true true e = sym e
not-once true false e = refl
not-once false true e = refl
not-once false false e = sym e
