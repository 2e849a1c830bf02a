-- Values as floats on a list: kinds by a number; floats stored in parts. Assumes nothing.
use Prim.Native.Nat.{ℕ, zero, suc, ◌+◌, ◌-◌, ◌≤◌}
use native.Mathlib.Omega.{arith}
use mathlib.Core.Path.{◌≡◌, refl, sym, ap, ◌∙◌}
use mathlib.Core.Logic.{inl, inr}
use mathlib.Core.List.{List, [], ◌∷◌, ◌++◌}
use lib.ListN.{length, get_or}
use lib.Ieee.{Float}
use types.Run.{OneOf}
use Rattle.frames.specs.declared.Orientation.{Orientation}
use Rattle.frames.specs.declared.Orientation.TheVariants.{Enu, Ned, Body, Wan}
use Rattle.sheets.specs.Kinds.{Kind, vector, frame}
use Rattle.sheets.specs.Limits.{all_near, in_limit}
use Rattle.sheets.specs.code.rows.KindCodes.{kind_at}
use Rattle.sheets.specs.code.run.Floats.{float_at, value_at, lay}
use Rattle.sheets.proofs.run.FloatLaws.{lay-append}

-- ---- kinds by a number

-- none of the numbers below k
abbrev pub Beyond : ℕ → ℕ → Type 0
Beyond zero n = Unit {0}
Beyond (suc k) n = Beyond k n × (n ≡ k → ⊥)

pub beyond-le : (k n : ℕ) → Beyond k n → k ≤ n
beyond-le zero n b = omega arith
beyond-le (suc k) n b =
    let l : k ≤ n = beyond-le k n b.0 in
    let d : (n ≡ k → ⊥) = b.1 in
    omega arith

last_or : (k : Kind) (n : ℕ) → get_or (k ∷ []) n k ≡ k
last_or k zero = refl
last_or k (suc n) = refl

pub last-kind : (n : ℕ) → Beyond 12 n → kind_at n ≡ frame Wan
last-kind n b =
    let l : 12 ≤ n = beyond-le 12 n b in
    let e : n ≡ suc (suc (suc (suc (suc (suc (suc (suc (suc (suc (suc (suc (n - 12)))))))))))) = omega arith in
    ap kind_at e ∙ last_or (frame Wan) (n - 12)

-- the limit of a geocentric position, a vector and a frame
abbrev OfThree : Kind → Type 0
OfThree k = (f : List Float) (i : ℕ) → in_limit (value_at k f i) ≡ all_near (float_at f i) (float_at f (i + 1)) (float_at f (i + 2))

of-vector : (o : Orientation) → OfThree (vector o)
unfolding in_limit value_at
of-vector o f i = refl

of-frame : (o : Orientation) → OfThree (frame o)
unfolding in_limit value_at
of-frame o f i = refl

abbrev EachOfThree : List Kind → Type 0
EachOfThree [] = Unit {0}
EachOfThree (k ∷ ks) = OfThree k × EachOfThree ks

of-each : (ks : List Kind) → EachOfThree ks → (d : Kind) → OfThree d → (n : ℕ) → OfThree (get_or ks n d)
of-each [] t d e n = e
of-each (k ∷ ks) t d e zero = t.0
of-each (k ∷ ks) t d e (suc n) = of-each ks t.1 d e n

-- the kinds from code 5 on
abbrev later-kinds : List Kind
later-kinds = vector Enu ∷ vector Ned ∷ vector Body ∷ vector Wan ∷ frame Enu ∷ frame Ned ∷ frame Body ∷ frame Wan ∷ []

pub three-limit : (n : ℕ) → (OneOf (0 ∷ 2 ∷ []) n → ⊥) → (n ≡ 1 → ⊥) → (n ≡ 4 → ⊥) → OfThree (kind_at n)
unfolding in_limit value_at
three-limit zero a b d f i = absurd (a (inl refl))
three-limit (suc zero) a b d f i = absurd (b refl)
three-limit (suc (suc zero)) a b d f i = absurd (a (inr refl))
three-limit (suc (suc (suc zero))) a b d f i = refl
three-limit (suc (suc (suc (suc zero)))) a b d f i = absurd (d refl)
three-limit (suc (suc (suc (suc (suc n))))) a b d f i = of-each later-kinds (of-vector Enu, (of-vector Ned, (of-vector Body, (of-vector Wan, (of-frame Enu, (of-frame Ned, (of-frame Body, (of-frame Wan, tt)))))))) (frame Wan) (of-frame Wan) n f i

-- ---- floats stored in parts

pub laid_then : (f xs ys : List Float) (i j : ℕ) {g h : List Float} → g ≡ lay f i xs → j ≡ i + length xs → h ≡ lay g j ys → h ≡ lay f i (xs ++ ys)
laid_then f xs ys i j a e b = rw (b, a, e) (sym (lay-append xs ys f i))
