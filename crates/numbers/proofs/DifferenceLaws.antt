-- A difference of two doubles is the same in either order but for its sign, and the norm of a difference of two vectors is the same in either order. Assumes nothing.
use Rattle.std.proofs.Common.{◌≡◌, ℕ, ◌+◌, ◌-◌, ◌*◌, ◌<◌, ◌≤◌, Bool, true, false, cond, not, ◌&&◌, T, ltb, sym, refl, ap, ◌∙◌, mul_comm, arith, ltb→lt, nltb→le}
use mathlib.Core.Bool.{beq}
use lib.Ieee.{Float, nan, inf, fin, binary64, up, down, round, sum, add, sub, mul}
use Rattle.numbers.specs.Ops.{◌⊕◌, ◌⊖◌, ◌⊗◌, num}
use Rattle.numbers.specs.Root.{sqrt}
use Rattle.numbers.specs.Floats.{abs}
use Rattle.numbers.specs.Vec.{norm, vec_sub}
use Rattle.numbers.specs.declared.Vec3.{Vec3}
use Rattle.numbers.proofs.FloatLaws.{zero_f}
use Rattle.numbers.proofs.Bounds.{round-abs}
use Rattle.numbers.proofs.VecLaws.{zero_is}

-- ---- the magnitude of a sum of two fractions: where the signs are unlike it is what lies between the two

abbrev between : ℕ → ℕ → ℕ
between a b = a - b + (b - a)

sum-abs : (s : Bool) (a : ℕ) (t : Bool) (b c : ℕ) → abs (sum binary64 s a t b c) ≡ round binary64 false (cond (beq s t) (a + b) (between a b)) c
unfolding sum
sum-abs s a t b c = go (beq s t) (ltb a b) (ltb→lt a b) (nltb→le a b)
  where
    go : (k l : Bool) → (T l → a < b) → (T (not l) → b ≤ a) → abs (cond k (round binary64 s (a + b) c) (cond l (round binary64 t (b - a) c) (round binary64 (s && ltb b a) (a - b) c))) ≡ round binary64 false (cond k (a + b) (between a b)) c
    go true l p q = sym (round-abs s (a + b) c)
    go false true p q = let h = p tt in sym (round-abs t (b - a) c) ∙ ap (λ (x : ℕ). round binary64 false x c) (omega arith)
    go false false p q = let h = q tt in sym (round-abs (s && ltb b a) (a - b) c) ∙ ap (λ (x : ℕ). round binary64 false x c) (omega arith)

sum-swap : (s : Bool) (a : ℕ) (t : Bool) (b c d : ℕ) → c ≡ d → abs (sum binary64 s a (not t) b c) ≡ abs (sum binary64 t b (not s) a d)
sum-swap s a t b c d e = sum-abs s a (not t) b c ∙ (λ i. round binary64 false (go s t i) (e i)) ∙ sym (sum-abs t b (not s) a d)
  where
    go : (s t : Bool) → cond (beq s (not t)) (a + b) (between a b) ≡ cond (beq t (not s)) (b + a) (between b a)
    go true true = omega arith
    go true false = omega arith
    go false true = omega arith
    go false false = omega arith

-- ---- a difference in either order, `0.0 + x`, and a square, by magnitudes

pub sub-swap : (x y : Float) → abs (x ⊖ y) ≡ abs (y ⊖ x)
unfolding sub abs
sub-swap nan nan = refl
sub-swap nan (inf t) = refl
sub-swap nan (fin t n d) = refl
sub-swap (inf s) nan = refl
sub-swap (inf true) (inf true) = refl
sub-swap (inf true) (inf false) = refl
sub-swap (inf false) (inf true) = refl
sub-swap (inf false) (inf false) = refl
sub-swap (inf s) (fin t n d) = refl
sub-swap (fin s m e) nan = refl
sub-swap (fin s m e) (inf t) = refl
sub-swap (fin s m e) (fin t n d) = sum-swap s (m * up e * down d) t (n * up d * down e) (down e * down d) (down d * down e) (mul_comm (down e) (down d))

new-abs : (x : Float) → abs (zero_f ⊕ x) ≡ abs (zero_f ⊕ abs x)
unfolding add abs
new-abs nan = refl
new-abs (inf s) = refl
new-abs (fin s m e) =
    sum-abs false (0 * down e) s (m * up e * 1) (1 * down e)
    ∙ ap (λ (x : ℕ). round binary64 false x (1 * down e)) (go s)
    ∙ sym (sum-abs false (0 * down e) false (m * up e * 1) (1 * down e))
  where
    go : (s : Bool) → cond (beq false s) (0 * down e + m * up e * 1) (between (0 * down e) (m * up e * 1)) ≡ 0 * down e + m * up e * 1
    go true = omega arith
    go false = refl

square-abs : (x : Float) → x ⊗ x ≡ abs x ⊗ abs x
unfolding mul abs
square-abs nan = refl
square-abs (inf true) = refl
square-abs (inf false) = refl
square-abs (fin true m e) = refl
square-abs (fin false m e) = refl

-- ---- the norm

-- a component of a difference
abbrev part : Float → Float → Float
part x y = num 0 ⊕ (x ⊖ y)

part-swap : (x y : Float) → abs (part x y) ≡ abs (part y x)
part-swap x y = rw zero_is (new-abs (x ⊖ y) ∙ ap (λ (v : Float). abs (zero_f ⊕ v)) (sub-swap x y) ∙ sym (new-abs (y ⊖ x)))

part-square : (x y : Float) → part x y ⊗ part x y ≡ part y x ⊗ part y x
part-square x y = square-abs (part x y) ∙ ap (λ (v : Float). v ⊗ v) (part-swap x y) ∙ sym (square-abs (part y x))

pub norm-difference : (a b : Vec3) → norm (vec_sub a b) ≡ norm (vec_sub b a)
norm-difference a b = λ i. sqrt (part-square a.x b.x i ⊕ part-square a.y b.y i ⊕ part-square a.z b.z i)
