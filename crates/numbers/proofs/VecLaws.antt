-- What `Vec3::new` leaves unchanged (`Settled`), which definitions give only such vectors, that such a value is no minus zero, the transpose of a matrix of such values, and a vector of zeros times a matrix of finite entries. Assumes nothing.
use Rattle.std.proofs.Common.{◌≡◌, Bool, true, false, ◌&&◌, T, sym, refl, ap, ◌∙◌, subst}
use lib.Ieee as Ieee
use lib.Ieee.{Float, binary64, fits}
use lib.Ieee.Fits.{add-fits, sub-fits, mul-fits}
use lib.Ieee.Scale.{finite}
use Rattle.numbers.specs.Ops.{◌⊕◌, ◌⊖◌, ◌⊗◌, ◌⊘◌, decimal, num, pick}
use Rattle.numbers.specs.Root.{sqrt}
use Rattle.numbers.specs.Vec.{raw, vec, dot_prod, zero_vec, unit_z, neg_unit_z, unit_by, new_unit, cross_prod, cross_prod_unit, stable_cross_prod_unit, orthogonal, orthogonal_to, vec_eq, vec_add, vec_mul}
use Rattle.numbers.specs.Mat.{mat, exchanged, transpose, vec_mul_mat, mat_mul}
use Rattle.numbers.specs.declared.Vec3.{Vec3}
use Rattle.numbers.specs.declared.Mat33.{Mat33}
use Rattle.numbers.proofs.FloatLaws.{zero_f, add-zeros, add-zero-right, new-twice, new-plain, sub-self-zero, zero-times, plain}

pub zero_is : num 0 ≡ zero_f
unfolding decimal
zero_is = refl

-- ---- what `Vec3::new` leaves unchanged

abbrev pub Settled : Float → Type 0
Settled x = num 0 ⊕ x ≡ x

pub settled-new : (x : Float) → T (fits binary64 x) → Settled (num 0 ⊕ x)
settled-new x t = subst (λ (z : Float). z ⊕ (z ⊕ x) ≡ z ⊕ x) (sym zero_is) (new-twice binary64 x t)

pub record SettledVec (v : Vec3) : Type 0 where
  pub on_x : Settled v.x
  pub on_y : Settled v.y
  pub on_z : Settled v.z

pub record SettledMat (m : Mat33) : Type 0 where
  pub on_r0 : SettledVec m.r0
  pub on_r1 : SettledVec m.r1
  pub on_r2 : SettledVec m.r2

pub vec-settled : (x y z : Float) → T (fits binary64 x) → T (fits binary64 y) → T (fits binary64 z) → SettledVec (vec x y z)
vec-settled x y z p q r = record { on_x = settled-new x p; on_y = settled-new y q; on_z = settled-new z r }

pub zero_vec-settled : SettledVec zero_vec
unfolding Ieee.add Ieee.neg decimal
zero_vec-settled = record { on_x = refl; on_y = refl; on_z = refl }

pub unit_z-settled : SettledVec unit_z
unfolding Ieee.add Ieee.neg decimal
unit_z-settled = record { on_x = refl; on_y = refl; on_z = refl }

pub neg_unit_z-settled : SettledVec neg_unit_z
unfolding Ieee.add Ieee.neg decimal
neg_unit_z-settled = record { on_x = refl; on_y = refl; on_z = refl }

-- what holds of both holds of the one picked
pub picked : {A : Type 0} (P : A → Type 0) (b : Bool) (v w : A) → P v → P w → P (pick b v w)
picked P true v w p q = p
picked P false v w p q = q

pub new_unit-settled : (x y z : Float) → SettledVec (new_unit x y z)
unfolding new_unit unit_by
new_unit-settled x y z =
    let n = sqrt (x ⊗ x ⊕ y ⊗ y ⊕ z ⊗ z) in
    picked SettledVec (Ieee.eq n (num 0)) zero_vec (vec (num 1 ⊘ n ⊗ x) (num 1 ⊘ n ⊗ y) (num 1 ⊘ n ⊗ z)) zero_vec-settled
    (vec-settled (num 1 ⊘ n ⊗ x) (num 1 ⊘ n ⊗ y) (num 1 ⊘ n ⊗ z) (mul-fits binary64 (num 1 ⊘ n) x) (mul-fits binary64 (num 1 ⊘ n) y) (mul-fits binary64 (num 1 ⊘ n) z))

pub cross-settled : (a b : Vec3) → SettledVec (cross_prod a b)
unfolding cross_prod
cross-settled a b =
    vec-settled (a.y ⊗ b.z ⊖ a.z ⊗ b.y) (a.z ⊗ b.x ⊖ a.x ⊗ b.z) (a.x ⊗ b.y ⊖ a.y ⊗ b.x)
    (sub-fits binary64 (a.y ⊗ b.z) (a.z ⊗ b.y)) (sub-fits binary64 (a.z ⊗ b.x) (a.x ⊗ b.z)) (sub-fits binary64 (a.x ⊗ b.y) (a.y ⊗ b.x))

pub cross_unit-settled : (a b : Vec3) → SettledVec (cross_prod_unit a b)
unfolding cross_prod_unit
cross_unit-settled a b = new_unit-settled (a.y ⊗ b.z ⊖ a.z ⊗ b.y) (a.z ⊗ b.x ⊖ a.x ⊗ b.z) (a.x ⊗ b.y ⊖ a.y ⊗ b.x)

pub stable-settled : (a b : Vec3) → SettledVec (stable_cross_prod_unit a b)
unfolding stable_cross_prod_unit
stable-settled a b = new_unit-settled _ _ _

pub orthogonal-settled : (a : Vec3) → SettledVec (orthogonal a)
unfolding orthogonal
orthogonal-settled a = cross_unit-settled a _

pub orthogonal_to-settled : (a b : Vec3) → SettledVec (orthogonal_to a b)
unfolding orthogonal_to
orthogonal_to-settled a b = picked SettledVec (vec_eq (stable_cross_prod_unit a b) zero_vec) (orthogonal a) (stable_cross_prod_unit a b) (orthogonal-settled a) (stable-settled a b)

pub scale-settled : (a : Vec3) (k : Float) → SettledVec (vec_mul a k)
scale-settled a k = vec-settled (a.x ⊗ k) (a.y ⊗ k) (a.z ⊗ k) (mul-fits binary64 a.x k) (mul-fits binary64 a.y k) (mul-fits binary64 a.z k)

pub add-settled : (a b : Vec3) → SettledVec (vec_add a b)
add-settled a b = vec-settled (a.x ⊕ b.x) (a.y ⊕ b.y) (a.z ⊕ b.z) (add-fits binary64 a.x b.x) (add-fits binary64 a.y b.y) (add-fits binary64 a.z b.z)

pub vec_mul_mat-settled : (v : Vec3) (m : Mat33) → SettledVec (vec_mul_mat v m)
unfolding vec_mul_mat
vec_mul_mat-settled v m = vec-settled (dot_prod v m.r0) (dot_prod v m.r1) (dot_prod v m.r2) (add-fits binary64 _ _) (add-fits binary64 _ _) (add-fits binary64 _ _)

pub mat_mul-settled : (a b : Mat33) → SettledMat (mat_mul a b)
unfolding mat_mul
mat_mul-settled a b = record { on_r0 = vec_mul_mat-settled a.r0 (transpose b); on_r1 = vec_mul_mat-settled a.r1 (transpose b); on_r2 = vec_mul_mat-settled a.r2 (transpose b) }

-- ---- the transpose of a settled matrix

new-same : (x y z : Float) → Settled x → Settled y → Settled z → vec x y z ≡ raw x y z
new-same x y z p q r = λ i. raw (p i) (q i) (r i)

pub transpose-exchanged : (m : Mat33) → SettledMat m → transpose m ≡ exchanged m
unfolding transpose
transpose-exchanged m s =
    λ i. mat
    (new-same m.r0.x m.r1.x m.r2.x s.on_r0.on_x s.on_r1.on_x s.on_r2.on_x i)
    (new-same m.r0.y m.r1.y m.r2.y s.on_r0.on_y s.on_r1.on_y s.on_r2.on_y i)
    (new-same m.r0.z m.r1.z m.r2.z s.on_r0.on_z s.on_r1.on_z s.on_r2.on_z i)

pub exchanged-settled : (m : Mat33) → SettledMat m → SettledMat (exchanged m)
exchanged-settled m s = record {
  on_r0 = record { on_x = s.on_r0.on_x; on_y = s.on_r1.on_x; on_z = s.on_r2.on_x };
  on_r1 = record { on_x = s.on_r0.on_y; on_y = s.on_r1.on_y; on_z = s.on_r2.on_y };
  on_r2 = record { on_x = s.on_r0.on_z; on_y = s.on_r1.on_z; on_z = s.on_r2.on_z };
}

-- ---- zeros

pub record FiniteVec (v : Vec3) : Type 0 where
  pub fin_x : T (finite v.x)
  pub fin_y : T (finite v.y)
  pub fin_z : T (finite v.z)

pub record FiniteMat (m : Mat33) : Type 0 where
  pub fin_r0 : FiniteVec m.r0
  pub fin_r1 : FiniteVec m.r1
  pub fin_r2 : FiniteVec m.r2

-- 0.0 + the dot product of the zero vector and a finite one is 0.0
dot-zero : (v : Vec3) → FiniteVec v → num 0 ⊕ dot_prod zero_vec v ≡ num 0
dot-zero v h =
    let a = zero-times binary64 v.x h.fin_x in
    let b = zero-times binary64 v.y h.fin_y in
    let c = zero-times binary64 v.z h.fin_z in
    rw zero_is (rw (a.1, b.1, c.1, add-zeros binary64 a.0 b.0, add-zeros binary64 (a.0 && b.0) c.0) (add-zeros binary64 false (a.0 && b.0 && c.0)))

pub vec_mul_mat-zero : (m : Mat33) → FiniteMat m → vec_mul_mat zero_vec m ≡ zero_vec
unfolding vec_mul_mat
vec_mul_mat-zero m h = λ i. raw (dot-zero m.r0 h.fin_r0 i) (dot-zero m.r1 h.fin_r1 i) (dot-zero m.r2 h.fin_r2 i)

-- ---- zero on the right of a settled value, and a settled finite value less itself

pub settled-fits : (x : Float) → Settled x → T (fits binary64 x)
settled-fits x s = subst (λ (y : Float). T (fits binary64 y)) s (add-fits binary64 (num 0) x)

settled_plain : (x : Float) → Settled x → T (plain x)
settled_plain x s = subst (λ (y : Float). T (plain y)) s (rw zero_is (new-plain binary64 x (settled-fits x s)))

pub settled-right : (x : Float) → Settled x → x ⊕ num 0 ≡ x
settled-right x s = rw zero_is (add-zero-right binary64 x (settled-fits x s) (settled_plain x s))

-- 0.0 + (x + 0.0)
pub settled-sum : (x : Float) → Settled x → num 0 ⊕ (x ⊕ num 0) ≡ x
settled-sum x s = ap (λ (y : Float). num 0 ⊕ y) (settled-right x s) ∙ s

pub zero-sum : num 0 ⊕ num 0 ≡ num 0
unfolding Ieee.add Ieee.neg decimal
zero-sum = refl

-- 0.0 + ((0.0 + x) - x)
pub settled-difference : (x : Float) → Settled x → T (finite x) → num 0 ⊕ ((num 0 ⊕ x) ⊖ x) ≡ num 0
settled-difference x s t =
    ap (λ (y : Float). num 0 ⊕ (y ⊖ x)) s ∙ ap (λ (y : Float). num 0 ⊕ y) (sub-self-zero binary64 x t ∙ sym zero_is) ∙ zero-sum

-- ---- a settled value is no minus zero

abbrev NotMinusZero : Float → Type 0
NotMinusZero x = x ≡ Ieee.neg (num 0) → ⊥

abbrev NoneMinusZero : Vec3 → Type 0
NoneMinusZero v = NotMinusZero v.x × NotMinusZero v.y × NotMinusZero v.z

-- no entry is a minus zero
abbrev pub NoMinusZeros : Mat33 → Type 0
NoMinusZeros m = NoneMinusZero m.r0 × NoneMinusZero m.r1 × NoneMinusZero m.r2

settled-entry : (x : Float) → Settled x → NotMinusZero x
unfolding Ieee.neg decimal
settled-entry x s e = subst (λ (y : Float). T (plain y)) e (settled_plain x s)

settled-row : (v : Vec3) → SettledVec v → NoneMinusZero v
settled-row v s = (settled-entry v.x s.on_x, settled-entry v.y s.on_y, settled-entry v.z s.on_z)

pub settled-mat : (m : Mat33) → SettledMat m → NoMinusZeros m
settled-mat m s = (settled-row m.r0 s.on_r0, settled-row m.r1 s.on_r1, settled-row m.r2 s.on_r2)
