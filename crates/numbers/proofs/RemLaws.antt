-- What `rem` answers in each of its cases. Assumes nothing.
use Rattle.std.proofs.Common.{◌≡◌, ℕ, zero, suc, ◌+◌, ◌-◌, ◌*◌, ◌/◌, ◌%◌, ◌^◌, ◌<◌, ◌≤◌, Bool, true, false, cond, T, eqb, pos, sym, refl, ap, ◌∙◌, subst, ap₂, inl, inr, mod-lt, mul_assoc, mul-pos, one-mul, arith, le→leb, leb→le, pow_pos, pow-add}
use lib.Ieee.{Float, nan, inf, fin, binary64, up, down, unlike, round, of_fields, of_bits, to_bits, of_int, fits, rem, mul}
use lib.Ieee.Fits.{up_pos, down_pos, eq→eqb}
use lib.Ieee.Exact.{HasValue}
use lib.Ieee.Bits.{of_bits-to_bits, to_bits-lt, is_true}
use Rattle.numbers.proofs.Isqrt.{below_or_not}
use Rattle.numbers.specs.code.Units.{units_of, Parted, UnitBits}
use Rattle.numbers.proofs.Modulo.{mod-scale}
use Rattle.numbers.proofs.Values.{sign_of, value, subnormal, units_mono, units-pos, smaller-parts, rem-at, mul_at}
use Rattle.numbers.proofs.NoNan.{nan-bits}
use Rattle.numbers.proofs.SignLaws.{as_fields}
use Rattle.numbers.proofs.FloatLaws.{rem-inf, rem-fin}
use Rattle.numbers.proofs.WholeLaw.{same_test, whole_val}

-- the bits of x without their sign
abbrev pub size : Float → ℕ
size x = to_bits binary64 x % 9223372036854775808

-- the value of a finite x, by its bits
has : (x : Float) → T (fits binary64 x) → size x < 9218868437227405312 → HasValue x (sign_of (to_bits binary64 x)) (units_of (size x)) (2 ^ 1074)
has x f h = subst (λ (v : Float). HasValue v (sign_of (to_bits binary64 x)) (units_of (size x)) (2 ^ 1074)) (of_bits-to_bits binary64 x f) (value (to_bits binary64 x) h)

-- ---- no number

nan-rem : (x y : Float) → y ≡ nan → nan ≡ rem binary64 x y
unfolding rem
nan-rem x y e = sym (ap (rem binary64 x) e ∙ go x)
  where
    go : (x : Float) → rem binary64 x nan ≡ nan
    go nan = refl
    go (inf s) = refl
    go (fin s m e) = refl

top_field : (s : Bool) (t : ℕ) (y : Float) → nan ≡ rem binary64 (of_fields binary64 s 2047 t) y
unfolding of_fields rem
top_field s t y = go (eqb t 0)
  where
    go : (b : Bool) → nan ≡ rem binary64 (cond b (inf s) nan) y
    go true = refl
    go false = refl

pub not_finite : (x y : Float) → T (fits binary64 x) → 9218868437227405312 ≤ size x → nan ≡ rem binary64 x y
not_finite x y f h =
    let q : size x / 4503599627370496 ≡ 2047 = omega arith in
    let s = sign_of (to_bits binary64 x) in
    let t = to_bits binary64 x % 4503599627370496 in
    top_field s t y ∙ sym (ap (λ (v : Float). rem binary64 v y) (sym (as_fields x f) ∙ ap (λ (z : ℕ). of_fields binary64 s z t) q))

pub by-nan : (x y : Float) → T (fits binary64 y) → 9218868437227405312 < size y → nan ≡ rem binary64 x y
by-nan x y f h = nan-rem x y (sym (of_bits-to_bits binary64 y f) ∙ sym (nan-bits (to_bits binary64 y) h))

zero_of : (n u L D : ℕ) → 0 < u → 0 < L → n * u * L ≡ 0 * D → n ≡ 0
zero_of zero u L D p q e = refl
zero_of (suc n) u L D p q e = let h : 0 < suc n * u * L = mul-pos (mul-pos (omega arith) p) q in absurd (omega arith)

rem-zero : (x y : Float) (t : Bool) (L : ℕ) → 0 < L → HasValue y t 0 L → nan ≡ rem binary64 x y
unfolding rem
rem-zero nan y t L p k = refl
rem-zero (inf s) y t L p k = refl
rem-zero (fin s m e) nan t L p k = refl
rem-zero (fin s m e) (inf u) t L p k = absurd k
rem-zero (fin s m e) (fin u n d) t L p k =
    let z : n ≡ 0 = zero_of n (up d) L (down d) (up_pos d) p k.1 in
    sym (ap (λ (b : Bool). cond b nan (round binary64 s (m * up e * down d % (n * up d * down e)) (down e * down d))) (is_true (eqb n 0) (eq→eqb z)))

pub by_zero : (x y : Float) → T (fits binary64 y) → size y ≡ 0 → nan ≡ rem binary64 x y
by_zero x y f e =
    let s = sign_of (to_bits binary64 y) in
    rem-zero x y s (2 ^ 1074) (pow_pos 1074) (subst (λ (n : ℕ). HasValue y s n (2 ^ 1074)) (ap units_of e ∙ subnormal 0 (omega arith)) (has y f (omega arith)))

-- ---- the smaller by the larger

finite-by-inf : (x : Float) (s t : Bool) (X L : ℕ) → HasValue x s X L → rem binary64 x (inf t) ≡ x
finite-by-inf nan s t X L h = absurd h
finite-by-inf (inf u) s t X L h = absurd h
finite-by-inf (fin u m e) s t X L h = rem-inf binary64 u m e t

finite-by-more : (x y : Float) (s t : Bool) (X Y L : ℕ) → T (fits binary64 x) → 0 < L → HasValue x s X L → HasValue y t Y L → X < Y → rem binary64 x y ≡ x
finite-by-more nan y s t X Y L f p h k l = absurd h
finite-by-more (inf u) y s t X Y L f p h k l = absurd h
finite-by-more (fin u m e) nan s t X Y L f p h k l = absurd k
finite-by-more (fin u m e) (inf v) s t X Y L f p h k l = absurd k
finite-by-more (fin u m e) (fin v n d) s t X Y L f p h k l = rem-fin binary64 u m e v n d f (smaller-parts (m * up e) (n * up d) (down e) (down d) X Y L (down_pos e) (down_pos d) h.1 k.1 l)

inf-field : (s : Bool) → of_fields binary64 s 2047 0 ≡ inf s
unfolding of_fields
inf-field s = refl

pub smaller : (x y : Float) → T (fits binary64 x) → T (fits binary64 y) → size x < 9218868437227405312 → size y ≤ 9218868437227405312 → size x < size y → x ≡ rem binary64 x y
smaller x y f g h k l = elim (below_or_not (size y) 9218868437227405312) [
  | inl m ↦
      sym (finite-by-more x y (sign_of (to_bits binary64 x)) (sign_of (to_bits binary64 y)) (units_of (size x)) (units_of (size y)) (2 ^ 1074) f (pow_pos 1074) (has x f h) (has y g m) (units_mono (size x) (size y) l))
  | inr m ↦
      let q : size y / 4503599627370496 ≡ 2047 = omega arith in
      let r : to_bits binary64 y % 4503599627370496 ≡ 0 = omega arith in
      let t = sign_of (to_bits binary64 y) in
      sym (ap (rem binary64 x) (sym (as_fields y g) ∙ ap₂ (of_fields binary64 t) q r ∙ inf-field t) ∙ finite-by-inf x (sign_of (to_bits binary64 x)) t (units_of (size x)) (2 ^ 1074) (has x f h))
]

-- ---- the larger by the smaller

unlike-plus : (s : Bool) → unlike false s ≡ s
unlike-plus true = refl
unlike-plus false = refl

-- the bits u of a number, with the sign of b
module _ (b u : ℕ) (h : b < 2 ^ 64) (k : u < 9218868437227405312) where
  signed-size : (b - b % 9223372036854775808 + u) % 9223372036854775808 ≡ u
  signed-size = omega arith

  signed-sign : sign_of (b - b % 9223372036854775808 + u) ≡ sign_of b
  signed-sign =
      same_test (sign_of (b - b % 9223372036854775808 + u)) (sign_of b)
      (λ t. le→leb 9223372036854775808 b (let l = leb→le 9223372036854775808 (b - b % 9223372036854775808 + u) t in omega arith))
      (λ t. le→leb 9223372036854775808 (b - b % 9223372036854775808 + u) (let l = leb→le 9223372036854775808 b t in omega arith))

  signed-value : HasValue (of_bits binary64 (b - b % 9223372036854775808 + u)) (sign_of b) (units_of u) (2 ^ 1074)
  signed-value =
      subst (λ (s : Bool). HasValue (of_bits binary64 (b - b % 9223372036854775808 + u)) s (units_of u) (2 ^ 1074)) signed-sign
      (subst (λ (n : ℕ). HasValue (of_bits binary64 (b - b % 9223372036854775808 + u)) (sign_of (b - b % 9223372036854775808 + u)) (units_of n) (2 ^ 1074)) signed-size
      (value (b - b % 9223372036854775808 + u) (omega (arith, signed-size))))

-- a common power of two stays
pub shares : (m e n g : ℕ) → 0 < n → g ≤ e → m * 2 ^ e % (n * 2 ^ g) ≡ m * 2 ^ (e - g) % n * 2 ^ g
shares m e n g p h =
    let i : e - g + g ≡ e = omega arith in
    let j : m * 2 ^ e ≡ m * 2 ^ (e - g) * 2 ^ g = ap (λ (z : ℕ). m * z) (ap (λ (z : ℕ). 2 ^ z) (sym i) ∙ pow-add 2 (e - g) g) ∙ sym (mul_assoc m (2 ^ (e - g)) (2 ^ g)) in
    ap (λ (z : ℕ). z % (n * 2 ^ g)) j ∙ mod-scale (m * 2 ^ (e - g)) n (2 ^ g) p (pow_pos g)

pub larger : (x y : Float) (m e n g rest u : ℕ) → T (fits binary64 x) → T (fits binary64 y) → size x < 9218868437227405312 → (size y ≡ 0 → ⊥) → size y ≤ size x
    → Parted (size x) m e → Parted (size y) n g → rest ≡ m * 2 ^ (e - g) % n → UnitBits g u
    → mul binary64 (of_int binary64 (pos rest)) (of_bits binary64 (to_bits binary64 x - size x + u)) ≡ rem binary64 x y
larger x y m e n g rest u f k h z l P Q R U =
    let s = sign_of (to_bits binary64 x) in
    let N : 0 < n = Q.some (omega arith) in
    let G : g ≤ e = omega (arith, P.field, Q.field) in
    let M : rest < n = subst (λ (v : ℕ). v < n) (sym R) (mod-lt (m * 2 ^ (e - g)) N) in
    let Y : 0 < units_of (size y) = units-pos (size y) (omega arith) in
    let a : rem binary64 x y ≡ round binary64 s (units_of (size x) % units_of (size y)) (2 ^ 1074) =
    rem-at x y s (sign_of (to_bits binary64 y)) (units_of (size x)) (units_of (size y)) (2 ^ 1074) (pow_pos 1074) Y (has x f h) (has y k (omega arith)) in
    let b : units_of (size x) % units_of (size y) ≡ rest * 2 ^ g =
    ap₂ (λ (v w : ℕ). v % w) P.is Q.is ∙ shares m e n g N G ∙ ap (λ (v : ℕ). v * 2 ^ g) (sym R) in
    let w : HasValue (of_int binary64 (pos rest)) false rest 1 = whole_val (pos rest) (omega (arith, Q.short)) in
    let v : HasValue (of_bits binary64 (to_bits binary64 x - size x + u)) s (units_of u) (2 ^ 1074) = signed-value (to_bits binary64 x) u (to_bits-lt binary64 x f) U.finite in
    mul_at (of_int binary64 (pos rest)) (of_bits binary64 (to_bits binary64 x - size x + u)) false s rest (units_of u) 1 (2 ^ 1074) (omega arith) (pow_pos 1074) w v
    ∙ (λ i. round binary64 (unlike-plus s i) (rest * U.is i) (one-mul (2 ^ 1074) i))
    ∙ ap (λ (v : ℕ). round binary64 s v (2 ^ 1074)) (sym b)
    ∙ sym a
