-- The value of a bit pattern, and the remainder and the product of two values. Assumes nothing.
use Rattle.std.proofs.Common.{◌≡◌, ℕ, zero, suc, ◌+◌, ◌-◌, ◌*◌, ◌/◌, ◌%◌, ◌^◌, ◌<◌, ◌≤◌, Bool, false, cond, T, eqb, leb, ℤ, sym, refl, ap, ◌∙◌, subst, ap₂, inl, inr, mul-le-mul_right, mul_assoc, mul_comm, lt_of_mul-lt-mul_right, mul-lt-mul_of_pos_right, mul-pos, mul-one, mul_right_comm, arith, eqb→eq, leb→le, pow_pos, pow_mono, pow-add}
use lib.Dec.{not_T}
use lib.Ieee.{Float, nan, inf, fin, binary64, up, down, unlike, odd, round, of_fields, of_bits, rem, mul}
use lib.Ieee.Fits.{down_pos}
use lib.Ieee.Exact.{HasValue, odd_sign}
use lib.Ieee.Scale.{round_same}
use lib.Ieee.Bits.{is_false, cond_no}
use Rattle.numbers.specs.code.Units.{units_at, units_of}
use Rattle.numbers.proofs.Isqrt.{below_or_not}
use Rattle.numbers.proofs.Modulo.{mod-scale}

-- ---- the value of a pattern

pub of_bits_is : (b : ℕ) → of_bits binary64 b ≡ of_fields binary64 (leb 9223372036854775808 b) (b % 9223372036854775808 / 4503599627370496) (b % 4503599627370496)
unfolding of_bits
of_bits_is b = refl

-- the sign of the bits b
abbrev pub sign_of : ℕ → Bool
sign_of b = leb 9223372036854775808 b

pub unsigned : (b : ℕ) → b < 9223372036854775808 → sign_of b ≡ false
unsigned b h = is_false (sign_of b) (not_T (sign_of b) (λ (t : T (sign_of b)). no (leb→le 9223372036854775808 b t)))
  where
    no : 9223372036854775808 ≤ b → ⊥
    no l = omega arith

fields-val : (s : Bool) (x t : ℕ) → x < 2047 → HasValue (of_fields binary64 s x t) s (units_at x t) (2 ^ 1074)
unfolding of_fields
fields-val s zero t h = subst (λ (n : ℕ). HasValue (odd 53 s t 0 1074) s n (2 ^ 1074)) (mul-one t) (odd_sign 53 s t 0 1074)
fields-val s (suc x) t h =
    subst (λ (v : Float). HasValue v s ((4503599627370496 + t) * 2 ^ x) (2 ^ 1074))
    (sym (cond_no (eqb (suc x) 2047) (cond (eqb t 0) (inf s) nan) (odd 53 s (4503599627370496 + t) x 1074) (not_T (eqb (suc x) 2047) (λ (u : T (eqb (suc x) 2047)). differ (eqb→eq (suc x) 2047 u)))))
    (odd_sign 53 s (4503599627370496 + t) x 1074)
  where
    differ : suc x ≡ 2047 → ⊥
    differ e = omega arith

pub value : (b : ℕ) → b % 9223372036854775808 < 9218868437227405312 → HasValue (of_bits binary64 b) (sign_of b) (units_of (b % 9223372036854775808)) (2 ^ 1074)
unfolding units_of
value b h =
    let a = b % 9223372036854775808 in
    let t : b % 4503599627370496 ≡ a % 4503599627370496 = omega arith in
    subst (λ (v : Float). HasValue v (sign_of b) (units_at (a / 4503599627370496) (a % 4503599627370496)) (2 ^ 1074))
    (sym (of_bits_is b ∙ ap (of_fields binary64 (sign_of b) (a / 4503599627370496)) t))
    (fields-val (sign_of b) (a / 4503599627370496) (a % 4503599627370496) (omega arith))

-- without a sign
pub pattern : (b : ℕ) → b < 9218868437227405312 → HasValue (of_bits binary64 b) false (units_of b) (2 ^ 1074)
pattern b h =
    let a : b % 9223372036854775808 ≡ b = omega arith in
    subst (λ (s : Bool). HasValue (of_bits binary64 b) s (units_of b) (2 ^ 1074)) (unsigned b (omega arith))
    (subst (λ (n : ℕ). HasValue (of_bits binary64 b) (sign_of b) (units_of n) (2 ^ 1074)) a (value b (omega arith)))

-- ---- the units of a pattern

-- a subnormal number is its bits
pub subnormal : (b : ℕ) → b < 4503599627370496 → units_of b ≡ b
unfolding units_of
subnormal b h =
    let q : b / 4503599627370496 ≡ 0 = omega arith in
    let t : b % 4503599627370496 ≡ b = omega arith in
    λ i. units_at (q i) (t i)

pub normal : (b : ℕ) → 4503599627370496 ≤ b → units_of b ≡ (4503599627370496 + b % 4503599627370496) * 2 ^ (b / 4503599627370496 - 1)
unfolding units_of
normal b h =
    let e : b / 4503599627370496 ≡ suc (b / 4503599627370496 - 1) = omega arith in
    ap (λ (q : ℕ). units_at q (b % 4503599627370496)) e

-- more bits are more units
units-less : (q t r u : ℕ) → t < 4503599627370496 → u < 4503599627370496 → q * 4503599627370496 + t < r * 4503599627370496 + u → units_at q t < units_at r u
units-less zero t zero u h k l = omega arith
units-less zero t (suc y) u h k l =
    let a : 1 * 4503599627370496 ≤ 2 ^ y * 4503599627370496 = mul-le-mul_right 4503599627370496 (pow_pos y) in
    let b : 4503599627370496 * 2 ^ y ≤ (4503599627370496 + u) * 2 ^ y = mul-le-mul_right (2 ^ y) (omega arith) in
    omega arith
units-less (suc x) t zero u h k l = absurd (omega arith)
units-less (suc x) t (suc y) u h k l = elim (below_or_not x y) [
  | inl m ↦
      let a : (4503599627370496 + t) * 2 ^ x < 9007199254740992 * 2 ^ x = mul-lt-mul_of_pos_right (omega arith) (pow_pos x) in
      let b : 2 ^ (1 + x) ≤ 2 ^ y = pow_mono (omega arith) in
      let d : 2 ^ (1 + x) ≡ 2 * 2 ^ x = pow-add 2 1 x in
      let e : 4503599627370496 * 2 ^ y ≤ (4503599627370496 + u) * 2 ^ y = mul-le-mul_right (2 ^ y) (omega arith) in
      omega arith
  | inr m ↦
      let e : x ≡ y = omega arith in
      subst (λ (z : ℕ). (4503599627370496 + t) * 2 ^ x < (4503599627370496 + u) * 2 ^ z) e (mul-lt-mul_of_pos_right (omega arith) (pow_pos x))
]

pub units_mono : (a d : ℕ) → a < d → units_of a < units_of d
unfolding units_of
units_mono a d h = units-less (a / 4503599627370496) (a % 4503599627370496) (d / 4503599627370496) (d % 4503599627370496) (omega arith) (omega arith) (omega arith)

pub units-pos : (b : ℕ) → 0 < b → 0 < units_of b
units-pos b h = subst (λ (n : ℕ). n < units_of b) (subnormal 0 (omega arith)) (units_mono 0 b h)

-- ---- the remainder and the product of two values

-- a value above zero has digits
pub no-digits : (m : ℕ) (e : ℤ) (n c : ℕ) → 0 < n → m * up e * c ≡ n * down e → m ≡ 0 → ⊥
no-digits m e n c p h z =
    let q : 0 < n * down e = mul-pos p (down_pos e) in
    let w : m * up e * c ≡ 0 * up e * c = ap (λ (x : ℕ). x * up e * c) z in
    omega arith

-- a fraction Z / L, and a further denominator
over : (M D E Z L : ℕ) → M * L ≡ Z * E → M * D * L ≡ Z * (E * D)
over M D E Z L g = mul_right_comm M D L ∙ ap (λ (z : ℕ). z * D) g ∙ mul_assoc Z E D

-- X / L < Y / L, which are M / E and N / D
pub smaller-parts : (M N E D X Y L : ℕ) → 0 < E → 0 < D → M * L ≡ X * E → N * L ≡ Y * D → X < Y → M * D < N * E
smaller-parts M N E D X Y L P Q h k l =
    let a : M * D * L ≡ X * (E * D) = over M D E X L h in
    let b : N * E * L ≡ Y * (D * E) = over N E D Y L k in
    let g : X * (E * D) < Y * (E * D) = mul-lt-mul_of_pos_right l (mul-pos P Q) in
    lt_of_mul-lt-mul_right L (omega arith)

pub rem-at : (x y : Float) (s t : Bool) (X Y L : ℕ) → 0 < L → 0 < Y → HasValue x s X L → HasValue y t Y L → rem binary64 x y ≡ round binary64 s (X % Y) L
unfolding rem
rem-at nan y s t X Y L p q h k = absurd h
rem-at (inf u) y s t X Y L p q h k = absurd h
rem-at (fin u m e) nan s t X Y L p q h k = absurd k
rem-at (fin u m e) (inf v) s t X Y L p q h k = absurd k
rem-at (fin u m e) (fin v n d) s t X Y L p q h k =
    let A = m * up e * down d in
    let B = n * up d * down e in
    let C = down e * down d in
    let P : 0 < C = mul-pos (down_pos e) (down_pos d) in
    let a : A * L ≡ X * C = over (m * up e) (down d) (down e) X L h.1 in
    let b : B * L ≡ Y * C = over (n * up d) (down e) (down d) Y L k.1 ∙ ap (λ (z : ℕ). Y * z) (mul_comm (down d) (down e)) in
    let Q : 0 < B = pos_of B (Y * C) (mul-pos q P) b in
    cond_no (eqb n 0) nan (round binary64 u (A % B) C) (not_T (eqb n 0) (λ (w : T (eqb n 0)). no-digits n d Y L q k.1 (eqb→eq n 0 w)))
    ∙ ap (λ (w : Bool). round binary64 w (A % B) C) h.0
    ∙ round_same binary64 s (A % B) C (X % Y) L P p (sym (mod-scale A B L Q p) ∙ ap₂ (λ (z w : ℕ). z % w) a b ∙ mod-scale X Y C q P)
  where
    pos_of : (U W : ℕ) → 0 < W → U * L ≡ W → 0 < U
    pos_of zero W g f = absurd (omega arith)
    pos_of (suc U) W g f = omega arith

pub mul_at : (x y : Float) (s t : Bool) (X Y K L : ℕ) → 0 < K → 0 < L → HasValue x s X K → HasValue y t Y L → mul binary64 x y ≡ round binary64 (unlike s t) (X * Y) (K * L)
unfolding mul
mul_at nan y s t X Y K L p q h k = absurd h
mul_at (inf u) y s t X Y K L p q h k = absurd h
mul_at (fin u m e) nan s t X Y K L p q h k = absurd k
mul_at (fin u m e) (inf v) s t X Y K L p q h k = absurd k
mul_at (fin u m e) (fin v n d) s t X Y K L p q h k =
    (λ i. round binary64 (unlike (h.0 i) (k.0 i)) (m * up e * (n * up d)) (down e * down d))
    ∙ round_same binary64 (unlike s t) (m * up e * (n * up d)) (down e * down d) (X * Y) (K * L) (mul-pos (down_pos e) (down_pos d)) (mul-pos p q)
    (cross (m * up e) (n * up d) (down e) (down d) h.1 k.1)
  where
    cross : (M N E D : ℕ) → M * K ≡ X * E → N * L ≡ Y * D → M * N * (K * L) ≡ X * Y * (E * D)
    cross M N E D f g = swap M N K L ∙ ap₂ (λ (z w : ℕ). z * w) f g ∙ sym (swap X Y E D)
      where
        swap : (a b c d : ℕ) → a * b * (c * d) ≡ a * c * (b * d)
        swap a b c d = omega arith
