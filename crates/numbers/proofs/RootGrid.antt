-- The doubles as multiples of powers of two, in units of the smallest, and what it means that one is nearer to a root than another. Assumes nothing.
use Rattle.std.proofs.Common.{◌≡◌, ℕ, zero, suc, ◌+◌, ◌-◌, ◌*◌, ◌/◌, ◌%◌, ◌^◌, ◌<◌, ◌≤◌, Bool, true, false, not, ◌&&◌, T, ltb, ℤ, sym, refl, ap, ◌∙◌, inl, inr, le_trans, le_of_eq, lt_of_lt_of_le, lt_of_le_of_lt, mul-le-mul_right, mul_assoc, lt_of_mul-lt-mul_right, mul-lt-mul_of_pos_right, mul-pos, zero-mul, mul_right_comm, mul-div_cancel, arith, pow_pos, pow-add}
use lib.Ieee.{Float, nan, inf, fin, binary64, up, down, size, fits}
use lib.Ieee.Digits.{size-lt, size-le, size_reaches}
use lib.Ieee.Fits.{down_pos}
use lib.Ieee.Exact.{HasValue}
use Rattle.numbers.proofs.RoundLaw.{zero_exp, fit_small, fit-deep, fit-high, place}
use Rattle.numbers.specs.Root.{isqrt}
use Rattle.numbers.specs.code.RootSteps.{Squared, Lifted}
use Rattle.numbers.proofs.Isqrt.{isqrt-is, root-lt, below_or_not, four}

-- the size of a finite value in units of the smallest value, 2 ^ -1074
abbrev pub in_units : Float → ℕ
in_units nan = 0
in_units (inf s) = 0
in_units (fin s m e) = m * up e * 2 ^ 1074 / down e

-- the doubles that are finite and not negative, and those above zero
abbrev pub plain : Float → Bool
plain nan = false
plain (inf s) = false
plain (fin s m e) = not s && fits binary64 (fin s m e)

abbrev pub above : Float → Bool
above x = plain x && ltb 0 (in_units x)

-- Of r and v, in units, r is the nearer to the root of n: the middle between them lies beyond the root on v's side. Said of the squares of twice each.
pub record Nearer (n r v : ℕ) : Type 0 where
  pub over : r < v → 4 * n < (r + v) * (r + v)
  pub under : v < r → (r + v) * (r + v) < 4 * n

-- ---- a value of the format in units is m * 2 ^ j with an m below 2 ^ 53
pub record Grid (x : Float) : Type 0 where
  pub m : ℕ
  pub j : ℕ
  pub short : m < 2 ^ 53
  pub value : HasValue x false (m * 2 ^ j) (2 ^ 1074)
  pub is : in_units x ≡ m * 2 ^ j
  pub high : m * 2 ^ j < 2 ^ 2098

limit : (a u p d L C : ℕ) → u * L ≡ p * d → a * u < C * d → 0 < d → 0 < L → a * p < C * L
limit a u p d L C e h D l =
    let x : a * u * L < C * d * L = mul-lt-mul_of_pos_right h l in
    let y : a * u * L ≡ a * p * d = mul_assoc a u L ∙ ap (λ (z : ℕ). a * z) e ∙ sym (mul_assoc a p d) in
    lt_of_mul-lt-mul_right d (lt_of_le_of_lt (le_of_eq (sym y)) (lt_of_lt_of_le x (le_of_eq (mul_right_comm C d L))))

gridded : (m : ℕ) (e : ℤ) → m < 2 ^ 53 → down e ≤ 2 ^ 1074 → m * up e < 2 ^ 1024 * down e → Grid (fin false m e)
gridded m e s d t =
    let p = place 1074 e d in
    let v : m * up e * 2 ^ 1074 ≡ m * 2 ^ p.0 * down e = mul_assoc m (up e) (2 ^ 1074) ∙ ap (λ (z : ℕ). m * z) p.1 ∙ sym (mul_assoc m (2 ^ p.0) (down e)) in
    record {
      m = m;
      j = p.0;
      short = s;
      value = (refl, v);
      is = ap (λ (z : ℕ). z / down e) v ∙ mul-div_cancel (m * 2 ^ p.0) (down_pos e);
      high = limit m (up e) (2 ^ p.0) (down e) (2 ^ 1074) (2 ^ 1024) p.1 t (down_pos e) (pow_pos 1074);
    }

pub grid : (x : Float) → T (plain x) → Grid x
unfolding fits
grid nan h = absurd h
grid (inf s) h = absurd h
grid (fin true m e) h = absurd h
grid (fin false zero e) h = gridded zero e (pow_pos 53) (le_trans (le_of_eq (ap down (zero_exp binary64 false e h))) (pow_pos 1074)) (lt_of_le_of_lt (le_of_eq (zero-mul (up e))) (mul-pos (pow_pos 1024) (down_pos e)))
grid (fin false (suc m) e) h =
    gridded (suc m) e (fit_small binary64 false m e h) (fit-deep binary64 false m e h) (fit-high binary64 false m e h)

-- ---- such a number by a w of 53 or 54 digits and a power of four
pub two-pow : (g : ℕ) → 4 ^ g ≡ 2 ^ (g + g)
two-pow g = four g ∙ sym (pow-add 2 g g)

lift : (m j c g : ℕ) → c + (g + g) ≡ j + 1022 → m * 2 ^ c * 4 ^ g ≡ m * 2 ^ j * 2 ^ 1022
lift m j c g e =
    ap (λ (z : ℕ). m * 2 ^ c * z) (two-pow g) ∙ mul_assoc m (2 ^ c) (2 ^ (g + g))
    ∙ ap (λ (z : ℕ). m * z) (sym (pow-add 2 c (g + g)) ∙ ap (λ (z : ℕ). 2 ^ z) e ∙ pow-add 2 j 1022) ∙ sym (mul_assoc m (2 ^ j) (2 ^ 1022))

pub record Scaled (m j : ℕ) : Type 0 where
  pub w : ℕ
  pub g : ℕ
  pub is : Lifted (m * 2 ^ j * 2 ^ 1022) (j + 1022) w g

pub scaled : (m j : ℕ) → 0 < m → m < 2 ^ 53 → Scaled m j
scaled m j p h =
    let z = size m in
    let a : z ≤ 53 = size-le m 53 h in
    let b : 0 < z = some z m p (size-lt m) in
    let lo : 2 ^ (z - 1) ≤ m = size_reaches m (z - 1) (omega arith) in
    let c = 53 - z in
    let k' : z - 1 + c ≡ 52 = omega arith in
    let l' : z + c ≡ 53 = omega arith in
    let k : 2 ^ (z - 1) * 2 ^ c ≡ 2 ^ 52 = sym (pow-add 2 (z - 1) c) ∙ ap (λ (x : ℕ). 2 ^ x) k' in
    let l : 2 ^ z * 2 ^ c ≡ 2 ^ 53 = sym (pow-add 2 z c) ∙ ap (λ (x : ℕ). 2 ^ x) l' in
    let x : 2 ^ (z - 1) * 2 ^ c ≤ m * 2 ^ c = mul-le-mul_right (2 ^ c) lo in
    let y : m * 2 ^ c < 2 ^ z * 2 ^ c = mul-lt-mul_of_pos_right (size-lt m) (pow_pos c) in
    let d : m * 2 ^ (c + 1) ≡ m * 2 ^ c * 2 = ap (λ (q : ℕ). m * q) (pow-add 2 c 1) ∙ sym (mul_assoc m (2 ^ c) 2) in
    elim (below_or_not ((j + 1022 - c) % 2) 1) [
      | inl e ↦ record {
        w = m * 2 ^ c;
        g = (j + 1022 - c) / 2;
        is = record { same = lift m j c ((j + 1022 - c) / 2) (omega arith); low = omega arith; high = omega arith; under = omega arith; over = omega arith };
      }
      | inr e ↦ record {
        w = m * 2 ^ (c + 1);
        g = (j + 1022 - c) / 2;
        is = record { same = lift m j (c + 1) ((j + 1022 - c) / 2) (omega arith); low = omega arith; high = omega arith; under = omega arith; over = omega arith };
      }
    ]
  where
    some : (z m : ℕ) → 0 < m → m < 2 ^ z → 0 < z
    some zero m p l = absurd (omega arith)
    some (suc z) m p l = omega arith

pub squared : (w : ℕ) → w < 2 ^ 54 → Squared w (isqrt (w * 4503599627370496)) (w * 4503599627370496 - isqrt (w * 4503599627370496) * isqrt (w * 4503599627370496))
squared w h =
    let n = w * 4503599627370496 in
    let r = isqrt-is n in
    record {
      whole = omega (arith, r.low);
      less = omega (arith, r.low, r.high);
      short = root-lt n (2 ^ 53) (isqrt n) r (omega arith);
    }
