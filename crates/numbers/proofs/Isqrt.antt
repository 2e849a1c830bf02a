-- `isqrt n` is the whole part of the root of n. Assumes nothing.
use Rattle.std.proofs.Common.{◌≡◌, ℕ, zero, suc, ◌+◌, ◌-◌, ◌*◌, ◌/◌, ◌%◌, ◌^◌, ◌<◌, ◌≤◌, Bool, true, false, not, T, ltb, leb, ◌⊎◌, refl, inl, inr, le_refl, mod-lt, zero-lt-suc, mul-le-mul, pow-suc, div-add-mod', arith, ltb→lt, leb→le, nltb→le, pow_mono, pow-add}
use lib.Dec.{nleb→lt}
use lib.Ieee.{size}
use lib.Ieee.Digits.{size-lt}
use Rattle.numbers.specs.Root.{heron, isqrt}

pub below_or_not : (i a : ℕ) → (i < a) ⊎ (a ≤ i)
below_or_not i a = go (ltb i a) (ltb→lt i a) (nltb→le i a)
  where
    go : (t : Bool) → (T t → i < a) → (T (not t) → a ≤ i) → (i < a) ⊎ (a ≤ i)
    go true h k = inl (h tt)
    go false h k = inr (k tt)

-- 4ab ≤ (a + b)²
apart : (x y d : ℕ) → y ≡ x + d → 4 * (x * y) ≤ (x + y) * (x + y)
apart x y d e = rw e (omega arith)

am-gm : (a b : ℕ) → 4 * (a * b) ≤ (a + b) * (a + b)
am-gm a b = elim (below_or_not a b) [
  | inl h ↦ apart a b (b - a) (omega arith)
  | inr h ↦ let g : 4 * (b * a) ≤ (b + a) * (b + a) = apart b a (a - b) (omega arith) in omega arith
]

-- one step stays above the root
step-above : (r n q : ℕ) → 0 < r → q ≡ (r + n / r) / 2 → n < (q + 1) * (q + 1)
step-above r n q R e =
    let t = n / r in
    let h : t * r + n % r ≡ n = div-add-mod' n r in
    let m : n % r < r = mod-lt n R in
    let f : r + (t + 1) ≤ 2 * (q + 1) = omega arith in
    let g : (r + (t + 1)) * (r + (t + 1)) ≤ 2 * (q + 1) * (2 * (q + 1)) = mul-le-mul f f in
    let k : 4 * (r * (t + 1)) ≤ (r + (t + 1)) * (r + (t + 1)) = am-gm r (t + 1) in
    let j : n < r * (t + 1) = omega arith in
    let l : 2 * (q + 1) * (2 * (q + 1)) ≡ 4 * ((q + 1) * (q + 1)) = omega arith in
    omega arith

-- and a step from above the root goes down
step_less : (r n q : ℕ) → q ≡ (r + n / r) / 2 → n < r * r → q < r
step_less r n q e h =
    let t = n / r in
    let d : t * r + n % r ≡ n = div-add-mod' n r in
    let u : t < r = elim (below_or_not t r) [ inl g ↦ g | inr g ↦ absurd (no t d (mul-le-mul g (le_refl r))) ] in
    omega arith
  where
    no : (t : ℕ) → t * r + n % r ≡ n → r * r ≤ t * r → ⊥
    no t d g = omega arith

pub record Root (n r : ℕ) : Type 0 where
  pub low : r * r ≤ n
  pub high : n < (r + 1) * (r + 1)

heron-is : (d : ℕ) (b : Bool) (r n : ℕ) → (T b → r * r ≤ n) → (T (not b) → n < r * r) → r ≤ d → n < (r + 1) * (r + 1) → Root n (heron d b r n)
unfolding heron
heron-is zero true r n y w h u = record { low = y tt; high = u }
heron-is zero false r n y w h u = absurd (omega (arith, w tt, mul-le-mul h h))
heron-is (suc d) true r n y w h u = record { low = y tt; high = u }
heron-is (suc d) false r n y w h u =
    let q = (r + n / r) / 2 in
    let R : 0 < r = pos_of r n (w tt) in
    let l : q < r = step_less r n q refl (w tt) in
    heron-is d (leb (q * q) n) q n (leb→le (q * q) n) (nleb→lt (q * q) n) (omega arith) (step-above r n q R refl)
  where
    pos_of : (x m : ℕ) → m < x * x → 0 < x
    pos_of zero m p = absurd (omega (arith, p))
    pos_of (suc x) m p = zero-lt-suc x

start : (n z : ℕ) → n < 2 ^ z → n < (2 ^ ((z + 1) / 2) + 1) * (2 ^ ((z + 1) / 2) + 1)
start n z h =
    let k = (z + 1) / 2 in
    let a : 2 ^ z ≤ 2 ^ (k + k) = pow_mono (omega arith) in
    let b : 2 ^ (k + k) ≡ 2 ^ k * 2 ^ k = pow-add 2 k k in
    omega arith

pub isqrt-is : (n : ℕ) → Root n (isqrt n)
unfolding isqrt
isqrt-is n =
    let r = 2 ^ ((size n + 1) / 2) in
    heron-is r (leb (r * r) n) r n (leb→le (r * r) n) (nleb→lt (r * r) n) (le_refl r) (start n (size n) (size-lt n))

-- squares keep the order
pub root-le : (n r s : ℕ) → Root n s → r * r ≤ n → r ≤ s
root-le n r s p h = elim (below_or_not s r) [ inl g ↦ absurd (no g (mul-le-mul g g)) | inr g ↦ g ]
  where
    no : s < r → suc s * suc s ≤ r * r → ⊥
    no g k = omega (arith, p.high)

pub root-lt : (n r s : ℕ) → Root n s → n < r * r → s < r
root-lt n r s p h = elim (below_or_not s r) [ inl g ↦ g | inr g ↦ absurd (no (mul-le-mul g g)) ]
  where
    no : r * r ≤ s * s → ⊥
    no k = omega (arith, p.low)

pub four : (k : ℕ) → 4 ^ k ≡ 2 ^ k * 2 ^ k
four zero = refl
four (suc k) =
    let a : 4 ^ suc k ≡ 4 ^ k * 4 = pow-suc 4 k in
    let b : 2 ^ suc k ≡ 2 ^ k * 2 = pow-suc 2 k in
    rw (a, b, four k) (omega arith)
