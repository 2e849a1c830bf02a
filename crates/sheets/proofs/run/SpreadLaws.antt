-- Four bytes turned round, spread to every other byte and cut in halves, as arithmetic on a number. Assumes nothing.
use Prim.Native.Nat.{ℕ, zero, suc, ◌+◌, ◌-◌, ◌*◌, ◌/◌, ◌%◌, ◌^◌, ◌<◌, ◌≤◌}
use native.Mathlib.Nat.{mod-lt, lt_of_lt_of_le}
use native.Mathlib.Omega.{arith}
use mathlib.Core.Path.{◌≡◌, refl, sym, ap, ap₂, ◌∙◌}
use lib.Pow.{pow_pos, pow_mono, split, mod-mod-pow, ones_lt}
use lib.Bits.{bit_and, bit_or, or_zero_l, or_zero_r, and_block, and_mask, and_le_r, or_shr, or_mod}

-- ---- a mask that keeps the k low bits of each of m + 1 fields of w bits

unfoldable pub mask : ℕ → ℕ → ℕ → ℕ
mask k w zero = 2 ^ k - 1
mask k w (suc m) = mask k w m * 2 ^ w + (2 ^ k - 1)

unfoldable pub kept : ℕ → ℕ → ℕ → ℕ → ℕ
kept k w zero y = y % 2 ^ k
kept k w (suc m) y = kept k w m (y / 2 ^ w) * 2 ^ w + y % 2 ^ k

pub and_kept : (j k m y : ℕ) → bit_and y (mask k (j + k) m) ≡ kept k (j + k) m y
unfolding mask kept
and_kept j k zero y = and_mask y k
and_kept j k (suc m) y =
    let e = mask k (j + k) m in
    ap (λ (n : ℕ). bit_and n (e * 2 ^ (j + k) + (2 ^ k - 1))) (sym (split y (j + k)))
    ∙ and_block (j + k) (y / 2 ^ (j + k)) e (y % 2 ^ (j + k)) (2 ^ k - 1) (mod-lt y (pow_pos (j + k))) (lt_of_lt_of_le (ones_lt k) (pow_mono (omega arith)))
    ∙ ap (λ (n : ℕ). bit_and (y / 2 ^ (j + k)) e * 2 ^ (j + k) + n) (and_mask (y % 2 ^ (j + k)) k ∙ mod-mod-pow y j k)
    ∙ ap (λ (n : ℕ). n * 2 ^ (j + k) + y % 2 ^ k) (and_kept j k m (y / 2 ^ (j + k)))

-- ---- four bytes, turned round, spread to every other byte, and cut in halves

abbrev pub turn : ℕ → ℕ
turn n = ((n % 256 * 256 + n / 0x100 % 256) * 256 + n / 0x1_0000 % 256) * 256 + n / 0x100_0000 % 256

abbrev pub spread_a : ℕ → ℕ
spread_a t = bit_and (bit_or t (t * 0x1_0000)) 0xffff_0000_ffff

abbrev pub spread_b : ℕ → ℕ
spread_b a = bit_and (bit_or a (a * 0x100)) 0xff_00ff_00ff_00ff

abbrev pub half_c : ℕ → ℕ
half_c b = bit_and (b / 16) 0xf_000f_000f_000f + bit_and b 0xf_000f_000f_000f * 0x100

and2 : (y : ℕ) → bit_and y 0xffff_0000_ffff ≡ y / 0x1_0000_0000 % 0x1_0000 * 0x1_0000_0000 + y % 0x1_0000
unfolding mask kept
and2 y = and_kept 16 16 1 y

and3 : (y : ℕ) → bit_and y 0xff_00ff_00ff_00ff ≡ ((y / 0x1_0000 / 0x1_0000 / 0x1_0000 % 256 * 0x1_0000 + y / 0x1_0000 / 0x1_0000 % 256) * 0x1_0000 + y / 0x1_0000 % 256) * 0x1_0000 + y % 256
unfolding mask kept
and3 y = and_kept 8 8 3 y

and4 : (y : ℕ) → bit_and y 0xf_000f_000f_000f ≡ ((y / 0x1_0000 / 0x1_0000 / 0x1_0000 % 16 * 0x1_0000 + y / 0x1_0000 / 0x1_0000 % 16) * 0x1_0000 + y / 0x1_0000 % 16) * 0x1_0000 + y % 16
unfolding mask kept
and4 y = and_kept 12 4 3 y

-- four fields of two bytes
abbrev four : ℕ → ℕ → ℕ → ℕ → ℕ
four x₀ x₁ x₂ x₃ = ((x₃ * 0x1_0000 + x₂) * 0x1_0000 + x₁) * 0x1_0000 + x₀

and4-of : (y x₀ x₁ x₂ x₃ y₁ y₂ y₃ : ℕ) → y % 16 ≡ x₀ → y / 0x1_0000 ≡ y₁ → y₁ % 16 ≡ x₁ → y₁ / 0x1_0000 ≡ y₂ → y₂ % 16 ≡ x₂ → y₂ / 0x1_0000 ≡ y₃ → y₃ % 16 ≡ x₃
    → bit_and y 0xf_000f_000f_000f ≡ four x₀ x₁ x₂ x₃
and4-of y x₀ x₁ x₂ x₃ y₁ y₂ y₃ e₀ d₁ e₁ d₂ e₂ d₃ e₃ = and4 y ∙ rw (e₀, d₁, e₁, d₂, e₂, d₃, e₃) refl

or-rest : (k a b x y : ℕ) → a % 2 ^ k ≡ x → b % 2 ^ k ≡ y → bit_or a b % 2 ^ k ≡ bit_or x y
or-rest k a b x y e f = or_mod a b k ∙ ap₂ (λ (m n : ℕ). bit_or m n) e f

or-quotient : (k a b x y : ℕ) → a / 2 ^ k ≡ x → b / 2 ^ k ≡ y → bit_or a b / 2 ^ k ≡ bit_or x y
or-quotient k a b x y e f = or_shr a b k ∙ ap₂ (λ (m n : ℕ). bit_or m n) e f

pub turn_is : (n x₀ x₁ x₂ x₃ : ℕ) → n % 256 ≡ x₀ → n / 0x100 % 256 ≡ x₁ → n / 0x1_0000 % 256 ≡ x₂ → n / 0x100_0000 % 256 ≡ x₃ → turn n ≡ (x₀ * 256 + x₁) * 0x1_0000 + (x₂ * 256 + x₃)
turn_is n x₀ x₁ x₂ x₃ e₀ e₁ e₂ e₃ =
    ap₂ (λ (x y : ℕ). ((x * 256 + y) * 256 + n / 0x1_0000 % 256) * 256 + n / 0x100_0000 % 256) e₀ e₁
    ∙ ap₂ (λ (x y : ℕ). ((x₀ * 256 + x₁) * 256 + x) * 256 + y) e₂ e₃
    ∙ flat x₀ x₁ x₂ x₃
  where
    flat : (x₀ x₁ x₂ x₃ : ℕ) → ((x₀ * 256 + x₁) * 256 + x₂) * 256 + x₃ ≡ (x₀ * 256 + x₁) * 0x1_0000 + (x₂ * 256 + x₃)
    flat x₀ x₁ x₂ x₃ = omega arith

pub spread_a-is : (x y : ℕ) → x < 0x1_0000 → y < 0x1_0000 → spread_a (y * 0x1_0000 + x) ≡ y * 0x1_0000_0000 + x
spread_a-is x y hx hy =
    let t = y * 0x1_0000 + x in
    let low : bit_or t (t * 0x1_0000) % 0x1_0000 ≡ x = or-rest 16 t (t * 0x1_0000) x 0 (omega arith) (omega arith) ∙ or_zero_r x in
    let high : bit_or t (t * 0x1_0000) / 0x1_0000_0000 ≡ y = or-quotient 32 t (t * 0x1_0000) 0 y (omega arith) (omega arith) ∙ or_zero_l y in
    let top : y % 0x1_0000 ≡ y = omega arith in
    and2 (bit_or t (t * 0x1_0000)) ∙ ap₂ (λ (m n : ℕ). m % 0x1_0000 * 0x1_0000_0000 + n) high low ∙ ap (λ (m : ℕ). m * 0x1_0000_0000 + x) top

and3-of : (y x₀ x₁ x₂ x₃ y₁ y₂ y₃ : ℕ) → y % 256 ≡ x₀ → y / 0x1_0000 ≡ y₁ → y₁ % 256 ≡ x₁ → y₁ / 0x1_0000 ≡ y₂ → y₂ % 256 ≡ x₂ → y₂ / 0x1_0000 ≡ y₃ → y₃ % 256 ≡ x₃
    → bit_and y 0xff_00ff_00ff_00ff ≡ four x₀ x₁ x₂ x₃
and3-of y x₀ x₁ x₂ x₃ y₁ y₂ y₃ e₀ d₁ e₁ d₂ e₂ d₃ e₃ = and3 y ∙ rw (e₀, d₁, e₁, d₂, e₂, d₃, e₃) refl

pub spread_b-is : (p q r s : ℕ) → p < 256 → q < 256 → r < 256 → s < 256 → spread_b ((s * 256 + r) * 0x1_0000_0000 + (q * 256 + p)) ≡ four p q r s
spread_b-is p q r s hp hq hr hs =
    let v = s * 256 + r in
    let a = v * 0x1_0000_0000 + (q * 256 + p) in
    and3-of (bit_or a (a * 0x100)) p q r s (bit_or (v * 0x1_0000) (v * 0x100_0000 + q)) (bit_or v (v * 0x100)) (bit_or 0 s)
    (or-rest 8 a (a * 0x100) p 0 (omega arith) (omega arith) ∙ or_zero_r p)
    (or-quotient 16 a (a * 0x100) (v * 0x1_0000) (v * 0x100_0000 + q) (omega arith) (omega arith))
    (or-rest 8 (v * 0x1_0000) (v * 0x100_0000 + q) 0 q (omega arith) (omega arith) ∙ or_zero_l q)
    (or-quotient 16 (v * 0x1_0000) (v * 0x100_0000 + q) v (v * 0x100) (omega arith) (omega arith))
    (or-rest 8 v (v * 0x100) r 0 (omega arith) (omega arith) ∙ or_zero_r r)
    (or-quotient 16 v (v * 0x100) 0 s (omega arith) (omega arith))
    (or-rest 8 0 s 0 s refl (omega arith) ∙ or_zero_l s)

pub half_c-is : (p₀ q₀ p₁ q₁ p₂ q₂ p₃ q₃ : ℕ) → p₀ < 16 → q₀ < 16 → p₁ < 16 → q₁ < 16 → p₂ < 16 → q₂ < 16 → p₃ < 16 → q₃ < 16
    → half_c (four (p₀ * 16 + q₀) (p₁ * 16 + q₁) (p₂ * 16 + q₂) (p₃ * 16 + q₃)) ≡ four (p₀ + q₀ * 256) (p₁ + q₁ * 256) (p₂ + q₂ * 256) (p₃ + q₃ * 256)
half_c-is p₀ q₀ p₁ q₁ p₂ q₂ p₃ q₃ a₀ b₀ a₁ b₁ a₂ b₂ a₃ b₃ =
    let y₃ = p₃ * 16 + q₃ in
    let y₂ = y₃ * 0x1_0000 + (p₂ * 16 + q₂) in
    let y₁ = y₂ * 0x1_0000 + (p₁ * 16 + q₁) in
    let y = y₁ * 0x1_0000 + (p₀ * 16 + q₀) in
    ap₂ (λ (x z : ℕ). x + z * 0x100)
    (ap (λ (x : ℕ). bit_and x 0xf_000f_000f_000f) (shift y₁ p₀ q₀ b₀)
    ∙ and4-of (y₁ * 0x1000 + p₀) p₀ p₁ p₂ p₃ (y₂ * 0x1000 + p₁) (y₃ * 0x1000 + p₂) p₃
    (high y₁ p₀ a₀) (next y₂ p₁ q₁ p₀ b₁ a₀) (high y₂ p₁ a₁) (next y₃ p₂ q₂ p₁ b₂ a₁) (high y₃ p₂ a₂) (omega arith) (omega arith))
    (and4-of y q₀ q₁ q₂ q₃ y₁ y₂ y₃
    (low y₁ p₀ q₀ b₀) (field y₁ p₀ q₀ a₀ b₀) (low y₂ p₁ q₁ b₁) (field y₂ p₁ q₁ a₁ b₁) (low y₃ p₂ q₂ b₂) (field y₃ p₂ q₂ a₂ b₂) (omega arith))
    ∙ omega arith
  where
    field : (y p q : ℕ) → p < 16 → q < 16 → (y * 0x1_0000 + (p * 16 + q)) / 0x1_0000 ≡ y
    field y p q hp hq = omega arith

    low : (y p q : ℕ) → q < 16 → (y * 0x1_0000 + (p * 16 + q)) % 16 ≡ q
    low y p q hq = omega arith

    shift : (y p q : ℕ) → q < 16 → (y * 0x1_0000 + (p * 16 + q)) / 16 ≡ y * 0x1000 + p
    shift y p q hq = omega arith

    high : (y p : ℕ) → p < 16 → (y * 0x1000 + p) % 16 ≡ p
    high y p hp = omega arith

    next : (y p q x : ℕ) → q < 16 → x < 16 → ((y * 0x1_0000 + (p * 16 + q)) * 0x1000 + x) / 0x1_0000 ≡ y * 0x1000 + p
    next y p q x hq hx = omega arith

-- ---- the steps fit

pub half_c-most : (b : ℕ) → half_c b ≤ 0xf0f_0f0f_0f0f_0f0f
half_c-most b = omega (arith, and_le_r (b / 16) 0xf_000f_000f_000f, and_le_r b 0xf_000f_000f_000f)
