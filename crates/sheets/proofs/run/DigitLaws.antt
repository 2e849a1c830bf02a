-- Eight digits of a number at once. Assumes nothing.
use Prim.Native.Nat.{ℕ, zero, suc, ◌+◌, ◌*◌, ◌/◌, ◌%◌, ◌^◌, ◌<◌}
use native.Mathlib.Omega.{arith}
use mathlib.Core.Path.{◌≡◌, refl, sym, ap, ap₂, ◌∙◌, subst}
use mathlib.Core.List.{List, [], ◌∷◌}
use mathlib.Core.Bool.{Bool, true, false, cond}
use lib.Dec.{ltb}
use lib.ListN.{length}
use borrow.Author.Tests.{ltb-true, ltb-false}
use lib.Pow.{shr-shr}
use lib.Bits.{bit_and, and_block}
use Rattle.sheets.specs.Output.{hex_digit, hex}
use Rattle.std.specs.Int.{w64, byte_at, bytes_low_first, to_le_bytes}
use native.Mathlib.Nat.{div-one, div-div-eq-div-mul, pow-suc}
use Rattle.sheets.specs.code.run.Writing.{Written}
use Rattle.sheets.proofs.run.WritingLaws.{written_then}
use Rattle.sheets.proofs.run.SpreadLaws.{mask, kept, and_kept, turn, spread_a, spread_b, half_c, turn_is, spread_a-is, spread_b-is, half_c-is}

-- ---- the digits' values as the bytes of a word, the lowest first

abbrev bytes : ℕ → ℕ → List ℕ
bytes zero n = []
bytes (suc k) n = n % 256 ∷ bytes k (n / 256)

abbrev word : List ℕ → ℕ
word [] = 0
word (x ∷ xs) = word xs * 256 + x

abbrev each : (ℕ → ℕ) → List ℕ → List ℕ
each f [] = []
each f (x ∷ xs) = f x ∷ each f xs

abbrev Below : ℕ → List ℕ → Type 0
Below b [] = Unit {0}
Below b (x ∷ xs) = (x < b) × Below b xs

-- n + 1 bytes b
abbrev same : ℕ → ℕ → ℕ
same b zero = b
same b (suc m) = same b m * 256 + b

-- 1 above 9
abbrev over : ℕ → ℕ
over x = (x + 6) / 16

over-is : (x : ℕ) (xs : List ℕ) → Below 16 (x ∷ xs) → kept 1 8 (length xs) ((word (x ∷ xs) + same 6 (length xs)) / 16) ≡ word (each over (x ∷ xs))
unfolding kept
over-is x [] (h, _) = omega arith
over-is x (y ∷ ys) (h, hs) =
    let v = word (y ∷ ys) in
    let s = same 6 (length ys) in
    ap₂ (λ (a b : ℕ). kept 1 8 (length ys) a * 256 + b) (upper v s x h) (lower v s x h)
    ∙ ap (λ (a : ℕ). a * 256 + over x) (over-is y ys hs)
  where
    sixteenth : (v s x : ℕ) → x < 16 → (v * 256 + x + (s * 256 + 6)) / 16 ≡ (v + s) * 16 + over x
    sixteenth v s x h = omega arith

    lower : (v s x : ℕ) → x < 16 → (v * 256 + x + (s * 256 + 6)) / 16 % 2 ≡ over x
    lower v s x h = ap (λ (a : ℕ). a % 2) (sixteenth v s x h) ∙ omega arith

    upper : (v s x : ℕ) → x < 16 → (v * 256 + x + (s * 256 + 6)) / 16 / 256 ≡ (v + s) / 16
    upper v s x h = ap (λ (a : ℕ). a / 256) (sixteenth v s x h) ∙ omega arith

over_below : (xs : List ℕ) → Below 16 xs → Below 2 (each over xs)
over_below [] _ = tt
over_below (x ∷ xs) (h, hs) = (omega arith, over_below xs hs)

-- of 127 times 0 or 1 in each byte the bits of 39
bits_of : (x : ℕ) → x < 2 → bit_and (x * 127) 39 ≡ x * 39
bits_of zero h = refl
bits_of (suc zero) h = refl
bits_of (suc (suc x)) h = absurd (omega arith)

bits_are : (x : ℕ) (xs : List ℕ) → Below 2 (x ∷ xs) → bit_and (word (x ∷ xs) * 127) (same 39 (length xs)) ≡ word (x ∷ xs) * 39
bits_are x [] (h, _) = let e : 0 * 256 + x ≡ x = omega arith in ap (λ (n : ℕ). bit_and (n * 127) 39) e ∙ bits_of x h ∙ sym (ap (λ (n : ℕ). n * 39) e)
bits_are x (y ∷ ys) (h, hs) =
    let v = word (y ∷ ys) in
    let s = same 39 (length ys) in
    let e : (v * 256 + x) * 127 ≡ v * 127 * 256 + x * 127 = omega arith in
    ap (λ (n : ℕ). bit_and n (s * 256 + 39)) e
    ∙ and_block 8 (v * 127) s (x * 127) 39 (omega arith) (omega arith)
    ∙ ap₂ (λ (a b : ℕ). a * 256 + b) (bits_are y ys hs) (bits_of x h)
    ∙ omega arith

digit-is : (x : ℕ) → x < 16 → x + 48 + over x * 39 ≡ hex_digit x
digit-is x h = by (ltb x 10) refl
  where
    by : (b : Bool) → ltb x 10 ≡ b → x + 48 + over x * 39 ≡ cond b (48 + x) (87 + x)
    by true e = omega (arith, ltb-true x 10 e)
    by false e = omega (arith, ltb-false x 10 e)

sum_is : (x : ℕ) (xs : List ℕ) → Below 16 (x ∷ xs) → word (x ∷ xs) + same 48 (length xs) + word (each over (x ∷ xs)) * 39 ≡ word (each hex_digit (x ∷ xs))
sum_is x [] (h, _) = omega (arith, digit-is x h)
sum_is x (y ∷ ys) (h, hs) = omega (arith, digit-is x h, sum_is y ys hs)

bytes-is : (xs : List ℕ) → Below 256 xs → bytes (length xs) (word xs) ≡ xs
bytes-is [] _ = refl
bytes-is (x ∷ xs) (h, hs) =
    ap₂ (λ (a : ℕ) (b : ℕ). a ∷ bytes (length xs) b) (rest (word xs) x h) (quotient (word xs) x h) ∙ ap (λ t. x ∷ t) (bytes-is xs hs)
  where
    rest : (v x : ℕ) → x < 256 → (v * 256 + x) % 256 ≡ x
    rest v x h = omega arith

    quotient : (v x : ℕ) → x < 256 → (v * 256 + x) / 256 ≡ v
    quotient v x h = omega arith

digits-below : (xs : List ℕ) → Below 16 xs → Below 256 (each hex_digit xs)
digits-below [] _ = tt
digits-below (x ∷ xs) (h, hs) = (omega (arith, digit-is x h), digits-below xs hs)

-- ---- all eight

abbrev pub digits : ℕ → ℕ
digits c = c + 0x3030_3030_3030_3030 + bit_and (bit_and ((c + 0x606_0606_0606_0606) / 16) 0x101_0101_0101_0101 * 127) 0x2727_2727_2727_2727

digits_are : (x₀ x₁ x₂ x₃ x₄ x₅ x₆ x₇ : ℕ) → let xs = x₀ ∷ x₁ ∷ x₂ ∷ x₃ ∷ x₄ ∷ x₅ ∷ x₆ ∷ x₇ ∷ [] in Below 16 xs → digits (word xs) ≡ word (each hex_digit xs)
unfolding mask
digits_are x₀ x₁ x₂ x₃ x₄ x₅ x₆ x₇ h =
    let xs = x₁ ∷ x₂ ∷ x₃ ∷ x₄ ∷ x₅ ∷ x₆ ∷ x₇ ∷ [] in
    let v = word (x₀ ∷ xs) in
    ap (λ (k : ℕ). v + 0x3030_3030_3030_3030 + bit_and (k * 127) 0x2727_2727_2727_2727) (and_kept 7 1 7 ((v + 0x606_0606_0606_0606) / 16) ∙ over-is x₀ xs h)
    ∙ ap (λ (k : ℕ). v + 0x3030_3030_3030_3030 + k) (bits_are (over x₀) (each over xs) (over_below (x₀ ∷ xs) h))
    ∙ sum_is x₀ xs h

values : (p₀ p₁ p₂ p₃ p₄ p₅ p₆ p₇ n : ℕ) → p₀ < 16 → p₁ < 16 → p₂ < 16 → p₃ < 16 → p₄ < 16 → p₅ < 16 → p₆ < 16 → p₇ < 16
    → n % 0x1_0000 ≡ ((p₃ * 16 + p₂) * 16 + p₁) * 16 + p₀ → n / 0x1_0000 % 0x1_0000 ≡ ((p₇ * 16 + p₆) * 16 + p₅) * 16 + p₄
    → half_c (spread_b (spread_a (turn n))) ≡ word (p₇ ∷ p₆ ∷ p₅ ∷ p₄ ∷ p₃ ∷ p₂ ∷ p₁ ∷ p₀ ∷ [])
values p₀ p₁ p₂ p₃ p₄ p₅ p₆ p₇ n h₀ h₁ h₂ h₃ h₄ h₅ h₆ h₇ l u =
    let b₀ : n % 256 ≡ p₁ * 16 + p₀ = low n _ _ _ _ h₀ h₁ l in
    let b₁ : n / 0x100 % 256 ≡ p₃ * 16 + p₂ = high n _ _ _ _ h₀ h₁ h₂ h₃ l in
    let b₂ : n / 0x1_0000 % 256 ≡ p₅ * 16 + p₄ = low (n / 0x1_0000) _ _ _ _ h₄ h₅ u in
    let b₃ : n / 0x100_0000 % 256 ≡ p₇ * 16 + p₆ = ap (λ (x : ℕ). x % 256) (sym (shr-shr n 16 8)) ∙ high (n / 0x1_0000) _ _ _ _ h₄ h₅ h₆ h₇ u in
    let a = turn_is n (p₁ * 16 + p₀) (p₃ * 16 + p₂) (p₅ * 16 + p₄) (p₇ * 16 + p₆) b₀ b₁ b₂ b₃ in
    let c₀ = pair p₁ p₀ h₁ h₀ in
    let c₁ = pair p₃ p₂ h₃ h₂ in
    let c₂ = pair p₅ p₄ h₅ h₄ in
    let c₃ = pair p₇ p₆ h₇ h₆ in
    ap (λ (x : ℕ). half_c (spread_b (spread_a x))) a
    ∙ ap (λ (x : ℕ). half_c (spread_b x)) (spread_a-is ((p₅ * 16 + p₄) * 256 + (p₇ * 16 + p₆)) ((p₁ * 16 + p₀) * 256 + (p₃ * 16 + p₂)) (two _ _ c₂ c₃) (two _ _ c₀ c₁))
    ∙ ap (λ (x : ℕ). half_c x) (spread_b-is (p₇ * 16 + p₆) (p₅ * 16 + p₄) (p₃ * 16 + p₂) (p₁ * 16 + p₀) c₃ c₂ c₁ c₀)
    ∙ half_c-is p₇ p₆ p₅ p₄ p₃ p₂ p₁ p₀ h₇ h₆ h₅ h₄ h₃ h₂ h₁ h₀
    ∙ omega arith
  where
    pair : (p q : ℕ) → p < 16 → q < 16 → p * 16 + q < 256
    pair p q hp hq = omega arith

    two : (x y : ℕ) → x < 256 → y < 256 → x * 256 + y < 0x1_0000
    two x y hx hy = omega arith

    low : (n p₀ p₁ p₂ p₃ : ℕ) → p₀ < 16 → p₁ < 16 → n % 0x1_0000 ≡ ((p₃ * 16 + p₂) * 16 + p₁) * 16 + p₀ → n % 256 ≡ p₁ * 16 + p₀
    low n p₀ p₁ p₂ p₃ h₀ h₁ l = omega arith

    high : (n p₀ p₁ p₂ p₃ : ℕ) → p₀ < 16 → p₁ < 16 → p₂ < 16 → p₃ < 16 → n % 0x1_0000 ≡ ((p₃ * 16 + p₂) * 16 + p₁) * 16 + p₀ → n / 0x100 % 256 ≡ p₃ * 16 + p₂
    high n p₀ p₁ p₂ p₃ h₀ h₁ h₂ h₃ l = omega arith

-- four digits of a number
low-four : (n : ℕ) → n % 0x1_0000 ≡ ((n / 16 / 16 / 16 % 16 * 16 + n / 16 / 16 % 16) * 16 + n / 16 % 16) * 16 + n % 16
low-four n =
    let e : n ≡ n / 16 / 16 / 16 / 16 * 0x1_0000 + (((n / 16 / 16 / 16 % 16 * 16 + n / 16 / 16 % 16) * 16 + n / 16 % 16) * 16 + n % 16) = omega arith in
    ap (λ (k : ℕ). k % 0x1_0000) e ∙ omega arith

past-four : (n : ℕ) → n / 0x1_0000 ≡ n / 16 / 16 / 16 / 16
past-four n = sym (ap (λ (k : ℕ). k / 16) (ap (λ (k : ℕ). k / 16) (shr-shr n 4 4) ∙ shr-shr n 8 4) ∙ shr-shr n 12 4)

-- the bytes that the code takes of the word
low-first : (i k n : ℕ) → bytes_low_first i k n ≡ bytes k (n / 256 ^ i)
low-first i zero n = refl
low-first i (suc k) n = ap₂ (λ (b : ℕ) (bs : List ℕ). b ∷ bs) (here i) (low-first (suc i) k n ∙ ap (bytes k) (sym (further i)))
  where
    here : (i : ℕ) → byte_at i n ≡ n / 256 ^ i % 256
    here zero = ap (λ (m : ℕ). m % 256) (sym (div-one n))
    here (suc i) = refl

    further : (i : ℕ) → n / 256 ^ i / 256 ≡ n / 256 ^ suc i
    further i = div-div-eq-div-mul n (256 ^ i) 256 ∙ ap (λ (m : ℕ). n / m) (sym (pow-suc 256 i))

le-bytes : (n : ℕ) → to_le_bytes w64 n ≡ bytes 8 n
le-bytes n = low-first 0 8 n ∙ ap (bytes 8) (div-one n)

pub eight : (n : ℕ) → to_le_bytes w64 (digits (half_c (spread_b (spread_a (turn n))))) ≡ hex 8 n []
eight n =
    let n₁ = n / 16 in
    let n₂ = n₁ / 16 in
    let n₃ = n₂ / 16 in
    let n₄ = n₃ / 16 in
    let n₅ = n₄ / 16 in
    let n₆ = n₅ / 16 in
    let n₇ = n₆ / 16 in
    let xs = n₇ % 16 ∷ n₆ % 16 ∷ n₅ % 16 ∷ n₄ % 16 ∷ n₃ % 16 ∷ n₂ % 16 ∷ n₁ % 16 ∷ n % 16 ∷ [] in
    let b : Below 16 xs = (below n₇, (below n₆, (below n₅, (below n₄, (below n₃, (below n₂, (below n₁, (below n, tt)))))))) in
    le-bytes (digits (half_c (spread_b (spread_a (turn n)))))
    ∙ ap (λ (k : ℕ). bytes 8 (digits k)) (values (n % 16) (n₁ % 16) (n₂ % 16) (n₃ % 16) (n₄ % 16) (n₅ % 16) (n₆ % 16) (n₇ % 16) n (below n) (below n₁) (below n₂) (below n₃) (below n₄) (below n₅) (below n₆) (below n₇) (low-four n) (ap (λ (k : ℕ). k % 0x1_0000) (past-four n) ∙ low-four n₄))
    ∙ ap (bytes 8) (digits_are (n₇ % 16) (n₆ % 16) (n₅ % 16) (n₄ % 16) (n₃ % 16) (n₂ % 16) (n₁ % 16) (n % 16) b)
    ∙ bytes-is (each hex_digit xs) (digits-below xs b)
  where
    below : (k : ℕ) → k % 16 < 16
    below k = omega arith

-- ---- the digits written

past-eight : (n : ℕ) → n / 0x1_0000_0000 ≡ n / 16 / 16 / 16 / 16 / 16 / 16 / 16 / 16
past-eight n = sym (shr-shr n 16 16) ∙ ap (λ (k : ℕ). k / 0x1_0000) (past-four n) ∙ past-four (n / 16 / 16 / 16 / 16)

-- eight digits after eight
pub sixteen : (n : ℕ) {x y d e f : List ℕ} {at m r : ℕ} → x ≡ hex 8 (n / 0x1_0000_0000) [] → y ≡ hex 8 n [] → Written d at x e m → Written e m y f r → Written d at (hex 16 n []) f r
sixteen n {x} {y} {d} {e} {f} {at} {m} {r} ex ey p q =
    subst (λ (k : ℕ). Written d at (hex 8 k (hex 8 n [])) f r) (past-eight n) (written_then (hex 8 (n / 0x1_0000_0000) []) (hex 8 n []) (rw ex at p) (rw ey at q))
