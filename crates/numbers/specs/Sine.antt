-- Sine and cosine as document 01 gives them for `std`'s: every step one rounded operation in the order said.
use Rattle.std.specs.Prelude.{ℕ, zero, suc, ◌+◌, ◌-◌, ◌*◌, ◌/◌, ◌%◌, Bool, true, false, cond, ◌&&◌, ℤ, pos, negsuc, neg_ℤ, ◌==◌, Float}
use Rattle.std.specs.Float.Ieee as Ieee
use Rattle.std.specs.Float.{nan, inf, fin, binary64}
use Rattle.std.specs.Float.Ieee.{up, down, of_int}
use Rattle.numbers.specs.Ops.{◌⊕◌, ◌⊖◌, ◌⊗◌, ◌⊘◌, decimal, num, pick}

-- ---- Horner

-- h, then with k falling to 0 each time h × z + c k
unfoldable pub horner : (ℕ → Float) → Float → ℕ → Float → Float
horner c z zero h = h
horner c z (suc k) h = horner c z k (h ⊗ z ⊕ c k)

-- Horner in z over c k, with k from n down to 0
abbrev pub polynomial : (ℕ → Float) → ℕ → Float → Float
polynomial c n z = horner c z n (c n)

-- (-1)^k / d, one division
unfoldable pub alternating : ℕ → ℕ → Float
alternating k d = pick (k % 2 == 0) (num 1) (Ieee.neg (num 1)) ⊘ num d

unfoldable pub factorial : ℕ → ℕ
factorial zero = 1
factorial (suc n) = suc n * factorial n

-- S and C of r
unfoldable pub sin_poly : Float → Float
sin_poly r = r ⊗ polynomial (λ k. alternating k (factorial (2 * k + 1))) 8 (r ⊗ r)

unfoldable pub cos_poly : Float → Float
cos_poly r = polynomial (λ k. alternating k (factorial (2 * k))) 8 (r ⊗ r)

-- ---- the quarter turns

-- the least whole number not below y (proofs/CeilLaw.antt), for a finite y
unfoldable pub ceil : Float → ℤ
ceil nan = pos 0
ceil (inf s) = pos 0
ceil (fin false m e) = pos (m * up e / down e + cond (m * up e % down e == 0) 0 1)
ceil (fin true m e) = neg_ℤ (pos (m * up e / down e))

-- n mod 4, never negative
unfoldable pub mod4 : ℤ → ℕ
mod4 (pos n) = n % 4
mod4 (negsuc n) = 3 - n % 4

-- n, the number of quarter turns in x
unfoldable pub turns : Float → ℤ
turns x = ceil (x ⊗ decimal 6366197723675814 16 ⊖ decimal 5 1)

-- r, what is left of x after n quarter turns
unfoldable pub rest : Float → Float → Float
rest x n = (x ⊖ n ⊗ decimal 15707963267341256 16) ⊖ n ⊗ decimal 6077100506506192 26

-- by n mod 4
unfoldable pub sin_by : ℕ → Float → Float
sin_by zero r = sin_poly r
sin_by (suc zero) r = cos_poly r
sin_by (suc (suc zero)) r = Ieee.neg (sin_poly r)
sin_by (suc (suc (suc q))) r = Ieee.neg (cos_poly r)

unfoldable pub cos_by : ℕ → Float → Float
cos_by zero r = cos_poly r
cos_by (suc zero) r = Ieee.neg (sin_poly r)
cos_by (suc (suc zero)) r = Ieee.neg (cos_poly r)
cos_by (suc (suc (suc q))) r = sin_poly r

-- ---- sine and cosine

-- from -64 to 64
abbrev pub within64 : Float → Bool
within64 x = Ieee.le (Ieee.neg (num 64)) x && Ieee.le x (num 64)

-- NaN for x outside -64 to 64. A whole number of turns that is zero is +0.
unfoldable pub reduced : (ℕ → Float → Float) → Float → Float
reduced by x = pick (within64 x) (by (mod4 (turns x)) (rest x (of_int binary64 (turns x)))) nan

unfoldable pub sin : Float → Float
sin x = reduced sin_by x

unfoldable pub cos : Float → Float
cos x = reduced cos_by x
