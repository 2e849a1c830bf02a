-- Which values and which bits are a NaN's: a value that differs from itself, and bits that without their sign are above infinity's. Assumes nothing.
use Rattle.std.proofs.Common.{◌≡◌, ℕ, ◌%◌, ◌<◌, ◌≤◌, Bool, false, not, T, ltb, sym, refl, ◌∙◌, subst, true≢false, arith, ltb→lt, lt→ltb}
use lib.Dec.{not_T}
use lib.Ieee.{Float, nan, inf, fin, is_nan, ne, binary64, of_bits, nan_bits}
use lib.Ieee.Bits.{nan_bits_above, nan_bits_is}
use lib.Ieee.Compare.{nan_differs}

pub no_nan : (x : Float) → ne x x ≡ false → T (not (is_nan x))
unfolding is_nan
no_nan nan e = absurd (true≢false (sym nan_differs ∙ e))
no_nan (inf s) e = tt
no_nan (fin s m e) h = tt

is-nan : (x : Float) → T (is_nan x) → nan ≡ x
unfolding is_nan
is-nan nan h = refl
is-nan (inf s) h = absurd h
is-nan (fin s m e) h = absurd h

pub nan-bits : (b : ℕ) → 9218868437227405312 < b % 9223372036854775808 → nan ≡ of_bits binary64 b
nan-bits b h = is-nan (of_bits binary64 b) (subst T (sym (nan_bits_above binary64 b) ∙ nan_bits_is binary64 b) (lt→ltb 9218868437227405312 (b % 9223372036854775808) h))

pub number-bits : (b : ℕ) → b % 9223372036854775808 ≤ 9218868437227405312 → T (not (nan_bits binary64 b))
number-bits b h =
    subst (λ (t : Bool). T (not t)) (sym (nan_bits_above binary64 b))
    (not_T (ltb 9218868437227405312 (b % 9223372036854775808)) (λ t. past (ltb→lt 9218868437227405312 (b % 9223372036854775808) t)))
  where
    past : 9218868437227405312 < b % 9223372036854775808 → ⊥
    past l = omega arith

-- of a positive number
pub no-nan-bits : (r : ℕ) → r ≤ 9218868437227405312 → T (not (nan_bits binary64 r))
no-nan-bits r h = number-bits r (omega arith)
