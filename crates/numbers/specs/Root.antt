-- The square root of a double, as IEEE 754 has it: the double nearest to the exact root, ties to even.
-- That no double is nearer, and that no tie exists, is proved of this definition in proofs/RootLaw.antt.
use Rattle.std.specs.Prelude.{ℕ, zero, suc, ◌+◌, ◌*◌, ◌/◌, ◌^◌, Bool, true, false, cond, ◌==◌, nat_le, Float}
use Rattle.std.specs.Float.{nan, inf, fin, binary64}
use Rattle.std.specs.Float.Ieee.{up, down, size, round}

-- Heron's way to the whole part of the root of n, from an r that is no smaller: the mean of r and n / r, until r * r is n at most, which b says. d bounds the steps.
unfoldable pub heron : ℕ → Bool → ℕ → ℕ → ℕ
heron zero b r n = r
heron (suc d) true r n = r
heron (suc d) false r n = let q = (r + n / r) / 2 in heron d (nat_le (q * q) n) q n

-- the whole part of the root of n
unfoldable pub isqrt : ℕ → ℕ
unfolding size heron
isqrt n = let r = 2 ^ ((size n + 1) / 2) in heron r (nat_le (r * r) n) r n

-- Twice the root of n, cut to a whole number, and made odd where the root is no whole number. It rounds as twice the root does: the extra digit only says that something follows.
unfoldable pub halves : ℕ → ℕ
unfolding isqrt
halves n = let r = isqrt n in 2 * r + cond (r * r == n) 0 1

-- A zero keeps its sign, plus infinity stays, and NaN answers NaN and anything below zero.
-- A finite x is a whole number of units of 2 ^ -1074, the smallest double. So x * 2 ^ 2148 is a whole number, whose root is that of x in those units.
unfoldable pub sqrt : Float → Float
unfolding halves round
sqrt nan = nan
sqrt (inf true) = nan
sqrt (inf false) = inf false
sqrt (fin s zero e) = fin s zero e
sqrt (fin true (suc m) e) = nan
sqrt (fin false (suc m) e) = round binary64 false (halves (suc m * up e * 2 ^ 2148 / down e)) (2 ^ 1075)
