-- The number that a NUM's digits make: below 10^15, with at most six digits behind the point. Assumes nothing.
use Prim.Native.Nat.{ℕ, suc, ◌+◌, ◌-◌, ◌*◌, ◌^◌, ◌<◌, ◌≤◌}
use native.Mathlib.Nat.{pow-suc, pow-le-pow_right, add-zero}
use native.Mathlib.Omega.{arith}
use mathlib.Core.Path.{◌≡◌, refl}
use mathlib.Core.List.{List, [], ◌∷◌, ◌++◌}
use lib.ListN.{length}
use borrow.Author.Tests.{le-leb}
use Rattle.sheets.specs.Trees.{Num, decimal_from, num_digits}
use Rattle.sheets.specs.Grammar.{Digit, Each, IsNum}
use Rattle.sheets.specs.code.reader.Codes.{digit}

-- the value of a digit, as the code has it
pub digit_value_lem : (b : ℕ) → Digit b → digit b - 1 ≡ b - 48
unfolding digit
digit_value_lem b h = rw (le-leb 48 b h.0, le-leb b 57 h.1) (omega arith)

pub decimal-bound : (ds : List ℕ) (v k : ℕ) → Each Digit ds → v < 10 ^ k → decimal_from v ds < 10 ^ (k + length ds)
unfolding decimal_from
decimal-bound [] v k h l = rw add-zero l
decimal-bound (b ∷ ds) v k h l =
    let e : k + suc (length ds) ≡ suc k + length ds = omega arith in
    rw e (decimal-bound ds (v * 10 + (b - 48)) (suc k) h.1 (rw pow-suc (omega (arith, h.0))))

-- the digits before the point and those behind it follow each other
pub decimal-append : (v : ℕ) (w t : List ℕ) → decimal_from v (w ++ t) ≡ decimal_from (decimal_from v w) t
unfolding decimal_from
decimal-append v [] t = refl
decimal-append v (b ∷ w) t = decimal-append (v * 10 + (b - 48)) w t

pub num-small : (q : Num) → IsNum q → (num_digits q < 10 ^ 15) × (length q.part ≤ 6)
num-small q h =
    let a = decimal-bound q.whole 0 0 h.0 (omega arith) in
    let b = pow-le-pow_right {n = 10} (omega arith) {i = 0 + length q.whole} {j = 9} (omega (arith, h.2)) in
    let c = decimal-bound q.part (decimal_from 0 q.whole) 9 h.3 (omega (arith, a, b)) in
    let d = pow-le-pow_right {n = 10} (omega arith) {i = 9 + length q.part} {j = 15} (omega (arith, h.4)) in
    (rw (decimal-append 0 q.whole q.part) (omega (arith, c, d)), h.4)
