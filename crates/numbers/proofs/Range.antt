-- The angles that `sin` and `cos` take, from -64 to 64: what is known within and outside, and that the number of quarter turns is small. Assumes nothing.
use Rattle.std.proofs.Common.{◌≡◌, ℕ, zero, suc, ◌+◌, ◌*◌, ◌%◌, ◌^◌, ◌<◌, ◌≤◌, Bool, true, false, ◌&&◌, eqb, ℤ, pos, negsuc, sym, refl, ap, true≢false, le_of_eq, arith, lit≤, eqb→eq}
use lib.Ieee.{Float, nan, inf, fin, binary64, up, down, le, neg, of_int}
use Rattle.numbers.specs.Ops.{◌⊖◌, ◌⊗◌, decimal, num, pick}
use Rattle.numbers.specs.Sine.{reduced, turns, rest, mod4, sin_by, cos_by, within64}
use Rattle.numbers.specs.code.Sizes.{Bounded}
use Rattle.numbers.proofs.WholeLaw.{at_most}
use Rattle.numbers.proofs.Bounds.{wider, le-fractions, bounded-mul, bounded-sub}

bounded : (x : Float) → le (neg (num 64)) x ≡ true → le x (num 64) ≡ true → Bounded x 64
unfolding le decimal neg
bounded nan h k = absurd (true≢false (sym h))
bounded (inf true) h k = absurd (true≢false (sym h))
bounded (inf false) h k = absurd (true≢false (sym k))
bounded (fin false m e) h k = let l : m * up e * 1 ≤ 64 * down e = le-fractions m e 1 (pos 6) k in omega arith
bounded (fin true m e) h k =
    let l : m * up e * 1 ≤ 64 * down e = at_most (m * up e * 1) (64 * down e) (eqb (64 * down e) (m * up e * 1)) true (λ t. le_of_eq (sym (eqb→eq (64 * down e) (m * up e * 1) t))) h in
    omega arith

factor : Bounded (decimal 6366197723675814 16) 1
unfolding decimal
factor = lit≤ tt

half : Bounded (decimal 5 1) 1
unfolding decimal
half = lit≤ tt

-- what `quarters` asks
pub asked : (x : Float) → le (neg (num 64)) x ≡ true → le x (num 64) ≡ true → Bounded (x ⊗ decimal 6366197723675814 16 ⊖ decimal 5 1) (2 ^ 50)
asked x h k =
    let y = x ⊗ decimal 6366197723675814 16 in
    wider (y ⊖ decimal 5 1) 65 (2 ^ 50) (lit≤ tt)
    (bounded-sub y (decimal 5 1) 64 1 (bounded-mul x (decimal 6366197723675814 16) 64 1 (bounded x h k) factor (lit≤ tt)) half (lit≤ tt))

-- ---- within the range, and outside

picked : {A : Type 0} (a b : Bool) (x y : A) → a ≡ true → b ≡ true → pick (a && b) x y ≡ x
picked true true x y h k = refl
picked true false x y h k = absurd (true≢false (sym k))
picked false b x y h k = absurd (true≢false (sym h))

passed : {A : Type 0} (a b : Bool) (x y : A) → b ≡ false → pick (a && b) x y ≡ y
passed true true x y k = absurd (true≢false k)
passed true false x y k = refl
passed false b x y k = refl

module _ (by : ℕ → Float → Float) (x : Float) where
  abbrev inside : Float
  inside = by (mod4 (turns x)) (rest x (of_int binary64 (turns x)))

  pub reduced-in : le (neg (num 64)) x ≡ true → le x (num 64) ≡ true → reduced by x ≡ inside
  unfolding reduced
  reduced-in h k = picked (le (neg (num 64)) x) (le x (num 64)) inside nan h k

  pub reduced-above : le x (num 64) ≡ false → reduced by x ≡ nan
  unfolding reduced
  reduced-above k = passed (le (neg (num 64)) x) (le x (num 64)) inside nan k

  pub reduced-below : le (neg (num 64)) x ≡ false → reduced by x ≡ nan
  unfolding reduced
  reduced-below h = ap (λ (t : Bool). pick (t && le x (num 64)) inside nan) h

  -- only the quarter met counts
  pub reduced-same : (by' : ℕ → Float → Float) → ((z : ℤ) (r : Float) → by (mod4 z) r ≡ by' (mod4 z) r) → reduced by x ≡ reduced by' x
  unfolding reduced
  reduced-same by' h = ap (λ (v : Float). pick (within64 x) v nan) (h (turns x) (rest x (of_int binary64 (turns x))))

-- ---- the quarters

pub mod4-lt : (z : ℤ) → mod4 z < 4
unfolding mod4
mod4-lt (pos n) = omega arith
mod4-lt (negsuc n) = omega arith

sin-same : (q : ℕ) → q < 4 → (r : Float) → sin_by ((q + 0) % 4) r ≡ sin_by q r
sin-same q h r = let e : (q + 0) % 4 ≡ q = omega arith in ap (λ (k : ℕ). sin_by k r) e

cos-next : (q : ℕ) → q < 4 → (r : Float) → sin_by ((q + 1) % 4) r ≡ cos_by q r
unfolding sin_by cos_by
cos-next zero h r = refl
cos-next (suc zero) h r = refl
cos-next (suc (suc zero)) h r = refl
cos-next (suc (suc (suc zero))) h r = refl
cos-next (suc (suc (suc (suc q)))) h r = absurd (omega arith)

-- the sine no quarter on is itself, and one quarter on it is the cosine
pub sine-here : (x : Float) → reduced (λ q. sin_by ((q + 0) % 4)) x ≡ reduced sin_by x
sine-here x = reduced-same (λ q. sin_by ((q + 0) % 4)) x sin_by (λ z r. sin-same (mod4 z) (mod4-lt z) r)

pub sine-next : (x : Float) → reduced (λ q. sin_by ((q + 1) % 4)) x ≡ reduced cos_by x
sine-next x = reduced-same (λ q. sin_by ((q + 1) % 4)) x cos_by (λ z r. cos-next (mod4 z) (mod4-lt z) r)
