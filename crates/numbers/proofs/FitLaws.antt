-- Every result of the definitions is a double, whatever it is given. Assumes nothing.
use Rattle.std.proofs.Common.{ℕ, zero, suc, ◌*◌, ◌/◌, ◌^◌, Bool, true, false, ◌&&◌, T}
use lib.Ieee as Ieee
use lib.Ieee.{Float, nan, inf, fin, binary64, fits, of_int, up, down}
use lib.Ieee.Fits.{round-fits, add-fits, sub-fits, mul-fits, div-fits, neg-fits, nan-fits, inf-fits}
use Rattle.numbers.specs.Ops.{◌⊕◌, ◌⊖◌, ◌⊗◌, ◌⊘◌, decimal, num, pick}
use Rattle.numbers.specs.Root.{halves, sqrt}
use Rattle.numbers.specs.Sine.{horner, alternating, factorial, sin_poly, cos_poly, sin_by, cos_by, turns, rest, mod4, within64, reduced, sin, cos}
use Rattle.numbers.specs.Floats.{pi, sign_bit, abs, clamp_unit, to_radians, to_degrees}
use Rattle.numbers.specs.Arctangent.{atan_poly, atan_unit, zero?, atan_base, turned_by, negated_by, atan2, asin}
use Rattle.numbers.specs.Powers.{cube_step, powf_third, powf_three_halves}

-- x is a double
abbrev pub Fits : Float → Type 0
Fits x = T (fits binary64 x)

pub decimal-fits : (n k : ℕ) → Fits (decimal n k)
unfolding decimal
decimal-fits n k = round-fits binary64 false n (10 ^ k)

pub pick-fits : (b : Bool) (x y : Float) → Fits x → Fits y → Fits (pick b x y)
pick-fits true x y p q = p
pick-fits false x y p q = q

-- ---- the root

pub sqrt-fits : (x : Float) → T (fits binary64 x) → T (fits binary64 (sqrt x))
unfolding sqrt
sqrt-fits nan h = nan-fits binary64
sqrt-fits (inf true) h = nan-fits binary64
sqrt-fits (inf false) h = inf-fits binary64 false
sqrt-fits (fin s zero e) h = h
sqrt-fits (fin true (suc m) e) h = nan-fits binary64
sqrt-fits (fin false (suc m) e) h = round-fits binary64 false (halves (suc m * up e * 2 ^ 2148 / down e)) (2 ^ 1075)

-- ---- sine and cosine

horner-fits : (c : ℕ → Float) (z : Float) (k : ℕ) (h : Float) → Fits h → Fits (horner c z k h)
unfolding horner
horner-fits c z zero h p = p
horner-fits c z (suc k) h p = horner-fits c z k (h ⊗ z ⊕ c k) (add-fits binary64 (h ⊗ z) (c k))

alternating-fits : (k d : ℕ) → Fits (alternating k d)
unfolding alternating
alternating-fits k d = div-fits binary64 _ (num d)

sin_poly-fits : (r : Float) → Fits (sin_poly r)
unfolding sin_poly
sin_poly-fits r = mul-fits binary64 r _

cos_poly-fits : (r : Float) → Fits (cos_poly r)
unfolding cos_poly
cos_poly-fits r = horner-fits (λ k. alternating k (factorial (2 * k))) (r ⊗ r) 8 (alternating 8 (factorial (2 * 8))) (alternating-fits 8 (factorial (2 * 8)))

sin_by-fits : (q : ℕ) (r : Float) → Fits (sin_by q r)
unfolding sin_by
sin_by-fits zero r = sin_poly-fits r
sin_by-fits (suc zero) r = cos_poly-fits r
sin_by-fits (suc (suc zero)) r = neg-fits binary64 (sin_poly r) (sin_poly-fits r)
sin_by-fits (suc (suc (suc q))) r = neg-fits binary64 (cos_poly r) (cos_poly-fits r)

cos_by-fits : (q : ℕ) (r : Float) → Fits (cos_by q r)
unfolding cos_by
cos_by-fits zero r = cos_poly-fits r
cos_by-fits (suc zero) r = neg-fits binary64 (sin_poly r) (sin_poly-fits r)
cos_by-fits (suc (suc zero)) r = neg-fits binary64 (cos_poly r) (cos_poly-fits r)
cos_by-fits (suc (suc (suc q))) r = sin_poly-fits r

reduced-fits : (by : ℕ → Float → Float) → ((q : ℕ) (r : Float) → Fits (by q r)) → (x : Float) → Fits (reduced by x)
unfolding reduced
reduced-fits by p x =
    let q = mod4 (turns x) in
    let r = rest x (of_int binary64 (turns x)) in
    pick-fits (within64 x) (by q r) nan (p q r) (nan-fits binary64)

pub sin-fits : (x : Float) → Fits (sin x)
unfolding sin
sin-fits x = reduced-fits sin_by sin_by-fits x

pub cos-fits : (x : Float) → Fits (cos x)
unfolding cos
cos-fits x = reduced-fits cos_by cos_by-fits x

-- ---- arctangent and arcsine

atan_poly-fits : (u : Float) → Fits (atan_poly u)
unfolding atan_poly
atan_poly-fits u = mul-fits binary64 u _

atan_unit-fits : (t : Float) → Fits (atan_unit t)
unfolding atan_unit
atan_unit-fits t =
    let v = atan_poly ((t ⊖ num 1) ⊘ (t ⊕ num 1)) in
    pick-fits (Ieee.le t (decimal 41421356 8)) (atan_poly t) (pi ⊘ num 4 ⊕ v) (atan_poly-fits t) (add-fits binary64 (pi ⊘ num 4) v)

atan_base-fits : (a b : Float) → Fits (atan_base a b)
unfolding atan_base
atan_base-fits a b =
    let v = atan_unit (a ⊘ b) in
    let w = atan_unit (b ⊘ a) in
    pick-fits (zero? a && zero? b) (num 0) (pick (Ieee.le a b) v (pi ⊘ num 2 ⊖ w)) (decimal-fits 0 0)
    (pick-fits (Ieee.le a b) v (pi ⊘ num 2 ⊖ w) (atan_unit-fits (a ⊘ b)) (sub-fits binary64 (pi ⊘ num 2) w))

turned_by-fits : (s : Bool) (v : Float) → Fits v → Fits (turned_by s v)
unfolding turned_by
turned_by-fits s v p = pick-fits s (pi ⊖ v) v (sub-fits binary64 pi v) p

negated_by-fits : (s : Bool) (v : Float) → Fits v → Fits (negated_by s v)
unfolding negated_by
negated_by-fits s v p = pick-fits s (Ieee.neg v) v (neg-fits binary64 v p) p

pub atan2-fits : (y x : Float) → Fits (atan2 y x)
unfolding atan2
atan2-fits y x =
    let v = atan_base (abs y) (abs x) in
    negated_by-fits (sign_bit y) (turned_by (sign_bit x) v) (turned_by-fits (sign_bit x) v (atan_base-fits (abs y) (abs x)))

pub asin-fits : (x : Float) → Fits (asin x)
unfolding asin
asin-fits x = atan2-fits x (sqrt ((num 1 ⊖ x) ⊗ (num 1 ⊕ x)))

-- ---- powers, and the smaller functions

cube_step-fits : (a y : Float) → Fits (cube_step a y)
unfolding cube_step
cube_step-fits a y = sub-fits binary64 y _

pub powf_third-fits : (a : Float) → Fits (powf_third a)
unfolding powf_third
powf_third-fits a = cube_step-fits a _

pub powf_three_halves-fits : (v : Float) → Fits (powf_three_halves v)
unfolding powf_three_halves
powf_three_halves-fits v = mul-fits binary64 v (sqrt v)

pub to_radians-fits : (x : Float) → Fits (to_radians x)
unfolding to_radians
to_radians-fits x = mul-fits binary64 x (pi ⊘ num 180)

pub to_degrees-fits : (x : Float) → Fits (to_degrees x)
unfolding to_degrees
to_degrees-fits x = mul-fits binary64 x (num 180 ⊘ pi)

-- these two and `remainder` (`rem-fits` of the library) hand back what they are given
pub abs-fits : (x : Float) → Fits x → Fits (abs x)
unfolding abs fits
abs-fits nan p = p
abs-fits (inf s) p = p
abs-fits (fin s zero e) p = p
abs-fits (fin s (suc m) e) p = p

pub clamp_unit-fits : (x : Float) → Fits x → Fits (clamp_unit x)
unfolding clamp_unit
clamp_unit-fits x p =
    let m : Fits (Ieee.neg (num 1)) = neg-fits binary64 (num 1) (decimal-fits 1 0) in
    pick-fits (Ieee.lt x (Ieee.neg (num 1))) (Ieee.neg (num 1)) _ m (pick-fits (Ieee.lt (num 1) x) (num 1) x (decimal-fits 1 0) p)
