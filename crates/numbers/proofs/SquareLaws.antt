-- Where the rounded square of l is below s, the rounded root of s is at least l: squares decide a distance test without the root. Assumes nothing.
use Rattle.std.proofs.Common.{◌≡◌, ℕ, zero, suc, ◌+◌, ◌*◌, ◌/◌, ◌^◌, ◌<◌, ◌≤◌, Bool, true, false, ◌&&◌, ◌||◌, T, eqb, ltb, ℤ, sym, refl, ap, ◌∙◌, subst, inl, inr, true≢false, le_trans, le_of_eq, le_of_lt, mul-le-mul_right, mul_assoc, mul_comm, mul-pos, le-div_iff_mul-le, le_of_mul-le-mul_right, arith, pow_pos, lt-ltb}
use lib.Ieee.{Float, nan, inf, fin, binary64, up, down, round, mul, lt, le}
use lib.Ieee.Fits.{down_pos}
use lib.Ieee.Bits.{is_true}
use lib.Ieee.Order.{round_mono}
use Rattle.numbers.specs.Ops.{◌⊗◌}
use Rattle.numbers.specs.Root.{sqrt, isqrt, halves}
use Rattle.numbers.specs.Floats.{abs}
use Rattle.numbers.proofs.RoundLaw.{round-own, counted}
use Rattle.numbers.proofs.Isqrt.{below_or_not, isqrt-is, root-le}
use Rattle.numbers.proofs.WholeLaw.{le_not_lt}
use Rattle.numbers.proofs.Bounds.{round-abs}
use Rattle.numbers.proofs.FitLaws.{Fits, abs-fits}

-- ---- the square

square-is : (u : Bool) (m : ℕ) (e : ℤ) → fin u m e ⊗ fin u m e ≡ round binary64 false (m * up e * (m * up e)) (down e * down e)
unfolding mul
square-is true m e = refl
square-is false m e = refl

-- where the rounded square is below a double, the exact one is
square-below : (u : Bool) (m : ℕ) (e : ℤ) (n : ℕ) (d : ℤ) → Fits (fin false n d) → lt (fin u m e ⊗ fin u m e) (fin false n d) ≡ true → m * up e * (m * up e) * down d < n * up d * (down e * down e)
square-below u m e n d q h = elim (below_or_not (m * up e * (m * up e) * down d) (n * up d * (down e * down e))) [ inl k ↦ k | inr k ↦ absurd (true≢false (sym h ∙ no k)) ]
  where
    no : n * up d * (down e * down e) ≤ m * up e * (m * up e) * down d → lt (fin u m e ⊗ fin u m e) (fin false n d) ≡ false
    no k =
        let r = round binary64 false (m * up e * (m * up e)) (down e * down e) in
        let a : T (le (fin false n d) r) = subst (λ (x : Float). T (le x r)) (round-own binary64 false n d (n * up d) (down d) q (down_pos d) refl)
        (round_mono binary64 (n * up d) (down d) (m * up e * (m * up e)) (down e * down e) (down_pos d) (mul-pos (down_pos e) (down_pos e)) k) in
        ap (λ (x : Float). lt x (fin false n d)) (square-is u m e) ∙ le_not_lt false n d r (is_true (le (fin false n d) r) a)

-- nothing is below NaN or minus infinity, infinity is below nothing, and a magnitude is below no number with a sign
below_nan : (x : Float) → lt x nan ≡ false
unfolding lt
below_nan nan = refl
below_nan (inf t) = refl
below_nan (fin t m e) = refl

below-minus : (x : Float) → lt x (inf true) ≡ false
unfolding lt
below-minus nan = refl
below-minus (inf true) = refl
below-minus (inf false) = refl
below-minus (fin t m e) = refl

inf-below : (s : Float) → lt (inf false) s ≡ false
unfolding lt
inf-below nan = refl
inf-below (inf t) = refl
inf-below (fin t n d) = refl

abs-below : (x : Float) (n : ℕ) (d : ℤ) → lt (abs x) (fin true n d) ≡ false
unfolding lt abs
abs-below nan n d = refl
abs-below (inf t) n d = refl
abs-below (fin t m e) n d = refl

-- squares that are below nothing, and one that is below no number with a sign
nan-square : (s : Float) → lt (nan ⊗ nan) s ≡ false
unfolding lt mul
nan-square s = refl

inf-square : (u : Bool) (s : Float) → lt (inf u ⊗ inf u) s ≡ false
unfolding mul
inf-square true s = inf-below s
inf-square false s = inf-below s

square-signed : (u : Bool) (m : ℕ) (e : ℤ) (n : ℕ) (d : ℤ) → lt (fin u m e ⊗ fin u m e) (fin true n d) ≡ false
square-signed u m e n d =
    let r = round binary64 false (m * up e * (m * up e)) (down e * down e) in
    ap (λ (x : Float). lt x (fin true n d)) (square-is u m e ∙ round-abs false (m * up e * (m * up e)) (down e * down e)) ∙ abs-below r n d

-- ---- the root

-- where M / E is W / L, and its square is below N / D
square-whole : (M E N D W L : ℕ) → 0 < E → M * L ≡ W * E → M * M * D < N * (E * E) → W * W * D ≤ N * (L * L)
square-whole M E N D W L P e h =
    let a : W * W * D * (E * E) ≡ M * M * D * (L * L) = swap W E D ∙ ap (λ (z : ℕ). z * z * D) (sym e) ∙ sym (swap M L D) in
    let b : M * M * D * (L * L) ≤ N * (E * E) * (L * L) = mul-le-mul_right (L * L) (le_of_lt h) in
    le_of_mul-le-mul_right {k = E * E} (le_trans (le_of_eq a) (le_trans b (le_of_eq (over N (E * E) (L * L))))) (mul-pos P P)
  where
    swap : (x y z : ℕ) → x * x * z * (y * y) ≡ x * y * (x * y) * z
    swap x y z = omega arith

    over : (x y z : ℕ) → x * y * z ≡ x * z * y
    over x y z = omega arith

-- `halves n` is at least twice every number whose square is at most n
halves-least : (n v : ℕ) → v * v ≤ n → v * 2 ≤ halves n
unfolding halves
halves-least n v h = let r = root-le n v (isqrt n) (isqrt-is n) h in omega arith

reaches : (M E W L H : ℕ) → M * L ≡ W * E → W * 2 ≤ H → M * (L * 2) ≤ H * E
reaches M E W L H e h = le_trans (le_of_eq (sym (mul_assoc M L 2) ∙ ap (λ (z : ℕ). z * 2) e ∙ mul_assoc W E 2 ∙ ap (λ (z : ℕ). W * z) (mul_comm E 2) ∙ sym (mul_assoc W 2 E))) (mul-le-mul_right E h)

-- the rounded root of N / D is at least a double whose square is below N / D
root-above : (m : ℕ) (e : ℤ) (N D : ℕ) → 0 < D → Fits (fin false m e) → m * up e * (m * up e) * D < N * (down e * down e) → le (fin false m e) (round binary64 false (halves (N * 2 ^ 2148 / D)) (2 ^ 1075)) ≡ true
root-above m e N D P p h =
    let (j, c) = counted binary64 false m e p in
    let H = halves (N * 2 ^ 2148 / D) in
    let a : m * 2 ^ j * 2 ≤ H = halves-least (N * 2 ^ 2148 / D) (m * 2 ^ j) ((le-div_iff_mul-le P).1 (square-whole (m * up e) (down e) N D (m * 2 ^ j) (2 ^ 1074) (down_pos e) c.counts.1 h)) in
    is_true (le (fin false m e) (round binary64 false H (2 ^ 1075)))
    (subst (λ (x : Float). T (le x (round binary64 false H (2 ^ 1075)))) (round-own binary64 false m e (m * up e) (down e) p (down_pos e) refl)
    (round_mono binary64 (m * up e) (down e) H (2 ^ 1075) (down_pos e) (pow_pos 1075) (reaches (m * up e) (down e) (m * 2 ^ j) (2 ^ 1074) H c.counts.1 a)))

-- what is at most a number without a sign is so with a sign
minus-too : (m : ℕ) (e : ℤ) (x : Float) → le (fin false m e) (abs x) ≡ true → le (fin true m e) (abs x) ≡ true
unfolding le abs
minus-too m e nan h = h
minus-too m e (inf t) h = refl
minus-too m e (fin t n d) h = go (m * up e * down d) (n * up d * down e)
  where
    go : (a b : ℕ) → (ltb 0 (a + b) || (eqb a b && eqb a 0)) ≡ true
    go zero zero = refl
    go zero (suc b) = rw (lt-ltb 0 (0 + suc b) (omega arith)) refl
    go (suc a) b = rw (lt-ltb 0 (suc a + b) (omega arith)) refl

signed : (u : Bool) (m : ℕ) (e : ℤ) (a b : ℕ) → le (fin false m e) (round binary64 false a b) ≡ true → le (fin u m e) (round binary64 false a b) ≡ true
signed false m e a b h = h
signed true m e a b h =
    let r = round-abs false a b in
    ap (le (fin true m e)) r ∙ minus-too m e (round binary64 false a b) (sym (ap (le (fin false m e)) r) ∙ h)

-- ---- the law

pub square-decides : (l s : Float) → Fits l → Fits s → lt (l ⊗ l) s ≡ true → le l (sqrt s) ≡ true
unfolding sqrt abs
square-decides nan s p q h = absurd (true≢false (sym h ∙ nan-square s))
square-decides (inf u) s p q h = absurd (true≢false (sym h ∙ inf-square u s))
square-decides (fin u m e) nan p q h = absurd (true≢false (sym h ∙ below_nan (fin u m e ⊗ fin u m e)))
square-decides (fin u m e) (inf true) p q h = absurd (true≢false (sym h ∙ below-minus (fin u m e ⊗ fin u m e)))
square-decides (fin u m e) (inf false) p q h = unfold le in refl
square-decides (fin u m e) (fin true n d) p q h = absurd (true≢false (sym h ∙ square-signed u m e n d))
square-decides (fin u m e) (fin false zero d) p q h = let k = square-below u m e zero d q h in absurd (omega arith)
square-decides (fin u m e) (fin false (suc n) d) p q h =
    signed u m e (halves (suc n * up d * 2 ^ 2148 / down d)) (2 ^ 1075)
    (root-above m e (suc n * up d) (down d) (down_pos d) (abs-fits (fin u m e) p) (square-below u m e (suc n) d q h))
