-- What `normalised_radians` answers in each of its cases. An angle within the maximum on either side of zero is its own remainder, so that normalising it takes no division. Assumes nothing.
use Rattle.std.proofs.lemmas.Float.{T_from_true}
use Rattle.std.proofs.Common.{◌≡◌, ℕ, ◌+◌, ◌*◌, ◌<◌, Bool, true, false, not, ◌&&◌, T, eqb, pos, sym, refl, ap, ◌∙◌, true≢false, arith, eqb→eq, ltb-true, lt-ltb, ne_eqb}
use lib.Ieee.{Float, nan, inf, fin, binary64, up, down, below, level, le, lt, eq, neg}
use lib.Ieee.Fits.{and_l}
use lib.Ieee.Positive.{first_pos}
use Rattle.numbers.specs.Ops.{◌⊕◌, decimal, num, pick}
use Rattle.numbers.specs.Floats.{remainder}
use Rattle.numbers.specs.Angles.{angle, raised, wrapped, normalised_to}
use Rattle.numbers.specs.declared.Angle.{Angle}
use Rattle.numbers.proofs.FitLaws.{Fits}
use Rattle.numbers.proofs.FloatLaws.{rem-small, smaller}
use Rattle.numbers.proofs.WholeLaw.{le_not_lt}

-- ---- comparisons

-- ±a < ±b, so that they differ
not-level : (s : Bool) (a : ℕ) (t : Bool) (b : ℕ) → below s a t b ≡ true → level s a t b ≡ false
not-level false a false b h = ap (λ (x : Bool). x && true) (ne_eqb a b (λ e. omega (arith, ltb-true a b h)))
not-level false a true b h = absurd (true≢false (sym h))
not-level true a false b h = go (eqb a b) (eqb a 0) (eqb→eq a b) (eqb→eq a 0)
  where
    go : (x y : Bool) → (T x → a ≡ b) → (T y → a ≡ 0) → (x && y) ≡ false
    go true true e z = absurd (omega (arith, ltb-true 0 (a + b) h, e tt, z tt))
    go true false e z = refl
    go false y e z = refl
not-level true a true b h = ap (λ (x : Bool). x && true) (ne_eqb a b (λ e. omega (arith, ltb-true b a h)))

lt-not-eq : (x y : Float) → lt x y ≡ true → eq x y ≡ false
unfolding lt eq
lt-not-eq nan y h = refl
lt-not-eq (inf s) nan h = refl
lt-not-eq (inf true) (inf true) h = absurd (true≢false (sym h))
lt-not-eq (inf true) (inf false) h = refl
lt-not-eq (inf false) (inf t) h = absurd (true≢false (sym h))
lt-not-eq (inf s) (fin t n d) h = refl
lt-not-eq (fin s m e) nan h = refl
lt-not-eq (fin s m e) (inf t) h = refl
lt-not-eq (fin s m e) (fin t n d) h = not-level s (m * up e * down d) t (n * up d * down e) h

zero-not : (x : Float) → le (num 0) x ≡ true → lt x (num 0) ≡ false
unfolding decimal
zero-not x h = le_not_lt false 0 (pos 0) x h

-- a max that is larger than x on either side of zero is above zero
max-above : (x max : Float) → lt (neg max) x ≡ true → lt x max ≡ true → lt (num 0) max ≡ true
unfolding lt neg decimal
max-above nan max h k = absurd (true≢false (sym k))
max-above (inf s) nan h k = absurd (true≢false (sym k))
max-above (inf true) (inf true) h k = absurd (true≢false (sym k))
max-above (inf true) (inf false) h k = absurd (true≢false (sym h))
max-above (inf false) (inf t) h k = absurd (true≢false (sym k))
max-above (inf true) (fin t n d) h k = absurd (true≢false (sym h))
max-above (inf false) (fin t n d) h k = absurd (true≢false (sym k))
max-above (fin s m e) nan h k = absurd (true≢false (sym k))
max-above (fin s m e) (inf true) h k = absurd (true≢false (sym k))
max-above (fin s m e) (inf false) h k = refl
max-above (fin false m e) (fin true n d) h k = absurd (true≢false (sym k))
max-above (fin true m e) (fin true n d) h k = absurd (true≢false (sym h))
max-above (fin s m e) (fin false n d) h k =
    let l : m * up e * down d < n * up d * down e = smaller s (m * up e * down d) false (n * up d * down e) h k in
    let p : 0 < n * up d = first_pos (n * up d) (down e) (omega arith) in
    lt-ltb (0 * 1 * down d) (n * up d * 1) (omega arith)

-- from zero to max is within max on either side of zero
inside : (x max : Float) → le (num 0) x ≡ true → lt x max ≡ true → lt (neg max) x ≡ true
unfolding lt le eq neg decimal
inside nan max h k = absurd (true≢false (sym h))
inside (inf true) max h k = absurd (true≢false (sym h))
inside (inf false) nan h k = absurd (true≢false (sym k))
inside (inf false) (inf t) h k = absurd (true≢false (sym k))
inside (inf false) (fin t n d) h k = absurd (true≢false (sym k))
inside (fin s m e) nan h k = absurd (true≢false (sym k))
inside (fin s m e) (inf true) h k = absurd (true≢false (sym k))
inside (fin s m e) (inf false) h k = refl
inside (fin false m e) (fin true n d) h k = absurd (true≢false (sym k))
inside (fin false m e) (fin false n d) h k = lt-ltb 0 (n * up d * down e + m * up e * down d) (omega (arith, ltb-true (m * up e * down d) (n * up d * down e) k))
inside (fin true m e) (fin t n d) h k = go t k
  where
    none : m * up e * down d ≡ 0
    none =
        let z : 0 * 1 * down e ≡ m * up e * 1 = eqb→eq (0 * 1 * down e) (m * up e * 1) (and_l (eqb (0 * 1 * down e) (m * up e * 1)) (eqb (0 * 1 * down e) 0) (T_from_true _ h)) in
        let w : m * up e ≡ 0 = omega arith in
        ap (λ (a : ℕ). a * down d) w ∙ omega arith

    go : (t : Bool) → below true (m * up e * down d) t (n * up d * down e) ≡ true → below (not t) (n * up d * down e) true (m * up e * down d) ≡ true
    go true k = absurd (omega (arith, none, ltb-true (n * up d * down e) (m * up e * down d) k))
    go false k = lt-ltb (m * up e * down d) (n * up d * down e) (omega (arith, none, ltb-true 0 (m * up e * down d + n * up d * down e) k))

-- ---- the cases

-- a remainder, moved up where it is below zero
abbrev pub lift : Float → Float → Angle
lift r max = pick (lt r (num 0)) (angle (raised r max)) (angle r)

-- the same in two steps
abbrev pub lifted : Float → Float → Float
lifted x max = pick (lt x (num 0)) (x ⊕ max) x

pub within : (x max : Float) → Fits x → lt (neg max) x ≡ true → lt x max ≡ true → angle (pick (eq (lifted x max) max) (num 0) (lifted x max)) ≡ normalised_to (angle x) (angle max)
unfolding normalised_to wrapped raised
within x max f h k =
    go (le (num 0) x) (lt x max) (lt x (num 0)) (lt (num 0) max) k (max-above x max h k) (zero-not x)
    ∙ ap (λ (r : Float). pick (le (num 0) x && lt x max) (angle x) (lift r max)) (sym (rem-small binary64 x max f h k))
  where
    -- not max itself
    stays : angle (pick (eq x max) (num 0) x) ≡ angle x
    stays = ap (λ (t : Bool). angle (pick t (num 0) x)) (lt-not-eq x max k)

    go : (a b c u : Bool) → b ≡ true → u ≡ true → (a ≡ true → c ≡ false)
        → angle (pick (eq (pick c (x ⊕ max) x) max) (num 0) (pick c (x ⊕ max) x)) ≡ pick (a && b) (angle x) (pick c (angle (pick (u && eq (x ⊕ max) max) (num 0) (x ⊕ max))) (angle x))
    go true false c u p q z = absurd (true≢false (sym p))
    go true true true u p q z = absurd (true≢false (z refl))
    go true true false u p q z = stays
    go false b true true p q z = refl
    go false b true false p q z = absurd (true≢false (sym q))
    go false b false u p q z = stays

pub beyond : (x max : Float) → lt x max ≡ false → lift (remainder x max) max ≡ normalised_to (angle x) (angle max)
unfolding normalised_to wrapped
beyond x max h = go (le (num 0) x) (lt x max) h
  where
    go : (a b : Bool) → b ≡ false → lift (remainder x max) max ≡ pick (a && b) (angle x) (lift (remainder x max) max)
    go true true e = absurd (true≢false e)
    go true false e = refl
    go false b e = refl

pub below-max : (x max : Float) → lt (neg max) x ≡ false → lift (remainder x max) max ≡ normalised_to (angle x) (angle max)
unfolding normalised_to wrapped
below-max x max h = go (le (num 0) x) (lt x max) (inside x max)
  where
    go : (a b : Bool) → (a ≡ true → b ≡ true → lt (neg max) x ≡ true) → lift (remainder x max) max ≡ pick (a && b) (angle x) (lift (remainder x max) max)
    go true true e = absurd (true≢false (sym (e refl refl) ∙ h))
    go true false e = refl
    go false b e = refl
