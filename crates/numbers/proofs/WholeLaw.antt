-- Whole numbers that are doubles exactly: their difference, and how a value compares with one. Assumes nothing.
use Rattle.std.proofs.Common.{◌≡◌, ℕ, suc, ◌+◌, ◌-◌, ◌*◌, ◌^◌, ◌<◌, ◌≤◌, Bool, true, false, cond, ◌&&◌, ◌||◌, T, eqb, ltb, ℤ, pos, negsuc, nat_abs, sym, refl, ap, ◌∙◌, ap₂, true≢false, le_of_eq, le_of_lt, zero-lt-suc, mul_assoc, mul_comm, lt_of_mul-lt-mul_right, mul-lt-mul_of_pos_right, mul-pos, zero-mul, mul-one, mul_right_comm, arith, eqb→eq, ltb→lt, lt→ltb, ltb-false, ltb-true, le-ltb}
use native.Mathlib.Nat.{mul-sub}
use lib.IntN.{sub_ℕ}
use lib.Ieee.{Float, nan, inf, fin, binary64, up, down, round, below, level, lt, le, sub, sum, of_int}
use lib.Ieee.Fits.{down_pos}
use lib.Ieee.Exact.{HasValue}
use lib.Ieee.Back.{round_whole}
use lib.Ieee.Scale.{round_same}

-- ---- the value

abbrev under-zero : ℤ → Bool
under-zero (pos n) = false
under-zero (negsuc n) = true

pub whole_val : (z : ℤ) → nat_abs z ≤ 2 ^ 53 → HasValue (of_int binary64 z) (under-zero z) (nat_abs z) 1
unfolding of_int
whole_val (pos n) h = round_whole binary64 false n h
whole_val (negsuc n) h = round_whole binary64 true (suc n) h

-- ---- products with a number above 0 compare as their factors

pub same_test : (a b : Bool) → (T a → T b) → (T b → T a) → a ≡ b
same_test true true h k = refl
same_test true false h k = absurd (h tt)
same_test false true h k = absurd (k tt)
same_test false false h k = refl

ltb-scale : (a b c : ℕ) → 0 < c → ltb (a * c) (b * c) ≡ ltb a b
ltb-scale a b c p =
    same_test (ltb (a * c) (b * c)) (ltb a b)
    (λ l. lt→ltb a b (lt_of_mul-lt-mul_right c (ltb→lt (a * c) (b * c) l)))
    (λ l. lt→ltb (a * c) (b * c) (mul-lt-mul_of_pos_right (ltb→lt a b l) p))

below-scale : (s : Bool) (a : ℕ) (t : Bool) (b c : ℕ) → 0 < c → below s (a * c) t (b * c) ≡ below s a t b
below-scale false a false b c p = ltb-scale a b c p
below-scale false a true b c p = refl
below-scale true a false b c p =
    let e : a * c + b * c ≡ (a + b) * c = omega arith in
    ap₂ ltb (sym (zero-mul c)) e ∙ ltb-scale 0 (a + b) c p
below-scale true a true b c p = ltb-scale b a c p

-- ---- the difference

-- the whole number a as a fraction, m / d, over a further denominator
spread : (m a d e : ℕ) → m * 1 ≡ a * d → m * e ≡ a * (d * e)
spread m a d e h = ap (λ (z : ℕ). z * e) (sym (mul-one m) ∙ h) ∙ mul_assoc a d e

sum-whole : (a b c : ℕ) → 0 < c → sum binary64 false (a * c) true (b * c) c ≡ of_int binary64 (sub_ℕ a b)
unfolding sum of_int
sum-whole a b c p =
    ap (λ (t : Bool). cond t (round binary64 true (b * c - a * c) c) (round binary64 false (a * c - b * c) c)) (ltb-scale a b c p)
    ∙ go (ltb a b) (ltb→lt a b)
  where
    gap : (x y g : ℕ) → g ≡ y - x → (y * c - x * c) * 1 ≡ g * c
    gap x y g e = let f : g * c ≡ (y - x) * c = ap (λ (z : ℕ). z * c) e in omega (arith, mul-sub c y x)

    go : (t : Bool) → (T t → a < b) → cond t (round binary64 true (b * c - a * c) c) (round binary64 false (a * c - b * c) c) ≡ of_int binary64 (cond t (negsuc (b - suc a)) (pos (a - b)))
    go true h = round_same binary64 true (b * c - a * c) c (suc (b - suc a)) 1 p (zero-lt-suc 0) (gap a b (suc (b - suc a)) (omega (arith, h tt)))
    go false h = round_same binary64 false (a * c - b * c) c (a - b) 1 p (zero-lt-suc 0) (gap b a (a - b) refl)

pub sub-whole : (x y : Float) (a b : ℕ) → HasValue x false a 1 → HasValue y false b 1 → sub binary64 x y ≡ of_int binary64 (sub_ℕ a b)
unfolding sub
sub-whole nan y a b h k = absurd h
sub-whole (inf s) y a b h k = absurd h
sub-whole (fin s m e) nan a b h k = absurd k
sub-whole (fin s m e) (inf t) a b h k = absurd k
sub-whole (fin true m e) (fin t n d) a b h k = absurd (true≢false h.0)
sub-whole (fin false m e) (fin true n d) a b h k = absurd (true≢false k.0)
sub-whole (fin false m e) (fin false n d) a b h k =
    ap₂ (λ (x y : ℕ). sum binary64 false x true y (down e * down d))
    (spread (m * up e) a (down e) (down d) h.1) (spread (n * up d) b (down d) (down e) k.1 ∙ ap (λ (z : ℕ). b * z) (mul_comm (down d) (down e)))
    ∙ sum-whole a b (down e * down d) (mul-pos (down_pos e) (down_pos d))

-- ---- comparison

-- a test `a < b or a = b` that came out true, with the equation either way round
pub at_most : (a b : ℕ) (y c : Bool) → (T y → a ≤ b) → (ltb a b || (y && c)) ≡ true → a ≤ b
at_most a b y c g h = go (ltb a b) y (λ t. le_of_lt (ltb→lt a b t)) g h
  where
    go : (x y : Bool) → (T x → a ≤ b) → (T y → a ≤ b) → (x || (y && c)) ≡ true → a ≤ b
    go true y f g e = f tt
    go false true f g e = g tt
    go false false f g e = absurd (true≢false (sym e))

-- ±a ≤ ±b, so that ±b < ±a is false
not-above : (s : Bool) (a : ℕ) (t : Bool) (b : ℕ) → (below s a t b || level s a t b) ≡ true → below t b s a ≡ false
not-above false a false b h = le-ltb b a (at_most a b (eqb a b) true (λ t. le_of_eq (eqb→eq a b t)) h)
not-above false a true b h = go (eqb a b) (eqb a 0) (eqb→eq a b) (eqb→eq a 0) h
  where
    go : (x y : Bool) → (T x → a ≡ b) → (T y → a ≡ 0) → (x && y) ≡ true → ltb 0 (b + a) ≡ false
    go true true f g e = le-ltb 0 (b + a) (omega (arith, f tt, g tt))
    go true false f g e = absurd (true≢false (sym e))
    go false y f g e = absurd (true≢false (sym e))
not-above true a false b h = refl
not-above true a true b h = le-ltb a b (at_most b a (eqb a b) true (λ t. le_of_eq (sym (eqb→eq a b t))) h)

pub le_not_lt : (s : Bool) (m : ℕ) (e : ℤ) (x : Float) → le (fin s m e) x ≡ true → lt x (fin s m e) ≡ false
unfolding lt le
le_not_lt s m e nan h = absurd (true≢false (sym h))
le_not_lt s m e (inf true) h = absurd (true≢false (sym h))
le_not_lt s m e (inf false) h = refl
le_not_lt s m e (fin t n d) h = not-above s (m * up e * down d) t (n * up d * down e) h

-- a whole number below y or not, by y's fraction
lt-whole : (x : Float) (t : Bool) (b : ℕ) (s : Bool) (m : ℕ) (e : ℤ) → HasValue x t b 1 → lt x (fin s m e) ≡ below t (b * down e) s (m * up e)
unfolding lt
lt-whole nan t b s m e h = absurd h
lt-whole (inf u) t b s m e h = absurd h
lt-whole (fin u n d) t b s m e h =
    let v : n * up d * down e ≡ b * down e * down d = ap (λ (z : ℕ). z * down e) (sym (mul-one (n * up d)) ∙ h.1) ∙ mul_right_comm b (down d) (down e) in
    ap₂ (λ (u : Bool) (x : ℕ). below u x s (m * up e * down d)) h.0 v ∙ below-scale t (b * down e) s (m * up e) (down d) (down_pos d)

-- ±a / d is at most z
abbrev pub AtMost : Bool → ℕ → ℕ → ℤ → Type 0
AtMost false a d (pos n) = a ≤ n * d
AtMost false a d (negsuc n) = ⊥
AtMost true a d (pos n) = Unit {0}
AtMost true a d (negsuc n) = suc n * d ≤ a

-- ±a / d is above z
abbrev pub Exceeds : Bool → ℕ → ℕ → ℤ → Type 0
Exceeds false a d (pos n) = n * d < a
Exceeds false a d (negsuc n) = Unit {0}
Exceeds true a d (pos n) = ⊥
Exceeds true a d (negsuc n) = a < suc n * d

module _ (z : ℤ) (h : nat_abs z ≤ 2 ^ 53) (s : Bool) (m : ℕ) (e : ℤ) where
  by_fraction : lt (of_int binary64 z) (fin s m e) ≡ below (under-zero z) (nat_abs z * down e) s (m * up e)
  by_fraction = lt-whole (of_int binary64 z) (under-zero z) (nat_abs z) s m e (whole_val z h)

  pub not-below : lt (of_int binary64 z) (fin s m e) ≡ false → AtMost s (m * up e) (down e) z
  not-below t = go z s (down_pos e) (sym by_fraction ∙ t)
    where
      go : (z : ℤ) (s : Bool) → 0 < down e → below (under-zero z) (nat_abs z * down e) s (m * up e) ≡ false → AtMost s (m * up e) (down e) z
      go (pos n) false p t = ltb-false (n * down e) (m * up e) t
      go (pos n) true p t = tt
      go (negsuc n) false p t = let l : suc n * down e + m * up e ≤ 0 = ltb-false 0 (suc n * down e + m * up e) t in absurd (omega arith)
      go (negsuc n) true p t = ltb-false (m * up e) (suc n * down e) t

  pub is_below : lt (of_int binary64 z) (fin s m e) ≡ true → Exceeds s (m * up e) (down e) z
  is_below t = go z s (sym by_fraction ∙ t)
    where
      go : (z : ℤ) (s : Bool) → below (under-zero z) (nat_abs z * down e) s (m * up e) ≡ true → Exceeds s (m * up e) (down e) z
      go (pos n) false t = ltb-true (n * down e) (m * up e) t
      go (pos n) true t = absurd (true≢false (sym t))
      go (negsuc n) false t = tt
      go (negsuc n) true t = ltb-true (m * up e) (suc n * down e) t
