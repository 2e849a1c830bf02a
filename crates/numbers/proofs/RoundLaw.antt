-- A value that the format holds is rounded to itself: `round-own`. Assumes nothing.
use Rattle.std.proofs.Common.{◌≡◌, ℕ, zero, suc, ◌+◌, ◌-◌, ◌*◌, ◌%◌, ◌^◌, ◌<◌, ◌≤◌, Bool, ◌&&◌, T, eqb, ltb, leb, ℤ, pos, negsuc, sym, refl, ap, ◌∙◌, subst, lt_of_lt_of_le, le_of_suc-le-suc, lt_irrefl, zero-lt-suc, mul_assoc, mul_comm, lt_of_mul-lt-mul_right, mul-lt-mul_of_pos_right, mul-pos, one-mul, pow-suc, lt_of_not-le, zero-mul, mul-one, mul_right_comm, mul_left_comm, arith, eqb→eq, ltb→lt, leb→le, pow_pos, pow-add}
use native.Mathlib.Nat.{pow-succ', eq_of_mul-eq-mul_right}
use lib.Pow.{pow-lt}
use lib.Ieee.{Float, fin, Format, binary32, binary64, prec, emax, low, up, down, round, fits}
use lib.Ieee.Fits.{and_l, and_r, up_pos, down_pos, round-fits}
use lib.Ieee.Exact.{HasValue, round_exact}
use lib.Ieee.Scale.{round_same}

-- ---- what `fits` says of a value that is not zero

module _ (f : Format) (s : Bool) (m : ℕ) (e : ℤ) (t : T (fits f (fin s (suc m) e))) where
  abbrev A : Bool
  A = eqb (suc m % 2) 1

  abbrev B : Bool
  B = ltb (suc m) (2 ^ prec f)

  abbrev C : Bool
  C = leb (down e) (2 ^ low f)

  abbrev D : Bool
  D = ltb (suc m * up e) (2 ^ suc (emax f) * down e)

  fit-odd : suc m % 2 ≡ 1
  unfolding fits
  fit-odd = eqb→eq (suc m % 2) 1 (and_l A B (and_l (A && B) C (and_l (A && B && C) D t)))

  pub fit_small : suc m < 2 ^ prec f
  unfolding fits
  fit_small = ltb→lt (suc m) (2 ^ prec f) (and_r A B (and_l (A && B) C (and_l (A && B && C) D t)))

  pub fit-deep : down e ≤ 2 ^ low f
  unfolding fits
  fit-deep = leb→le (down e) (2 ^ low f) (and_r (A && B) C (and_l (A && B && C) D t))

  pub fit-high : suc m * up e < 2 ^ suc (emax f) * down e
  unfolding fits
  fit-high = ltb→lt (suc m * up e) (2 ^ suc (emax f) * down e) (and_r (A && B && C) D t)

two_up : (p : ℕ) → 0 < p → 2 * p ≡ 1 → ⊥
two_up p h e = omega arith

flat : (e : ℤ) → up e * down e ≡ 1 → e ≡ pos 0
flat (pos zero) h = refl
flat (pos (suc k)) h = absurd (two_up (2 ^ k) (pow_pos k) (sym (pow-succ' 2 k) ∙ sym (mul-one (2 ^ suc k)) ∙ h))
flat (negsuc k) h = absurd (two_up (2 ^ k) (pow_pos k) (sym (pow-succ' 2 k) ∙ sym (one-mul (2 ^ suc k)) ∙ h))

pub zero_exp : (f : Format) (s : Bool) (e : ℤ) → T (fits f (fin s zero e)) → e ≡ pos 0
unfolding fits
zero_exp f s e t = flat e (eqb→eq (up e * down e) 1 t)

-- ---- a value is written in one way

even_odd : (m t : ℕ) → m % 2 ≡ 1 → m ≡ 2 * t → ⊥
even_odd m t o h = omega arith

odd_pow : (m n a b : ℕ) → m % 2 ≡ 1 → n % 2 ≡ 1 → m * 2 ^ a ≡ n * 2 ^ b → (m ≡ n) × (a ≡ b)
odd_pow m n zero zero o p h = (sym (mul-one m) ∙ h ∙ mul-one n, refl)
odd_pow m n zero (suc b) o p h = absurd (even_odd m (n * 2 ^ b) o (sym (mul-one m) ∙ h ∙ ap (λ (x : ℕ). n * x) (pow-succ' 2 b) ∙ mul_left_comm n 2 (2 ^ b)))
odd_pow m n (suc a) zero o p h = absurd (even_odd n (m * 2 ^ a) p (sym (mul-one n) ∙ sym h ∙ ap (λ (x : ℕ). m * x) (pow-succ' 2 a) ∙ mul_left_comm m 2 (2 ^ a)))
odd_pow m n (suc a) (suc b) o p h =
    let r = odd_pow m n a b o p (eq_of_mul-eq-mul_right 2 (zero-lt-suc 1) (m * 2 ^ a) (n * 2 ^ b)
    (mul_assoc m (2 ^ a) 2 ∙ ap (λ (x : ℕ). m * x) (sym (pow-suc 2 a)) ∙ h ∙ ap (λ (x : ℕ). n * x) (pow-suc 2 b) ∙ sym (mul_assoc n (2 ^ b) 2))) in
    (r.0, ap suc r.1)

-- the same odd number with two exponents, as one fraction
same-exp : (m n : ℕ) (g e : ℤ) → n % 2 ≡ 1 → m % 2 ≡ 1 → n * up g * down e ≡ m * up e * down g → (n ≡ m) × (g ≡ e)
same-exp m n (pos a) (pos b) o p h =
    let r = odd_pow n m a b o p (sym (mul-one (n * 2 ^ a)) ∙ h ∙ mul-one (m * 2 ^ b)) in
    (r.0, ap pos r.1)
same-exp m n (pos a) (negsuc b) o p h =
    absurd (even_odd m (n * (2 ^ a * 2 ^ b)) p (sym (mul-one m) ∙ sym (mul-one (m * 1)) ∙ sym h
    ∙ ap (λ (x : ℕ). n * 2 ^ a * x) (pow-succ' 2 b) ∙ mul_left_comm (n * 2 ^ a) 2 (2 ^ b) ∙ ap (λ (x : ℕ). 2 * x) (mul_assoc n (2 ^ a) (2 ^ b))))
same-exp m n (negsuc a) (pos b) o p h =
    absurd (even_odd n (m * (2 ^ b * 2 ^ a)) o (sym (mul-one n) ∙ sym (mul-one (n * 1)) ∙ h
    ∙ ap (λ (x : ℕ). m * 2 ^ b * x) (pow-succ' 2 a) ∙ mul_left_comm (m * 2 ^ b) 2 (2 ^ a) ∙ ap (λ (x : ℕ). 2 * x) (mul_assoc m (2 ^ b) (2 ^ a))))
same-exp m n (negsuc a) (negsuc b) o p h =
    let r = odd_pow n m (suc b) (suc a) o p (ap (λ (x : ℕ). x * 2 ^ suc b) (sym (mul-one n)) ∙ h ∙ ap (λ (x : ℕ). x * 2 ^ suc a) (mul-one m)) in
    (r.0, ap negsuc (sym (suc_inj b a r.1)))
  where
    suc_inj : (x y : ℕ) → suc x ≡ suc y → x ≡ y
    suc_inj x y q = omega arith

-- x fits and is the number that fin s (suc m) e is: it is that value
own-unique : (f : Format) (x : Float) (s : Bool) (m : ℕ) (e : ℤ) → T (fits f x) → T (fits f (fin s (suc m) e)) → HasValue x s (suc m * up e) (down e) → x ≡ fin s (suc m) e
own-unique f (fin t zero g) s m e p q v =
    absurd (lt_irrefl 0 (subst (λ (x : ℕ). 0 < x) (sym v.1 ∙ ap (λ (x : ℕ). x * down e) (zero-mul (up g)) ∙ zero-mul (down e)) (mul-pos (mul-pos (zero-lt-suc m) (up_pos e)) (down_pos g))))
own-unique f (fin t (suc n) g) s m e p q v =
    let r = same-exp (suc m) (suc n) g e (fit-odd f t n g p) (fit-odd f s m e q) v.1 in
    λ i. fin (v.0 i) (r.0 i) (r.1 i)
own-unique f lib.Ieee.nan s m e p q v = elim v [ ]
own-unique f (lib.Ieee.inf _) s m e p q v = elim v [ ]

-- ---- a value that fits is rounded to itself

-- up e / down e in units of 2 ^ - l
pub place : (l : ℕ) (e : ℤ) → down e ≤ 2 ^ l → (j : ℕ) × (up e * 2 ^ l ≡ 2 ^ j * down e)
place l (pos k) h = (k + l, sym (pow-add 2 k l) ∙ sym (mul-one (2 ^ (k + l))))
place l (negsuc k) h =
    let le : suc k ≤ l = pow_le_back (suc k) l h in
    (l - suc k, one-mul (2 ^ l) ∙ ap (λ (x : ℕ). 2 ^ x) (split l (suc k) le) ∙ pow-add 2 (l - suc k) (suc k))
  where
    pow_le_back : (a b : ℕ) → 2 ^ a ≤ 2 ^ b → a ≤ b
    pow_le_back a b g = le_of_suc-le-suc (lt_of_not-le (λ (w : suc b ≤ a). lt_irrefl (2 ^ b) (lt_of_lt_of_le (pow-lt w) g)))

    split : (a b : ℕ) → b ≤ a → a ≡ a - b + b
    split a b g = omega arith

-- x is m * 2 ^ j of the format's smallest values, with an m of no more digits than the format keeps
pub record Counted (f : Format) (x : Float) (s : Bool) (m j : ℕ) : Type 0 where
  pub counts : HasValue x s (m * 2 ^ j) (2 ^ low f)
  pub short : m < 2 ^ prec f
  pub under : m * 2 ^ j < 2 ^ (low f + suc (emax f))

pub counted : (f : Format) (s : Bool) (m : ℕ) (e : ℤ) → T (fits f (fin s m e)) → (j : ℕ) × Counted f (fin s m e) s m j
counted f s zero e t =
    let z : e ≡ pos 0 = zero_exp f s e t in
    (0, subst (λ (x : ℤ). Counted f (fin s 0 x) s 0 0) (sym z) (record { counts = (refl, zero-mul (2 ^ low f)); short = pow_pos (prec f); under = pow_pos (low f + suc (emax f)) }))
counted f s (suc m) e t =
    let l = low f in
    let pl = place l e (fit-deep f s m e t) in
    let j = pl.0 in
    let is : suc m * up e * 2 ^ l ≡ suc m * 2 ^ j * down e = mul_assoc (suc m) (up e) (2 ^ l) ∙ ap (λ (x : ℕ). suc m * x) pl.1 ∙ sym (mul_assoc (suc m) (2 ^ j) (down e)) in
    let below : suc m * 2 ^ j * down e < 2 ^ (l + suc (emax f)) * down e =
    subst (λ (x : ℕ). x < 2 ^ (l + suc (emax f)) * down e) is
    (subst (λ (x : ℕ). suc m * up e * 2 ^ l < x)
    (mul_right_comm (2 ^ suc (emax f)) (down e) (2 ^ l) ∙ ap (λ (x : ℕ). x * down e) (mul_comm (2 ^ suc (emax f)) (2 ^ l) ∙ sym (pow-add 2 l (suc (emax f)))))
    (mul-lt-mul_of_pos_right (fit-high f s m e t) (pow_pos l))) in
    (j, record { counts = (refl, is); short = fit_small f s m e t; under = lt_of_mul-lt-mul_right (down e) below })

own_value : (f : Format) (s : Bool) (m : ℕ) (e : ℤ) → T (fits f (fin s m e)) → HasValue (round f s (m * up e) (down e)) s (m * up e) (down e)
own_value f s m e t =
    let (j, c) = counted f s m e t in
    round_exact f s (m * up e) (down e) m j (down_pos e) c.short c.under c.counts.1

round-zero-at : (f : Format) (s : Bool) → round f s 0 1 ≡ fin s 0 (pos 0)
unfolding round
round-zero-at binary32 s = refl
round-zero-at binary64 s = refl

pub round-zero : (f : Format) (s : Bool) (c : ℕ) → 0 < c → round f s 0 c ≡ fin s 0 (pos 0)
round-zero f s c h = round_same f s 0 c 0 1 h (zero-lt-suc 0) (sym (zero-mul c)) ∙ round-zero-at f s

-- at any fraction of its value
pub round-own : (f : Format) (s : Bool) (m : ℕ) (e : ℤ) (a c : ℕ) → T (fits f (fin s m e)) → 0 < c → a * down e ≡ m * up e * c → round f s a c ≡ fin s m e
round-own f s zero e a c t h p =
    let z : a ≡ 0 = zero_of a (down e) (down_pos e) (p ∙ ap (λ (x : ℕ). x * c) (zero-mul (up e)) ∙ zero-mul c) in
    ap (λ (x : ℕ). round f s x c) z ∙ round-zero f s c h ∙ ap (λ (x : ℤ). fin s 0 x) (sym (zero_exp f s e t))
  where
    zero_of : (x y : ℕ) → 0 < y → x * y ≡ 0 → x ≡ 0
    zero_of zero y g q = refl
    zero_of (suc x) y g q = absurd (lt_irrefl 0 (subst (λ (z : ℕ). 0 < z) q (mul-pos (zero-lt-suc x) g)))
round-own f s (suc m) e a c t h p =
    round_same f s a c (suc m * up e) (down e) h (down_pos e) p
    ∙ own-unique f (round f s (suc m * up e) (down e)) s m e (round-fits f s (suc m * up e) (down e)) t (own_value f s (suc m) e t)
