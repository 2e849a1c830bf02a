-- What `by_truncation` and `quarters` of src/sine.rt ask: the least whole number not below a bounded value. Assumes nothing.
use Rattle.std.proofs.Common.{◌≡◌, ℕ, zero, suc, ◌+◌, ◌-◌, ◌*◌, ◌/◌, ◌%◌, ◌^◌, ◌<◌, ◌≤◌, min, Bool, true, false, cond, not, T, eqb, ltb, ℤ, pos, negsuc, neg_ℤ, nat_abs, sym, refl, ap, ◌∙◌, subst, true≢false, add-zero, mod-lt, div-lt_iff_lt-mul, lt_of_mul-lt-mul_right, div-add-mod', add-one, arith, eqb→eq, ltb→lt, lt→ltb, nltb→le}
use native.Mathlib.Nat.{zero-div, zero-mod}
use lib.IntN.{pred_ℤ, sub_ℕ, +ℤ_idl, +ℤ-pred_ℤ}
use lib.Dec.{not_T, eqb-suc-zero}
use lib.Ieee.{Float, nan, inf, fin, binary64, up, down, lt, le, neg, sub, of_bits, of_int, to_unsigned}
use lib.Ieee.Fits.{down_pos}
use lib.Ieee.Exact.{HasValue}
use lib.Ieee.Bits.{is_false}
use Rattle.numbers.specs.Sine.{ceil, mod4}
use Rattle.numbers.specs.code.Sizes.{Bounded}
use Rattle.numbers.proofs.WholeLaw.{AtMost, Exceeds, whole_val, sub-whole, not-below, is_below, le_not_lt}

none : (m : ℕ) (e : ℤ) → to_unsigned 64 (fin true m e) ≡ 0
unfolding to_unsigned
none m e = refl

-- ---- the whole part
abbrev cut : ℕ → ℤ → ℕ
cut m e = m * up e / down e

cut-le : (m : ℕ) (e : ℤ) (b : ℕ) → m * up e ≤ b * down e → cut m e ≤ b
cut-le m e b h =
    let p : 0 < down e = down_pos e in
    let k : m * up e / down e < b + 1 = (div-lt_iff_lt-mul (down_pos e)).1 (omega arith) in
    omega arith

capped : (q : ℕ) → q ≤ 2 ^ 50 → min q (2 ^ 64 - 1) ≡ q
capped q h = omega arith

-- the size of y, as a u64
pub size-cut : (m : ℕ) (e : ℤ) → m * up e ≤ 2 ^ 50 * down e → to_unsigned 64 (fin false m e) ≡ cut m e
unfolding to_unsigned
size-cut m e h = capped (cut m e) (cut-le m e (2 ^ 50) h)

-- ---- y > 0
pub record Above (y : Float) (t : ℕ) : Type 0 where
  pub small : t ≤ 2 ^ 50
  pub less : lt (of_int binary64 (pos t)) y ≡ true → ceil y ≡ pos (t + 1)
  pub same : lt (of_int binary64 (pos t)) y ≡ false → ceil y ≡ pos t

pub in-range : (y : Float) → Bounded y (2 ^ 50) → lt (of_bits binary64 0) y ≡ true → T (lt (fin true 1 (pos 0)) y) × T (lt y (fin false 1 (pos 64)))
unfolding lt of_bits
in-range nan b h = absurd b
in-range (inf s) b h = absurd b
in-range (fin true m e) b h = absurd (true≢false (sym h))
in-range (fin false m e) b h =
    let p : 0 < down e = down_pos e in
    (lt→ltb 0 (1 * 1 * down e + m * up e * 1) (omega arith), lt→ltb (m * up e * 1) (1 * 2 ^ 64 * down e) (omega arith))

pub above : (y : Float) → Bounded y (2 ^ 50) → lt (of_bits binary64 0) y ≡ true → Above y (to_unsigned 64 y)
unfolding lt of_bits ceil
above nan b h = absurd b
above (inf s) b h = absurd b
above (fin true m e) b h = absurd (true≢false (sym h))
above (fin false m e) b h =
    let q = cut m e in
    let r = m * up e % down e in
    let d : q * down e + r ≡ m * up e = div-add-mod' (m * up e) (down e) in
    let s : q ≤ 2 ^ 50 = cut-le m e (2 ^ 50) b in
    subst (Above (fin false m e)) (sym (size-cut m e b)) (record {
      small = s;
      less = λ t. let l : q * down e < m * up e = is_below (pos q) (omega arith) false m e t in
          ap (λ (z : Bool). pos (q + cond z 0 1)) (is_false (eqb r 0) (not_T (eqb r 0) (λ (z : T (eqb r 0)). no q l d (eqb→eq r 0 z))));
      same = λ t. let l : m * up e ≤ q * down e = not-below (pos q) (omega arith) false m e t in
          ap (λ (z : ℕ). pos (q + cond (eqb z 0) 0 1)) (none q r d l) ∙ ap pos (add-zero q);
    })
  where
    no : (q : ℕ) → q * down e < m * up e → q * down e + m * up e % down e ≡ m * up e → m * up e % down e ≡ 0 → ⊥
    no q l d z = omega arith

    none : (q r : ℕ) → q * down e + r ≡ m * up e → m * up e ≤ q * down e → r ≡ 0
    none q r d l = omega arith

-- ---- y ≤ 0
pub record Under (y : Float) (t : ℕ) : Type 0 where
  pub small : t ≤ 2 ^ 50
  pub is : ceil y ≡ neg_ℤ (pos t)

no_size : (m : ℕ) (e : ℤ) → ltb (0 * 1 * down e) (m * up e * 1) ≡ false → m * up e ≡ 0
no_size m e h =
    let l : m * up e * 1 ≤ 0 * 1 * down e = nltb→le (0 * 1 * down e) (m * up e * 1) (subst (λ (z : Bool). T (not z)) (sym h) tt) in
    omega arith

pub in-range' : (y : Float) → Bounded y (2 ^ 50) → lt (of_bits binary64 0) y ≡ false → T (lt (fin true 1 (pos 0)) (neg y)) × T (lt (neg y) (fin false 1 (pos 64)))
unfolding lt of_bits neg
in-range' nan b h = absurd b
in-range' (inf s) b h = absurd b
in-range' (fin true m e) b h =
    let p : 0 < down e = down_pos e in
    (lt→ltb 0 (1 * 1 * down e + m * up e * 1) (omega arith), lt→ltb (m * up e * 1) (1 * 2 ^ 64 * down e) (omega arith))
in-range' (fin false m e) b h =
    let p : 0 < down e = down_pos e in
    let z : m * up e ≡ 0 = no_size m e h in
    (lt→ltb (m * up e * 1) (1 * 1 * down e) (omega arith), lt→ltb 0 (m * up e * 1 + 1 * 2 ^ 64 * down e) (omega arith))

zero-cut : (a d : ℕ) → 0 < d → a ≡ 0 → a / d + cond (eqb (a % d) 0) 0 1 ≡ 0
zero-cut a d p e = ap (λ (x : ℕ). x / d + cond (eqb (x % d) 0) 0 1) e ∙ go d p
  where
    go : (d : ℕ) → 0 < d → 0 / d + cond (eqb (0 % d) 0) 0 1 ≡ 0
    go d p = rw (zero-div d, zero-mod d) refl

pub under : (y : Float) → Bounded y (2 ^ 50) → lt (of_bits binary64 0) y ≡ false → Under y (to_unsigned 64 (neg y))
unfolding lt of_bits ceil neg
under nan b h = absurd b
under (inf s) b h = absurd b
under (fin true m e) b h = subst (Under (fin true m e)) (sym (size-cut m e b)) (record { small = cut-le m e (2 ^ 50) b; is = refl })
under (fin false m e) b h = subst (Under (fin false m e)) (sym (none m e)) (record { small = omega arith; is = ap pos (zero-cut (m * up e) (down e) (down_pos e) (no_size m e h)) })

-- 0 - t
zero_val : HasValue (of_bits binary64 0) false 0 1
unfolding of_bits
zero_val = (refl, refl)

zero-less : (t : ℕ) → sub_ℕ 0 t ≡ neg_ℤ (pos t)
zero-less zero = refl
zero-less (suc k) = +ℤ_idl (negsuc k)

pub minus-whole : (t : ℕ) → t ≤ 2 ^ 50 → sub binary64 (of_bits binary64 0) (of_int binary64 (pos t)) ≡ of_int binary64 (neg_ℤ (pos t))
minus-whole t h = sub-whole (of_bits binary64 0) (of_int binary64 (pos t)) 0 t zero_val (whole_val (pos t) (omega arith)) ∙ ap (of_int binary64) (zero-less t)

pub minus-mod : (t : ℕ) → (4 - t % 4) % 4 ≡ mod4 (neg_ℤ (pos t))
unfolding mod4
minus-mod zero = refl
minus-mod (suc k) = omega arith

-- ---- `ceil` is the least whole number not below
-- ±a / d is at most z, and above z - 1
abbrev Least : Bool → ℕ → ℕ → ℤ → Type 0
Least s a d z = AtMost s a d z × Exceeds s a d (pred_ℤ z)

-- of a finite value
abbrev pub IsCeil : Float → ℤ → Type 0
IsCeil nan z = ⊥
IsCeil (inf s) z = ⊥
IsCeil (fin s m e) z = Least s (m * up e) (down e) z

plus-least : (a d q r : ℕ) → 0 < d → q * d + r ≡ a → r < d → Least false a d (pos (q + cond (eqb r 0) 0 1))
plus-least a d q zero p e l = go q (add-zero q) e
  where
    go : (q : ℕ) → q + 0 ≡ q → q * d + 0 ≡ a → Least false a d (pos (q + 0))
    go q z e = subst (λ (x : ℕ). Least false a d (pos x)) (sym z) (at q e)
      where
        at : (q : ℕ) → q * d + 0 ≡ a → Least false a d (pos q)
        at zero e = (omega arith, tt)
        at (suc n) e = (omega arith, omega arith)
plus-least a d q (suc r) p e l = subst (λ (x : ℕ). Least false a d (pos x)) next (omega arith, omega arith)
  where
    next : suc q ≡ q + cond (eqb (suc r) 0) 0 1
    next = sym (add-one q) ∙ ap (λ (b : Bool). q + cond b 0 1) (sym (eqb-suc-zero r))

minus-least : (a d q r : ℕ) → q * d + r ≡ a → r < d → Least true a d (neg_ℤ (pos q))
minus-least a d zero r e l = (tt, omega arith)
minus-least a d (suc n) r e l = (omega arith, omega arith)

pub ceil-least : (y : Float) (b : ℕ) → Bounded y b → IsCeil y (ceil y)
unfolding ceil
ceil-least nan b h = h
ceil-least (inf s) b h = h
ceil-least (fin false m e) b h = plus-least (m * up e) (down e) (cut m e) (m * up e % down e) (down_pos e) (div-add-mod' (m * up e) (down e)) (mod-lt (m * up e) (down_pos e))
ceil-least (fin true m e) b h = minus-least (m * up e) (down e) (cut m e) (m * up e % down e) (div-add-mod' (m * up e) (down e)) (mod-lt (m * up e) (down_pos e))

-- ---- and the only one
same_step : (d n l : ℕ) → n * d < suc l * d → l * d < suc n * d → n ≡ l
same_step d n l h k =
    let a : n < suc l = lt_of_mul-lt-mul_right d h in
    let b : l < suc n = lt_of_mul-lt-mul_right d k in
    omega arith

same-least : (s : Bool) (a d : ℕ) (z w : ℤ) → Least s a d z → Least s a d w → z ≡ w
same-least false a d (pos zero) (pos zero) h k = refl
same-least false a d (pos zero) (pos (suc l)) h k = absurd (omega arith)
same-least false a d (pos (suc n)) (pos zero) h k = absurd (omega arith)
same-least false a d (pos (suc n)) (pos (suc l)) h k = ap (λ (x : ℕ). pos (suc x)) (same_step d n l (omega arith) (omega arith))
same-least false a d (pos n) (negsuc l) h k = absurd k.0
same-least false a d (negsuc n) w h k = absurd h.0
same-least true a d (pos zero) (pos zero) h k = refl
same-least true a d (pos zero) (pos (suc l)) h k = absurd k.1
same-least true a d (pos zero) (negsuc l) h k = absurd (omega arith)
same-least true a d (pos (suc n)) w h k = absurd h.1
same-least true a d (negsuc n) (pos zero) h k = absurd (omega arith)
same-least true a d (negsuc n) (pos (suc l)) h k = absurd k.1
same-least true a d (negsuc n) (negsuc l) h k = ap negsuc (same_step d n l (omega arith) (omega arith))

pred-size : (z : ℤ) → nat_abs (pred_ℤ z) ≤ suc (nat_abs z)
pred-size (pos zero) = omega arith
pred-size (pos (suc n)) = omega arith
pred-size (negsuc n) = omega arith

-- a whole number that y is not above, where y is above the one before
pub ceil-only : (y : Float) (b : ℕ) → Bounded y b → (z : ℤ) → nat_abs z < 2 ^ 53 → le y (of_int binary64 z) ≡ true → lt (of_int binary64 (pred_ℤ z)) y ≡ true → z ≡ ceil y
ceil-only nan b h z l t u = absurd h
ceil-only (inf s) b h z l t u = absurd h
ceil-only (fin s m e) b h z l t u =
    same-least s (m * up e) (down e) z (ceil (fin s m e))
    (not-below z (omega arith) s m e (le_not_lt s m e (of_int binary64 z) t), is_below (pred_ℤ z) (omega (arith, pred-size z)) s m e u) (ceil-least (fin s m e) b h)

-- ---- the test of `quarters`, by k - 64 and k - 65
abbrev less : ℕ → ℕ → Float
less k c = sub binary64 (of_int binary64 (pos k)) (of_int binary64 (pos c))

module _ (k : ℕ) (h : k ≤ 128) where
  less-is : (c : ℕ) → c ≤ 65 → less k c ≡ of_int binary64 (sub_ℕ k c)
  less-is c l = sub-whole (of_int binary64 (pos k)) (of_int binary64 (pos c)) k c (whole_val (pos k) (omega arith)) (whole_val (pos c) (omega arith))

  less-size : nat_abs (sub_ℕ k 64) < 2 ^ 53
  less-size = go (ltb k 64)
    where
      go : (t : Bool) → nat_abs (cond t (negsuc (64 - suc k)) (pos (k - 64))) < 2 ^ 53
      go true = omega arith
      go false = omega arith

  less-mod : k % 4 ≡ mod4 (sub_ℕ k 64)
  unfolding mod4
  less-mod = go (ltb k 64) (ltb→lt k 64) (nltb→le k 64)
    where
      go : (t : Bool) → (T t → k < 64) → (T (not t) → 64 ≤ k) → k % 4 ≡ mod4 (cond t (negsuc (64 - suc k)) (pos (k - 64)))
      go true f g = let l : k < 64 = f tt in omega arith
      go false f g = let l : 64 ≤ k = g tt in omega arith

  pub tested : (y : Float) (b : ℕ) → Bounded y b → le y (less k 64) ≡ true → lt (less k 65) y ≡ true → (less k 64 ≡ of_int binary64 (ceil y)) × (k % 4 ≡ mod4 (ceil y))
  tested y b p t u =
      let e : sub_ℕ k 64 ≡ ceil y = ceil-only y b p (sub_ℕ k 64) less-size (ap (le y) (sym (less-is 64 (omega arith))) ∙ t) before in
      (less-is 64 (omega arith) ∙ ap (of_int binary64) e, less-mod ∙ ap mod4 e)
    where
      before : lt (of_int binary64 (pred_ℤ (sub_ℕ k 64))) y ≡ true
      before = ap (λ (x : Float). lt x y) (ap (of_int binary64) (sym (+ℤ-pred_ℤ (pos k) (negsuc 63))) ∙ sym (less-is 65 (omega arith))) ∙ u
