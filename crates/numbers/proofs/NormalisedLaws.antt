-- An angle that is normalised to a maximum above zero is at least zero and below the maximum. Assumes nothing.
-- `normalised-below`: for every finite angle. Of an infinite maximum it says the same: an angle below zero comes to 0, and any other stays.
-- `normalised-never`: for every angle, a NaN and the infinities included, whose answer is a NaN: it never reaches the maximum.
use Rattle.std.proofs.lemmas.Float.{T_from_true}
use Rattle.std.proofs.Common.{◌≡◌, ℕ, ◌+◌, ◌-◌, ◌*◌, ◌/◌, ◌%◌, ◌^◌, ◌<◌, ◌≤◌, Bool, true, false, cond, not, ◌&&◌, ◌||◌, T, ltb, ℤ, pos, sym, refl, ap, ◌∙◌, subst, inl, inr, true≢false, le_trans, le_of_eq, lt_of_le_of_lt, mul-le-mul_right, mod-lt, zero-lt-suc, mul_assoc, mul-pos, div-add-mod', sub-le, arith, pow_pos, pow-add, ltb-false, ltb-true, le-ltb, lt-ltb}
use lib.Ieee.{Float, nan, inf, fin, binary64, up, down, round, rem, add, sum, lt, le, eq}
use lib.Ieee.Exact.{HasValue, round_exact}
use lib.Ieee.Fits.{down_pos}
use lib.Ieee.Bits.{is_true}
use lib.Ieee.Order.{round_mono, le_of_values}
use lib.Ieee.Scale.{finite}
use lib.Ieee.Positive.{first_pos}
use Rattle.numbers.specs.Ops.{◌⊕◌, decimal, num, pick}
use Rattle.numbers.specs.Floats.{remainder}
use Rattle.numbers.specs.Angles.{angle, raised, wrapped, normalised_to}
use Rattle.numbers.specs.declared.Angle.{Angle}
use Rattle.numbers.proofs.FitLaws.{Fits}
use Rattle.numbers.proofs.FloatLaws.{rem-inf}
use Rattle.numbers.proofs.Isqrt.{below_or_not}
use Rattle.numbers.proofs.Modulo.{mod-scale}
use Rattle.numbers.proofs.RoundLaw.{counted, round-own}
use Rattle.numbers.proofs.RemLaws.{shares}
use Rattle.numbers.proofs.ArcLaws.{zeros-le}
use Rattle.numbers.proofs.Values.{smaller-parts, rem-at}
use Rattle.numbers.proofs.WholeLaw.{le_not_lt}

-- at least zero and below max, compared as numbers: minus zero is at least zero
pub record Below (max x : Float) : Type 0 where
  pub from_zero : le (num 0) x ≡ true
  pub short_of : lt x max ≡ true

-- ---- a remainder is exact, and smaller than the divisor

mod-le : (a b : ℕ) → a % b ≤ a
mod-le a b = let e : a / b * b + a % b ≡ a = div-add-mod' a b in omega arith

-- what b leaves of a is q * 2 ^ i, with a q below the limit
record Left (a b limit : ℕ) : Type 0 where
  q : ℕ
  i : ℕ
  is : a % b ≡ q * 2 ^ i
  short : q < limit

left : (m j n k limit : ℕ) → 0 < n → m < limit → n < limit → Left (m * 2 ^ j) (n * 2 ^ k) limit
left m j n k limit p a b = elim (below_or_not j k) [
  | inl l ↦
      let e : k - j + j ≡ k = omega arith in
      let f : n * 2 ^ k ≡ n * 2 ^ (k - j) * 2 ^ j = ap (λ (z : ℕ). n * z) (ap (λ (z : ℕ). 2 ^ z) (sym e) ∙ pow-add 2 (k - j) j) ∙ sym (mul_assoc n (2 ^ (k - j)) (2 ^ j)) in
      record {
        q = m % (n * 2 ^ (k - j));
        i = j;
        is = ap (λ (z : ℕ). m * 2 ^ j % z) f ∙ mod-scale m (n * 2 ^ (k - j)) (2 ^ j) (mul-pos p (pow_pos (k - j))) (pow_pos j);
        short = lt_of_le_of_lt (mod-le m (n * 2 ^ (k - j))) a;
      }
  | inr l ↦ let h : m * 2 ^ (j - k) % n < n = mod-lt (m * 2 ^ (j - k)) p in record { q = m * 2 ^ (j - k) % n; i = k; is = shares m j n k p l; short = omega arith }
]

-- the remainder r by a y above zero, both in units of the smallest double, and the sign s of r
record Rest (r y : Float) (s : Bool) : Type 0 where
  R : ℕ
  Y : ℕ
  rest : HasValue r s R (2 ^ 1074)
  whole : HasValue y false Y (2 ^ 1074)
  less : R < Y

rest_of : (s : Bool) (m : ℕ) (e : ℤ) (n : ℕ) (d : ℤ) → Fits (fin s m e) → Fits (fin false n d) → 0 < n → Rest (remainder (fin s m e) (fin false n d)) (fin false n d) s
rest_of s m e n d f g p =
    let (j, a) = counted binary64 s m e f in
    let (k, b) = counted binary64 false n d g in
    let l = left m j n k (2 ^ 53) p a.short b.short in
    let X = m * 2 ^ j in
    let Y = n * 2 ^ k in
    let P : 0 < Y = mul-pos p (pow_pos k) in
    let v : remainder (fin s m e) (fin false n d) ≡ round binary64 s (X % Y) (2 ^ 1074) = rem-at (fin s m e) (fin false n d) s false X Y (2 ^ 1074) (pow_pos 1074) P a.counts b.counts in
    record {
      R = X % Y;
      Y = Y;
      rest = subst (λ (z : Float). HasValue z s (X % Y) (2 ^ 1074)) (sym v)
          (round_exact binary64 s (X % Y) (2 ^ 1074) l.q l.i (pow_pos 1074) l.short (subst (λ (z : ℕ). z < 2 ^ 2098) l.is (lt_of_le_of_lt (mod-le X Y) a.under)) (ap (λ (z : ℕ). z * 2 ^ 1074) l.is));
      whole = b.counts;
      less = mod-lt X P;
    }

-- ---- comparisons of finite values

-- a value of either sign is below a larger one without
below_by : (s : Bool) (m : ℕ) (e : ℤ) (n : ℕ) (d : ℤ) → m * up e * down d < n * up d * down e → lt (fin s m e) (fin false n d) ≡ true
unfolding lt
below_by false m e n d l = lt-ltb (m * up e * down d) (n * up d * down e) l
below_by true m e n d l = lt-ltb 0 (m * up e * down d + n * up d * down e) (omega arith)

-- a finite value that is not below zero is at least zero
at-least-zero : (s : Bool) (m : ℕ) (e : ℤ) → lt (fin s m e) (num 0) ≡ false → le (num 0) (fin s m e) ≡ true
unfolding lt decimal
at-least-zero false m e h = is_true (le (num 0) (fin false m e)) (le_of_values (num 0) (fin false m e) 0 1 (m * up e) (down e) (zero-lt-suc 0) (down_pos e) (refl, refl) (refl, refl) (omega arith))
at-least-zero true m e h =
    let l : m * up e * 1 + 0 * 1 * down e ≤ 0 = ltb-false 0 (m * up e * 1 + 0 * 1 * down e) h in
    zeros-le false 0 (pos 0) true m e refl (omega arith)

-- a value without a sign is not below zero
no_sign : (m : ℕ) (e : ℤ) → lt (fin false m e) (num 0) ≡ true → ⊥
unfolding lt decimal
no_sign m e h = true≢false (sym h ∙ le-ltb (m * up e * 1) (0 * 1 * down e) (omega arith))

-- ---- a remainder below zero, moved up

-- the sum lies between zero and max
module _ (m : ℕ) (e : ℤ) (n : ℕ) (d : ℤ) (f : Fits (fin false n d)) (l : m * up e * down d < n * up d * down e) where
  abbrev A : ℕ
  A = m * up e * down d

  abbrev B : ℕ
  B = n * up d * down e

  abbrev C : ℕ
  C = down e * down d

  sum_is : fin true m e ⊕ fin false n d ≡ round binary64 false (B - A) C
  unfolding add sum
  sum_is = ap (λ (t : Bool). cond t (round binary64 false (B - A) C) (round binary64 (ltb B A) (A - B) C)) (lt-ltb A B l)

  sum-from-zero : le (num 0) (fin true m e ⊕ fin false n d) ≡ true
  unfolding decimal
  sum-from-zero = ap (le (num 0)) sum_is ∙ is_true (le (num 0) (round binary64 false (B - A) C)) (round_mono binary64 0 1 (B - A) C (zero-lt-suc 0) (mul-pos (down_pos e) (down_pos d)) (omega arith))

  sum-to-max : le (fin true m e ⊕ fin false n d) (fin false n d) ≡ true
  sum-to-max =
      (λ i. le (sum_is i) (sym (round-own binary64 false n d (n * up d) (down d) f (down_pos d) refl) i))
      ∙ is_true (le (round binary64 false (B - A) C) (round binary64 false (n * up d) (down d)))
      (round_mono binary64 (B - A) C (n * up d) (down d) (mul-pos (down_pos e) (down_pos d)) (down_pos d) (le_trans (mul-le-mul_right (down d) (sub-le B A)) (le_of_eq (mul_assoc (n * up d) (down e) (down d)))))

zero-le-zero : le (num 0) (num 0) ≡ true
unfolding le decimal
zero-le-zero = refl

-- 0 where the sum is max itself
raised_below : (r max : Float) → lt (num 0) max ≡ true → le (num 0) (r ⊕ max) ≡ true → le (r ⊕ max) max ≡ true → Below max (raised r max)
unfolding raised le
raised_below r max p h k = go (lt (num 0) max) (eq (r ⊕ max) max) p k
  where
    only : (t : Bool) → (t || false) ≡ true → t ≡ true
    only true e = refl
    only false e = e

    go : (u t : Bool) → u ≡ true → (lt (r ⊕ max) max || t) ≡ true → Below max (pick (u && t) (num 0) (r ⊕ max))
    go true true e q = record { from_zero = zero-le-zero; short_of = p }
    go true false e q = record { from_zero = h; short_of = only (lt (r ⊕ max) max) q }
    go false t e q = absurd (true≢false (sym e))

-- ---- wrapped, and normalised

-- as `wrapped` has it, of a remainder r
abbrev lifted : Float → Float → Float
lifted max r = (pick (lt r (num 0)) (angle (raised r max)) (angle r)).0

by-finite : (s : Bool) (n : ℕ) (d : ℤ) → Fits (fin false n d) → lt (num 0) (fin false n d) ≡ true → (r : Float) → Rest r (fin false n d) s → Below (fin false n d) (lifted (fin false n d) r)
by-finite s n d f p nan q = absurd q.rest
by-finite s n d f p (inf t) q = absurd q.rest
by-finite s n d f p (fin t k c) q = go t (lt (fin t k c) (num 0)) refl
  where
    l : k * up c * down d < n * up d * down c
    l = smaller-parts (k * up c) (n * up d) (down c) (down d) q.R q.Y (2 ^ 1074) (down_pos c) (down_pos d) q.rest.1 q.whole.1 q.less

    go : (t b : Bool) → lt (fin t k c) (num 0) ≡ b → Below (fin false n d) (pick b (angle (raised (fin t k c) (fin false n d))) (angle (fin t k c))).0
    go false true h = absurd (no_sign k c h)
    go true true h = raised_below (fin true k c) (fin false n d) p (sum-from-zero k c n d f l) (sum-to-max k c n d f l)
    go t false h = record { from_zero = at-least-zero t k c h; short_of = below_by t k c n d l }

above_zero : (n : ℕ) (d : ℤ) → lt (num 0) (fin false n d) ≡ true → 0 < n
unfolding lt decimal
above_zero n d h = first_pos n (up d) (let l : 0 * 1 * down d < n * up d * 1 = ltb-true (0 * 1 * down d) (n * up d * 1) h in omega arith)

by-infinite : (s : Bool) (m : ℕ) (e : ℤ) → Below (inf false) (lifted (inf false) (fin s m e))
unfolding raised add eq lt decimal
by-infinite s m e = go (lt (fin s m e) (num 0)) refl
  where
    go : (b : Bool) → lt (fin s m e) (num 0) ≡ b → Below (inf false) (pick b (angle (raised (fin s m e) (inf false))) (angle (fin s m e))).0
    go true h = record { from_zero = zero-le-zero; short_of = refl }
    go false h = record { from_zero = at-least-zero s m e h; short_of = refl }

wrapped-below : (s : Bool) (m : ℕ) (e : ℤ) (max : Float) → Fits (fin s m e) → Fits max → lt (num 0) max ≡ true → Below max (wrapped (fin s m e) max).0
unfolding wrapped lt decimal
wrapped-below s m e nan f g p = absurd (true≢false (sym p))
wrapped-below s m e (inf true) f g p = absurd (true≢false (sym p))
wrapped-below s m e (inf false) f g p = subst (λ (r : Float). Below (inf false) (lifted (inf false) r)) (sym (rem-inf binary64 s m e false)) (by-infinite s m e)
wrapped-below s m e (fin true n d) f g p = absurd (true≢false (sym p))
wrapped-below s m e (fin false n d) f g p = by-finite s n d g p (remainder (fin s m e) (fin false n d)) (rest_of s m e n d f g (above_zero n d p))

pub normalised-below : (a max : Float) → Fits a → Fits max → T (finite a) → lt (num 0) max ≡ true → Below max (normalised_to (angle a) (angle max)).0
unfolding normalised_to
normalised-below (fin s m e) max f g t p = go (le (num 0) (fin s m e)) (lt (fin s m e) max) refl refl
  where
    go : (b c : Bool) → le (num 0) (fin s m e) ≡ b → lt (fin s m e) max ≡ c → Below max (pick (b && c) (angle (fin s m e)) (wrapped (fin s m e) max)).0
    go true true h k = record { from_zero = h; short_of = k }
    go true false h k = wrapped-below s m e max f g p
    go false c h k = wrapped-below s m e max f g p
normalised-below nan max f g t p = elim t [ ]
normalised-below (inf _) max f g t p = elim t [ ]

-- ---- the maximum is never reached

-- an angle that is not finite
no_number : (a max : Float) → T (not (finite a)) → normalised_to (angle a) (angle max) ≡ angle nan
unfolding normalised_to wrapped rem lt le decimal
no_number nan max t = refl
no_number (inf true) max t = refl
no_number (inf false) nan t = refl
no_number (inf false) (inf u) t = refl
no_number (inf false) (fin u n d) t = refl
no_number (fin s m e) max t = absurd t

nan-not-above : (max : Float) → le max nan ≡ false
unfolding le lt eq
nan-not-above nan = refl
nan-not-above (inf t) = refl
nan-not-above (fin t n d) = refl

-- x is below max, so that max is not at most x
not-reached : (x max : Float) → lt x max ≡ true → le max x ≡ false
unfolding le lt eq
not-reached x nan h = refl
not-reached nan (inf t) h = refl
not-reached (inf true) (inf true) h = absurd (true≢false (sym h))
not-reached (inf true) (inf false) h = refl
not-reached (inf false) (inf t) h = absurd (true≢false (sym h))
not-reached (fin s m e) (inf true) h = absurd (true≢false (sym h))
not-reached (fin s m e) (inf false) h = refl
not-reached x (fin t n d) h = go (le (fin t n d) x) (le_not_lt t n d x)
  where
    go : (b : Bool) → (b ≡ true → lt x (fin t n d) ≡ false) → b ≡ false
    go true k = absurd (true≢false (sym h ∙ k refl))
    go false k = refl

pub normalised-never : (a max : Float) → Fits a → Fits max → lt (num 0) max ≡ true → le max (normalised_to (angle a) (angle max)).0 ≡ false
normalised-never a max f g p = go (finite a) refl
  where
    go : (b : Bool) → finite a ≡ b → le max (normalised_to (angle a) (angle max)).0 ≡ false
    go true h = not-reached (normalised_to (angle a) (angle max)).0 max (normalised-below a max f g (T_from_true _ h) p).short_of
    go false h = ap (λ (x : Angle). le max x.0) (no_number a max (subst (λ (b : Bool). T (not b)) (sym h) tt)) ∙ nan-not-above max
