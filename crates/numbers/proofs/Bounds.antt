-- A result of one rounded operation is at most a whole number where the exact one is, up to 2 ^ 53, so it is finite. Assumes nothing.
use Rattle.std.proofs.Common.{◌≡◌, ℕ, ◌+◌, ◌-◌, ◌*◌, ◌^◌, ◌<◌, ◌≤◌, Bool, true, false, cond, ◌&&◌, T, eqb, ltb, ℤ, sym, refl, ap, ◌∙◌, true≢false, le_trans, le_of_eq, mul-le-mul_right, zero-lt-suc, mul-le-mul, mul-pos, mul-one, mul_right_comm, le_of_mul-le-mul_right, arith, lit≤, eqb→eq}
use native.Mathlib.Nat.{mul-mul-mul_comm}
use mathlib.Core.Bool.{beq}
use lib.Ieee.{Float, nan, inf, fin, binary64, up, down, odd, units, round, le, add, sub, mul, div, neg, sum, unlike}
use lib.Ieee.Fits.{up_pos, down_pos, round_is}
use lib.Ieee.Exact.{HasValue}
use lib.Ieee.Back.{round_whole}
use lib.Ieee.Bits.{is_true}
use lib.Ieee.Order.{round_mono}
use lib.Ieee.Scale.{finite}
use Rattle.numbers.specs.Floats.{abs}
use Rattle.numbers.specs.code.Sizes.{Bounded}
use Rattle.numbers.proofs.SignLaws.{odd-abs}
use Rattle.numbers.proofs.WholeLaw.{at_most}

pub bounded-finite : (x : Float) (B : ℕ) → Bounded x B → T (finite x)
bounded-finite (fin s m e) B h = tt
bounded-finite nan B h = elim h [ ]
bounded-finite (inf _) B h = elim h [ ]

pub wider : (x : Float) (B C : ℕ) → B ≤ C → Bounded x B → Bounded x C
wider (fin s m e) B C h k = le_trans k (mul-le-mul_right (down e) h)
wider nan B C h k = elim k [ ]
wider (inf _) B C h k = elim k [ ]

-- ---- by comparison

-- values without a sign compare as their fractions
pub le-fractions : (m : ℕ) (e : ℤ) (n : ℕ) (d : ℤ) → le (fin false m e) (fin false n d) ≡ true → m * up e * down d ≤ n * up d * down e
unfolding le
le-fractions m e n d h =
    let a = m * up e * down d in
    let b = n * up d * down e in
    at_most a b (eqb a b) true (λ t. le_of_eq (eqb→eq a b t)) h

-- a magnitude that is at most a whole number
le-bounded : (x y : Float) (B : ℕ) → HasValue y false B 1 → le (abs x) y ≡ true → Bounded x B
unfolding le abs
le-bounded nan y B v h = true≢false (sym h)
le-bounded (inf s) (fin t n d) B v h = true≢false (sym h)
le-bounded (fin s m e) (fin true n d) B v h = absurd (true≢false v.0)
le-bounded (fin s m e) (fin false n d) B v h =
    le_of_mul-le-mul_right {k = down d} (le_trans (le-fractions m e n d h) (le_of_eq (ap (λ (z : ℕ). z * down e) (sym (mul-one (n * up d)) ∙ v.1) ∙ mul_right_comm B (down d) (down e)))) (down_pos d)
le-bounded (inf s) nan B v h = elim v [ ]
le-bounded (inf s) (inf _) B v h = elim v [ ]
le-bounded (fin s m e) nan B v h = elim v [ ]
le-bounded (fin s m e) (inf _) B v h = elim v [ ]

-- ---- by the operations

units-abs : (s : Bool) (q k : ℕ) → units binary64 false q k ≡ abs (units binary64 s q k)
unfolding units abs
units-abs s q k = go (ltb (q * 2 ^ k) (2 ^ 2098))
  where
    go : (b : Bool) → cond b (odd 54 false q k 1074) (inf false) ≡ abs (cond b (odd 54 s q k 1074) (inf s))
    go true = odd-abs 54 s q k 1074
    go false = refl

pub round-abs : (s : Bool) (a b : ℕ) → round binary64 false a b ≡ abs (round binary64 s a b)
round-abs s a b = round_is binary64 false a b ∙ units-abs s _ _ ∙ ap abs (sym (round_is binary64 s a b))

pub bounded-round : (s : Bool) (a b B : ℕ) → 0 < b → a ≤ B * b → B ≤ 2 ^ 53 → Bounded (round binary64 s a b) B
bounded-round s a b B p h k =
    let w = round binary64 false B 1 in
    le-bounded (round binary64 s a b) w B (round_whole binary64 false B k)
    (ap (λ (x : Float). le x w) (sym (round-abs s a b)) ∙ is_true (le (round binary64 false a b) w) (round_mono binary64 a b B 1 p (zero-lt-suc 0) (omega arith)))

pub bounded-mul : (x y : Float) (B C : ℕ) → Bounded x B → Bounded y C → B * C ≤ 2 ^ 53 → Bounded (mul binary64 x y) (B * C)
unfolding mul
bounded-mul (fin s m e) (fin t n d) B C h k l =
    bounded-round (unlike s t) (m * up e * (n * up d)) (down e * down d) (B * C) (mul-pos (down_pos e) (down_pos d))
    (le_trans (mul-le-mul h k) (le_of_eq (mul-mul-mul_comm B (down e) C (down d)))) l
bounded-mul nan y B C h k l = elim h [ ]
bounded-mul (inf _) y B C h k l = elim h [ ]
bounded-mul (fin s m e) nan B C h k l = elim k [ ]
bounded-mul (fin s m e) (inf _) B C h k l = elim k [ ]

pub bounded-neg : (x : Float) (B : ℕ) → Bounded x B → Bounded (neg x) B
unfolding neg
bounded-neg (fin s m e) B h = h
bounded-neg nan B h = elim h [ ]
bounded-neg (inf _) B h = elim h [ ]

bounded-sum : (s : Bool) (a : ℕ) (t : Bool) (b c B : ℕ) → 0 < c → a ≤ B * c → b ≤ B * c → (T (beq s t) → a + b ≤ B * c) → B ≤ 2 ^ 53 → Bounded (sum binary64 s a t b c) B
unfolding sum
bounded-sum s a t b c B p h l r k = go (beq s t) (ltb a b) r
  where
    go : (x y : Bool) → (T x → a + b ≤ B * c) → Bounded (cond x (round binary64 s (a + b) c) (cond y (round binary64 t (b - a) c) (round binary64 (s && ltb b a) (a - b) c))) B
    go true y r = bounded-round s (a + b) c B p (r tt) k
    go false true r = bounded-round t (b - a) c B p (omega arith) k
    go false false r = bounded-round (s && ltb b a) (a - b) c B p (omega arith) k

pub bounded-add : (x y : Float) (B C : ℕ) → Bounded x B → Bounded y C → B + C ≤ 2 ^ 53 → Bounded (add binary64 x y) (B + C)
unfolding add
bounded-add (fin s m e) (fin t n d) B C h k l =
    let x : m * up e * down d ≤ B * down e * down d = mul-le-mul_right (down d) h in
    let y : n * up d * down e ≤ C * down d * down e = mul-le-mul_right (down e) k in
    bounded-sum s (m * up e * down d) t (n * up d * down e) (down e * down d) (B + C) (mul-pos (down_pos e) (down_pos d)) (omega arith) (omega arith) (λ _. omega arith) l
bounded-add nan y B C h k l = elim h [ ]
bounded-add (inf _) y B C h k l = elim h [ ]
bounded-add (fin s m e) nan B C h k l = elim k [ ]
bounded-add (fin s m e) (inf _) B C h k l = elim k [ ]

pub bounded-sub : (x y : Float) (B C : ℕ) → Bounded x B → Bounded y C → B + C ≤ 2 ^ 53 → Bounded (sub binary64 x y) (B + C)
unfolding sub
bounded-sub x y B C h k l = bounded-add x (neg y) B C h (bounded-neg y C k) l

-- two values without a sign differ by no more than the larger
pub bounded-gap : (m : ℕ) (e : ℤ) (n : ℕ) (d : ℤ) (B : ℕ) → Bounded (fin false m e) B → Bounded (fin false n d) B → B ≤ 2 ^ 53 → Bounded (sub binary64 (fin false m e) (fin false n d)) B
unfolding sub
bounded-gap m e n d B h k l =
    let x : m * up e * down d ≤ B * down e * down d = mul-le-mul_right (down d) h in
    let y : n * up d * down e ≤ B * down d * down e = mul-le-mul_right (down e) k in
    bounded-sum false (m * up e * down d) true (n * up d * down e) (down e * down d) B (mul-pos (down_pos e) (down_pos d)) (omega arith) (omega arith) absurd l

-- a quotient by what is not zero and no smaller is at most 1
pub bounded-quotient : (s : Bool) (m : ℕ) (e : ℤ) (t : Bool) (n : ℕ) (d : ℤ) → 0 < n → m * up e * down d ≤ n * up d * down e → Bounded (div binary64 (fin s m e) (fin t n d)) 1
unfolding div
bounded-quotient s m e t n d p h = go (eqb n 0) (eqb→eq n 0)
  where
    go : (b : Bool) → (T b → n ≡ 0) → Bounded (cond b (cond (eqb m 0) nan (inf (unlike s t))) (round binary64 (unlike s t) (m * up e * down d) (n * up d * down e))) 1
    go true z = absurd (omega (arith, z tt))
    go false z = bounded-round (unlike s t) (m * up e * down d) (n * up d * down e) 1 (mul-pos (mul-pos p (up_pos d)) (down_pos e)) (omega arith) (lit≤ tt)
