-- Laws of one rounded operation, at any format: zero is neutral in a sum, a finite value less itself is zero, and so is zero times one. Assumes nothing.
use Rattle.std.proofs.lemmas.Float.{T_from_true}
use Rattle.std.proofs.Common.{◌≡◌, ℕ, zero, suc, ◌+◌, ◌-◌, ◌*◌, ◌%◌, ◌<◌, Bool, true, false, cond, not, ◌&&◌, ◌||◌, T, eqb, ltb, ℤ, pos, sym, refl, ap, ◌∙◌, subst, true≢false, add-zero, lt_irrefl, mod-eq_of_lt, zero-lt-suc, mul-pos, one-mul, zero-add, zero-mul, mul-one, arith, eqb→eq, ltb→lt, lt→ltb}
use native.Mathlib.Nat.{sub-zero, sub_self}
use mathlib.Core.Bool.{beq}
use lib.Dec.{eqb_refl}
use lib.Ieee.{rem, lt, below, Float, nan, inf, fin, Format, up, down, unlike, round, neg, sum, add, sub, mul, eq, level, fits}
use lib.Ieee.Fits.{up_pos, down_pos, add-fits}
use lib.Ieee.Scale.{finite}
use Rattle.numbers.proofs.RoundLaw.{zero_exp, round-zero, round-own}

-- ---- zero, and what adding it does

-- plus zero
abbrev pub zero_f : Float
zero_f = fin false 0 (pos 0)

-- not minus zero
abbrev pub plain : Float → Bool
plain nan = true
plain (inf s) = true
plain (fin s zero e) = not s
plain (fin s (suc m) e) = true

-- a sum of two fractions of which one is zero
sum_left : (f : Format) (t : Bool) (b c : ℕ) → 0 < b → sum f false 0 t b c ≡ round f t b c
unfolding sum
sum_left f false b c h = ap (λ (x : ℕ). round f false x c) (zero-add b)
sum_left f true b c h = go (ltb 0 b) (lt→ltb 0 b h)
  where
    go : (k : Bool) → T k → cond k (round f true (b - 0) c) (round f (false && ltb b 0) (0 - b) c) ≡ round f true b c
    go true q = ap (λ (x : ℕ). round f true x c) (sub-zero b)
    go false q = absurd q

sum-right : (f : Format) (s : Bool) (a c : ℕ) → 0 < a → sum f s a false 0 c ≡ round f s a c
unfolding sum
sum-right f false a c h = ap (λ (x : ℕ). round f false x c) (add-zero a)
sum-right f true a c h = go (ltb a 0) (ltb→lt a 0) (ltb 0 a) (lt→ltb 0 a h)
  where
    none : (x : ℕ) → x < 0 → ⊥
    none x q = omega arith

    go : (k : Bool) → (T k → a < 0) → (l : Bool) → T l → cond k (round f false (0 - a) c) (round f (true && l) (a - 0) c) ≡ round f true a c
    go true q l r = absurd (none a (q tt))
    go false q true r = ap (λ (x : ℕ). round f true x c) (sub-zero a)
    go false q false r = absurd r

-- a sum of two zeros: minus zero where both are negative
abbrev zero_of : Bool → Float
zero_of s = fin s 0 (pos 0)

sum-none : (f : Format) (s t : Bool) (c : ℕ) → 0 < c → sum f s 0 t 0 c ≡ zero_of (s && t)
unfolding sum
sum-none f false false c h = round-zero f false c h
sum-none f false true c h = round-zero f false c h
sum-none f true false c h = round-zero f false c h
sum-none f true true c h = round-zero f true c h

-- the operators at two finite values, with `sum` and `round` shut
add_is : (f : Format) (s : Bool) (m : ℕ) (e : ℤ) (t : Bool) (n : ℕ) (d : ℤ) → add f (fin s m e) (fin t n d) ≡ sum f s (m * up e * down d) t (n * up d * down e) (down e * down d)
unfolding add
add_is f s m e t n d = refl

mul_is : (f : Format) (s : Bool) (m : ℕ) (e : ℤ) (t : Bool) (n : ℕ) (d : ℤ) → mul f (fin s m e) (fin t n d) ≡ round f (unlike s t) (m * up e * (n * up d)) (down e * down d)
unfolding mul
mul_is f s m e t n d = refl

add-nan : (f : Format) (s : Bool) (m : ℕ) (e : ℤ) → add f (fin s m e) nan ≡ nan
unfolding add
add-nan f s m e = refl

add-inf : (f : Format) (s : Bool) (m : ℕ) (e : ℤ) (t : Bool) → add f (fin s m e) (inf t) ≡ inf t
unfolding add
add-inf f s m e t = refl

nan-add : (f : Format) (x : Float) → add f nan x ≡ nan
unfolding add
nan-add f x = refl

inf-add : (f : Format) (s : Bool) (t : Bool) (m : ℕ) (e : ℤ) → add f (inf s) (fin t m e) ≡ inf s
unfolding add
inf-add f s t m e = refl

-- zeros of either sign
pub add-zeros : (f : Format) (s t : Bool) → add f (fin s 0 (pos 0)) (fin t 0 (pos 0)) ≡ fin (s && t) 0 (pos 0)
add-zeros f s t = add_is f s 0 (pos 0) t 0 (pos 0) ∙ sum-none f s t 1 (zero-lt-suc 0)

pub add-zero-left : (f : Format) (x : Float) → T (fits f x) → T (plain x) → add f zero_f x ≡ x
add-zero-left f nan t p = add-nan f false 0 (pos 0)
add-zero-left f (inf s) t p = add-inf f false 0 (pos 0) s
add-zero-left f (fin true zero e) t p = absurd p
add-zero-left f (fin false zero e) t p =
    let z = zero_exp f false e t in
    ap (λ (x : ℤ). add f zero_f (fin false 0 x)) z ∙ add-zeros f false false ∙ ap (λ (x : ℤ). fin false 0 x) (sym z)
add-zero-left f (fin s (suc m) e) t p =
    add_is f false 0 (pos 0) s (suc m) e
    ∙ ap (λ (x : ℕ). sum f false x s (suc m * up e * 1) (1 * down e)) (zero-mul (down e))
    ∙ ap (λ (x : ℕ). sum f false 0 s x (1 * down e)) (mul-one (suc m * up e))
    ∙ ap (λ (x : ℕ). sum f false 0 s (suc m * up e) x) (one-mul (down e))
    ∙ sum_left f s (suc m * up e) (down e) (mul-pos (zero-lt-suc m) (up_pos e))
    ∙ round-own f s (suc m) e (suc m * up e) (down e) t (down_pos e) refl

pub add-zero-right : (f : Format) (x : Float) → T (fits f x) → T (plain x) → add f x zero_f ≡ x
add-zero-right f nan t p = nan-add f zero_f
add-zero-right f (inf s) t p = inf-add f s false 0 (pos 0)
add-zero-right f (fin true zero e) t p = absurd p
add-zero-right f (fin false zero e) t p =
    let z = zero_exp f false e t in
    ap (λ (x : ℤ). add f (fin false 0 x) zero_f) z ∙ add-zeros f false false ∙ ap (λ (x : ℤ). fin false 0 x) (sym z)
add-zero-right f (fin s (suc m) e) t p =
    add_is f s (suc m) e false 0 (pos 0)
    ∙ ap (λ (x : ℕ). sum f s x false (0 * down e) (down e * 1)) (mul-one (suc m * up e))
    ∙ ap (λ (x : ℕ). sum f s (suc m * up e) false x (down e * 1)) (zero-mul (down e))
    ∙ ap (λ (x : ℕ). sum f s (suc m * up e) false 0 x) (mul-one (down e))
    ∙ sum-right f s (suc m * up e) (down e) (mul-pos (zero-lt-suc m) (up_pos e))
    ∙ round-own f s (suc m) e (suc m * up e) (down e) t (down_pos e) refl

-- minus zero is neutral for every value
sum-minus : (f : Format) (t : Bool) (b c : ℕ) → 0 < b → sum f true 0 t b c ≡ round f t b c
unfolding sum
sum-minus f true b c h = ap (λ (x : ℕ). round f true x c) (zero-add b)
sum-minus f false b c h = go (ltb 0 b) (lt→ltb 0 b h)
  where
    go : (k : Bool) → T k → cond k (round f false (b - 0) c) (round f (true && ltb b 0) (0 - b) c) ≡ round f false b c
    go true q = ap (λ (x : ℕ). round f false x c) (sub-zero b)
    go false q = absurd q

pub add-minus-zero : (f : Format) (x : Float) → T (fits f x) → add f (fin true 0 (pos 0)) x ≡ x
add-minus-zero f nan t = add-nan f true 0 (pos 0)
add-minus-zero f (inf s) t = add-inf f true 0 (pos 0) s
add-minus-zero f (fin s zero e) t =
    let z = zero_exp f s e t in
    ap (λ (x : ℤ). add f (fin true 0 (pos 0)) (fin s 0 x)) z ∙ add-zeros f true s ∙ ap (λ (x : ℤ). fin s 0 x) (sym z)
add-minus-zero f (fin s (suc m) e) t =
    add_is f true 0 (pos 0) s (suc m) e
    ∙ ap (λ (x : ℕ). sum f true x s (suc m * up e * 1) (1 * down e)) (zero-mul (down e))
    ∙ ap (λ (x : ℕ). sum f true 0 s x (1 * down e)) (mul-one (suc m * up e))
    ∙ ap (λ (x : ℕ). sum f true 0 s (suc m * up e) x) (one-mul (down e))
    ∙ sum-minus f s (suc m * up e) (down e) (mul-pos (zero-lt-suc m) (up_pos e))
    ∙ round-own f s (suc m) e (suc m * up e) (down e) t (down_pos e) refl

-- ---- a value times one or minus one, exact

abbrev pub signed_by : Bool → Float → Float
signed_by false x = x
signed_by true x = neg x

times-inf : (f : Format) (s t : Bool) → mul f (inf s) (fin t 1 (pos 0)) ≡ inf (unlike s t)
unfolding mul
times-inf f s t = refl

times-nan : (f : Format) (x : Float) → mul f nan x ≡ nan
unfolding mul
times-nan f x = refl

signed-inf : (s t : Bool) → inf (unlike s t) ≡ signed_by t (inf s)
unfolding neg
signed-inf true true = refl
signed-inf true false = refl
signed-inf false true = refl
signed-inf false false = refl

signed-fin : (s t : Bool) (m : ℕ) (e : ℤ) → fin (unlike s t) m e ≡ signed_by t (fin s m e)
unfolding neg
signed-fin true true m e = refl
signed-fin true false m e = refl
signed-fin false true m e = refl
signed-fin false false m e = refl

signed-nan : (t : Bool) → nan ≡ signed_by t nan
unfolding neg
signed-nan true = refl
signed-nan false = refl

any_sign : (f : Format) (s t : Bool) (m : ℕ) (e : ℤ) → T (fits f (fin s m e)) → T (fits f (fin t m e))
unfolding fits
any_sign f s t zero e h = h
any_sign f s t (suc m) e h = h

pub times-one : (f : Format) (t : Bool) (x : Float) → T (fits f x) → mul f x (fin t 1 (pos 0)) ≡ signed_by t x
times-one f t nan h = times-nan f (fin t 1 (pos 0)) ∙ signed-nan t
times-one f t (inf s) h = times-inf f s t ∙ signed-inf s t
times-one f t (fin s m e) h =
    mul_is f s m e t 1 (pos 0)
    ∙ round-own f (unlike s t) m e (m * up e * (1 * 1)) (down e * 1) (any_sign f s (unlike s t) m e h) (subst (λ (x : ℕ). 0 < x) (sym (mul-one (down e))) (down_pos e))
    (ap (λ (x : ℕ). x * down e) (mul-one (m * up e)) ∙ ap (λ (x : ℕ). m * up e * x) (sym (mul-one (down e))))
    ∙ signed-fin s t m e

-- ---- `0.0 + x`, which `Vec3::new` computes, is never minus zero, and a second time it changes nothing

pub new-plain : (f : Format) (x : Float) → T (fits f x) → T (plain (add f zero_f x))
new-plain f nan t = subst (λ (y : Float). T (plain y)) (sym (add-nan f false 0 (pos 0))) tt
new-plain f (inf s) t = subst (λ (y : Float). T (plain y)) (sym (add-inf f false 0 (pos 0) s)) tt
new-plain f (fin s zero e) t =
    subst (λ (y : Float). T (plain y)) (sym (ap (λ (x : ℤ). add f zero_f (fin s 0 x)) (zero_exp f s e t) ∙ add-zeros f false s)) tt
new-plain f (fin s (suc m) e) t = subst (λ (y : Float). T (plain y)) (sym (add-zero-left f (fin s (suc m) e) t tt)) tt

pub new-twice : (f : Format) (x : Float) → T (fits f x) → add f zero_f (add f zero_f x) ≡ add f zero_f x
new-twice f x t = add-zero-left f (add f zero_f x) (add-fits f zero_f x) (new-plain f x t)

-- ---- a finite value less itself is plus zero

neg_is : (s : Bool) (m : ℕ) (e : ℤ) → neg (fin s m e) ≡ fin (not s) m e
unfolding neg
neg_is s m e = refl

sub_is : (f : Format) (x y : Float) → sub f x y ≡ add f x (neg y)
unfolding sub
sub_is f x y = refl

sum-cancel : (f : Format) (s : Bool) (a c : ℕ) → 0 < c → sum f s a (not s) a c ≡ zero_f
unfolding sum
sum-cancel f s a c h = go s (ltb a a) (ltb→lt a a)
  where
    go : (s : Bool) (k : Bool) → (T k → a < a) → cond (beq s (not s)) (round f s (a + a) c) (cond k (round f (not s) (a - a) c) (round f (s && k) (a - a) c)) ≡ zero_f
    go s true q = absurd (lt_irrefl a (q tt))
    go false false q = ap (λ (x : ℕ). round f false x c) (sub_self a) ∙ round-zero f false c h
    go true false q = ap (λ (x : ℕ). round f false x c) (sub_self a) ∙ round-zero f false c h

pub sub-self-zero : (f : Format) (x : Float) → T (finite x) → sub f x x ≡ zero_f
sub-self-zero f (fin s m e) t =
    sub_is f (fin s m e) (fin s m e) ∙ ap (λ (y : Float). add f (fin s m e) y) (neg_is s m e) ∙ add_is f s m e (not s) m e
    ∙ sum-cancel f s (m * up e * down e) (down e * down e) (mul-pos (down_pos e) (down_pos e))
sub-self-zero f nan t = elim t [ ]
sub-self-zero f (inf _) t = elim t [ ]

-- ---- zero times a finite value is a zero

pub zero-times : (f : Format) (x : Float) → T (finite x) → (s : Bool) × (mul f zero_f x ≡ fin s 0 (pos 0))
zero-times f (fin s m e) t = (
  unlike false s,
  mul_is f false 0 (pos 0) s m e
      ∙ ap (λ (x : ℕ). round f (unlike false s) x (1 * down e)) (zero-mul (m * up e))
      ∙ round-zero f (unlike false s) (1 * down e) (mul-pos (zero-lt-suc 0) (down_pos e)),
)
zero-times f nan t = elim t [ ]
zero-times f (inf _) t = elim t [ ]

-- ---- the remainder of a value that is smaller than the divisor is itself

pub rem-inf : (f : Format) (s : Bool) (m : ℕ) (e : ℤ) (t : Bool) → rem f (fin s m e) (inf t) ≡ fin s m e
unfolding rem
rem-inf f s m e t = refl

pub rem-fin : (f : Format) (s : Bool) (m : ℕ) (e : ℤ) (t : Bool) (n : ℕ) (d : ℤ) → T (fits f (fin s m e)) → m * up e * down d < n * up d * down e → rem f (fin s m e) (fin t n d) ≡ fin s m e
unfolding rem
rem-fin f s m e t n d h l = go (eqb n 0) (eqb→eq n 0)
  where
    some : n ≡ 0 → ⊥
    some z = let q : m * up e * down d < 0 * up d * down e = subst (λ (x : ℕ). m * up e * down d < x * up d * down e) z l in omega arith

    whole : m * up e * down d * down e ≡ m * up e * (down e * down d)
    whole = omega arith

    go : (b : Bool) → (T b → n ≡ 0) → cond b nan (round f s (m * up e * down d % (n * up d * down e)) (down e * down d)) ≡ fin s m e
    go true z = absurd (some (z tt))
    go false z =
        ap (λ (x : ℕ). round f s x (down e * down d)) (mod-eq_of_lt l)
        ∙ round-own f s m e (m * up e * down d) (down e * down d) h (mul-pos (down_pos e) (down_pos d)) whole

-- from the two comparisons
pub smaller : (s : Bool) (a : ℕ) (t : Bool) (b : ℕ) → below (not t) b s a ≡ true → below s a t b ≡ true → a < b
smaller false a false b h k = ltb→lt a b (T_from_true _ k)
smaller true a false b h k = ltb→lt a b (T_from_true _ h)
smaller false a true b h k = absurd (true≢false (sym k))
smaller true a true b h k = absurd (true≢false (sym h))

pub rem-small : (f : Format) (x y : Float) → T (fits f x) → lt (neg y) x ≡ true → lt x y ≡ true → rem f x y ≡ x
unfolding lt neg
rem-small f nan y t h k = absurd (true≢false (sym k))
rem-small f (inf false) nan t h k = absurd (true≢false (sym k))
rem-small f (inf false) (inf u) t h k = absurd (true≢false (sym k))
rem-small f (inf false) (fin u n d) t h k = absurd (true≢false (sym k))
rem-small f (inf true) nan t h k = absurd (true≢false (sym h))
rem-small f (inf true) (inf true) t h k = absurd (true≢false (sym h))
rem-small f (inf true) (inf false) t h k = absurd (true≢false (sym h))
rem-small f (inf true) (fin u n d) t h k = absurd (true≢false (sym h))
rem-small f (fin s m e) nan t h k = absurd (true≢false (sym k))
rem-small f (fin s m e) (inf u) t h k = rem-inf f s m e u
rem-small f (fin s m e) (fin u n d) t h k = rem-fin f s m e u n d t (smaller s (m * up e * down d) u (n * up d * down e) h k)

-- ---- a finite value equals itself as a number

level-self : (s : Bool) (a : ℕ) → level s a s a ≡ true
level-self s a = go s (eqb a a) (eqb_refl a)
  where
    go : (s : Bool) (b : Bool) → T b → (b && (beq s s || eqb a 0)) ≡ true
    go false true t = refl
    go true true t = refl
    go s false t = absurd t

pub eq_self : (x : Float) → T (finite x) → eq x x ≡ true
unfolding eq
eq_self (fin s m e) t = level-self s (m * up e * down e)
eq_self nan t = elim t [ ]
eq_self (inf _) t = elim t [ ]
