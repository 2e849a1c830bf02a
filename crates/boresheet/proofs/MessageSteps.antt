-- The lines on standard error that say a number: std's digits of a number are the specification's, and how long each part of a line is. Assumes nothing.
use Rattle.std.proofs.Common.{ℕ, zero, suc, ◌+◌, ◌*◌, ◌/◌, ◌%◌, ◌^◌, ◌<◌, ◌≤◌, ◌≡◌, Bool, true, false, cond, List, [], ◌∷◌, ◌++◌, length, eqb, ltb, refl, sym, ap, ◌∙◌, arith}
use Rattle.std.proofs.Math.Nat.{pow-suc}
use Rattle.std.proofs.lemmas.Fmt.{decimal_digit, decimal_step, length-decimal-le}
use Rattle.std.specs.Fmt as std
use lib.ListN.{length-append}
use borrow.Author.Tests.{ltb-true, ltb-false}
use Rattle.sheets.specs.Text.{ascii}
use Rattle.boresheet.specs.Messages.{decimal_if, decimal, refusal_name, place_text}

one-digit : (n : ℕ) → n < 10 → std.decimal n ≡ (48 + n % 10) ∷ []
one-digit n h = let e : n ≡ n % 10 = omega arith in decimal_digit n h ∙ ap (λ d. (48 + d) ∷ []) e

-- the digits that std writes are the specification's, where those are enough
pub digits_are : (k n : ℕ) → n < 10 ^ (k + 1) → n < 2 ^ 64 → std.decimal n ≡ decimal k n
unfolding decimal decimal_if
digits_are zero n h w = one-digit n h
digits_are (suc k) n h w = go (ltb n 10) refl (digits_are k (n / 10) small (omega arith))
  where
    small : n / 10 < 10 ^ (k + 1)
    small =
        let i : suc k + 1 ≡ suc (k + 1) = omega arith in
        let e : 10 ^ (suc k + 1) ≡ 10 ^ (k + 1) * 10 = ap (λ (z : ℕ). 10 ^ z) i ∙ pow-suc 10 (k + 1) in
        omega arith

    go : (b : Bool) → ltb n 10 ≡ b → std.decimal (n / 10) ≡ decimal k (n / 10) → std.decimal n ≡ decimal_if b (decimal k (n / 10)) ((48 + n % 10) ∷ [])
    go true e front = one-digit n (ltb-true n 10 e)
    go false e front = decimal_step n (ltb-false n 10 e) w ∙ ap (λ ds. ds ++ (48 + n % 10) ∷ []) front

-- three digits are enough for a refusal's number
pub number_digits : (n : ℕ) → n < 256 → decimal 19 n ≡ decimal 2 n
number_digits n h = sym (digits_are 19 n (omega arith) (omega arith)) ∙ digits_are 2 n (omega arith) (omega arith)

pub decimal_length : (n : ℕ) → n < 2 ^ 64 → length (decimal 19 n) ≤ 20
decimal_length n h = omega (arith, ap (λ (ds : List ℕ). length ds) (digits_are 19 n (omega arith) h), length-decimal-le 20 n (omega arith) (omega arith) h)

-- ---- how long, of any number

if-length : (t : Bool) (a b : List ℕ) → length (decimal_if t a b) ≤ length a + length b
unfolding decimal_if
if-length true a b = omega arith
if-length false a b = omega (arith, length-append a b)

-- of at most k digits and one
pub decimal-length : (k n : ℕ) → length (decimal k n) ≤ k + 1
unfolding decimal
decimal-length zero n = omega arith
decimal-length (suc k) n = omega (arith, if-length (ltb n 10) (decimal k (n / 10)) ((48 + n % 10) ∷ []), decimal-length k (n / 10))

cond-length : (t : Bool) (m : ℕ) (a b : List ℕ) → length a ≤ m → length b ≤ m → length (cond t a b) ≤ m
cond-length true m a b h k = h
cond-length false m a b h k = k

pub name-length : (n : ℕ) → length (refusal_name n) ≤ 9
unfolding refusal_name
name-length n =
    cond-length (eqb n 1) 9 _ _ (omega arith) (cond-length (eqb n 2) 9 _ _ (omega arith) (cond-length (eqb n 3) 9 _ _ (omega arith) (cond-length (eqb n 4) 9 _ _ (omega arith)
    (cond-length (eqb n 5) 9 _ _ (omega arith) (cond-length (eqb n 6) 9 _ _ (omega arith) (cond-length (eqb n 7) 9 _ _ (omega arith) (cond-length (eqb n 8) 9 _ _ (omega arith)
    (cond-length (eqb n 9) 9 _ _ (omega arith) (omega arith)))))))))

pub place-length : (line : ℕ) → length (place_text line) ≤ 29
unfolding place_text
place-length line = cond-length (eqb line 0) 29 _ _ (omega arith) (omega (arith, length-append (ascii " at line ") (decimal 19 line), decimal-length 19 line))
