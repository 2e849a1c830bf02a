-- The text of what was shown, read back: its lines, and the length in each. Assumes nothing.
use mathlib.Core.Path.{◌≡◌, refl, sym, ap, ◌∙◌}
use mathlib.Core.List.{List, [], ◌∷◌, ◌++◌, map, append_assoc, append-nil}
use mathlib.Core.Option.{none, some}
use mathlib.Core.Bool.{Bool, true, false, cond}
use Prim.Native.Nat.{ℕ, zero, suc, ◌+◌, ◌-◌, ◌*◌, ◌/◌, ◌%◌, ◌^◌, ◌<◌, ◌≤◌}
use native.Mathlib.Omega.{arith}
use lib.Dec.{eqb, ltb}
use lib.ListN.{length}
use lib.Ieee.{Float, binary64, of_bits, to_bits}
use lib.Ieee.Bits.{of_bits-to_bits, to_bits-lt}
use borrow.Author.Tests.{ne_eqb, ltb-true, ltb-false}
use Rattle.numbers.specs.Lengths.{metres}
use Rattle.numbers.specs.declared.Length.{Length}
use Rattle.frames.specs.declared.Orientation.{Orientation}
use Rattle.frames.specs.declared.Orientation.TheVariants.{Enu, Ned, Body, Wan}
use Rattle.sheets.specs.declared.Value.{Value}
use Rattle.sheets.specs.declared.Value.TheVariants.{Metres}
use Rattle.sheets.specs.Text.{Word, ascii, ◌⌢◌, lf}
use Rattle.sheets.specs.Grammar.{IsWord}
use Rattle.sheets.specs.Kinds.{Kind, number, angle, len, geocentric, geodetic, vector, frame, kind_of, orientation_name, kind_name}
use Rattle.sheets.specs.Letters.{𝐥, held}
use Rattle.sheets.specs.Output.{hex_digit, hex, fields, fields_text, output_line}
use Rattle.sheets.specs.Entries.{Entry, entry_name, entry_value, entry_lines}
use Rattle.sheets.specs.Claim.{All}
use Rattle.sheets.specs.Totals.{cut, text_lines, digit_value, hex_value, length_in}
use Rattle.sheets.proofs.ByCases.{by_cases}
use Rattle.sheets.specs.LineNumbers.{count_lf}
use Rattle.sheets.proofs.reader.LineNumbers.{NoLF, ◌also◌, text, word_none}
use Rattle.sheets.proofs.run.TextBound.{hex-length}
use Rattle.sheets.proofs.EveryFrame.{Good}

-- ---- a field's digits

digit-bound : (d : ℕ) → 48 ≤ hex_digit d
digit-bound d = go (ltb d 10)
  where
    go : (b : Bool) → 48 ≤ cond b (48 + d) (87 + d)
    go true = omega arith
    go false = omega arith

digit-back : (d : ℕ) → d < 16 → digit_value (hex_digit d) ≡ d
digit-back d h = go (ltb d 10) refl
  where
    value : (b : ℕ) (c : Bool) → ltb b 97 ≡ c → cond c (b - 48) (b - 87) ≡ digit_value b
    value b c e = ap (λ c. cond c (b - 48) (b - 87)) (sym e)

    low : (c : Bool) → ltb (48 + d) 97 ≡ c → d < 10 → digit_value (48 + d) ≡ d
    low true e l = sym (value (48 + d) true e) ∙ omega arith
    low false e l = absurd (omega (arith, ltb-false (48 + d) 97 e, l))

    high : (c : Bool) → ltb (87 + d) 97 ≡ c → 10 ≤ d → digit_value (87 + d) ≡ d
    high true e l = absurd (omega (arith, ltb-true (87 + d) 97 e, l))
    high false e l = sym (value (87 + d) false e) ∙ omega arith

    go : (b : Bool) → ltb d 10 ≡ b → digit_value (cond b (48 + d) (87 + d)) ≡ d
    go true e = low (ltb (48 + d) 97) refl (ltb-true d 10 e)
    go false e = high (ltb (87 + d) 97) refl (ltb-false d 10 e)

hex-back : (k b : ℕ) (t : List ℕ) → b < 16 ^ k → hex_value 0 (hex k b t) ≡ hex_value b t
unfolding hex_value
hex-back zero b t h = ap (λ n. hex_value n t) (omega arith)
hex-back (suc k) b t h =
    hex-back k (b / 16) (hex_digit (b % 16) ∷ t) (omega arith)
    ∙ ap (λ d. hex_value (b / 16 * 16 + d) t) (digit-back (b % 16) (omega arith))
    ∙ ap (λ n. hex_value n t) (omega arith)

-- a length's field
length_back : (l : Length) → Good (Metres l) → length_in (ascii "l" ⌢ fields_text (l.0 ∷ [])) ≡ some l
unfolding hex_value
length_back l h =
    let b = to_bits binary64 l.0 in
    let d = append-nil (hex 16 b []) in
    ap (λ n. cond (eqb n 18) (some (metres (of_bits binary64 (hex_value 0 (hex 16 b [] ++ []))))) none) (ap (λ (s : List ℕ). 2 + length s) d ∙ ap (λ n. 2 + n) (hex-length 16 b []))
    ∙ ap (λ s. some (metres (of_bits binary64 (hex_value 0 s)))) d
    ∙ ap (λ n. some (metres (of_bits binary64 n))) (hex-back 16 b [] (to_bits-lt binary64 l.0 h))
    ∙ ap (λ x. some (metres x)) (of_bits-to_bits binary64 l.0 h)

-- ---- an output line without its LF

abbrev pub bare : Word → Value → List ℕ
bare w x = w ⌢ ascii " " ⌢ kind_name (kind_of x) ⌢ fields_text (fields x)

abbrev Reads : Value → Type 0
Reads x = Good x → length_in (kind_name (kind_of x) ⌢ fields_text (fields x)) ≡ held 𝐥 x

-- the length behind its name is that of the value that it shows
pub value-reads : (x : Value) → Reads x
unfolding held
value-reads = by_cases Reads (λ x h. refl) (λ x h. refl) (λ x h. length_back x h) (λ x h. refl) (λ x h. refl) (λ x h. refl) (λ x h. refl)

-- ---- the lines of a text

cut_line : (l a s : List ℕ) → count_lf a ≡ 0 → cut l (a ++ (10 ∷ s)) ≡ (l ++ a) ∷ cut [] s
unfolding cut count_lf
cut_line l [] s h = ap (λ (z : List ℕ). z ∷ cut [] s) (sym (append-nil l))
cut_line l (b ∷ a) s h = go (eqb b 10) refl h (cut_line (l ++ (b ∷ [])) a s)
  where
    go : (c : Bool) → eqb b 10 ≡ c → cond c 1 0 + count_lf a ≡ 0 → (count_lf a ≡ 0 → cut (l ++ (b ∷ [])) (a ++ (10 ∷ s)) ≡ ((l ++ (b ∷ [])) ++ a) ∷ cut [] s) → cut l (b ∷ (a ++ (10 ∷ s))) ≡ (l ++ (b ∷ a)) ∷ cut [] s
    go true e h k = absurd (omega arith)
    go false e h k =
        ap (λ c. cond c (l ∷ cut [] (a ++ (10 ∷ s))) (cut (l ++ (b ∷ [])) (a ++ (10 ∷ s)))) e
        ∙ k (omega arith)
        ∙ ap (λ (z : List ℕ). z ∷ cut [] s) (append_assoc l (b ∷ []) a)

hex-none : (k b : ℕ) (t : List ℕ) → NoLF t → NoLF (hex k b t)
unfolding count_lf
hex-none zero b t h = h
hex-none (suc k) b t h = hex-none k (b / 16) (hex_digit (b % 16) ∷ t) (record { zero_lf = one (hex_digit (b % 16)) (digit-bound (b % 16)) })
  where
    one : (d : ℕ) → 48 ≤ d → count_lf (d ∷ t) ≡ 0
    one d l = rw (ne_eqb d 10 (λ e. omega arith)) (omega (arith, h.zero_lf))

fields-none : (xs : List Float) → NoLF (fields_text xs)
unfolding count_lf
fields-none [] = text "" refl
fields-none (x ∷ xs) = (text " " refl also hex-none 16 (to_bits binary64 x) [] (text "" refl)) also fields-none xs

orientation-none : (o : Orientation) → NoLF (orientation_name o)
unfolding count_lf
orientation-none Enu = text "enu" refl
orientation-none Ned = text "ned" refl
orientation-none Body = text "body" refl
orientation-none Wan = text "wan" refl

kind-none : (k : Kind) → NoLF (kind_name k)
unfolding count_lf
kind-none number = text "n" refl
kind-none angle = text "a" refl
kind-none len = text "l" refl
kind-none geocentric = text "g" refl
kind-none geodetic = text "d" refl
kind-none (vector o) = text "v" refl also orientation-none o
kind-none (frame o) = text "f" refl also orientation-none o

bare-none : (w : Word) (x : Value) → IsWord w → NoLF (bare w x)
unfolding count_lf
bare-none w x h = word_none w h also (text " " refl also (kind-none (kind_of x) also fields-none (fields x)))

line-bare : (w : Word) (x : Value) (s : List ℕ) → output_line w x ++ s ≡ bare w x ++ (10 ∷ s)
unfolding output_line
line-bare w x s =
    let k = kind_name (kind_of x) in
    let f = fields_text (fields x) in
    let e : (k ++ (f ++ lf)) ++ s ≡ (k ++ f) ++ (10 ∷ s) = append_assoc k (f ++ lf) s ∙ ap (λ (z : List ℕ). k ++ z) (append_assoc f lf s) ∙ sym (append_assoc k f (10 ∷ s)) in
    append_assoc w (32 ∷ (k ++ (f ++ lf))) s ∙ ap (λ (z : List ℕ). w ++ (32 ∷ z)) e ∙ sym (append_assoc w (32 ∷ (k ++ f)) (10 ∷ s))

pub entries-cut : (ds : List Entry) → All (λ a. IsWord (entry_name a)) ds → text_lines (entry_lines ds) ≡ map (λ a. bare (entry_name a) (entry_value a)) ds
unfolding cut
entries-cut [] h = refl
entries-cut (a ∷ ds) h =
    let b = bare (entry_name a) (entry_value a) in
    ap (cut []) (line-bare (entry_name a) (entry_value a) (entry_lines ds))
    ∙ cut_line [] b (entry_lines ds) (bare-none (entry_name a) (entry_value a) h.0).zero_lf
    ∙ ap (λ (z : List (List ℕ)). b ∷ z) (entries-cut ds h.1)
