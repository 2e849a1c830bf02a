-- An output line from its parts, and what a caller that has read a word takes from `output_line`: the definitions' line, after the text so far. Assumes nothing.
use Prim.Native.Nat.{ℕ, ◌+◌, ◌-◌, ◌≤◌}
use native.Mathlib.Nat.{add-zero}
use native.Mathlib.Omega.{arith}
use mathlib.Core.Path.{◌≡◌, refl, sym, ap, ◌∙◌}
use mathlib.Core.Bool.{Bool, true, false, not}
use mathlib.Core.List.{List, [], ◌∷◌, ◌++◌, append_assoc}
use borrow.Author.Tests.{le-leb, leb-true, not-true, not-false}
use lib.Dec.{leb}
use lib.ListN.{length, length-append}
use Rattle.numbers.specs.declared.Length.{Length}
use Rattle.sheets.specs.declared.Value.{Value}
use Rattle.sheets.specs.declared.Value.TheVariants.{Metres}
use Rattle.sheets.specs.Text.{Word, ascii}
use Rattle.sheets.specs.code.reader.Reader.{got, read_word}
use Rattle.sheets.specs.Kinds.{kind_of, kind_name}
use Rattle.sheets.specs.Output.{fields, fields_text, output_line}
use Rattle.sheets.specs.Answers.{laid}
use Rattle.sheets.specs.code.run.Writing.{writes, Written, part, value_text, fitting, room, line_if}
use Rattle.sheets.proofs.Bools.{and_both}
use Rattle.sheets.proofs.reader.Slices.{word-is, word-part}
use Rattle.sheets.proofs.run.TextBound.{fields-length, few, name-length, line-length, word-length}
use Rattle.sheets.proofs.run.WritingLaws.{length-laid, laid_more, written_then, part_length}

-- ---- room

pub fitting-is : (n from end m at : ℕ) → from ≤ end → end ≤ n → end - from ≤ 12 → at + 223 ≤ m → fitting n from end m at ≡ true
unfolding fitting
fitting-is n from end m at a b c d = rw (le-leb from end a, le-leb end n b, le-leb (end - from) 12 c, le-leb 223 (m - at) (omega arith)) refl

fitting-told : (n from end m at : ℕ) → fitting n from end m at ≡ true → (from ≤ end) × (end ≤ n) × (end - from ≤ 12) × (at + 223 ≤ m)
unfolding fitting
fitting-told n from end m at e =
    let (a, e₁) = and_both (leb from end) _ e in
    let (b, e₂) = and_both (leb end n) _ e₁ in
    let (c, d) = and_both (leb (end - from) 12) _ e₂ in
    (leb-true from end a, leb-true end n b, leb-true (end - from) 12 c, omega (arith, leb-true 223 (m - at) d))

-- what a line's name and buffer are where the test was passed
pub room-told : (ok : Bool) (s : List ℕ) (from end : ℕ) (d : List ℕ) (at : ℕ) → ok ≡ room s from end d at → not ok ≡ false
    → (from ≤ end) × (end ≤ length s) × (at + (end - from) ≤ length d) × (at + length (part s from end) + 211 ≤ length d)
room-told ok s from end d at e h =
    let (p, q, i, m) = fitting-told (length s) from end (length d) at (sym e ∙ not-false ok h) in
    (p, q, omega (arith, i, m), omega (arith, i, m, part_length s from end q))

-- ---- a line in its parts

pub value-length : (x : Value) → length (value_text x) ≤ 209
unfolding value_text
value-length x = omega (arith, length-append (kind_name (kind_of x)) (fields_text (fields x)), name-length (kind_of x), few x, fields-length (fields x))

module _ (s : List ℕ) (from end : ℕ) (x : Value) (ok b : Bool) (e : ok ≡ b) {d : List ℕ} {at : ℕ} where
  pub line-none : not ok ≡ true → Written d at (line_if b s from end x) d at
  unfolding line_if writes
  line-none h = rw (sym e ∙ not-true ok h) record { is = refl; end = sym (add-zero at) }

  pub line-whole : not ok ≡ false → {d₁ d₂ d₃ f : List ℕ} {i j k r : ℕ} → Written d at (part s from end) d₁ i → Written d₁ i (32 ∷ []) d₂ j
      → Written d₂ j (value_text x) d₃ k → Written d₃ k (10 ∷ []) f r → Written d at (line_if b s from end x) f r
  unfolding line_if output_line value_text
  line-whole h p q u v =
      let w = part s from end in
      let n = kind_name (kind_of x) in
      let t = fields_text (fields x) in
      let m = (n ++ t) ++ (10 ∷ []) in
      rw (sym e ∙ not-false ok h, ← append_assoc n t (10 ∷ [])) (written_then w (32 ∷ m) p (written_then (32 ∷ []) m q (written_then (n ++ t) (10 ∷ []) u v)))

-- a total's line
pub total-whole : (t : Length) (ok b : Bool) → ok ≡ b → not ok ≡ false → {d d₁ d₂ f : List ℕ} {at i k r : ℕ}
    → Written d at (ascii "total ") d₁ i → Written d₁ i (108 ∷ fields_text (t.0 ∷ [])) d₂ k → Written d₂ k (10 ∷ []) f r → Written d at (line_if b (ascii "total") 0 5 (Metres t)) f r
unfolding line_if output_line
total-whole t ok b e h p q v =
    let fs = 108 ∷ fields_text (t.0 ∷ []) in
    rw (sym e ∙ not-false ok h) (written_then (ascii "total ") (fs ++ (10 ∷ [])) p (written_then fs (10 ∷ []) q v))

-- ---- a word that was read

module _ (s : List ℕ) (from : ℕ) (w : Word) (end : ℕ) (e : read_word s from ≡ got w end) (x : Value) where
  has_room : (d : List ℕ) (at : ℕ) → at + 223 ≤ length d → room s from end d at ≡ true
  has_room d at h =
      let (p, q, i) = word-part s from w end e in
      let l = word-length w (word-is s from w end e) in
      fitting-is (length s) from end (length d) at (omega (arith, q)) i (omega (arith, q, l)) h

  -- the bytes that output_line writes
  line-here : (d : List ℕ) (at : ℕ) → at + 223 ≤ length d → line_if (room s from end d at) s from end x ≡ output_line w x
  unfolding line_if
  line-here d at h = ap (λ b. line_if b s from end x) (has_room d at h) ∙ ap (λ t. output_line t x) (word-part s from w end e).0

  -- the text so far, a, grows by the line
  pub line-laid : (a d f : List ℕ) (r : ℕ) → length a + 223 ≤ length d
      → Written (laid a d) (length a) (line_if (room s from end (laid a d) (length a)) s from end x) f r
      → (f ≡ laid (a ++ output_line w x) d) × (r ≡ length (a ++ output_line w x))
  line-laid a d f r h p =
      let l = line-length w x (word-length w (word-is s from w end e)) in
      let k = line-here (laid a d) (length a) (omega (arith, h, length-laid a d (omega (arith, h)))) in (
        p.is ∙ ap (writes (laid a d) (length a)) k ∙ laid_more a (output_line w x) d (omega (arith, l, h)),
        p.end ∙ ap (λ t. length a + length t) k ∙ sym (length-append a (output_line w x)),
      )
