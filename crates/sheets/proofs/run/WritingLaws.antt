-- Laws of writing bytes into a buffer one by one. Assumes nothing.
use Prim.Native.Nat.{ℕ, suc, ◌+◌, ◌-◌, ◌<◌, ◌≤◌}
use native.Mathlib.Nat.{add-zero}
use native.Mathlib.Numerals.{add-one}
use native.Mathlib.Omega.{arith}
use mathlib.Core.Path.{◌≡◌, refl, sym, ap, ◌∙◌, subst}
use mathlib.Core.List.{List, [], ◌∷◌, ◌++◌, append_assoc}
use lib.ListN.{length, get_or, set, length-set, length-append, length-drop, take, drop}
use lib.Seq.{sets, sets-eq, take-append_seam, drop-append-add, drop-drop, take-suc, length-take-le}
use lib.Ieee.{Float, binary64, to_bits}
use Rattle.sheets.specs.Answers.{laid}
use Rattle.sheets.specs.Output.{hex, field, fields_text}
use Rattle.sheets.specs.code.run.Writing.{writes, Written, part}

-- ---- writes

writes-append : (a b d : List ℕ) (at : ℕ) → writes d at (a ++ b) ≡ writes (writes d at a) (at + length a) b
unfolding writes
writes-append [] b d at = rw add-zero refl
writes-append (x ∷ a) b d at = writes-append a b (set d at x) (at + 1) ∙ ap (λ (n : ℕ). writes (writes (set d at x) (at + 1) a) n b) (omega arith)

pub length-writes : (a d : List ℕ) (at : ℕ) → length (writes d at a) ≡ length d
unfolding writes
length-writes [] d at = refl
length-writes (x ∷ a) d at = length-writes a (set d at x) (at + 1) ∙ length-set d at x

writes-sets : (a d : List ℕ) (at : ℕ) → writes d at a ≡ sets d at a
unfolding writes
writes-sets [] d at = refl
writes-sets (x ∷ a) d at = rw add-one (writes-sets a (set d at x) (suc at))

-- the text from the place on, and all else as it was
writes-is : (a d : List ℕ) (at : ℕ) → at + length a ≤ length d → writes d at a ≡ take at d ++ a ++ drop (at + length a) d
writes-is a d at h = writes-sets a d at ∙ sets-eq a d at h

-- ---- a text that grows at its end

pub length-laid : (a d : List ℕ) → length a ≤ length d → length (laid a d) ≡ length d
length-laid a d h = length-append a (drop (length a) d) ∙ ap (λ n. length a + n) (length-drop (length a) d) ∙ omega arith

pub laid_more : (a b d : List ℕ) → length a + length b ≤ length d → writes (laid a d) (length a) b ≡ laid (a ++ b) d
laid_more a b d h =
    writes-is b (laid a d) (length a) (omega (arith, h, length-laid a d (omega arith)))
    ∙ ap (λ x. x ++ b ++ drop (length a + length b) (laid a d)) (take-append_seam a (drop (length a) d))
    ∙ ap (λ x. a ++ b ++ x) (drop-append-add a (drop (length a) d) (length b) ∙ drop-drop (length b) (length a) d)
    ∙ ap (λ n. a ++ b ++ drop n d) (sym (length-append a b))

pub laid-first : (b d : List ℕ) → length b ≤ length d → writes d 0 b ≡ laid b d
laid-first b d h = laid_more [] b d (omega arith)

-- ---- one text after another

pub written_then : (a b : List ℕ) {d e f : List ℕ} {at m r : ℕ} → Written d at a e m → Written e m b f r → Written d at (a ++ b) f r
written_then a b {d} {e} {f} {at} {m} {r} p q =
    record {
      is = q.is ∙ ap (λ n. writes e n b) p.end ∙ ap (λ x. writes x (at + length a) b) p.is ∙ sym (writes-append a b d at);
      end = omega (arith, p.end, q.end, length-append a b);
    }

fields-append : (xs ys : List Float) → fields_text (xs ++ ys) ≡ fields_text xs ++ fields_text ys
fields-append [] ys = refl
fields-append (x ∷ xs) ys = ap (λ t. field x ++ t) (fields-append xs ys) ∙ sym (append_assoc (field x) (fields_text xs) (fields_text ys))

pub fields-then : (xs ys : List Float) {d e f : List ℕ} {at m r : ℕ} → Written d at (fields_text xs) e m → Written e m (fields_text ys) f r → Written d at (fields_text (xs ++ ys)) f r
fields-then xs ys p q = rw (fields-append xs ys) (written_then (fields_text xs) (fields_text ys) p q)

-- a space and the digits of a double's bits
pub field-written : (x : Float) (b : ℕ) → b ≡ to_bits binary64 x → {d e f : List ℕ} {at m r : ℕ} → Written d at (32 ∷ []) e m → Written e m (hex 16 b []) f r → Written d at (fields_text (x ∷ [])) f r
field-written x b h {d} {e} {f} {at} {m} {r} p q = subst (λ k. Written d at (32 ∷ hex 16 k []) f r) h (written_then (32 ∷ []) (hex 16 b []) p q)

-- ---- a text, byte by byte

pub none-written : (d : List ℕ) (at : ℕ) → Written d at [] d at
unfolding writes
none-written d at = record { is = refl; end = omega arith }

pub text-turn : (w : List ℕ) (i : ℕ) → i < length w → {d e f : List ℕ} {at m r : ℕ} → Written d at (take i w) e m → Written e m (get_or w i 0 ∷ []) f r → Written d at (take (i + 1) w) f r
text-turn w i h p q = rw (add-one, take-suc w i 0 h) (written_then (take i w) (get_or w i 0 ∷ []) p q)

pub part_length : (s : List ℕ) (i n : ℕ) → n ≤ length s → length (part s i n) ≡ n - i
part_length s i n le = length-take-le (n - i) (drop i s) (omega (arith, le, length-drop i s))
