-- The text of a sheet within the grammar fits 24,576 bytes: 95 lines of at most 223. Assumes nothing.
use mathlib.Core.Path.{◌≡◌, refl, sym, ap, ◌∙◌, subst}
use mathlib.Core.List.{List, [], ◌∷◌, ◌++◌, append_assoc, append-nil}
use Prim.Native.Nat.{ℕ, zero, suc, ◌≤◌, ◌+◌, ◌*◌, ◌/◌, ◌%◌}
use native.Mathlib.Omega.{arith}
use lib.ListN.{length, length-append}
use lib.Ieee.{Float, binary64, to_bits}
use Rattle.frames.specs.declared.Orientation.TheVariants.{Enu, Ned, Body, Wan}
use Rattle.sheets.specs.declared.Value.{Value}
use Rattle.sheets.specs.declared.Value.TheVariants.{Number, Radians, Metres, Geocentric, Geodetic, Vector, Frame}
use Rattle.sheets.specs.Text.{Word}
use Rattle.sheets.specs.Trees.{Line, Sheet, numbered}
use Rattle.sheets.specs.Grammar.{IsWord, IsLine, AreLines, IsSheet, after as after_phase}
use Rattle.sheets.specs.Kinds.{Kind, number, angle, len, geocentric, geodetic, vector, frame, kind_of, kind_name}
use Rattle.sheets.specs.Output.{hex, hex_digit, field, fields, fields_text, output_line}
use Rattle.sheets.specs.Entries.{Entry, shown, summed, total, entry_name, entry_value, entry_line, entry_lines}
use Rattle.sheets.specs.Machine.{Out, goes, stops, sticks, State, step, Ran, onward, steps, start, machine, last_state}
use Rattle.sheets.specs.Writes.{Writes, a_show, a-total, nothing, writes}
use Rattle.sheets.proofs.LineWrites.{Left, Wrote, line_wrote, Named, line-named, last-after}

-- ---- an output line

pub hex-length : (k b : ℕ) (t : List ℕ) → length (hex k b t) ≡ k + length t
hex-length zero b t = omega arith
hex-length (suc k) b t = hex-length k (b / 16) (hex_digit (b % 16) ∷ t) ∙ omega arith

pub fields-length : (xs : List Float) → length (fields_text xs) ≡ 17 * length xs
fields-length [] = refl
fields-length (x ∷ xs) =
    let h = hex-length 16 (to_bits binary64 x) [] in
    let k = fields-length xs in
    let m = length-append (field x) (fields_text xs) in
    omega arith

pub few : (x : Value) → length (fields x) ≤ 12
few (Number x) = omega arith
few (Radians x) = omega arith
few (Metres x) = omega arith
few (Geocentric x) = omega arith
few (Geodetic x) = omega arith
few (Vector x) = omega arith
few (Frame x) = omega arith

pub name-length : (k : Kind) → length (kind_name k) ≤ 5
name-length number = omega arith
name-length angle = omega arith
name-length len = omega arith
name-length geocentric = omega arith
name-length geodetic = omega arith
name-length (vector Enu) = omega arith
name-length (vector Ned) = omega arith
name-length (vector Body) = omega arith
name-length (vector Wan) = omega arith
name-length (frame Enu) = omega arith
name-length (frame Ned) = omega arith
name-length (frame Body) = omega arith
name-length (frame Wan) = omega arith

pub line-length : (w : Word) (x : Value) → length w ≤ 12 → length (output_line w x) ≤ 223
unfolding output_line
line-length w x h =
    let p = name-length (kind_of x) in
    let q = few x in
    let r = fields-length (fields x) in
    simp length-append (omega arith)

pub word-length : (w : Word) → IsWord w → length w ≤ 12
word-length [] t = absurd t
word-length (c ∷ w) t = let h = t.2 in omega arith

-- ---- a line of the sheet

-- a line more
pub entries-last : (es : List Entry) (e : Entry) → entry_lines (es ++ (e ∷ [])) ≡ entry_lines es ++ entry_line e
entries-last [] e = append-nil (entry_line e)
entries-last (d ∷ es) e = ap (λ (t : List ℕ). entry_line d ++ t) (entries-last es e) ∙ sym (append_assoc (entry_line d) (entry_lines es) (entry_line e))

abbrev Longer : State → State → Type 0
Longer s t = length (entry_lines t.entries) ≤ length (entry_lines s.entries) + 223

longer-entry : (s t : State) (e : Entry) → IsWord (entry_name e) → t.entries ≡ s.entries ++ (e ∷ []) → Longer s t
longer-entry s t e h w = omega (
  arith,
  ap (λ es. length (entry_lines es)) w,
  ap length (entries-last s.entries e),
  length-append (entry_lines s.entries) (entry_line e),
  line-length (entry_name e) (entry_value e) (word-length (entry_name e) h),
)

longer : (i : ℕ) (s t : State) (k : Writes) → Named k → Wrote i s k t → Longer s t
longer i s t nothing h w = omega (arith, ap (λ es. length (entry_lines es)) w)
longer i s t (a_show v) h (g, e, w) = longer-entry s t (shown i g) (subst IsWord e h) w
longer i s t a-total h w = longer-entry s t (summed (total s.entries)) h w

longer-step : (i : ℕ) (s : State) (l : Line) → IsLine l → Left (Longer s) (step i s l)
longer-step i s l h = go (step i s l) (line_wrote i s l)
  where
    go : (o : Out State) → Left (Wrote i s (writes l)) o → Left (Longer s) o
    go (goes fs t) w = longer i s t (writes l) (line-named l h) w
    go (stops fs c) w = tt
    go (sticks fs) w = tt

-- ---- a sheet

-- the text of a run, however it came to its end
abbrev pub ran_text : Ran → List ℕ
ran_text r = entry_lines (last_state r).entries

onward-text : (o : Out State) (i : ℕ) (s : State) (k : State → Ran) (m : ℕ) → Left (Longer s) o → ((t : State) → length (ran_text (k t)) ≤ length (entry_lines t.entries) + m)
    → length (ran_text (onward o i s k)) ≤ length (entry_lines s.entries) + (223 + m)
onward-text (goes fs t) i s k m h j = omega (arith, ap (λ (s : State). length (entry_lines s.entries)) (last-after fs (k t)), j t)
onward-text (stops fs c) i s k m h j = omega arith
onward-text (sticks fs) i s k m h j = omega arith

steps-text : (xs : List Line) (i p : ℕ) (s : State) → AreLines p xs → length (ran_text (steps (numbered i xs) s)) ≤ length (entry_lines s.entries) + 223 * length xs
unfolding steps
steps-text [] i p s t = omega arith
steps-text (x ∷ xs) i p s t =
    let h = onward-text (step i s x) i s (λ u. steps (numbered (suc i) xs) u) (223 * length xs) (longer-step i s x t.0) (λ u. steps-text xs (suc i) (after_phase p x) u t.2) in
    omega arith

pub text-fits : (c : Sheet) (rs : List Float) → IsSheet c → length (ran_text (machine c rs)) ≤ 24576
unfolding machine
text-fits c rs t =
    let h = steps-text c.lines 2 0 (start c.head rs) t.1 in
    let k = t.2 in
    omega arith
