-- The lines of a sheet, one after another, as the reader of specs/code goes over them: what every walk over the lines goes by. Assumes nothing.
use Prim.Native.Nat.{ℕ, zero, suc, ◌+◌, ◌-◌, ◌<◌, ◌≤◌}
use native.Mathlib.Omega.{arith}
use native.Mathlib.Numerals.{sub-one}
use mathlib.Core.Path.{◌≡◌, refl, sym, ap, ◌∙◌}
use mathlib.Core.Bool.{Bool, true, false}
use mathlib.Core.List.{List, [], ◌∷◌}
use lib.ListN.{length}
use borrow.Author.Tests.{le-leb, lt-leb}
use Rattle.sheets.specs.Trees.{Line}
use Rattle.sheets.specs.Grammar.{allowed, after}
use Rattle.sheets.specs.code.reader.Reader.{Got, none, got, or_else, nothing, read_line, permitted, read_in, Form, formed, bad_line, ◌thenᶠ◌, lines_step, read_lines}

-- ---- the lines of the sheet

-- a line that may stand in a phase is a line
permitted-got : (p : ℕ) (o : Got Line) (l : Line) (n : ℕ) → permitted p o ≡ got l n → (o ≡ got l n) × (allowed p l ≡ true)
unfolding permitted or_else
permitted-got p none l n e = let z : ◌≡◌ {A = ℕ} 0 1 = cc in absurd (omega arith)
permitted-got p (got m k) l n e = go (allowed p m) refl e
  where
    go : (t : Bool) → allowed p m ≡ t → or_else t (got m) nothing k ≡ got l n → (got m k ≡ got l n) × (allowed p l ≡ true)
    go true h e = let i : m ≡ l = cc in (e, ap (allowed p) (sym i) ∙ h)
    go false h e = let z : ◌≡◌ {A = ℕ} 0 1 = cc in absurd (omega arith)

-- every line may stand in every phase
any-phase : (p : ℕ) (o : Got Line) → permitted p o ≡ o
unfolding permitted allowed or_else
any-phase p none = refl
any-phase p (got l n) = refl

-- the reader of the lines from line i on, at most k of them, a step at a time
module _ (s : List ℕ) (at i p : ℕ) where
  pub lines_end : (k : ℕ) → length s ≤ at → read_lines k i p s at ≡ formed []
  unfolding read_lines lines_step
  lines_end zero h = rw (le-leb (length s) at h) refl
  lines_end (suc k) h = rw (le-leb (length s) at h) refl

  pub lines-over : (k : ℕ) → k ≡ 0 → at < length s → read_lines k i p s at ≡ bad_line i
  unfolding read_lines lines_step
  lines-over k e h = rw (e, lt-leb (length s) at h) refl

  pub lines_step_lem : (k : ℕ) → 0 < k → at < length s → read_lines k i p s at ≡ lines_step false i (read_line s at) (λ l. read_lines (k - 1) (i + 1) (after p l) s)
  unfolding read_lines
  lines_step_lem zero pos h = absurd (omega arith)
  lines_step_lem (suc k) pos h = rw (lt-leb (length s) at h, sub-one, any-phase p (read_line s at)) refl

-- the lines ls from line i on, at most `left` of them, the first in the phase p
module _ (s : List ℕ) (left i p at : ℕ) (ls : List Line) (e : read_lines left i p s at ≡ formed ls) where
  pub walk_end : length s ≤ at → ls ≡ []
  walk_end h = let q = lines_end s at i p left h in cc

  -- the line at this place, the place of the next one, and the lines after it, in their phase
  pub record Step : Type 0 where
    pub line : Line
    pub next : ℕ
    pub rest : List Line
    pub fewer : ℕ
    pub one_less : left ≡ suc fewer
    pub stands : read_line s at ≡ got line next
    pub may : allowed p line ≡ true
    pub goes_on : read_lines fewer (i + 1) (after p line) s next ≡ formed rest
    pub all : ls ≡ line ∷ rest

  pub walk-line : at < length s → Step
  unfolding read_lines lines_step ◌thenᶠ◌
  walk-line h = go left refl e
    where
      join : (k : ℕ) (l : Line) (n : ℕ) → left ≡ suc k → read_in p s at ≡ got l n → (f : Form (List Line)) → read_lines k (i + 1) (after p l) s n ≡ f → f thenᶠ (λ ms. formed (l ∷ ms)) ≡ formed ls → Step
      join k l n ek el (formed ms) ef e =
          let (es, may) = permitted-got p (read_line s at) l n el in
          record { line = l; next = n; rest = ms; fewer = k; one_less = ek; stands = es; may = may; goes_on = ef; all = cc }
      join k l n ek el (bad_line j) ef e = let z : ◌≡◌ {A = ℕ} 0 1 = cc in absurd (omega arith)

      more : (k : ℕ) → left ≡ suc k → (o : Got Line) → read_in p s at ≡ o → lines_step false i o (λ l. read_lines k (i + 1) (after p l) s) ≡ formed ls → Step
      more k ek none eo e = let z : ◌≡◌ {A = ℕ} 0 1 = cc in absurd (omega arith)
      more k ek (got l n) eo e = join k l n ek eo (read_lines k (i + 1) (after p l) s n) refl e

      go : (k : ℕ) → left ≡ k → read_lines k i p s at ≡ formed ls → Step
      go zero ek e = let q = rw (lt-leb (length s) at h) at e in let z : ◌≡◌ {A = ℕ} 0 1 = cc in absurd (omega arith)
      go (suc k) ek e = more k ek (read_in p s at) refl (rw (lt-leb (length s) at h) at e)
