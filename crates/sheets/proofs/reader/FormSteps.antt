-- The form pass, a step at a time: a law for each way out of `form` and for each turn of the loop of `form_from`. Assumes nothing.
use Rattle.std.specs.Prelude.{Option, Some, None, Result, Ok, Err}
use Prim.Native.Nat.{ℕ, ◌+◌, ◌-◌, ◌<◌, ◌≤◌}
use native.Mathlib.Omega.{arith}
use mathlib.Core.Path.{◌≡◌, refl, sym, ap, ◌∙◌}
use mathlib.Core.Bool.{false}
use mathlib.Core.List.{List, ◌∷◌}
use lib.ListN.{length}
use Rattle.sheets.specs.Trees.{Line, Head}
use Rattle.sheets.specs.Grammar.{after}
use Rattle.sheets.specs.code.reader.Reader.{none, got, read_line, read_head, Form, formed, bad_line, ◌thenᶠ◌, lines_step, read_lines, sheet_step, read_sheet}
use Rattle.sheets.specs.code.reader.Views.{place, lines_form, form_of}
use Rattle.sheets.specs.LineNumbers.{line_number}
use Rattle.sheets.proofs.reader.LineNumbers.{number-next}
use Rattle.sheets.proofs.reader.Viewed.{placed-none, placed-got}
use Rattle.sheets.proofs.reader.Walks.{lines_end, lines-over, lines_step_lem}

pub form-no-head : (s : List ℕ) → read_head s ≡ none → Err 1 ≡ form_of (read_sheet s)
unfolding read_sheet sheet_step form_of
form-no-head s e = rw e refl

pub form-whole : (s : List ℕ) (x : Head) (n : ℕ) → read_head s ≡ got x n → lines_form 2 (read_lines 95 2 0 s n) ≡ form_of (read_sheet s)
unfolding read_sheet sheet_step lines_form form_of ◌thenᶠ◌
form-whole s x n e = go (read_lines 95 2 0 s n) ∙ sym (ap (λ o. form_of (sheet_step o (read_lines 95 2 0 s))) e)
  where
    go : (f : Form (List Line)) → lines_form 2 f ≡ form_of (f thenᶠ (λ ls. formed (record { head = x; lines = ls })))
    go (formed ls) = ap (λ k. Ok k) (omega arith)
    go (bad_line j) = refl

-- the line at a place that `form_from` reached from line `first` at `start`: its number is one more than the LFs before it, and whatever the phase at `start`, the lines from it on, in some phase, make the answer
pub record Reached (s : List ℕ) (start first at number : ℕ) : Type 0 where
  pub has_number : number ≡ line_number s at
  pub rest : (p : ℕ) → (q : ℕ) × (lines_form number (read_lines (97 - number) number q s at) ≡ lines_form first (read_lines (97 - first) first p s start))

-- the number steps with the line that was read
pub form-number : (s : List ℕ) (at : ℕ) (r : Option ℕ) → r ≡ place (read_line s at) → (n : ℕ) → r ≡ Some n → (i : ℕ) → i ≡ line_number s at → i + 1 ≡ line_number s n
form-number s at r er n h = let (x, ex) = placed-got (read_line s at) r er n h in number-next s x at n ex

-- ---- the turns of the loop
module _ (s : List ℕ) (at i p : ℕ) (low : 1 ≤ i) (q : Result ℕ ℕ) (inv : lines_form i (read_lines (97 - i) i p s at) ≡ q) where
  pub form-done : length s ≤ at → Ok (i - 1) ≡ q
  unfolding lines_form
  form-done h = ap (λ k. Ok k) (omega arith) ∙ rw (lines_end s at i p (97 - i) h) at inv

  module _ (h : at < length s) where
    pub form-over : 96 < i → Err i ≡ q
    unfolding lines_form
    form-over l = rw (lines-over s at i p (97 - i) (omega arith) h) at inv

    module _ (l : i ≤ 96) (r : Option ℕ) (er : r ≡ place (read_line s at)) where
      steps : read_lines (97 - i) i p s at ≡ lines_step false i (read_line s at) (λ l. read_lines (97 - i - 1) (i + 1) (after p l) s)
      steps = lines_step_lem s at i p (97 - i) (omega arith) h

      pub form-bad : r ≡ None → Err i ≡ q
      unfolding lines_step lines_form
      form-bad e = rw (steps, placed-none (read_line s at) r er e) at inv

      pub form-more : (n : ℕ) → r ≡ Some n → (p : ℕ) × (lines_form (i + 1) (read_lines (97 - (i + 1)) (i + 1) p s n) ≡ q)
      unfolding lines_step lines_form ◌thenᶠ◌
      form-more n e =
          let (x, ex) = placed-got (read_line s at) r er n e in
          let z : 97 - i - 1 ≡ 97 - (i + 1) = omega arith in (
            after p x,
            go x (read_lines (97 - (i + 1)) (i + 1) (after p x) s n)
                ∙ ap (λ k. lines_form i (read_lines k (i + 1) (after p x) s n thenᶠ (λ ls. formed (x ∷ ls)))) (sym z)
                ∙ ap (λ o. lines_form i (lines_step false i o (λ l. read_lines (97 - i - 1) (i + 1) (after p l) s))) (sym ex)
                ∙ ap (lines_form i) (sym steps)
                ∙ inv,
          )
        where
          go : (x : Line) (f : Form (List Line)) → lines_form (i + 1) f ≡ lines_form i (f thenᶠ (λ ls. formed (x ∷ ls)))
          go x (formed ls) = ap (λ k. Ok k) (omega arith)
          go x (bad_line j) = refl
