-- Expressions, a step at a time, as the code reads them: a law for each way out of `expr` and `args`. Assumes nothing.
use Rattle.std.specs.Prelude.{Option, Some, None}
use Prim.Native.Nat.{ℕ, zero, suc, ◌+◌, ◌-◌}
use native.Mathlib.Numerals.{sub-one}
use native.Mathlib.Omega.{arith}
use mathlib.Core.Path.{◌≡◌, refl, sym, ap, ◌∙◌}
use mathlib.Core.List.{List}
use lib.ListN.{get_or}
use borrow.Author.Tests.{eq-eqb, ne_eqb}
use Rattle.sheets.specs.Text.{Word}
use Rattle.sheets.specs.Trees.{Num, Expr, Exprs, word_expr, num_expr, form_expr, ◌▸◌}
use Rattle.sheets.specs.code.reader.Codes.{code_of}
use Rattle.sheets.specs.code.reader.Reader.{Got, none, got, ◌then◌, read_word, read_num, args_step, read_args, or_num, read_leaf, expr_step, read_expr, nothing}
use Rattle.sheets.proofs.reader.ReaderLaws.{close-read, expr-leaf}
use Rattle.sheets.specs.code.reader.Views.{place, coded, counted, numeral_of}
use Rattle.sheets.specs.declared.reader.num.Numeral.{Numeral}
use Rattle.sheets.proofs.reader.Viewed.{placed-none, placed-got, coded_none, coded-got, counted_none, counted-got}

place_same : {A B : Type 0} (o : Got A) (f : A → B) → place (o then (λ x n. got (f x) n)) ≡ place o
unfolding place ◌then◌
place_same none f = refl
place_same (got x n) f = refl

-- ---- the arguments

-- a space is no closing bracket
pub not-close : (b : ℕ) → b ≡ 32 → b ≡ 41 → ⊥
not-close b h e = omega arith

module _ (x : ℕ → Got Expr) (s : List ℕ) (at b : ℕ) (eb : b ≡ get_or s at 0) (left : ℕ) where
  pub args-close : b ≡ 41 → Some (at + 1) ≡ place (read_args x left s at)
  unfolding place
  args-close e = rw (close-read x s at b eb left e) refl

  pub args_none : (b ≡ 41 → ⊥) → left ≡ 0 → None ≡ place (read_args x left s at)
  unfolding read_args args_step place
  args_none e l = rw (l, ne_eqb (get_or s at 0) 41 (rw eb at e)) refl

  pub args-other : (b ≡ 41 → ⊥) → (b ≡ 32 → ⊥) → None ≡ place (read_args x left s at)
  unfolding read_args args_step place
  args-other e l = go left
    where
      go : (left : ℕ) → None ≡ place (read_args x left s at)
      go zero = rw (ne_eqb (get_or s at 0) 41 (rw eb at e)) refl
      go (suc n) = rw (ne_eqb (get_or s at 0) 41 (rw eb at e), ne_eqb (get_or s at 0) 32 (rw eb at l)) refl

  pub args-step : (left ≡ 0 → ⊥) → b ≡ 32 → read_args x left s at ≡ x (at + 1) then (λ y n. read_args x (left - 1) s n then (λ ys m. got (y ▸ ys) m))
  unfolding read_args args_step
  args-step l h = go left l
    where
      go : (left : ℕ) → (left ≡ 0 → ⊥) → read_args x left s at ≡ x (at + 1) then (λ y n. read_args x (left - 1) s n then (λ ys m. got (y ▸ ys) m))
      go zero l = absurd (l refl)
      go (suc n) l = rw (ne_eqb (get_or s at 0) 41 (not-close (get_or s at 0) (cc)), eq-eqb (get_or s at 0) 32 (cc), sub-one) refl

  -- r is what the reader answered of the argument
  pub args-bad : (left ≡ 0 → ⊥) → b ≡ 32 → (r : Option ℕ) → r ≡ place (x (at + 1)) → r ≡ None → None ≡ place (read_args x left s at)
  unfolding place ◌then◌
  args-bad l h r er k = rw (args-step l h, placed-none (x (at + 1)) r er k) refl

  pub args_more : (left ≡ 0 → ⊥) → b ≡ 32 → (r : Option ℕ) → r ≡ place (x (at + 1)) → (n : ℕ) → r ≡ Some n
      → (q : Option ℕ) → q ≡ place (read_args x (left - 1) s n) → q ≡ place (read_args x left s at)
  unfolding ◌then◌
  args_more l h r er n en q eq =
      let (y, ey) = placed-got (x (at + 1)) r er n en in
      rw (args-step l h, ey) (eq ∙ sym (place_same (read_args x (left - 1) s n) (λ ys. y ▸ ys)))

-- ---- an expression
module _ (s : List ℕ) (at b : ℕ) (eb : b ≡ get_or s at 0) (depth : ℕ) where
  deep_none : (o : Got Word) → None ≡ place (o then (λ w n. nothing {A = Exprs} n then (λ xs m. got (form_expr w xs) m)))
  unfolding place ◌then◌
  deep_none none = refl
  deep_none (got w n) = refl

  pub expr-deep : b ≡ 40 → depth ≡ 0 → None ≡ place (read_expr depth s at)
  unfolding read_expr expr_step
  expr-deep e d = rw (d, eq-eqb (get_or s at 0) 40 (cc)) (deep_none (read_word s (at + 1)))

  pub expr-step : b ≡ 40 → (depth ≡ 0 → ⊥) → read_expr depth s at ≡ read_word s (at + 1) then (λ w n. read_args (read_expr (depth - 1) s) 5 s n then (λ xs m. got (form_expr w xs) m))
  unfolding read_expr expr_step
  expr-step e d = go depth d
    where
      go : (depth : ℕ) → (depth ≡ 0 → ⊥) → read_expr depth s at ≡ read_word s (at + 1) then (λ w n. read_args (read_expr (depth - 1) s) 5 s n then (λ xs m. got (form_expr w xs) m))
      go zero d = absurd (d refl)
      go (suc n) d = rw (eq-eqb (get_or s at 0) 40 (cc), sub-one) refl

  module _ (e : b ≡ 40) (d : depth ≡ 0 → ⊥) (r : Option (ℕ × ℕ)) (er : r ≡ coded (read_word s (at + 1))) where
    pub expr-no-word : r ≡ None → None ≡ place (read_expr depth s at)
    unfolding place ◌then◌
    expr-no-word h = rw (expr-step e d, coded_none (read_word s (at + 1)) r er h) refl

    pub expr-form : (k n : ℕ) → r ≡ Some (k, n) → (q : Option ℕ) → q ≡ place (read_args (read_expr (depth - 1) s) 5 s n) → q ≡ place (read_expr depth s at)
    unfolding ◌then◌
    expr-form k n h q eq =
        let (w, ew, ek) = coded-got (read_word s (at + 1)) r er k n h in
        rw (expr-step e d, ew) (eq ∙ sym (place_same (read_args (read_expr (depth - 1) s) 5 s n) (λ xs. form_expr w xs)))

  module _ (e : b ≡ 40 → ⊥) (r : Option (ℕ × ℕ)) (er : r ≡ coded (read_word s at)) where
    -- the word's code and place
    pub name-read : (k n : ℕ) → r ≡ Some (k, n) → (w : Word) × (read_expr depth s at ≡ got (word_expr w) n) × (k ≡ code_of w)
    unfolding read_leaf or_num
    name-read k n h = let (w, ew, ek) = coded-got (read_word s at) r er k n h in (w, expr-leaf s at b eb depth e ∙ ap (λ o. or_num o (read_num s at)) ew, ek)

    pub expr-name : (k n : ℕ) → r ≡ Some (k, n) → Some n ≡ place (read_expr depth s at)
    unfolding place
    expr-name k n h = rw (name-read k n h).1 refl

    module _ (h : r ≡ None) (v : Option Numeral) (ev : v ≡ counted (read_num s at)) where
      pub num-read : (y : Numeral) → v ≡ Some y → (q : Num) × (read_expr depth s at ≡ got (num_expr q) y.end) × (y ≡ numeral_of q y.end)
      unfolding read_leaf or_num ◌then◌
      num-read y i = let (q, eq, ey) = counted-got (read_num s at) v ev y i in (q, expr-leaf s at b eb depth e ∙ ap (λ o. or_num o (read_num s at)) (coded_none (read_word s at) r er h) ∙ ap (λ o. o then (λ x n. got (num_expr x) n)) eq, ey)

      pub expr-num : (y : Numeral) → v ≡ Some y → Some y.end ≡ place (read_expr depth s at)
      unfolding place
      expr-num y i = rw (num-read y i).1 refl

      pub expr-bad : v ≡ None → None ≡ place (read_expr depth s at)
      unfolding read_leaf or_num place ◌then◌
      expr-bad i = rw (expr-leaf s at b eb depth e, coded_none (read_word s at) r er h, counted_none (read_num s at) v ev i) refl
