-- The reader gives an EXPR exactly where the bytes are what it prints, it is in shape, and no byte of a token follows. Assumes nothing.
use Prim.Native.Nat.{ℕ, zero, suc, ◌+◌}
use native.Mathlib.Omega.{arith}
use mathlib.Core.Path.{◌≡◌, refl, ap, ◌∙◌}
use mathlib.Core.Bool.{Bool, true, false}
use mathlib.Core.List.{List, [], ◌∷◌}
use lib.Dec.{eqb}
use lib.ListN.{get_or}
use borrow.Author.Tests.{eq-eqb, ne_eqb, eqb-true}
use Rattle.sheets.specs.Text.{Word}
use Rattle.sheets.specs.Trees.{Num, Expr, Exprs, word_expr, num_expr, form_expr, nil, ◌▸◌}
use Rattle.sheets.specs.Grammar.{IsWord, IsNum, IsExpr, AreArgs, print_num, print, print_args}
use Rattle.sheets.specs.code.reader.Reader.{Got, none, got, ◌then◌, read_word, read_num, args_step, read_args, or_num, read_leaf, expr_step, read_expr}
use Rattle.sheets.proofs.reader.ReaderLaws.{then-got, close-read, expr-leaf}
use Rattle.sheets.proofs.reader.Spans.{Spans, spans-append, spans-split, Holds, holds-none, holds-got, holds_then}
use Rattle.sheets.proofs.reader.TokenLaws.{Stops, space-stops, close-stops, WordAt, word_sound, word-complete, no_word, NumAt, num-sound, num-complete, digit-letter}

abbrev pub ExprAt : List ℕ → ℕ → ℕ → Expr → ℕ → Type 0
ExprAt s d at x n = Spans s (print x) at n × IsExpr d x

abbrev ArgsAt : List ℕ → ℕ → ℕ → ℕ → Exprs → ℕ → Type 0
ArgsAt s d k at xs n = Spans s (print_args xs) at n × AreArgs d k xs

leaf-sound : (s : List ℕ) (d at : ℕ) → Holds (ExprAt s d at) (read_leaf s at)
unfolding read_leaf or_num Holds ◌then◌
leaf-sound s d at = go (read_word s at) (read_num s at) (word_sound s at) (num-sound s at)
  where
    go : (o : Got Word) (p : Got Num) → Holds (WordAt s at) o → Holds (NumAt s at) p → Holds (ExprAt s d at) (or_num o p)
    go (got w n) p h i = h
    go none (got q n) h i = i
    go none none h i = tt

module _ (s : List ℕ) (d : ℕ) (rd : ℕ → Got Expr) (h : (at : ℕ) → Holds (ExprAt s d at) (rd at)) where
  args-sound : (k at : ℕ) → Holds (ArgsAt s d k at) (read_args rd k s at)
  unfolding read_args args_step Spans
  args-sound zero at = go (eqb (get_or s at 0) 41) refl
    where
      go : (t : Bool) → eqb (get_or s at 0) 41 ≡ t → Holds (ArgsAt s d zero at) (args_step t false rd (λ n. none) at)
      go true e = holds-got (ArgsAt s d zero at) nil (at + 1) ((eqb-true (get_or s at 0) 41 e, refl), tt)
      go false e = holds-none (ArgsAt s d zero at)
  args-sound (suc k) at = go (eqb (get_or s at 0) 41) refl (eqb (get_or s at 0) 32) refl (λ n. args-sound k n)
    where
      go : (t : Bool) → eqb (get_or s at 0) 41 ≡ t → (u : Bool) → eqb (get_or s at 0) 32 ≡ u → ((n : ℕ) → Holds (ArgsAt s d k n) (read_args rd k s n))
          → Holds (ArgsAt s d (suc k) at) (args_step t u rd (read_args rd k s) at)
      go true e u f rest = holds-got (ArgsAt s d (suc k) at) nil (at + 1) ((eqb-true (get_or s at 0) 41 e, refl), tt)
      go false e false f rest = holds-none (ArgsAt s d (suc k) at)
      go false e true f rest =
          holds_then (ExprAt s d (at + 1)) (ArgsAt s d (suc k) at) (rd (at + 1)) (λ x n. read_args rd k s n then (λ xs m. got (x ▸ xs) m)) (h (at + 1)) (λ x n p.
          holds_then (ArgsAt s d k n) (ArgsAt s d (suc k) at) (read_args rd k s n) (λ xs m. got (x ▸ xs) m) (rest n) (λ xs m q.
          holds-got (ArgsAt s d (suc k) at) (x ▸ xs) m ((eqb-true (get_or s at 0) 32 f, spans-append s (print x) (print_args xs) (at + 1) n m p.0 q.0), (p.1, q.1))))

pub expr-sound : (s : List ℕ) (d at : ℕ) → Holds (ExprAt s d at) (read_expr d s at)
unfolding read_expr expr_step Spans
expr-sound s zero at = go (eqb (get_or s at 0) 40) refl
  where
    go : (t : Bool) → eqb (get_or s at 0) 40 ≡ t → Holds (ExprAt s zero at) (expr_step t (λ n. none) s at)
    go true e = holds_then (WordAt s (at + 1)) (ExprAt s zero at) (read_word s (at + 1)) _ (word_sound s (at + 1)) (λ w n p. holds_then {A = Exprs} (λ xs m. ⊥) (ExprAt s zero at) none _ (holds-none (λ xs m. ⊥)) (λ xs m q. absurd q))
    go false e = leaf-sound s zero at
expr-sound s (suc d) at = go (eqb (get_or s at 0) 40) refl (args-sound s d (read_expr d s) (λ i. expr-sound s d i) 5)
  where
    go : (t : Bool) → eqb (get_or s at 0) 40 ≡ t → ((n : ℕ) → Holds (ArgsAt s d 5 n) (read_args (read_expr d s) 5 s n)) → Holds (ExprAt s (suc d) at) (expr_step t (read_args (read_expr d s) 5 s) s at)
    go true e args =
        holds_then (WordAt s (at + 1)) (ExprAt s (suc d) at) (read_word s (at + 1)) (λ w n. read_args (read_expr d s) 5 s n then (λ xs m. got (form_expr w xs) m)) (word_sound s (at + 1)) (λ w n p.
        holds_then (ArgsAt s d 5 n) (ExprAt s (suc d) at) (read_args (read_expr d s) 5 s n) (λ xs m. got (form_expr w xs) m) (args n) (λ xs m q.
        holds-got (ExprAt s (suc d) at) (form_expr w xs) m ((eqb-true (get_or s at 0) 40 e, spans-append s w (print_args xs) (at + 1) n m p.0 q.0), (p.1, q.1))))
    go false e args = leaf-sound s (suc d) at

pub args-stop : (s : List ℕ) (xs : Exprs) (at n : ℕ) → Spans s (print_args xs) at n → Stops s at
unfolding Spans
args-stop s nil at n p = close-stops s at p.0
args-stop s (x ▸ xs) at n p = space-stops s at p.0

word_first : (s : List ℕ) (w : Word) (at n : ℕ) → Spans s w at n → IsWord w → get_or s at 0 ≡ 40 → ⊥
unfolding Spans
word_first s [] at n p h e = h
word_first s (c ∷ w) at n p h e = omega (arith, p.0, h.0.0)

leaf-word : (s : List ℕ) (w : Word) (d at n : ℕ) → Spans s w at n → IsWord w → Stops s n → read_expr d s at ≡ got (word_expr w) n
unfolding read_leaf or_num
leaf-word s w d at n p h e = expr-leaf s at (get_or s at 0) refl d (word_first s w at n p h) ∙ ap (λ o. or_num o (read_num s at)) (word-complete s w at n p h e)

leaf-num : (s : List ℕ) (q : Num) (d at n : ℕ) → Spans s (print_num q) at n → IsNum q → Stops s n → read_expr d s at ≡ got (num_expr q) n
unfolding read_leaf or_num ◌then◌
leaf-num s q d at n p h e =
    let (r, small, other) = num-complete s q at n p h e in
    expr-leaf s at (get_or s at 0) refl d other ∙ ap (λ o. or_num o (read_num s at)) (no_word s at (digit-letter _ small)) ∙ ap (λ o. or_num none o) r

form-complete : (s : List ℕ) (w : Word) (xs : Exprs) (d at m n : ℕ) → get_or s at 0 ≡ 40 → read_word s (at + 1) ≡ got w m → read_args (read_expr d s) 5 s m ≡ got xs n → read_expr (suc d) s at ≡ got (form_expr w xs) n
unfolding read_expr expr_step
form-complete s w xs d at m n e ew ea = rw (eq-eqb (get_or s at 0) 40 e) (then-got (read_word s (at + 1)) _ w m ew ∙ then-got (read_args (read_expr d s) 5 s m) _ xs n ea)

nil-complete : (s : List ℕ) (rd : ℕ → Got Expr) (k at n : ℕ) → get_or s at 0 ≡ 41 → at + 1 ≡ n → read_args rd k s at ≡ got nil n
nil-complete s rd k at n e i = close-read rd s at (get_or s at 0) refl k e ∙ ap (got nil) i

more-complete : (s : List ℕ) (rd : ℕ → Got Expr) (x : Expr) (xs : Exprs) (k at m n : ℕ) → get_or s at 0 ≡ 32 → rd (at + 1) ≡ got x m → read_args rd k s m ≡ got xs n → read_args rd (suc k) s at ≡ got (x ▸ xs) n
unfolding read_args args_step
more-complete s rd x xs k at m n e ex ea =
    rw (ne_eqb (get_or s at 0) 41 (λ z. omega arith), eq-eqb (get_or s at 0) 32 e) (then-got (rd (at + 1)) _ x m ex ∙ then-got (read_args rd k s m) _ xs n ea)

mutual
  unfolding Spans

  pub expr-complete : (s : List ℕ) (x : Expr) (d at n : ℕ) → Spans s (print x) at n → IsExpr d x → Stops s n → read_expr d s at ≡ got x n
  expr-complete s (word_expr w) d at n p h e = leaf-word s w d at n p h e
  expr-complete s (num_expr q) d at n p h e = leaf-num s q d at n p h e
  expr-complete s (form_expr w xs) zero at n p h e = absurd h
  expr-complete s (form_expr w xs) (suc d) at n p h e =
      let (m, q, r) = spans-split s w (print_args xs) (at + 1) n p.1 in
      form-complete s w xs d at m n p.0 (word-complete s w (at + 1) m q h.0 (args-stop s xs m n r)) (args-complete s xs d 5 m n r h.1)

  args-complete : (s : List ℕ) (xs : Exprs) (d k at n : ℕ) → Spans s (print_args xs) at n → AreArgs d k xs → read_args (read_expr d s) k s at ≡ got xs n
  args-complete s nil d k at n p h = nil-complete s (read_expr d s) k at n p.0 p.1
  args-complete s (x ▸ xs) d zero at n p h = absurd h
  args-complete s (x ▸ xs) d (suc k) at n p h =
      let (m, q, r) = spans-split s (print x) (print_args xs) (at + 1) n p.1 in
      more-complete s (read_expr d s) x xs k at m n p.0 (expr-complete s x d (at + 1) m q h.0 (args-stop s xs m n r)) (args-complete s xs d k m n r h.1)
