-- What was read where a reading succeeded, under the tests that the code makes: for the check and the run, which walk an expression again.
-- (A word is `name-read`, the closing bracket `close-read`; where the code meets nothing of the grammar, `not-read` rules the way out.) Assumes nothing.
use Rattle.std.specs.Prelude.{Option, Some, None}
use Prim.Native.Nat.{ℕ, ◌+◌, ◌-◌}
use native.Mathlib.Omega.{arith}
use mathlib.Core.Path.{◌≡◌, refl, sym, ap, ◌∙◌}
use mathlib.Core.Bool.{Bool, true, false}
use mathlib.Core.List.{List}
use lib.Dec.{leb}
use lib.ListN.{get_or}
use Rattle.sheets.specs.Text.{Word}
use Rattle.sheets.specs.Trees.{Expr, Exprs, form_expr, ◌▸◌}
use Rattle.sheets.specs.Grammar.{IsWord}
use Rattle.sheets.specs.code.reader.Codes.{code_of}
use Rattle.sheets.specs.code.reader.Reader.{Got, none, got, ◌then◌, read_word, read_args, read_expr, or_else, nothing, closing, limit}
use Rattle.sheets.specs.code.reader.Views.{place, closed, coded}
use Rattle.sheets.proofs.reader.PieceSteps.{closing-none, closing-got}
use Rattle.sheets.proofs.reader.Viewed.{coded-got}
use Rattle.sheets.proofs.reader.ExprSteps.{args-step, expr-step}
use Rattle.sheets.proofs.reader.Slices.{word-is}

-- nothing is read where the reader answers Bad
pub not-read {ℓ} : {A : Type 0} {C : Type ℓ} (o : Got A) (x : A) (n : ℕ) → None ≡ place o → o ≡ got x n → C
unfolding place
not-read o x n h g = let k : None ≡ Some n = h ∙ ap place g in let z : ◌≡◌ {A = ℕ} 0 1 = cc in absurd (omega arith)

pub then-read : {A B : Type 0} (o : Got A) (k : A → ℕ → Got B) (y : B) (n : ℕ) → (o then k) ≡ got y n → (x : A) × (m : ℕ) × (o ≡ got x m) × (k x m ≡ got y n)
unfolding ◌then◌
then-read none k y n e = let z : ◌≡◌ {A = ℕ} 0 1 = cc in absurd (omega arith)
then-read (got x m) k y n e = (x, m, refl, e)

-- `)` and LF
pub closing-read : {A : Type 0} (x y : A) (s : List ℕ) (m n : ℕ) → closing x s m ≡ got y n → (y ≡ x) × (closed s m ≡ Some n)
closing-read x y s m n e = go (closed s m) refl
  where
    go : (c : Option ℕ) → closed s m ≡ c → (y ≡ x) × (closed s m ≡ Some n)
    go None h = let i = closing-none x s m (closed s m) refl h in let z : ◌≡◌ {A = ℕ} 0 1 = cc in absurd (omega arith)
    go (Some p) h =
        let i = closing-got x s m (closed s m) refl p h in
        let j : p ≡ n = cc in
        (cc, h ∙ ap (λ k. Some k) j)

-- at most 200 bytes
pub limit-read : {A : Type 0} (at : ℕ) (o : Got A) (x : A) (n : ℕ) → limit at o ≡ got x n → (o ≡ got x n) × (leb n (at + 200) ≡ true)
unfolding limit or_else
limit-read at none x n e = let z : ◌≡◌ {A = ℕ} 0 1 = cc in absurd (omega arith)
limit-read at (got y k) x n e = go (leb k (at + 200)) refl e
  where
    go : (b : Bool) → leb k (at + 200) ≡ b → or_else b (got y) nothing k ≡ got x n → (got y k ≡ got x n) × (leb n (at + 200) ≡ true)
    go true h e = let i : n ≡ k = cc in (e, ap (λ m. leb m (at + 200)) i ∙ h)
    go false h e = let z : ◌≡◌ {A = ℕ} 0 1 = cc in absurd (omega arith)

-- an argument and the rest
pub arg-read : (x : ℕ → Got Expr) (s : List ℕ) (at b : ℕ) → b ≡ get_or s at 0 → (left : ℕ) → (left ≡ 0 → ⊥) → b ≡ 32 → (es : Exprs) (n : ℕ) → read_args x left s at ≡ got es n
    → (e : Expr) × (m : ℕ) × (fs : Exprs) × (x (at + 1) ≡ got e m) × (read_args x (left - 1) s m ≡ got fs n) × (es ≡ e ▸ fs)
arg-read x s at b eb left l h es n r =
    let (e, m, ex, r') = then-read (x (at + 1)) (λ y n. read_args x (left - 1) s n then (λ ys m. got (y ▸ ys) m)) es n (sym (args-step x s at b eb left l h) ∙ r) in
    let (fs, k, ef, r'') = then-read (read_args x (left - 1) s m) (λ ys m. got (e ▸ ys) m) es n r' in
    let i : k ≡ n = cc in
    (e, m, fs, ex, ef ∙ ap (got fs) i, cc)

-- a bracket; r is what the code read of its word
pub form-read : (s : List ℕ) (at b : ℕ) → b ≡ get_or s at 0 → (depth : ℕ) → b ≡ 40 → (depth ≡ 0 → ⊥) → (r : Option (ℕ × ℕ)) → r ≡ coded (read_word s (at + 1)) → (k m : ℕ) → r ≡ Some (k, m)
    → (e : Expr) (n : ℕ) → read_expr depth s at ≡ got e n → (w : Word) × (es : Exprs) × IsWord w × (k ≡ code_of w) × (read_args (read_expr (depth - 1) s) 5 s m ≡ got es n) × (e ≡ form_expr w es)
form-read s at b eb depth h d r er k m hr e n g =
    let (w, ew, ek) = coded-got (read_word s (at + 1)) r er k m hr in
    let (v, i, ev, g') = then-read (read_word s (at + 1)) (λ w n. read_args (read_expr (depth - 1) s) 5 s n then (λ xs m. got (form_expr w xs) m)) e n (sym (expr-step s at b eb depth h d) ∙ g) in
    let (es, j, ea, g'') = then-read (read_args (read_expr (depth - 1) s) 5 s i) (λ xs m. got (form_expr v xs) m) e n g' in
    let im : i ≡ m = cc in
    let iv : v ≡ w = cc in
    let ij : j ≡ n = cc in
    (w, es, word-is s (at + 1) w m ew, ek, ap (read_args (read_expr (depth - 1) s) 5 s) (sym im) ∙ ea ∙ ap (got es) ij, cc)
