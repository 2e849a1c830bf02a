-- The parts of a line, read exactly where they stand: `(` and a word, a space and each part, `)` and LF, at most 200 bytes. Assumes nothing.
use Prim.Native.Nat.{ℕ, suc, ◌+◌, ◌≤◌}
use native.Mathlib.Omega.{arith}
use mathlib.Core.Path.{◌≡◌, refl, ◌∙◌, subst}
use mathlib.Core.Bool.{false}
use mathlib.Core.List.{List, ◌∷◌}
use lib.Dec.{eqb, leb}
use lib.ListN.{get_or}
use borrow.Author.Tests.{eq-eqb, eqb-true, leb-true}
use Rattle.sheets.specs.Text.{Word}
use Rattle.sheets.specs.Trees.{Unsigned, signless, Expr, Exprs, word_expr, num_expr, nil, ◌▸◌}
use Rattle.sheets.specs.Grammar.{IsWord, IsNum, print_num, print, print_args, IsExpr, AreArgs}
use Rattle.sheets.specs.code.reader.Codes.{code_of}
use Rattle.sheets.specs.code.reader.Reader.{Got, none, got, read_word, read_whole, read_num, read_unsigned, read_expr, or_else, nothing, spaced, closing, more, one, two, opening, read_the, limit}
use Rattle.sheets.proofs.reader.ReaderLaws.{then-got}
use Rattle.sheets.proofs.reader.Spans.{Spans, spans-append, spans-split, Holds, holds-none, holds-got, holds_then, holds-or, holds-map}
use Rattle.sheets.proofs.reader.TokenLaws.{Stops, WordAt, word_sound, word-complete, WholeAt, whole-sound, whole-complete, num-sound, num-complete}
use Rattle.sheets.proofs.reader.ExprLaws.{ExprAt, expr-sound, expr-complete, args-stop}
use Rattle.sheets.proofs.reader.CodeLaws.{code_same}

-- ---- at most 200 bytes
pub limit-sound : {A : Type 0} (P : A → ℕ → Type 0) (at : ℕ) (o : Got A) → Holds P o → Holds (λ x n. P x n × (n ≤ at + 200)) (limit at o)
unfolding limit Holds
limit-sound P at none h = tt
limit-sound P at (got x n) h =
    holds-or (λ x n. P x n × (n ≤ at + 200)) (leb n (at + 200)) (got x) nothing n
    (λ e. (h, leb-true n (at + 200) e)) (λ e. tt)

-- ---- `(` and a word
abbrev pub OpenAt : List ℕ → ℕ → Word → ℕ → Type 0
OpenAt s at k n = Spans s (40 ∷ k) at n × IsWord k

pub open-sound : (s : List ℕ) (at : ℕ) → Holds (OpenAt s at) (opening s at)
unfolding opening Spans
open-sound s at =
    holds-or (OpenAt s at) (eqb (get_or s at 0) 40) (λ n. read_word s (n + 1)) nothing at
    (λ e. holds-map (WordAt s (at + 1)) (OpenAt s at) (read_word s (at + 1)) (λ w n p. ((eqb-true (get_or s at 0) 40 e, p.0), p.1)) (word_sound s (at + 1)))
    (λ e. holds-none (OpenAt s at))

-- ---- the next space, and the end of a line
module _ {A : Type 0} (P : A → ℕ → Type 0) (x : A) (s : List ℕ) (at : ℕ) (h : (n : ℕ) → P x n) where
  pub space-holds : Holds P (spaced (got x) s at)
  unfolding spaced
  space-holds = holds-or P (eqb (get_or s at 0) 32) (λ n. got x (n + 1)) nothing at (λ e. holds-got P x (at + 1) (h (at + 1))) (λ e. holds-none P)

  pub closing-holds : Holds P (closing x s at)
  unfolding closing
  closing-holds =
      holds-or P (eqb (get_or s at 0) 41) _ nothing at
      (λ e. holds-or P (eqb (get_or s (at + 1) 0) 10) (λ n. got x (n + 2)) nothing at (λ i. holds-got P x (at + 2) (h (at + 2))) (λ i. holds-none P))
      (λ e. holds-none P)

-- ---- parts: f reads exactly what is made so
pub record Part {A : Type 0} (f : List ℕ → ℕ → Got A) : Type 0 where
  pub make : A → Expr
  pub sound : (s : List ℕ) (at : ℕ) → Holds (λ v n. ExprAt s 11 at (make v) n) (f s at)
  pub complete : (s : List ℕ) (v : A) (at n : ℕ) → Spans s (print (make v)) at n → IsExpr 11 (make v) → Stops s n → f s at ≡ got v n

abbrev pub word-part : Part read_word
word-part = record { make = word_expr; sound = λ s at. word_sound s at; complete = λ s w at n p h t. word-complete s w at n p h t }

abbrev pub num-part : Part read_num
num-part = record { make = num_expr; sound = λ s at. num-sound s at; complete = λ s q at n p h t. (num-complete s q at n p h t).0 }

pub unsigned-sound : (s : List ℕ) (at : ℕ) → Holds (λ v n. ExprAt s 11 at (num_expr (signless v)) n) (read_unsigned s at)
unfolding read_unsigned
unsigned-sound s at = holds_then (WholeAt s false at) _ (read_whole false s at) _ (whole-sound s false at) (λ q n h. holds-got (λ v n. ExprAt s 11 at (num_expr (signless v)) n) (record { whole = q.whole; part = q.part }) n (h.0, h.1))

pub unsigned-complete : (s : List ℕ) (v : Unsigned) (at n : ℕ) → Spans s (print_num (signless v)) at n → IsNum (signless v) → Stops s n → read_unsigned s at ≡ got v n
unfolding read_unsigned
unsigned-complete s v at n p h t = then-got (read_whole false s at) _ (signless v) n (whole-complete s false v.whole v.part at n p h.0 h.1 h.2 h.3 h.4 t)

abbrev pub unsigned-part : Part read_unsigned
unsigned-part = record { make = λ v. num_expr (signless v); sound = λ s at. unsigned-sound s at; complete = λ s v at n p h t. unsigned-complete s v at n p h t }

abbrev pub expr-part : Part (read_expr 11)
expr-part = record { make = λ x. x; sound = λ s at. expr-sound s 11 at; complete = λ s x at n p h t. expr-complete s x 11 at n p h t }

pub the-sound : (v : Word) → IsWord v → (s : List ℕ) (at : ℕ) → Holds (λ u n. ExprAt s 11 at (word_expr v) n) (read_the v s at)
unfolding read_the
the-sound v hv s at =
    holds_then (WordAt s at) _ (read_word s at) _ (word_sound s at) (λ w n p.
    holds-or (λ u n. WordAt s at v n) (eqb (code_of w) (code_of v)) (got tt) nothing n
    (λ e. holds-got (λ u n. WordAt s at v n) tt n (subst (λ z. WordAt s at z n) (code_same w v p.1 hv (eqb-true (code_of w) (code_of v) e)) p))
    (λ e. holds-none (λ u n. WordAt s at v n)))

pub the-complete : (v : Word) (s : List ℕ) (u : Unit {0}) (at n : ℕ) → Spans s v at n → IsWord v → Stops s n → read_the v s at ≡ got u n
unfolding read_the or_else
the-complete v s u at n p h t = then-got (read_word s at) _ v n (word-complete s v at n p h t) ∙ rw (eq-eqb (code_of v) (code_of v) refl) refl

abbrev pub the-part : (v : Word) → IsWord v → Part (read_the v)
the-part v h = record { make = λ u. word_expr v; sound = λ s at. the-sound v h s at; complete = λ s u at n p i t. the-complete v s u at n p i t }

-- ---- the rest of a line: arguments, `)` and LF
-- from a place on stand arguments, at most j, that P says of what was read, and LF
abbrev pub Tail : {A : Type 0} → (Exprs → A → Type 0) → ℕ → List ℕ → ℕ → A → ℕ → Type 0
Tail P j s at l n = (xs : Exprs) × (m : ℕ) × Spans s (print_args xs) at m × AreArgs 11 j xs × P xs l × (get_or s m 0 ≡ 10) × (m + 1 ≡ n)

module _ {A : Type 0} where
  pub bare-sound : (P : Exprs → A → Type 0) (j : ℕ) (l : A) → P nil l → (s : List ℕ) (at : ℕ) → Holds (Tail P j s at) (closing l s at)
  unfolding closing Spans
  bare-sound P j l h s at =
      holds-or (Tail P j s at) (eqb (get_or s at 0) 41) (or_else (eqb (get_or s (at + 1) 0) 10) (λ n. got l (n + 2)) nothing) nothing at
      (λ e. holds-or (Tail P j s at) (eqb (get_or s (at + 1) 0) 10) (λ n. got l (n + 2)) nothing at
      (λ i. holds-got (Tail P j s at) l (at + 2) (nil, at + 1, (eqb-true (get_or s at 0) 41 e, refl), tt, h, eqb-true (get_or s (at + 1) 0) 10 i, omega arith))
      (λ i. holds-none (Tail P j s at)))
      (λ e. holds-none (Tail P j s at))

  more-sound : {B : Type 0} {f : List ℕ → ℕ → Got B} (b : Part f) (P : Exprs → A → Type 0) (j : ℕ) (k : B → List ℕ → ℕ → Got A)
      → ((v : B) (s : List ℕ) (at : ℕ) → Holds (Tail (λ xs. P (b.make v ▸ xs)) j s at) (k v s at)) → (s : List ℕ) (at : ℕ) → Holds (Tail P (suc j) s at) (more f k s at)
  unfolding more spaced Spans
  more-sound {B} {f} b P j k h s at =
      holds_then (λ v n. (get_or s at 0 ≡ 32) × ExprAt s 11 (at + 1) (b.make v) n) (Tail P (suc j) s at) (spaced (f s) s at) _
      (holds-or (λ v n. (get_or s at 0 ≡ 32) × ExprAt s 11 (at + 1) (b.make v) n) (eqb (get_or s at 0) 32) (λ n. f s (n + 1)) nothing at
      (λ e. holds-map (λ v n. ExprAt s 11 (at + 1) (b.make v) n) (λ v n. (get_or s at 0 ≡ 32) × ExprAt s 11 (at + 1) (b.make v) n) (f s (at + 1)) (λ v n p. (eqb-true (get_or s at 0) 32 e, p)) (b.sound s (at + 1)))
      (λ e. holds-none (λ v n. (get_or s at 0 ≡ 32) × ExprAt s 11 (at + 1) (b.make v) n)))
      (λ v n p. holds-map (Tail (λ xs. P (b.make v ▸ xs)) j s n) (Tail P (suc j) s at) (k v s n)
      (λ l i t. let (xs, m, q, r, c, e, g) = t in (b.make v ▸ xs, m, (p.0, spans-append s (print (b.make v)) (print_args xs) (at + 1) n m p.1.0 q), (p.1.1, r), c, e, g)) (h v s n))

  pub one-sound : {B : Type 0} {f : List ℕ → ℕ → Got B} (b : Part f) (P : Exprs → A → Type 0) (j : ℕ) (line : B → A) → ((v : B) → P (b.make v ▸ nil) (line v)) → (s : List ℕ) (at : ℕ) → Holds (Tail P (suc j) s at) (one f line s at)
  one-sound b P j line h = more-sound b P j _ (λ v. bare-sound (λ xs. P (b.make v ▸ xs)) j (line v) (h v))

  pub two-sound : {B C : Type 0} {f : List ℕ → ℕ → Got B} {g : List ℕ → ℕ → Got C} (b : Part f) (c : Part g) (P : Exprs → A → Type 0) (j : ℕ) (line : B → C → A)
      → ((v : B) (w : C) → P (b.make v ▸ c.make w ▸ nil) (line v w)) → (s : List ℕ) (at : ℕ) → Holds (Tail P (suc (suc j)) s at) (two f g line s at)
  two-sound b c P j line h = more-sound b P (suc j) _ (λ v. one-sound c (λ xs. P (b.make v ▸ xs)) j (line v) (h v))

  -- ---- and the other way
  pub bare-complete : (s : List ℕ) (l : A) (at m : ℕ) → Spans s (print_args nil) at m → get_or s m 0 ≡ 10 → closing l s at ≡ got l (m + 1)
  unfolding closing or_else Spans
  bare-complete s l at m p e =
      let z : at + 1 ≡ m = p.1 in
      let y : at + 2 ≡ m + 1 = omega arith in
      rw (eq-eqb (get_or s at 0) 41 p.0, eq-eqb (get_or s (at + 1) 0) 10 (rw z e), y) refl

  more-complete : {B : Type 0} {f : List ℕ → ℕ → Got B} (b : Part f) (k : B → List ℕ → ℕ → Got A) (s : List ℕ) (v : B) (xs : Exprs) (l : A) (at m n : ℕ)
      → Spans s (print_args (b.make v ▸ xs)) at m → IsExpr 11 (b.make v) → ((i : ℕ) → Spans s (print_args xs) i m → k v s i ≡ got l n) → more f k s at ≡ got l n
  unfolding more spaced or_else Spans
  more-complete {B} {f} b k s v xs l at m n p h g =
      let (i, q, r) = spans-split s (print (b.make v)) (print_args xs) (at + 1) m p.1 in
      let e : spaced (f s) s at ≡ got v i = rw (eq-eqb (get_or s at 0) 32 p.0) (b.complete s v (at + 1) i q h (args-stop s xs i m r)) in
      then-got (spaced (f s) s at) _ v i e ∙ g i r

  pub one-complete : {B : Type 0} {f : List ℕ → ℕ → Got B} (b : Part f) (line : B → A) (s : List ℕ) (v : B) (at m : ℕ)
      → Spans s (print_args (b.make v ▸ nil)) at m → IsExpr 11 (b.make v) → get_or s m 0 ≡ 10 → one f line s at ≡ got (line v) (m + 1)
  one-complete b line s v at m p h e = more-complete b _ s v nil (line v) at m (m + 1) p h (λ i q. bare-complete s (line v) i m q e)

  pub two-complete : {B C : Type 0} {f : List ℕ → ℕ → Got B} {g : List ℕ → ℕ → Got C} (b : Part f) (c : Part g) (line : B → C → A) (s : List ℕ) (v : B) (w : C) (at m : ℕ)
      → Spans s (print_args (b.make v ▸ c.make w ▸ nil)) at m → IsExpr 11 (b.make v) → IsExpr 11 (c.make w) → get_or s m 0 ≡ 10 → two f g line s at ≡ got (line v w) (m + 1)
  two-complete b c line s v w at m p h i e = more-complete b _ s v (c.make w ▸ nil) (line v w) at m (m + 1) p h (λ j q. one-complete c (line v) s w j m q i e)
