-- The bytes of a list between two places, and what an answer of the reader holds. Assumes nothing.
use Prim.Native.Nat.{ℕ, suc, ◌+◌, ◌≤◌}
use native.Mathlib.Omega.{arith}
use native.Mathlib.Numerals.{add-one}
use mathlib.Core.Path.{◌≡◌, refl, sym, ap, ap₂, ◌∙◌}
use mathlib.Core.Bool.{Bool, true, false}
use mathlib.Core.List.{List, [], ◌∷◌, ◌++◌}
use lib.ListN.{length, get_or, drop}
use lib.Seq.{drop-cons, get_or-drop, drop-drop}
use Rattle.sheets.specs.code.reader.Reader.{Got, none, got, ◌then◌, or_else}

-- the bytes of s from `at` to n are x
unfoldable pub Spans : List ℕ → List ℕ → ℕ → ℕ → Type 0
Spans s [] at n = at ≡ n
Spans s (c ∷ x) at n = (get_or s at 0 ≡ c) × Spans s x (at + 1) n

module _ (s : List ℕ) where
  pub spans-append : (x y : List ℕ) (at m n : ℕ) → Spans s x at m → Spans s y m n → Spans s (x ++ y) at n
  unfolding Spans
  spans-append [] y at m n p q = rw p q
  spans-append (c ∷ x) y at m n p q = (p.0, spans-append x y (at + 1) m n p.1 q)

  pub spans-split : (x y : List ℕ) (at n : ℕ) → Spans s (x ++ y) at n → (m : ℕ) × Spans s x at m × Spans s y m n
  unfolding Spans
  spans-split [] y at n p = (at, refl, p)
  spans-split (c ∷ x) y at n p = let (m, q, r) = spans-split x y (at + 1) n p.1 in (m, (p.0, q), r)

  pub spans-end : (x : List ℕ) (at n : ℕ) → Spans s x at n → n ≡ at + length x
  unfolding Spans
  spans-end [] at n p = omega (arith, p)
  spans-end (c ∷ x) at n p = omega (arith, spans-end x (at + 1) n p.1)

  pub spans-drop : (x : List ℕ) (at n : ℕ) → Spans s x at n → n ≤ length s → drop at s ≡ x ++ drop n s
  unfolding Spans
  spans-drop [] at n p h = rw p refl
  spans-drop (c ∷ x) at n p h =
      let e = spans-end x (at + 1) n p.1 in
      drop-cons s at 0 (omega arith) ∙ ap₂ (λ b t. b ∷ t) p.0 (ap (λ i. drop i s) (sym (add-one at)) ∙ spans-drop x (at + 1) n p.1 h)

  pub drop-spans : (x r : List ℕ) (at : ℕ) → drop at s ≡ x ++ r → Spans s x at (at + length x) × (drop (at + length x) s ≡ r)
  unfolding Spans
  drop-spans [] r at e = let z : at + 0 ≡ at = omega arith in (sym z, (ap (λ i. drop i s) z ∙ e))
  drop-spans (c ∷ x) r at e =
      let z : at ≡ at + 0 = omega arith in
      let b : get_or s at 0 ≡ c = ap (λ i. get_or s i 0) z ∙ sym (get_or-drop at s 0 0) ∙ ap (λ t. get_or t 0 0) e in
      let t : drop (at + 1) s ≡ x ++ r = sym (drop-drop 1 at s) ∙ ap (λ t. drop 1 t) e in
      let (p, q) = drop-spans x r (at + 1) t in
      let i : at + 1 + length x ≡ at + suc (length x) = omega arith in
      ((b, rw i at p), rw i at q)

-- ---- what a reading holds
unfoldable pub Holds : {A : Type 0} → (A → ℕ → Type 0) → Got A → Type 0
Holds P none = Unit {0}
Holds P (got x n) = P x n

pub holds-none : {A : Type 0} (P : A → ℕ → Type 0) → Holds P none
unfolding Holds
holds-none P = tt

pub holds-got : {A : Type 0} (P : A → ℕ → Type 0) (x : A) (n : ℕ) → P x n → Holds P (got x n)
unfolding Holds
holds-got P x n p = p

pub holds_then : {A B : Type 0} (P : A → ℕ → Type 0) (Q : B → ℕ → Type 0) (o : Got A) (k : A → ℕ → Got B) → Holds P o → ((x : A) (n : ℕ) → P x n → Holds Q (k x n)) → Holds Q (o then k)
unfolding Holds ◌then◌
holds_then P Q none k p f = tt
holds_then P Q (got x n) k p f = f x n p

pub holds_at : {A : Type 0} (P : A → ℕ → Type 0) (o : Got A) (x : A) (n : ℕ) → Holds P o → o ≡ got x n → P x n
unfolding Holds
holds_at P o x n h e = rw e at h

pub holds-or : {A : Type 0} (Q : A → ℕ → Type 0) (b : Bool) (f g : ℕ → Got A) (n : ℕ) → (b ≡ true → Holds Q (f n)) → (b ≡ false → Holds Q (g n)) → Holds Q (or_else b f g n)
unfolding or_else
holds-or Q true f g n h k = h refl
holds-or Q false f g n h k = k refl

pub holds-map : {A : Type 0} (P Q : A → ℕ → Type 0) (o : Got A) → ((x : A) (n : ℕ) → P x n → Q x n) → Holds P o → Holds Q o
unfolding Holds
holds-map P Q none f h = tt
holds-map P Q (got x n) f h = f x n h
