-- The g values shown, by the places of their names: at the start, after a let, after a show. Assumes nothing.
use Prim.Native.Nat.{ℕ, zero, suc, ◌+◌, ◌*◌, ◌<◌, ◌≤◌}
use native.Mathlib.Omega.{arith}
use mathlib.Core.Path.{◌≡◌, refl, sym, ap, subst, ◌∙◌}
use mathlib.Core.Logic.{inl, inr}
use mathlib.Core.Bool.{Bool, true, false, true≢false}
use mathlib.Core.List.{List, [], ◌∷◌, ◌++◌, append-nil}
use mathlib.Core.Option.{Option, none, some}
use lib.Dec.{eqb, leb}
use lib.ListN.{length, get_or, set, replicate, length-set, length-replicate}
use lib.Seq.{get_or-set_same, get_or-set_other}
use lib.Ieee.{Float}
use borrow.Author.Tests.{eqb-true, eqb-false, le-leb, lt-leb, leb-true, leb-false}
use Rattle.numbers.specs.declared.Length.{Length}
use Rattle.frames.specs.declared.GeocentricPosition.{GeocentricPosition}
use Rattle.sheets.specs.declared.Value.{Value}
use Rattle.sheets.specs.Text.{Word}
use Rattle.sheets.specs.Grammar.{IsWord}
use Rattle.sheets.specs.Kinds.{geocentric}
use Rattle.sheets.specs.Table.{when}
use Rattle.sheets.specs.Lookup.{same_word}
use Rattle.sheets.specs.Names.{Given, Known, given_on, line_of_let, reading_words}
use Rattle.sheets.specs.Letters.{𝐠, held}
use Rattle.sheets.specs.Entries.{Entry, shown, summed}
use Rattle.sheets.specs.Aparts.{Fix, fix_then, fixes}
use Rattle.sheets.specs.Machine.{readings}
use Rattle.sheets.specs.Admitted.{In}
use Rattle.sheets.specs.code.reader.Codes.{code_of}
use Rattle.sheets.specs.code.check.Newest.{place_from}
use Rattle.sheets.specs.code.run.Floats.{position_at, value_at, KeptBelow}
use Rattle.sheets.specs.code.run.Keeping.{keep, Rising, Lined, FixAt, FixesKept}
use Rattle.sheets.proofs.rows.KindRowLaws.{words-agree}
use Rattle.sheets.proofs.Members.{in_left, in_right, in_either}
use Rattle.sheets.proofs.ApartLaws.{fixes-append}
use Rattle.sheets.proofs.run.FloatLaws.{kept-value}
use Rattle.sheets.proofs.check.NewestLaws.{at_most}

-- ---- the lines of the lets, by their names' places

abbrev pub no_lets : ℕ → ℕ
no_lets j = 0

-- a let on line i gives the name at the place after n
abbrev pub let_at : (ℕ → ℕ) → ℕ → ℕ → ℕ → ℕ
let_at lets n i j = when (leb j n) (lets j) i

let-before : (lets : ℕ → ℕ) (n i j : ℕ) → j ≤ n → let_at lets n i j ≡ lets j
let-before lets n i j h = ap (λ b. when b (lets j) i) (le-leb j n h)

let-here : (lets : ℕ → ℕ) (n i j : ℕ) → n < j → let_at lets n i j ≡ i
let-here lets n i j h = ap (λ b. when b (lets j) i) (lt-leb j n h)

pub rising_none : Rising no_lets 0 2
rising_none = record { before = λ j h. omega arith; each = λ j k a b. absurd (omega arith) }

module _ (lets : ℕ → ℕ) (n i : ℕ) (r : Rising lets n i) where
  pub rising-line : Rising lets n (i + 1)
  rising-line = record { before = λ j h. omega (arith, r.before j h); each = r.each }

  pub rising-let : Rising (let_at lets n i) (n + 1) (i + 1)
  rising-let = record {
    before = λ j h. before j (leb j n) refl;
    each = λ j k a b. each j k a b (leb k n) refl;
  }
    where
      before : (j : ℕ) (b : Bool) → leb j n ≡ b → let_at lets n i j < i + 1
      before j true e = omega (arith, let-before lets n i j (leb-true j n e), r.before j (leb-true j n e))
      before j false e = omega (arith, let-here lets n i j (leb-false j n e))

      each : (j k : ℕ) → j < k → k ≤ n + 1 → (b : Bool) → leb k n ≡ b → let_at lets n i j < let_at lets n i k
      each j k a b true e =
          let low : k ≤ n = leb-true k n e in
          omega (arith, let-before lets n i j (omega arith), let-before lets n i k low, r.each j k a low)
      each j k a b false e =
          let high : n < k = leb-false k n e in
          omega (arith, let-before lets n i j (omega arith), let-here lets n i k high, r.before j (omega arith))

-- ---- they are those of the known words

pub lined-start : (rs : List Float) (words : List ℕ) → Lined (readings reading_words rs) words 0 no_lets
lined-start rs words = record { is = λ w h. go reading_words rs w }
  where
    either : (b : Bool) (m : ℕ) → m ≡ 0 → when b 0 m ≡ 0
    either true m e = refl
    either false m e = e

    go : (ws : List Word) (rs : List Float) (w : Word) → line_of_let w (readings ws rs) ≡ 0
    go [] rs w = refl
    go (v ∷ ws) [] w = either (same_word w v) _ (go ws [] w)
    go (v ∷ ws) (r ∷ rs) w = either (same_word w v) _ (go ws rs w)

place_kept : (n k : ℕ) → n < k → (words : List ℕ) (c d : ℕ) → place_from (set words k c) n d ≡ place_from words n d
unfolding place_from
place_kept zero k h words c d = refl
place_kept (suc n) k h words c d = rw (get_or-set_other words k (suc n) c 0 (λ e. omega arith), place_kept n k (omega arith) words c d) refl

-- a let on line i gives the word w
pub lined-let : (ps : Known Value) (words : List ℕ) (n : ℕ) (lets : ℕ → ℕ) → Lined ps words n lets → suc n < length words → (w : Word) → IsWord w → (x : Value) (i : ℕ) → Lined (given_on i w x ∷ ps) (set words (suc n) (code_of w)) (suc n) (let_at lets n i)
unfolding place_from
lined-let ps words n lets l room w iw x i = record {
  is = λ v iv.
      ap (λ b. when b i (line_of_let v ps)) (sym (words-agree w v iw iv))
      ∙ go (eqb (code_of w) (code_of v)) (l.is v iv) (at_most words (code_of v) n)
      ∙ ap (let_at lets n i) (sym (now-there v));
}
  where
    go : {m p : ℕ} (b : Bool) → m ≡ lets p → p ≤ n → when b i m ≡ let_at lets n i (when b (suc n) p)
    go {m} {p} true e h = sym (let-here lets n i (suc n) (omega arith))
    go {m} {p} false e h = e ∙ sym (let-before lets n i p h)

    now-there : (v : Word) → place_from (set words (suc n) (code_of w)) (suc n) (code_of v) ≡ when (eqb (code_of w) (code_of v)) (suc n) (place_from words n (code_of v))
    now-there v =
        ap (λ c. when (eqb c (code_of v)) (suc n) (place_from (set words (suc n) (code_of w)) n (code_of v))) (get_or-set_same words (suc n) (code_of w) 0 room)
        ∙ ap (when (eqb (code_of w) (code_of v)) (suc n)) (place_kept n (suc n) (omega arith) words (code_of w) (code_of v))

-- ---- the places kept

none-at : (n j : ℕ) → get_or (replicate n false) j false ≡ false
none-at zero j = refl
none-at (suc n) zero = refl
none-at (suc n) (suc j) = none-at n j

pub fixes-none : (lets : ℕ → ℕ) (f : List Float) (n : ℕ) → FixesKept [] lets (replicate 96 false) f n
fixes-none lets f n = record { size = length-replicate 96 false; kept = λ x i. absurd i; from = λ j h. absurd (true≢false (sym h ∙ none-at 96 j)) }

module _ (fs : List Fix) (lets : ℕ → ℕ) (js : List Bool) (f : List Float) (n : ℕ) (h : FixesKept fs lets js f n) where
  -- a let gives the place after the last name
  pub fixes-let : (i : ℕ) (g : List Float) → KeptBelow f (21 * (n + 1)) g → FixesKept fs (let_at lets n i) js g (n + 1)
  unfolding value_at
  fixes-let i g below = record {
    size = h.size;
    kept = λ x k. let (j, a, m) = h.kept x k in (j, moved j x a, m);
    from = λ j m. let (x, k, a) = h.from j m in (x, k, moved j x a);
  }
    where
      same : (j : ℕ) → j ≤ n → position_at g (21 * j) ≡ position_at f (21 * j)
      same j l = let e = kept-value geocentric f g (21 * (n + 1)) below (21 * j) (omega arith) in cc

      moved : (j : ℕ) (x : Fix) → FixAt lets f n j x → FixAt (let_at lets n i) g (n + 1) j x
      moved j x a = record { few = omega (arith, a.few); line = let-before lets n i j a.few ∙ a.line; lies = same j a.few ∙ a.lies }

  -- a g value more, at the place j
  fixes-more : (x : Fix) (j : ℕ) → j < 96 → FixAt lets f n j x → FixesKept (fs ++ (x ∷ [])) lets (set js j true) f n
  fixes-more x j few a = record {
    size = length-set js j true ∙ h.size;
    kept = λ y i. elim (in_either y fs (x ∷ []) i) [
      | inl k ↦ let (p, b, m) = h.kept y k in (p, b, marked p m (eqb p j) refl)
      | inr k ↦ (j, subst (FixAt lets f n j) (sym (only y k)) a, here)
    ];
    from = λ p m. from p m (eqb p j) refl;
  }
    where
      here : get_or (set js j true) j false ≡ true
      here = get_or-set_same js j true false (omega (arith, h.size))

      only : (y : Fix) → In y (x ∷ []) → y ≡ x
      only y (inl e) = e
      only y (inr x'') = elim x'' [ ]

      marked : (p : ℕ) → get_or js p false ≡ true → (b : Bool) → eqb p j ≡ b → get_or (set js j true) p false ≡ true
      marked p m true e = ap (λ p. get_or (set js j true) p false) (eqb-true p j e) ∙ here
      marked p m false e = get_or-set_other js j p true false (eqb-false p j e) ∙ m

      from : (p : ℕ) → get_or (set js j true) p false ≡ true → (b : Bool) → eqb p j ≡ b → (y : Fix) × In y (fs ++ (x ∷ [])) × FixAt lets f n p y
      from p m true e = (x, in_right x fs (x ∷ []) (inl refl), subst (λ p. FixAt lets f n p x) (sym (eqb-true p j e)) a)
      from p m false e = let (y, i, b) = h.from p (sym (get_or-set_other js j p true false (eqb-false p j e)) ∙ m) in (y, in_left y fs (x ∷ []) i, b)

-- a show keeps the place of a g
pub fixes-show : (es : List Entry) (lets : ℕ → ℕ) (js : List Bool) (f : List Float) (n : ℕ) → FixesKept (fixes es) lets js f n → (i : ℕ) (g : Given Value) (j : ℕ) → j < 96
    → ((p : GeocentricPosition) → held 𝐠 g.value ≡ some p → FixAt lets f n j (record { line = g.line; position = p })) → FixesKept (fixes (es ++ (shown i g ∷ []))) lets (keep js j (held 𝐠 g.value)) f n
unfolding fixes
fixes-show es lets js f n h i g j few a = subst (λ fs. FixesKept fs lets (keep js j (held 𝐠 g.value)) f n) (sym (fixes-append es (shown i g ∷ []))) (go (held 𝐠 g.value) a)
  where
    go : (o : Option GeocentricPosition) → ((p : GeocentricPosition) → o ≡ some p → FixAt lets f n j (record { line = g.line; position = p })) → FixesKept (fixes es ++ fix_then g.line o []) lets (keep js j o) f n
    go none a = subst (λ fs. FixesKept fs lets js f n) (sym (append-nil (fixes es))) h
    go (some p) a = fixes-more (fixes es) lets js f n h (record { line = g.line; position = p }) j few (a p refl)

-- a total shows no g
pub fixes-total : (es : List Entry) (t : Length) → fixes (es ++ (summed t ∷ [])) ≡ fixes es
unfolding fixes
fixes-total es t = fixes-append es (summed t ∷ []) ∙ append-nil (fixes es)
