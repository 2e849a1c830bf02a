-- The evaluator, a step at a time: what follows from each answer that the code met on the way. Assumes nothing.
use Rattle.std.specs.Prelude.{Option, Some, None, Err}
use Prim.Native.Nat.{ℕ, ◌+◌, ◌*◌, ◌<◌, ◌≤◌}
use native.Mathlib.Omega.{arith}
use mathlib.Core.Path.{◌≡◌, refl, sym, ap, subst, ◌∙◌}
use mathlib.Core.Option.{none, some}
use mathlib.Core.List.{List, []}
use lib.Dec.{eqb}
use lib.ListN.{get_or, length, set}
use lib.Ieee.{Float}
use borrow.Author.Tests.{eq-eqb, ne_eqb, le-leb, lt-leb}
use Rattle.frames.specs.declared.Ellipsoid.{Ellipsoid}
use Rattle.sheets.specs.declared.Value.{Value}
use Rattle.sheets.specs.declared.Value.TheVariants.{Number}
use Rattle.sheets.specs.declared.Halt.{Halt}
use Rattle.sheets.specs.Text.{Word}
use Rattle.sheets.specs.Trees.{word_expr, num_expr}
use Rattle.sheets.specs.Grammar.{IsWord}
use Rattle.sheets.specs.Kinds.{kind_of}
use Rattle.sheets.specs.Table.{when}
use Rattle.sheets.specs.Names.{Known, lookup}
use Rattle.sheets.specs.Machine.{met, meet, eval}
use Rattle.sheets.specs.code.reader.Codes.{code_of}
use Rattle.sheets.specs.code.reader.Reader.{none as no_got, got, ◌then◌, read_word, read_num, or_num, read_leaf, read_expr}
use Rattle.sheets.specs.code.reader.Views.{place, coded, doubled}
use Rattle.sheets.specs.declared.check.names.Names.{Names}
use Rattle.sheets.specs.code.check.Newest as Search
use Rattle.sheets.specs.code.run.Slots.{empty_slot}
use Rattle.sheets.specs.code.run.Floats.{float_at, value_at, Copied}
use Rattle.sheets.specs.code.run.Known.{reading_index, reading_found, word_found, Ready}
use Rattle.sheets.specs.code.run.Evaluating.{Evaluated, Answers, tested_at, KnownWith, LeafWith, EvalsWith}
use Rattle.sheets.proofs.reader.ReaderLaws.{expr-leaf}
use Rattle.sheets.proofs.reader.Viewed.{coded_none, coded-got, doubled-none, doubled-got}
use Rattle.sheets.proofs.reader.Inverse.{not-read}
use Rattle.sheets.proofs.reader.Slices.{word-is}
use Rattle.sheets.proofs.run.FloatLaws.{kept_set, same-value, lies-number}
use Rattle.sheets.proofs.run.ListedLaws.{placed-few, placed-slot, listed-is}
use Rattle.sheets.proofs.run.LaidSteps.{answers-tested, answers-none}

-- ---- a known word

-- a value laid at a place and tested there answers what was met
met-number : (x : Float) (f : List Float) (top : ℕ) → length f ≡ 2940 → top + 21 ≤ 2940 → (q : Evaluated) → q ≡ tested_at 0 (set f top x) top → Answers (met (Number x)) top f q (set f top x)
met-number x f top lf room q eq = answers-tested top f (set f top x) [] (Number x) (lies-number f lf top room x) (kept_set f top x) 0 refl q eq

module _ (code : ℕ) (names : Names) (f : List Float) (top : ℕ) (room : top + 21 ≤ 2940) (j : ℕ) (pj : Search.Placed names code j) where
  -- by the word's place
  by-found : (ps : Known Value) (r : Ready ps names f top) (w : Word) → IsWord w → code ≡ code_of w
      → lookup w ps ≡ when (eqb j 0) (reading_found code r.readings) (some (get_or r.slots j empty_slot).value)
  by-found ps r w iw ec = r.tabled.is w iw ∙ ap (word_found r.slots r.readings r.n) (sym ec) ∙ sym (listed-is r.slots r.readings names f r.n r.listed code j pj)

  module _ (z : j ≡ 0) (i : ℕ) (ei : i ≡ reading_index code) where
    pub known-none : 16 ≤ i → KnownWith code names f top (Err Halt.Sticks) f
    unfolding reading_found
    known-none h = record {
      is = λ ps r w iw ec.
          let u : lookup w ps ≡ none = by-found ps r w iw ec ∙ rw (eq-eqb j 0 z, ← ei, le-leb 16 i h) refl in
          subst (λ o. Answers (meet o) top f (Err Halt.Sticks) f) (sym u) (answers-none top f []);
    }

    pub known-reading : i < 16 → (q : Evaluated) → q ≡ tested_at 0 (set f top (float_at f i)) top → KnownWith code names f top q (set f top (float_at f i))
    unfolding reading_found
    known-reading h q eq = record {
      is = λ ps r w iw ec.
          let u : lookup w ps ≡ some (Number (float_at f i)) = by-found ps r w iw ec ∙ rw (eq-eqb j 0 z, ← ei, lt-leb 16 i h) (ap (λ x. some (Number x)) (sym (r.listed.reading i h))) in
          subst (λ o. Answers (meet o) top f q (set f top (float_at f i))) (sym u) (met-number (float_at f i) f top r.listed.size room q eq);
    }

  pub known-name : (j ≡ 0 → ⊥) → (k : ℕ) → k ≡ get_or names.kinds j 0 → (g : List Float) → Copied f (21 * j) top g → (q : Evaluated) → q ≡ tested_at k g top → KnownWith code names f top q g
  known-name z k ek g cp q eq = record {
    is = λ ps r w iw ec.
        let u : lookup w ps ≡ some (get_or r.slots j empty_slot).value = by-found ps r w iw ec ∙ rw (ne_eqb j 0 z) refl in
        let few = placed-few r.slots r.readings names f r.n r.listed code j pj in
        let p = placed-slot r.slots r.readings names f r.n r.listed j z few in
        let v = (get_or r.slots j empty_slot).value in
        let same : value_at (kind_of v) g top ≡ value_at (kind_of v) f (21 * j) = same-value (kind_of v) g f top (21 * j) (λ m l. cp.is r.listed.size (omega (arith, few, r.below)) m l) in
        subst (λ o. Answers (meet o) top f q g) (sym u) (answers-tested top f g [] v (record { is = same ∙ p.lies.is }) cp.kept k (ek ∙ p.kind) q eq);
  }

-- ---- a word or a NUM

module _ (s : List ℕ) (at : ℕ) (names : Names) (f : List Float) (top : ℕ) (r : Option (ℕ × ℕ)) (er : r ≡ coded (read_word s at)) where
  pub leaf-word : (k m : ℕ) → r ≡ Some (k, m) → (q : Evaluated) (g : List Float) → KnownWith k names f top q g → LeafWith s at names f top q m g
  unfolding read_leaf or_num eval
  leaf-word k m h q g hq = record {
    is = λ ps rd e x n k'.
        let (w, ew, ek) = coded-got (read_word s at) r er k m h in
        let i : got (word_expr w) m ≡ got x n = ap (λ o. or_num o (read_num s at)) (sym ew) ∙ k' in
        let ix : x ≡ word_expr w = cc in
        let im : n ≡ m = cc in
        rw (ix, im) (record { answers = hq.is ps rd w (word-is s at w m ew) ek; ends = λ j h. refl });
  }

  module _ (h : r ≡ None) (v : Option (Float × ℕ)) (ev : v ≡ doubled (read_num s at)) where
    leaf-is : read_leaf s at ≡ read_num s at then (λ x n. got (num_expr x) n)
    unfolding read_leaf or_num
    leaf-is = ap (λ o. or_num o (read_num s at)) (coded_none (read_word s at) r er h)

    pub leaf-num : top + 21 ≤ 2940 → (y : Float) (m : ℕ) → v ≡ Some (y, m) → (q : Evaluated) → q ≡ tested_at 0 (set f top y) top → LeafWith s at names f top q m (set f top y)
    unfolding ◌then◌ eval
    leaf-num room y m i q eq = record {
      is = λ ps rd e x n k.
          let (t, et, ey) = doubled-got (λ q. q) (read_num s at) v ev y m i in
          let j : got (num_expr t) m ≡ got x n = ap (λ o. o then (λ x n. got (num_expr x) n)) (sym et) ∙ sym leaf-is ∙ k in
          let ix : x ≡ num_expr t = cc in
          let im : n ≡ m = cc in
          rw (ix, im, ← ey) (record { answers = met-number y f top rd.listed.size room q eq; ends = λ j h. refl });
    }

    pub leaf-none : v ≡ None → (q : Evaluated) (m : ℕ) (g : List Float) → LeafWith s at names f top q m g
    unfolding ◌then◌
    leaf-none i q m g = record {
      is = λ ps rd e x n k.
          let j : no_got ≡ got x n = ap (λ o. o then (λ x n. got (num_expr x) n)) (sym (doubled-none (λ q. q) (read_num s at) v ev i)) ∙ sym leaf-is ∙ k in
          let z : ◌≡◌ {A = ℕ} 0 1 = cc in absurd (omega arith);
    }

-- ---- an expression

module _ (s : List ℕ) (at depth : ℕ) (e : Ellipsoid) (names : Names) (f : List Float) (top : ℕ) (r : Evaluated) (m : ℕ) (g : List Float) where
  pub evals-bad : None ≡ place (read_expr depth s at) → EvalsWith s at depth e names f top r m g
  evals-bad h = record { is = λ ps rd. record { is = λ x n k. not-read (read_expr depth s at) x n h k } }

  pub evals-leaf : (b : ℕ) → b ≡ get_or s at 0 → (b ≡ 40 → ⊥) → LeafWith s at names f top r m g → EvalsWith s at depth e names f top r m g
  evals-leaf b eb h l = record { is = λ ps rd. record { is = λ x n k. l.is ps rd e x n (sym (expr-leaf s at b eb depth h) ∙ k) } }
