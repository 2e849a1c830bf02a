-- A row's answer, laid as floats, is what the machine's step comes to: with the test of refusal 7, for the row's word, and where no row fits. Assumes nothing.
use Rattle.std.specs.Prelude.{Result, Ok, Err}
use Prim.Native.Nat.{ℕ, ◌+◌, ◌≤◌}
use native.Mathlib.Omega.{arith}
use mathlib.Core.Path.{◌≡◌, refl, sym, ap, subst, ◌∙◌}
use mathlib.Core.Bool.{Bool, true, false, ◌&&◌, ◌||◌, not}
use mathlib.Core.List.{List, [], ◌∷◌, map}
use mathlib.Core.Option.{Option, none, some}
use lib.Dec.{T, eqb}
use lib.ListN.{set}
use lib.Ieee.{Float}
use mir.Facts.{and_yes}
use mir.Val.{has_key}
use Rattle.frames.specs.declared.Ellipsoid.{Ellipsoid}
use Rattle.frames.specs.declared.LocalFrame.{LocalFrame}
use Rattle.frames.specs.declared.GeodeticPosition.{GeodeticPosition}
use Rattle.sheets.specs.declared.Value.{Value}
use Rattle.sheets.specs.declared.Value.TheVariants.{Geodetic}
use Rattle.sheets.specs.declared.Unapplied.{Unapplied}
use Rattle.sheets.specs.declared.Unapplied.TheVariants.{NoRow, Centre}
use Rattle.sheets.specs.declared.refusals.Refusal.{Refusal as Code}
use Rattle.sheets.specs.declared.Halt.{Halt}
use Rattle.sheets.specs.Text.{Word}
use Rattle.sheets.specs.Kinds.{Kind, kind_of, kind_code, letter_of, same_kinds}
use Rattle.sheets.specs.Limits.{in_limit}
use Rattle.sheets.specs.Table.{on, when, table}
use Rattle.sheets.specs.Lookup.{same_word, Hit, find, KindRow, kind_rows, search, find_kind}
use Rattle.sheets.specs.Refusals.{Stop, centre, stop}
use Rattle.sheets.specs.Machine.{stops, sticks, test, made, result, provided, apply_row}
use Rattle.sheets.specs.code.Refusals.{code_for}
use Rattle.sheets.specs.code.reader.Codes.{code_of}
use Rattle.sheets.specs.code.rows.Applied.{unless_near, applied, giving, RowGives}
use Rattle.sheets.specs.code.rows.KindCodes.{Missed}
use Rattle.sheets.specs.code.run.Floats.{value_at, values_at, Lies, lay, KeptBelow, IsLaid}
use Rattle.sheets.specs.code.run.Evaluating.{Evaluated, evaluated, LiesOf, Answers, tested_at, out_of, unapplied, LaidAs, RowLaid}
use Rattle.sheets.proofs.reader.CodeLaws.{code_same}
use Rattle.sheets.proofs.check.KindExact.{same_word_lem, same-kinds}
use Rattle.sheets.proofs.rows.FindKind.{given, mapped, find-kind}
use Rattle.sheets.proofs.rows.KindRowLaws.{kind-at}
use Rattle.sheets.proofs.rows.WordLaws.{spelt, spelt_is, missed-none}
use Rattle.sheets.proofs.run.FloatLaws.{kinds-of-at, kept_refl, kept_trans, kept_set, kept-lay, lies-geodetic}

-- ---- what is laid

module _ (at : ℕ) (f f' : List Float) where
  pub answers-tested : (fs : List LocalFrame) (v : Value) → Lies f' at v → KeptBelow f at f' → (k : ℕ) → k ≡ kind_code (kind_of v) → (q : Evaluated) → q ≡ tested_at k f' at → Answers (test fs (in_limit v) v) at f q f'
  unfolding evaluated LiesOf
  answers-tested fs v lies kept k e q h = go (in_limit v) (h ∙ ap (λ m. tested_at m f' at) e ∙ ap (λ x. when (in_limit x) (Ok (kind_code (kind_of v))) (Err (Halt.Refused Code.Limit))) (ap (λ j. value_at j f' at) (kind-at (kind_of v)).0 ∙ lies.is))
    where
      go : (b : Bool) → q ≡ when b (Ok (kind_code (kind_of v))) (Err (Halt.Refused Code.Limit)) → Answers (test fs b v) at f q f'
      go true p = record { is = p; lies = lies; kept = kept }
      go false p = record { is = p; lies = tt; kept = kept }

module _ (at : ℕ) (f : List Float) (fs : List LocalFrame) where
  pub answers-none : Answers (sticks fs) at f (Err Halt.Sticks) f
  unfolding evaluated LiesOf
  answers-none = record { is = refl; lies = tt; kept = kept_refl f at }

  pub answers-stops : (r : Stop) → Answers (stops fs r) at f (Err (Halt.Refused (code_for (stop r)))) f
  unfolding evaluated LiesOf
  answers-stops r = record { is = refl; lies = tt; kept = kept_refl f at }

-- ---- a row's answer

-- a geodetic position, whose height is stored behind the rest
pub geodetic-laid : (f : List Float) (at : ℕ) (p : GeodeticPosition) → at + 21 ≤ 2940 → IsLaid (Geodetic p) f at 4 (set (lay f at (p.hp.0.x ∷ p.hp.0.y ∷ p.hp.0.z ∷ [])) (at + 3) p.height.0)
geodetic-laid f at p room = record {
  code = refl;
  lies = λ lf. lies-geodetic f lf at room p;
  kept = kept_trans f _ _ at (at + 3) (kept-lay f at (p.hp.0.x ∷ p.hp.0.y ∷ p.hp.0.z ∷ [])) (kept_set _ (at + 3) p.height.0) (omega arith);
}

module _ (f : List Float) (at : ℕ) where
  -- a value that was laid, as its kind's code is tested
  pub laid-value : (v : Value) (k : ℕ) (f' : List Float) → IsLaid v f at k f' → (q : Evaluated) → q ≡ tested_at k f' at → LaidAs (Ok v) f at q f'
  laid-value v k f' l q h = record { is = λ lf. answers-tested at f f' (made v) v (l.lies lf) l.kept k l.code q h }

  pub laid-unapplied : (u : Unapplied) (h : Halt) → h ≡ unapplied u → LaidAs (Err u) f at (Err h) f
  laid-unapplied NoRow h e = rw e (record { is = λ lf. answers-none at f [] })
  laid-unapplied Centre h e = rw e (record { is = λ lf. answers-stops at f [] centre })

-- ---- the machine's step

by-test : (b : Bool) (x : Value) → provided b (λ u. result x) ≡ out_of (unless_near b x)
by-test true x = refl
by-test false x = refl

pub apply-row : (e : Ellipsoid) (o : Option Hit) → apply_row e o ≡ out_of (applied e o)
apply-row e none = refl
apply-row e (some h) = by-test (on h.row.takes (h.row.centred e) h.args) (on h.row.takes (h.row.apply e) h.args)

-- ---- a row

-- the row for the word v
pub row_laid : (v : Word) → T (spelt v) → {X : Type 0} (value : X → Value) (e : Ellipsoid) (code : ℕ) (ks : List Kind) (f : List Float) (at : ℕ) (vs : List Value) → vs ≡ values_at ks f at
    → (r : Result X Unapplied) → RowGives value e v vs r → (q : Evaluated) (f' : List Float) → LaidAs (giving value r) f at q f' → code ≡ code_of v → RowLaid e code ks f at q f'
row_laid v hv value e code ks f at vs us r h q f' laid c = record {
  is = λ lf w hw d. subst (λ o. Answers o at f q f') (step w (code_same v w (spelt_is v hv) hw (sym c ∙ d))) (laid.is lf);
}
  where
    step : (w : Word) → v ≡ w → out_of (giving value r) ≡ apply_row e (find table w (values_at ks f at))
    step w p = ap out_of h ∙ sym (apply-row e (find table v vs)) ∙ ap (λ x. apply_row e (find table x vs)) p ∙ ap (λ us. apply_row e (find table w us)) us

-- ---- where no row fits

-- kinds of these letters, 7 for any kind
abbrev pub like : List ℕ → List Kind → Bool
like [] [] = true
like [] (k ∷ ks) = false
like (l ∷ ls) [] = false
like (l ∷ ls) (k ∷ ks) = (eqb l 7 || eqb l (letter_of k)) && like ls ks

-- the row takes other kinds, or its word has one of these codes
abbrev apart : List ℕ → List ℕ → KindRow → Bool
apart ls codes p = not (like ls p.takes) || has_key codes (code_of p.word)

abbrev pub all_apart : List ℕ → List ℕ → List KindRow → Bool
all_apart ls codes [] = true
all_apart ls codes (p ∷ ps) = apart ls codes p && all_apart ls codes ps

module _ (ls codes : List ℕ) (w : Word) (ks : List Kind) (like-ks : T (like ls ks)) (missed : Missed codes (code_of w)) where
  not-row : (p : KindRow) → T (apart ls codes p) → T (same_word w p.word && same_kinds p.takes ks) → ⊥
  not-row p t u =
      let h = and_yes (same_word w p.word) (same_kinds p.takes ks) u in
      missed-none codes (code_of w) (subst (λ x. T (has_key codes (code_of x))) (sym (same_word_lem w p.word h.0)) (go (like ls p.takes) (subst (λ x. T (like ls x)) (sym (same-kinds p.takes ks h.1)) like-ks) t)) missed
    where
      go : (b : Bool) → T b → T (not b || has_key codes (code_of p.word)) → T (has_key codes (code_of p.word))
      go true x y = y
      go false x y = absurd x

  search-none : (ps : List KindRow) → T (all_apart ls codes ps) → search ps w ks ≡ none
  unfolding search
  search-none [] t = refl
  search-none (p ∷ ps) t =
      let h = and_yes (apart ls codes p) (all_apart ls codes ps) t in
      go (same_word w p.word && same_kinds p.takes ks) (not-row p h.0) (search-none ps h.1)
    where
      go : (b : Bool) → (T b → ⊥) → search ps w ks ≡ none → when b (some p.gives) (search ps w ks) ≡ none
      go true n e = absurd (n tt)
      go false n e = e

none-mapped : (o : Option Hit) → mapped given o ≡ none → o ≡ none
none-mapped none e = refl
none-mapped (some h) e =
    let z : ◌≡◌ {A = ℕ} 0 1 = cc in
    absurd (omega arith)

find_none : (ls codes : List ℕ) → T (all_apart ls codes (kind_rows table)) → (w : Word) (ks : List Kind) → T (like ls ks) → Missed codes (code_of w) → (vs : List Value) → map kind_of vs ≡ ks → find table w vs ≡ none
unfolding find_kind
find_none ls codes t w ks k m vs e = none-mapped (find table w vs) (find-kind table w vs ∙ ap (find_kind table w) e ∙ search-none ls codes w ks k m (kind_rows table) t)

-- for kinds of these letters, every row's word has one of these codes
pub row-none : (ls codes : List ℕ) → T (all_apart ls codes (kind_rows table)) → (e : Ellipsoid) (code : ℕ) (ks : List Kind) → T (like ls ks) → (f : List Float) (at : ℕ) → Missed codes code → RowLaid e code ks f at (Err Halt.Sticks) f
row-none ls codes t e code ks k f at m = record {
  is = λ lf w hw d. subst (λ o. Answers (apply_row e o) at f (Err Halt.Sticks) f) (sym (find_none ls codes t w ks k (subst (Missed codes) d m) (values_at ks f at) (kinds-of-at ks f at))) (answers-none at f []);
}

-- ---- the values of the arguments, one by one

module _ (f : List Float) where
  none-at : (i : ℕ) → [] ≡ values_at [] f i
  unfolding values_at
  none-at i = refl

  more-at : (k : Kind) (ks : List Kind) (i j : ℕ) {x : Value} {xs : List Value} → x ≡ value_at k f i → j ≡ i + 21 → xs ≡ values_at ks f j → x ∷ xs ≡ values_at (k ∷ ks) f i
  unfolding values_at
  more-at k ks i j a e b = rw (a, b, e) refl

  module _ (at : ℕ) where
    pub one_at : (k : Kind) {x : Value} → x ≡ value_at k f at → x ∷ [] ≡ values_at (k ∷ []) f at
    one_at k a = more-at k [] at _ a refl (none-at _)

    pub two_at : (k j : Kind) {x y : Value} → x ≡ value_at k f at → y ≡ value_at j f (at + 21) → x ∷ y ∷ [] ≡ values_at (k ∷ j ∷ []) f at
    two_at k j a b = more-at k (j ∷ []) at (at + 21) a refl (more-at j [] (at + 21) _ b refl (none-at _))

    pub three-at : (k j l : Kind) {x y z : Value} → x ≡ value_at k f at → y ≡ value_at j f (at + 21) → z ≡ value_at l f (at + 42) → x ∷ y ∷ z ∷ [] ≡ values_at (k ∷ j ∷ l ∷ []) f at
    three-at k j l a b c = more-at k _ at (at + 21) a refl (more-at j _ (at + 21) (at + 42) b (omega arith) (more-at l [] (at + 42) _ c refl (none-at _)))

    pub four-at : (k j l m : Kind) {x y z u : Value} → x ≡ value_at k f at → y ≡ value_at j f (at + 21) → z ≡ value_at l f (at + 42) → u ≡ value_at m f (at + 63) → x ∷ y ∷ z ∷ u ∷ [] ≡ values_at (k ∷ j ∷ l ∷ m ∷ []) f at
    four-at k j l m a b c d = more-at k _ at (at + 21) a refl (more-at j _ (at + 21) (at + 42) b (omega arith) (more-at l _ (at + 42) (at + 63) c (omega arith) (more-at m [] (at + 63) _ d refl (none-at _))))

    pub five-at : (k j l m o : Kind) {x y z u v : Value} → x ≡ value_at k f at → y ≡ value_at j f (at + 21) → z ≡ value_at l f (at + 42) → u ≡ value_at m f (at + 63) → v ≡ value_at o f (at + 84) → x ∷ y ∷ z ∷ u ∷ v ∷ [] ≡ values_at (k ∷ j ∷ l ∷ m ∷ o ∷ []) f at
    five-at k j l m o a b c d e = more-at k _ at (at + 21) a refl (more-at j _ (at + 21) (at + 42) b (omega arith) (more-at l _ (at + 42) (at + 63) c (omega arith) (more-at m _ (at + 63) (at + 84) d (omega arith) (more-at o [] (at + 84) _ e refl (none-at _)))))
