-- A bracket, a step at a time. Assumes nothing.
use Rattle.std.specs.Prelude.{Option, Some, None, Ok, Err}
use Prim.Native.Nat.{ℕ, suc, ◌+◌, ◌-◌, ◌*◌, ◌<◌}
use native.Mathlib.Omega.{arith}
use mathlib.Core.Path.{◌≡◌, refl, sym, ap, subst, ◌∙◌}
use mathlib.Core.List.{List, [], ◌∷◌, ◌++◌, append-nil, append_assoc}
use lib.ListN.{length, get_or, length-append}
use lib.Ieee.{Float}
use Rattle.frames.specs.declared.Ellipsoid.{Ellipsoid}
use Rattle.frames.specs.declared.LocalFrame.{LocalFrame}
use Rattle.sheets.specs.declared.Value.{Value}
use Rattle.sheets.specs.declared.Halt.{Halt}
use Rattle.sheets.specs.Text.{Word}
use Rattle.sheets.specs.Trees.{Exprs, nil}
use Rattle.sheets.specs.Grammar.{IsWord}
use Rattle.sheets.specs.Kinds.{Kind, kind_of, kind_code}
use Rattle.sheets.specs.Names.{Known}
use Rattle.sheets.specs.Table.{table}
use Rattle.sheets.specs.Lookup.{find}
use Rattle.sheets.specs.Machine.{Out, goes, stops, sticks, after, then as thenᵒ, apply_row, eval, evals}
use Rattle.sheets.specs.code.reader.Codes.{code_of}
use Rattle.sheets.specs.code.reader.Reader.{got, read_word, read_args, read_expr}
use Rattle.sheets.specs.code.reader.Views.{place, coded}
use Rattle.sheets.specs.code.rows.KindCodes.{key_from, key_of}
use Rattle.sheets.specs.code.run.Floats.{value_at, values_at, Lies, KeptBelow}
use Rattle.sheets.specs.code.run.Known.{Ready}
use Rattle.sheets.specs.declared.check.names.Names.{Names}
use Rattle.sheets.specs.code.run.Evaluating.{Evaluated, evaluated, LiesOf, Answers, AnswersTo, ForKinds, EvalsWith, BracketWith}
use Rattle.sheets.proofs.reader.ReaderLaws.{close-read}
use Rattle.sheets.proofs.reader.ExprSteps.{args_none, args-other}
use Rattle.sheets.proofs.reader.Inverse.{not-read, arg-read, form-read}
use Rattle.sheets.proofs.run.RunParts.{same-ok, not-ok}
use Rattle.sheets.proofs.run.FloatLaws.{kept_refl, kept_trans, values-kept, values-append}
use Rattle.sheets.proofs.run.ListedLaws.{ready-kept, ready-above}

-- ---- what the machine comes to, without the frames made

abbrev bare : Out Value → Out Value
bare (goes fs x) = goes [] x
bare (stops fs r) = stops [] r
bare (sticks fs) = sticks []

bare-after : (fs : List LocalFrame) (o : Out Value) → bare (after fs o) ≡ bare o
bare-after fs (goes hs x) = refl
bare-after fs (stops hs r) = refl
bare-after fs (sticks hs) = refl

module _ (top : ℕ) (f : List Float) (r : Evaluated) (g : List Float) where
  to-bare : (o : Out Value) → Answers o top f r g → Answers (bare o) top f r g
  unfolding evaluated LiesOf
  to-bare (goes fs x) a = record { is = a.is; lies = a.lies; kept = a.kept }
  to-bare (stops fs c) a = record { is = a.is; lies = tt; kept = a.kept }
  to-bare (sticks fs) a = record { is = a.is; lies = tt; kept = a.kept }

  of_bare : (o : Out Value) → Answers (bare o) top f r g → Answers o top f r g
  unfolding evaluated LiesOf
  of_bare (goes fs x) a = record { is = a.is; lies = a.lies; kept = a.kept }
  of_bare (stops fs c) a = record { is = a.is; lies = tt; kept = a.kept }
  of_bare (sticks fs) a = record { is = a.is; lies = tt; kept = a.kept }

  -- an answer is one for whatever comes to the same
  answers-same : (o p : Out Value) → bare o ≡ bare p → Answers o top f r g → Answers p top f r g
  answers-same o p e a = of_bare p (subst (λ b. Answers b top f r g) e (to-bare o a))

-- ---- the bracket, where its word was read

pub evals-form : (s : List ℕ) (at b : ℕ) → b ≡ get_or s at 0 → (depth : ℕ) → b ≡ 40 → (depth ≡ 0 → ⊥) → (r : Option (ℕ × ℕ)) → r ≡ coded (read_word s (at + 1)) → (k m : ℕ) → r ≡ Some (k, m)
    → (e : Ellipsoid) (names : Names) (f : List Float) (top : ℕ) (q : Evaluated) (end : ℕ) (g : List Float) → BracketWith s m (depth - 1) 5 e k names 0 f top q end g → EvalsWith s at depth e names f top q end g
unfolding eval key_from values_at
evals-form s at b eb depth h d r er k m hr e names f top q end g hq = record {
  is = λ ps rd. record {
    is = λ x n gx.
        let (w, es, iw, ek, ea, ee) = form-read s at b eb depth h d r er k m hr x n gx in
        rw ee ((hq.is ps rd [] refl refl w iw ek).is es n ea);
  };
}

-- ---- the arguments

module _ (s : List ℕ) (at b : ℕ) (eb : b ≡ get_or s at 0) (depth left : ℕ) (e : Ellipsoid) (code : ℕ) (names : Names) (key : ℕ) (f : List Float) (top : ℕ) where
  bracket-bad : (r : Evaluated) (end : ℕ) (g : List Float) → None ≡ place (read_args (read_expr depth s) left s at) → BracketWith s at depth left e code names key f top r end g
  bracket-bad r end g h = record { is = λ ps rd ks ek el w iw ec. record { is = λ es n k. not-read (read_args (read_expr depth s) left s at) es n h k } }

  pub bracket-sixth : (b ≡ 41 → ⊥) → left ≡ 0 → (r : Evaluated) (end : ℕ) (g : List Float) → BracketWith s at depth left e code names key f top r end g
  bracket-sixth h l r end g = bracket-bad r end g (args_none (read_expr depth s) s at b eb left h l)

  pub bracket-other : (b ≡ 32 → ⊥) → (b ≡ 41 → ⊥) → (r : Evaluated) (end : ℕ) (g : List Float) → BracketWith s at depth left e code names key f top r end g
  bracket-other h c r end g = bracket-bad r end g (args-other (read_expr depth s) s at b eb left c h)

  pub bracket-closed : b ≡ 41 → (r : Evaluated) (g : List Float) → ForKinds e code key f top r g → BracketWith s at depth left e code names key f top r (at + 1) g
  unfolding evals
  bracket-closed h r g hr = record {
    is = λ ps rd ks ek el w iw ec. record {
      is = λ es n k.
          let q = close-read (read_expr depth s) s at b eb left h in
          let ee : es ≡ nil = cc in
          let en : n ≡ at + 1 = cc in
          let row : List Value → Out Value = λ vs. apply_row e (find table w vs) in
          rw (ee, en) (record {
            answers = answers-same top f r g (row (values_at ks f top)) _ (ap (λ vs. bare (row vs)) (sym (append-nil (values_at ks f top))) ∙ sym (bare-after [] (row (values_at ks f top ++ [])))) ((hr.is ks ek).is rd.listed.size w iw ec);
            ends = λ j h. refl;
          });
    };
  }

  module _ (h : b ≡ 32) (l : left ≡ 0 → ⊥) (room : ℕ) (er : room ≡ top + 21 * (5 - left)) (r : Evaluated) (end : ℕ) (g : List Float) (hr : EvalsWith s (at + 1) depth e names f room r end g) where
    -- by what the first argument comes to
    args_are : (q : Evaluated) (end' : ℕ) (g' : List Float)
        → ((ps : Known Value) → Ready ps names f top → (ks : List Kind) → key_of ks ≡ key → length ks + left ≡ 5 → (w : Word) → IsWord w → code ≡ code_of w
        → (m : ℕ) (xs : Exprs) (n : ℕ) → read_args (read_expr depth s) (left - 1) s m ≡ got xs n → (o : Out Value) → AnswersTo o m room f r end g
        → AnswersTo (thenᵒ (thenᵒ o (λ y. thenᵒ (evals xs e ps) (λ ys. goes [] (y ∷ ys)))) (λ us. apply_row e (find table w (values_at ks f top ++ us)))) n top f q end' g')
        → BracketWith s at depth left e code names key f top q end' g'
    unfolding evals
    args_are q end' g' k = record {
      is = λ ps rd ks ek el w iw ec. record {
        is = λ es n p.
            let (x, m, xs, ex, ef, ee) = arg-read (read_expr depth s) s at b eb left l h es n p in
            rw ee (k ps rd ks ek el w iw ec m xs n ef (eval x e ps) ((hr.is ps (ready-above ps names f top rd room (omega (arith, er)))).is x m ex));
      };
    }

    less : KeptBelow f room g → KeptBelow f top g
    less k = kept_trans f f g top room (kept_refl f top) k (omega (arith, er))

    pub bracket-halted : (j : Halt) → r ≡ Err j → (end' : ℕ) → BracketWith s at depth left e code names key f top (Err j) end' g
    unfolding evaluated LiesOf
    bracket-halted j es end' = args_are _ end' g (λ ps rd ks ek el w iw ec m xs n ef o a. record { answers = go ps ks w xs o a.answers (sym es ∙ a.answers.is); ends = λ k h. not-ok j k h })
      where
        go : (ps : Known Value) (ks : List Kind) (w : Word) (xs : Exprs) (o : Out Value) → Answers o room f r g → Err j ≡ evaluated o
            → Answers (thenᵒ (thenᵒ o (λ y. thenᵒ (evals xs e ps) (λ ys. goes [] (y ∷ ys)))) (λ us. apply_row e (find table w (values_at ks f top ++ us)))) top f (Err j) g
        go ps ks w xs (goes hs u) a p = let z : ◌≡◌ {A = ℕ} 0 1 = cc in absurd (omega arith)
        go ps ks w xs (stops hs c) a p = record { is = p; lies = tt; kept = less a.kept }
        go ps ks w xs (sticks hs) a p = record { is = p; lies = tt; kept = less a.kept }

-- ---- one argument more

key_more : (k : Kind) (ks : List Kind) (n : ℕ) → key_from n (ks ++ (k ∷ [])) ≡ key_from n ks * 16 + suc (kind_code k)
unfolding key_from
key_more k [] n = refl
key_more k (j ∷ ks) n = key_more k ks (n * 16 + suc (kind_code j))

values-more : (ks : List Kind) (f g : List Float) (top : ℕ) (v : Value) → KeptBelow f (top + 21 * length ks) g → Lies g (top + 21 * length ks) v → values_at (ks ++ (kind_of v ∷ [])) g top ≡ values_at ks f top ++ (v ∷ [])
unfolding values_at
values-more ks f g top v k l =
    values-append ks (kind_of v ∷ []) g top
    ∙ ap (λ us. us ++ (value_at (kind_of v) g (top + 21 * length ks) ∷ [])) (values-kept ks f g (top + 21 * length ks) k top (omega arith))
    ∙ ap (λ u. values_at ks f top ++ (u ∷ [])) l.is

-- the rest of the arguments, and the row over all
then-more : (row : List Value → Out Value) (vs us : List Value) (v : Value) → us ≡ vs ++ (v ∷ []) → (hs : List LocalFrame) (o : Out (List Value))
    → bare (thenᵒ o (λ ys. row (us ++ ys))) ≡ bare (thenᵒ (after hs (thenᵒ o (λ ys. goes [] (v ∷ ys)))) (λ ys. row (vs ++ ys)))
then-more row vs us v e hs (goes gs ys) =
    bare-after gs (row (us ++ ys))
    ∙ ap (λ t. bare (row t)) (ap (λ t. t ++ ys) e ∙ append_assoc vs (v ∷ []) ys)
    ∙ sym (bare-after _ (row (vs ++ (v ∷ ys))))
then-more row vs us v e hs (stops gs c) = refl
then-more row vs us v e hs (sticks gs) = refl

module _ (s : List ℕ) (at b : ℕ) (eb : b ≡ get_or s at 0) (depth left : ℕ) (e : Ellipsoid) (code : ℕ) (names : Names) (key : ℕ) (f : List Float) (top : ℕ)
    (h : b ≡ 32) (l : left ≡ 0 → ⊥) (room : ℕ) (er : room ≡ top + 21 * (5 - left)) (r : Evaluated) (end : ℕ) (g : List Float) (hr : EvalsWith s (at + 1) depth e names f room r end g) where
  pub bracket-more : (kind : ℕ) → r ≡ Ok kind → (key' : ℕ) → key' ≡ key * 16 + kind + 1 → (q : Evaluated) (end' : ℕ) (g' : List Float)
      → BracketWith s end depth (left - 1) e code names key' g top q end' g' → BracketWith s at depth left e code names key f top q end' g'
  unfolding evaluated LiesOf
  bracket-more kind es key' ek' q end' g' hq = args_are s at b eb depth left e code names key f top h l room er r end g hr q end' g'
      (λ ps rd ks ek el w iw ec m xs n ef o a. go ps rd ks ek el w iw ec m xs n ef o a.answers (sym es ∙ a.answers.is) (sym (a.ends kind es)))
    where
      go : (ps : Known Value) → Ready ps names f top → (ks : List Kind) → key_of ks ≡ key → length ks + left ≡ 5 → (w : Word) → IsWord w → code ≡ code_of w
          → (m : ℕ) (xs : Exprs) (n : ℕ) → read_args (read_expr depth s) (left - 1) s m ≡ got xs n → (o : Out Value) → Answers o room f r g → Ok kind ≡ evaluated o → m ≡ end
          → AnswersTo (thenᵒ (thenᵒ o (λ y. thenᵒ (evals xs e ps) (λ ys. goes [] (y ∷ ys)))) (λ us. apply_row e (find table w (values_at ks f top ++ us)))) n top f q end' g'
      go ps rd ks ek el w iw ec m xs n ef (goes hs v) a p im =
          let ik = same-ok p in
          let place : room ≡ top + 21 * length ks = er ∙ ap (λ z. top + 21 * z) (omega (arith, el)) in
          let kp : KeptBelow f (top + 21 * length ks) g = subst (λ z. KeptBelow f z g) place a.kept in
          let us = values_at (ks ++ (kind_of v ∷ [])) g top in
          let eu : us ≡ values_at ks f top ++ (v ∷ []) = values-more ks f g top v kp (subst (λ z. Lies g z v) place a.lies) in
          let row : List Value → Out Value = λ vs. apply_row e (find table w vs) in
          let b1 = hq.is ps (ready-kept ps names f top rd room g a.kept (omega (arith, er))) (ks ++ (kind_of v ∷ []))
          (key_more (kind_of v) ks 0 ∙ ap (λ z. z * 16 + suc (kind_code (kind_of v))) ek ∙ omega (arith, ik, ek')) (omega (arith, length-append ks (kind_of v ∷ []), el, l)) w iw ec in
          let b2 : AnswersTo (thenᵒ (evals xs e ps) (λ ys. row (us ++ ys))) n top g q end' g' = b1.is xs n (subst (λ z. read_args (read_expr depth s) (left - 1) s z ≡ got xs n) im ef) in
          let b3 = answers-same top g q g' _ (thenᵒ (after hs (thenᵒ (evals xs e ps) (λ ys. goes [] (v ∷ ys)))) (λ ys. row (values_at ks f top ++ ys))) (then-more row (values_at ks f top) us v eu hs (evals xs e ps)) b2.answers in
          record {
            answers = record { is = b3.is; lies = b3.lies; kept = kept_trans f g g' top top (kept_trans f f g top room (kept_refl f top) a.kept (omega (arith, er))) b3.kept (omega arith) };
            ends = b2.ends;
          }
      go ps rd ks ek el w iw ec m xs n ef (stops hs c) a p im = let z : ◌≡◌ {A = ℕ} 0 1 = cc in absurd (omega arith)
      go ps rd ks ek el w iw ec m xs n ef (sticks hs) a p im = let z : ◌≡◌ {A = ℕ} 0 1 = cc in absurd (omega arith)

-- one argument fewer is left
pub one-fewer : (n : ℕ) → n < 5 → (s : List ℕ) (at depth : ℕ) (e : Ellipsoid) (code : ℕ) (names : Names) (key : ℕ) (f : List Float) (top : ℕ) (q : Evaluated) (end : ℕ) (g : List Float)
    → BracketWith s at depth (5 - (n + 1)) e code names key f top q end g → BracketWith s at depth (5 - n - 1) e code names key f top q end g
one-fewer n l s at depth e code names key f top q end g h =
    let i : 5 - (n + 1) ≡ 5 - n - 1 = omega arith in
    subst (λ m. BracketWith s at depth m e code names key f top q end g) i h
