-- Demand 3 holds of the definitions: of the check's and the run's answers over any sheet and readings, lent buffers of their lengths. Assumes nothing.
use mathlib.Core.Path.{◌≡◌, refl, sym, ap, ◌∙◌, subst}
use mathlib.Core.List.{List, [], ◌∷◌, ◌++◌}
use mathlib.Core.Bool.{Bool, true, false, ◌&&◌}
use Prim.Native.Nat.{ℕ, suc, ◌-◌, ◌≤◌}
use native.Mathlib.Omega.{arith}
use lib.Dec.{eqb}
use borrow.Author.Tests.{eq-eqb}
use lib.ListN.{length, get_or, drop, get_or-append}
use lib.Ieee.{Float}
use Rattle.numbers.specs.declared.Vec3.{Vec3}
use Rattle.numbers.specs.declared.Mat33.{Mat33}
use Rattle.numbers.proofs.FitLaws.{Fits}
use Rattle.numbers.proofs.VecLaws.{FiniteVec, FiniteMat}
use Rattle.frames.specs.declared.LocalFrame.{LocalFrame}
use Rattle.frames.proofs.FrameLaws.{Sound, Home, home}
use Rattle.sheets.specs.declared.Value.{Value}
use Rattle.sheets.specs.Trees.{Sheet}
use Rattle.sheets.specs.Grammar.{Written, FirstBad, Form, formed, bad_line, Reads}
use Rattle.sheets.specs.Names.{Given}
use Rattle.sheets.specs.Kinds.{Kind, kind_of, kind_code}
use Rattle.sheets.specs.Refusals.{Fault, name, kind, limit, centre, Refusal, size, lent, form, ellipsoid, fault, stop, refusal_number, apart}
use Rattle.sheets.specs.Machine.{Ran, done, stopped, stuck, machine}
use Rattle.sheets.specs.Check.{Walked, passes, refuses, walk}
use Rattle.sheets.specs.Answers.{sized, ranged, Verdict, admitted, refused, of_walked, of_range, of_form, of_size, verdict, CheckAnswer, check_of, laid, kinds_of_verdict, CheckOwes, RunAnswer, Tells, RunOf, lent_run, RunOwes}
use Rattle.sheets.specs.Claim.{Admits, Unstuck, names_given, frames_made, All, SticksAt, FiniteVec3, FiniteMat33, FrameHolds, Claim}
use Rattle.sheets.proofs.Alike.{KnownLike}
use Rattle.sheets.proofs.Agree.{Sees}
use Rattle.sheets.proofs.Sound.{OnLine, Later, AgreeRan, agree, all-later}
use Rattle.sheets.proofs.check.LinesExact.{walk-passes, walk-admits}
use Rattle.sheets.proofs.EveryFrame.{every-frame}
use Rattle.sheets.proofs.reader.FormLaws.{form-once}
use Rattle.sheets.specs.Table.{when}

-- ---- refusals by their numbers

refusal_of : ℕ → Refusal
refusal_of n =
    when (eqb n 1) size (when (eqb n 2) lent (when (eqb n 3) form (when (eqb n 4) ellipsoid (when (eqb n 5) (fault name) (when (eqb n 6) (fault kind) (when (eqb n 7) (stop limit) (when (eqb n 8) (stop centre) (stop apart))))))))

refusal-of : (r : Refusal) → refusal_of (refusal_number r) ≡ r
unfolding refusal_of
refusal-of size = refl
refusal-of lent = refl
refusal-of form = refl
refusal-of ellipsoid = refl
refusal-of (fault name) = refl
refusal-of (fault kind) = refl
refusal-of (stop limit) = refl
refusal-of (stop centre) = refl
refusal-of (stop apart) = refl

refusal-same : (r q : Refusal) → refusal_number r ≡ refusal_number q → r ≡ q
refusal-same r q e = sym (refusal-of r) ∙ ap refusal_of e ∙ refusal-of q

pub refusal-some : (r : Refusal) → 1 ≤ refusal_number r
refusal-some size = omega arith
refusal-some lent = omega arith
refusal-some form = omega arith
refusal-some ellipsoid = omega arith
refusal-some (fault name) = omega arith
refusal-some (fault kind) = omega arith
refusal-some (stop limit) = omega arith
refusal-some (stop centre) = omega arith
refusal-some (stop apart) = omega arith

fault-some : (f : Fault) → 5 ≤ refusal_number (fault f)
fault-some name = omega arith
fault-some kind = omega arith

-- ---- what a verdict says, where what is lent has its length

abbrev pub Says : List ℕ → Verdict → Type 0
Says S (admitted c cs) = (ds : List ℕ) × (cs ≡ 255 ∷ ds) × Admits S c ds
Says S (refused r j) = ((f : Fault) → r ≡ fault f → (c : Sheet) × Written S c × (walk c ≡ refuses f j)) × (r ≡ form → (sized S ≡ true) × FirstBad S j)

-- refusals 1 and 4
no_more : (S : List ℕ) (r : Refusal) (j : ℕ) → refusal_number r ≤ 4 → (refusal_number r ≡ 3 → ⊥) → Says S (refused r j)
no_more S r j l n = ((λ f e. absurd (omega (arith, ap refusal_number e, fault-some f, l))), (λ e. absurd (n (ap refusal_number e))))

fault-same : (f g : Fault) → fault f ≡ fault g → f ≡ g
fault-same f g e = cc

says-walked : (S : List ℕ) (c : Sheet) (o : Walked) → sized S ≡ true → Written S c → ranged c.head ≡ true → walk c ≡ o → Says S (of_walked c o)
says-walked S c (passes ds) z w h e = (ds, refl, record { size = z; grammar = w; range = h; names_and_kinds = walk-passes c ds e })
says-walked S c (refuses f j) z w h e = ((λ g p. (c, w, e ∙ ap (λ (k : Fault). refuses k j) (fault-same f g p))), (λ p. absurd (omega (arith, ap refusal_number p, fault-some f))))

says_range : (S : List ℕ) (c : Sheet) (b : Bool) → sized S ≡ true → Written S c → ranged c.head ≡ b → Says S (of_range b c)
says_range S c true z w e = says-walked S c (walk c) z w e refl
says_range S c false z w e = no_more S ellipsoid 1 (omega arith) (λ n. omega arith)

says-form : (S : List ℕ) (o : Form Sheet) → sized S ≡ true → Reads S o → Says S (of_form o)
says-form S (formed c) z w = says_range S c (ranged c.head) z w refl
says-form S (bad_line j) z w = ((λ f p. absurd (omega (arith, ap refusal_number p, fault-some f))), (λ p. (z, w)))

pub says : (S : List ℕ) (o : Form Sheet) → Reads S o → Says S (verdict true S o)
unfolding verdict
says S o w = go (sized S) refl
  where
    go : (b : Bool) → sized S ≡ b → Says S (of_size b true o)
    go true e = says-form S o e w
    go false e = no_more S size 0 (omega arith) (λ n. omega arith)

-- what is admitted is admitted by the verdict, and a first bad line refused
verdict-is : (S : List ℕ) (o p : Form Sheet) → sized S ≡ true → Reads S o → Reads S p → verdict true S o ≡ of_form p
unfolding verdict
verdict-is S o p z ho hp = ap (λ (b : Bool). of_size b true o) z ∙ ap of_form (form-once S o p ho hp)

admits : (S : List ℕ) (c : Sheet) (ds : List ℕ) → Admits S c ds → (o : Form Sheet) → Reads S o → verdict true S o ≡ admitted c (255 ∷ ds)
admits S c ds h o w =
    verdict-is S o (formed c) h.size w h.grammar ∙ ap (λ (b : Bool). of_range b c) h.range ∙ ap (of_walked c) (walk-admits c ds h.names_and_kinds)

-- ---- an admitted sheet

pub unstuck : (r : Ran) (o : Walked) (ds : List ℕ) → AgreeRan r o → o ≡ passes ds → Unstuck r
unstuck (done fs s) o ds p e = tt
unstuck (stopped fs x i s) o ds p e = tt
unstuck (stuck fs i s) o ds p e = let h = p.1 in let z : ◌≡◌ {A = ℕ} 0 1 = cc in absurd (omega arith)

-- each name's code stands on its line
abbrev Coded : List ℕ → Given Value → Type 0
Coded ks g = get_or ks (g.line - 1) 0 ≡ kind_code (kind_of g.value)

coded : (ds t : List ℕ) (gs : List (Given Value)) (hs : List (Given Kind)) → KnownLike Sees gs hs → All (OnLine ds) hs → All (Coded (255 ∷ (ds ++ t))) gs
coded ds t [] [] l h = tt
coded ds t [] (k ∷ hs) l h = absurd l
coded ds t (g ∷ gs) [] l h = absurd l
coded ds t (g ∷ gs) (k ∷ hs) l h =
    let a = h.0.0 in
    let b = h.0.1 in
    let m = l.0.0 in
    let e : g.line - 1 ≡ suc (k.line - 2) = omega arith in (
      ap (λ (j : ℕ). get_or (255 ∷ (ds ++ t)) j 0) e ∙ get_or-append ds t 0 (k.line - 2) (omega arith) ∙ h.0.2 ∙ ap kind_code (sym l.0.2),
      coded ds t gs hs l.1 h.1,
    )

listed : (r : Ran) (o : Walked) (ds t : List ℕ) → AgreeRan r o → o ≡ passes ds → All (Coded (255 ∷ (ds ++ t))) (names_given r)
listed (done fs u) o ds t p e =
    let h = p.2 in
    let d : p.0.codes ≡ ds = cc in
    subst (λ (cs : List ℕ). All (Coded (255 ∷ (cs ++ t))) u.scope.given) d (coded p.0.codes t u.scope.given p.0.scope.given p.1.given_like p.3)
listed (stopped fs x i u) o ds t p e =
    let l = subst (Later i p.0) e p.2 in
    subst (λ (cs : List ℕ). All (Coded (255 ∷ (cs ++ t))) u.scope.given) (sym l.1)
    (coded (p.0.codes ++ l.0) t u.scope.given p.0.scope.given p.1.given_like (all-later p.0.codes l.0 p.0.scope.given p.3))
listed (stuck fs i u) o ds t p e = let h = p.1 in let z : ◌≡◌ {A = ℕ} 0 1 = cc in absurd (omega arith)

-- ---- frames

finite-vec : (v : Vec3) → FiniteVec3 v → FiniteVec v
finite-vec v h = record { fin_x = h.0; fin_y = h.1; fin_z = h.2 }

finite-mat : (m : Mat33) → FiniteMat33 m → FiniteMat m
finite-mat m h = record { fin_r0 = finite-vec m.r0 h.0; fin_r1 = finite-vec m.r1 h.1; fin_r2 = finite-vec m.r2 h.2 }

at_home : (f : LocalFrame) → Sound f → FiniteVec3 f.origin → FiniteMat33 f.dir_rm → FiniteMat33 f.inv_rm → Home f
at_home f s o d i = home f s (record { fin_origin = finite-vec f.origin o; fin_dir = finite-mat f.dir_rm d; fin_inv = finite-mat f.inv_rm i })

holds : (fs : List LocalFrame) → All Sound fs → All FrameHolds fs
holds [] h = tt
holds (f ∷ fs) h = (
  record {
    inverse = h.0.inverse;
    out = λ o d i. (at_home f h.0 o d i).leads_out;
    back = λ o d i. (at_home f h.0 o d i).leads_back;
  },
  holds fs h.1,
)

-- ---- a sheet refused for a name or a kind

sticks-at : (r : Ran) (o : Walked) (f : Fault) (j : ℕ) → AgreeRan r o → o ≡ refuses f j → SticksAt j r
sticks-at (done fs s) o f j p e = let h = p.2 in let z : ◌≡◌ {A = ℕ} 0 1 = cc in absurd (omega arith)
sticks-at (stopped fs x i s) o f j p e = subst (Later i p.0) e p.2
sticks-at (stuck fs i s) o f j p e = let h = p.1 in cc

-- ---- of a verdict

passes-admitted : (S : List ℕ) (v : Verdict) → Says S v → (check_of v).number ≡ 0 → (c : Sheet) × (codes : List ℕ) × Admits S c codes
passes-admitted S (admitted c cs) h e = (c, h.0, h.2)
passes-admitted S (refused r j) h e = let l = refusal-some r in absurd (omega arith)

refusal-sticks : (S : List ℕ) (R : List Float) (v : Verdict) → Says S v → (f : Fault) → (check_of v).number ≡ refusal_number (fault f)
    → (c : Sheet) × Written S c × SticksAt (check_of v).line (machine c R)
refusal-sticks S R (admitted c cs) h f e = absurd (omega (arith, e, fault-some f))
refusal-sticks S R (refused r j) h f e =
    let k = h.0 f (refusal-same r (fault f) e) in
    (k.0, k.1, sticks-at (machine k.0 R) (walk k.0) f j (agree k.0 R) k.2)

refusal-breaks : (S : List ℕ) (v : Verdict) → Says S v → (check_of v).number ≡ 3 → (sized S ≡ true) × FirstBad S (check_of v).line
refusal-breaks S (admitted c cs) h e = absurd (omega arith)
refusal-breaks S (refused r j) h e = h.1 (refusal-same r form e)

-- ---- the claim

both_equal : (a b : Bool) → a ≡ true → b ≡ true → (a && b) ≡ true
both_equal a b p q = ap (λ (x : Bool). x && b) p ∙ q

module _ (S : List ℕ) (R : List Float) (kinds out : List ℕ) (k : length kinds ≡ 96) (r : length R ≡ 16) (o : length out ≡ 24576) (doubles : All Fits R)
    (checked : CheckAnswer) (kinds' : List ℕ) (hc : CheckOwes S kinds checked kinds') (ran : RunAnswer) (out' : List ℕ) (hr : RunOwes S R out ran out') where
  v : Verdict
  v = verdict true S hc.form_is

  checked-is : checked ≡ check_of v
  unfolding v
  checked-is = hc.answer ∙ ap (λ (b : Bool). check_of (verdict b S hc.form_is)) (eq-eqb (length kinds) 96 k)

  number_is : checked.number ≡ (check_of v).number
  number_is = ap (λ (a : CheckAnswer). a.number) checked-is

  line-is : checked.line ≡ (check_of v).line
  line-is = ap (λ (a : CheckAnswer). a.line) checked-is

  v-says : Says S v
  unfolding v
  v-says = says S hc.form_is hc.grammar

  v-admits : (c : Sheet) (codes : List ℕ) → Admits S c codes → v ≡ admitted c (255 ∷ codes)
  unfolding v
  v-admits c codes h = admits S c codes h hc.form_is hc.grammar

  v-breaks : (j : ℕ) → sized S ≡ true → FirstBad S j → v ≡ refused form j
  unfolding v
  v-breaks j z w = verdict-is S hc.form_is (bad_line j) z hc.grammar w

  -- of an admitted sheet
  module _ (c : Sheet) (codes : List ℕ) (h : Admits S c codes) where
    written-codes : kinds' ≡ laid (255 ∷ codes) kinds
    unfolding v
    written-codes = hc.left ∙ ap (λ (b : Bool). kinds_of_verdict (verdict b S hc.form_is) kinds) (eq-eqb (length kinds) 96 k) ∙ ap (λ (w : Verdict). kinds_of_verdict w kinds) (v-admits c codes h)

    walked : walk c ≡ passes codes
    walked = walk-admits c codes h.names_and_kinds

    named : All (Coded kinds') (names_given (machine c R))
    named = subst (λ (ks : List ℕ). All (Coded ks) (names_given (machine c R))) (sym written-codes)
        (listed (machine c R) (walk c) codes (drop (length (255 ∷ codes)) kinds) (agree c R) walked)

    told-so : Tells (machine c R) out ran out'
    told-so =
        let lent : lent_run R out ≡ true = both_equal (eqb (length R) 16) (eqb (length out) 24576) (eq-eqb (length R) 16 r) (eq-eqb (length out) 24576 o) in
        subst (λ (w : Verdict). RunOf w R out ran out') (admits S c codes h hr.form_is hr.grammar) (subst (λ (b : Bool). RunOf (verdict b S hr.form_is) R out ran out') lent hr.answer)

  pub claim : Claim S R kinds checked kinds' out ran out'
  claim = record {
    exactly = (
      (λ e. passes-admitted S v v-says (sym number_is ∙ e)),
      (λ h. number_is ∙ ap (λ (w : Verdict). (check_of w).number) (v-admits h.0 h.1 h.2)),
    );
    codes_written = λ c codes h. written-codes c codes h;
    never_sticks = λ c codes h. unstuck (machine c R) (walk c) codes (agree c R) (walked c codes h);
    names_have_kinds = λ c codes h. named c codes h;
    run_is_machine = λ c codes h. told-so c codes h;
    frames_hold = λ c codes h. holds (frames_made (machine c R)) (every-frame c R doubles);
    refused_form = λ j. (
      (λ e. let b = refusal-breaks S v v-says (sym number_is ∙ e.0) in (b.0, subst (FirstBad S) (sym line-is ∙ e.1) b.1)),
      (λ h. (number_is ∙ ap (λ (w : Verdict). (check_of w).number) (v-breaks j h.0 h.1), line-is ∙ ap (λ (w : Verdict). (check_of w).line) (v-breaks j h.0 h.1))),
    );
    refused_sticks = λ f e.
        let p = refusal-sticks S R v v-says f (sym number_is ∙ e) in
        (p.0, p.1, subst (λ (j : ℕ). SticksAt j (machine p.0 R)) (sym line-is) p.2);
  }
