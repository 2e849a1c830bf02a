-- The machine and the check's walk agree: where the machine goes on, the check finds the kind of what it came to; where it sticks, the check refuses. Assumes nothing.
use mathlib.Core.Path.{◌≡◌, refl, ap, ap₂, sym, ◌∙◌, subst}
use mathlib.Core.List.{List, [], ◌∷◌, map}
use mathlib.Core.Option.{Option, none, some}
use mathlib.Core.Bool.{Bool, true, false}
use Prim.Native.Nat.{ℕ}
use lib.Ieee.{Float}
use Rattle.frames.specs.declared.Ellipsoid.{Ellipsoid}
use Rattle.frames.specs.declared.LocalFrame.{LocalFrame}
use Rattle.sheets.specs.declared.Value.{Value}
use Rattle.sheets.specs.declared.Value.TheVariants.{Number, Metres}
use Rattle.sheets.specs.Text.{Word}
use Rattle.sheets.specs.Trees.{Expr, Exprs, word_expr, num_expr, form_expr, nil, ◌▸◌, Line, let_line, show_line, total_line, apart_line, signless}
use Rattle.sheets.specs.Kinds.{Kind, number, len, kind_of, kind_code}
use Rattle.sheets.specs.Table.{on, table}
use Rattle.sheets.specs.Lookup.{Hit, find, find_kind}
use Rattle.sheets.specs.Names.{Given, Known, lookup, reading_words, given_on}
use Rattle.sheets.specs.Scopes.{Scope, opened, give}
use Rattle.sheets.specs.Limits.{num_value, in_limit}
use Rattle.sheets.specs.Entries.{total}
use Rattle.sheets.specs.Refusals.{Fault, name, kind, Checked, fine, bad, thenᶜ, known?}
use Rattle.sheets.specs.Aparts.{fixes, stand_apart}
use Rattle.sheets.specs.Machine.{Out, goes, stops, sticks, after, then, or_sticks, test, met, meet, made, result, provided, apply_row, eval, evals, State, rescoped, step, readings, held_apart}
use Rattle.sheets.specs.Check.{kind_of_expr, kinds_of_exprs, Stateᶜ, lineᶜ, noted, stepᶜ, reading_kinds}
use Rattle.sheets.proofs.rows.FindKind.{given, mapped, find-kind}
use Rattle.sheets.proofs.rows.Kept.{Kept, OfHit, kept-find}
use Rattle.sheets.proofs.Alike.{Each₂, Both?, Match, KnownLike, ScopeLike, lookup-like, give-like}

-- what the machine came to and what the check found, where R holds of a result and what the check sees of it
abbrev pub Agree : {A B : Type 0} → (A → B → Type 0) → Out A → Checked B → Type 0
Agree {B = B} R (goes fs x) c = (y : B) × (c ≡ fine y) × R x y
Agree R (stops fs r) c = Unit {0}
Agree R (sticks fs) c = (f : Fault) × (c ≡ bad f)

agree_after : {A B : Type 0} (R : A → B → Type 0) (fs : List LocalFrame) (o : Out A) (c : Checked B) → Agree R o c → Agree R (after fs o) c
agree_after R fs (goes hs x) c p = p
agree_after R fs (stops hs r) c p = p
agree_after R fs (sticks hs) c p = p

-- one step after another
agree_then : {A B C D : Type 0} (R : A → B → Type 0) (S : C → D → Type 0) (o : Out A) (c : Checked B) (k : A → Out C) (q : B → Checked D)
    → Agree R o c → ((x : A) (y : B) → R x y → Agree S (k x) (q y)) → Agree S (then o k) (thenᶜ c q)
agree_then R S (goes fs x) c k q p t = agree_after S fs (k x) (thenᶜ c q) (subst (λ z. Agree S (k x) (thenᶜ z q)) (sym p.1) (t x p.0 p.2))
agree_then R S (stops fs r) c k q p t = tt
agree_then R S (sticks fs) c k q p t = (p.0, ap (λ z. thenᶜ z q) p.1)

-- the check sees the value's kind
abbrev pub Sees : Value → Kind → Type 0
Sees x k = kind_of x ≡ k

-- a test that the check does not make
agree-test : (fs : List LocalFrame) (b : Bool) (x : Value) (k : Kind) → kind_of x ≡ k → Agree Sees (test fs b x) (fine k)
agree-test fs true x k r = (k, refl, r)
agree-test fs false x k r = tt

-- where the machine sticks by the check's own test
agree-sticks : {A B : Type 0} (R : A → B → Type 0) (c : Checked A) (d : Checked B) → Match R c d → Agree R (or_sticks c) d
agree-sticks R (fine x) (fine y) r = (y, refl, r)
agree-sticks R (fine x) (bad g) r = absurd r
agree-sticks R (bad f) (fine y) r = absurd r
agree-sticks R (bad f) (bad g) r = (g, refl)

-- ---- expressions

kinds-seen : (xs : List Value) (ks : List Kind) → Each₂ Sees xs ks → map kind_of xs ≡ ks
kinds-seen [] [] r = refl
kinds-seen [] (k ∷ ks) r = absurd r
kinds-seen (x ∷ xs) [] r = absurd r
kinds-seen (x ∷ xs) (k ∷ ks) r = ap₂ (λ j js. j ∷ js) r.0 (kinds-seen xs ks r.1)

agree-meet : (o : Option Value) (p : Option Kind) → Both? Sees o p → Agree Sees (meet o) (known? name p)
agree-meet none none r = (name, refl)
agree-meet none (some k) r = absurd r
agree-meet (some x) none r = absurd r
agree-meet (some x) (some k) r = agree-test [] (in_limit x) x k r

agree-word : (w : Word) (ps : Known Value) (ks : Known Kind) → KnownLike Sees ps ks → Agree Sees (meet (lookup w ps)) (known? name (lookup w ks))
agree-word w ps ks l = agree-meet (lookup w ps) (lookup w ks) (lookup-like Sees w ps ks l)

agree-provided : (b : Bool) (k : Unit {0} → Out Value) (c : Checked Kind) → Agree Sees (k tt) c → Agree Sees (provided b k) c
agree-provided true k c p = p
agree-provided false k c p = tt

agree-row : (e : Ellipsoid) (o : Option Hit) → OfHit Kept o → Agree Sees (apply_row e o) (known? kind (mapped given o))
agree-row e none k = (kind, refl)
agree-row e (some h) k =
    let r = h.row in
    let x = on r.takes (r.apply e) h.args in
    agree-provided (on r.takes (r.centred e) h.args) (λ u. result x) (fine (given h)) (agree-test (made x) (in_limit x) x (given h) (k e h.args))

mutual
  unfolding eval kind_of_expr

  pub agree-eval : (x : Expr) (e : Ellipsoid) (ps : Known Value) (ks : Known Kind) → KnownLike Sees ps ks → Agree Sees (eval x e ps) (kind_of_expr x ks)
  agree-eval (word_expr w) e ps ks l = agree-word w ps ks l
  agree-eval (num_expr q) e ps ks l = agree-test [] (in_limit (Number (num_value q))) (Number (num_value q)) number refl
  agree-eval (form_expr w xs) e ps ks l =
      agree_then (Each₂ Sees) Sees (evals xs e ps) (kinds_of_exprs xs ks) _ _ (agree-evals xs e ps ks l)
      (λ vs js r. subst (λ o. Agree Sees (apply_row e (find table w vs)) (known? kind o)) (find-kind table w vs ∙ ap (find_kind table w) (kinds-seen vs js r)) (agree-row e (find table w vs) (kept-find w vs)))

  pub agree-evals : (xs : Exprs) (e : Ellipsoid) (ps : Known Value) (ks : Known Kind) → KnownLike Sees ps ks → Agree (Each₂ Sees) (evals xs e ps) (kinds_of_exprs xs ks)
  agree-evals nil e ps ks l = ([], refl, tt)
  agree-evals (x ▸ xs) e ps ks l =
      agree_then Sees (Each₂ Sees) (eval x e ps) (kind_of_expr x ks) _ _ (agree-eval x e ps ks l) (λ y j p.
      agree_then (Each₂ Sees) (Each₂ Sees) (evals xs e ps) (kinds_of_exprs xs ks) _ _ (agree-evals xs e ps ks l) (λ ys js r. (j ∷ js, refl, (p, r))))

-- ---- lines

-- the check's state is alike
abbrev pub View : State → Stateᶜ → Type 0
View s c = ScopeLike Sees s.scope c.scope

-- what a line leaves is alike
abbrev Leaving : State → ℕ × Scope Kind → Type 0
Leaving s p = ScopeLike Sees s.scope p.1

-- a scope that both come to
agree-scope : (s : State) (n : ℕ) (o : Checked (Scope Value)) (p : Checked (Scope Kind)) → Match (ScopeLike Sees) o p → Agree Leaving (rescoped s o) (thenᶜ p (λ d. fine (n, d)))
agree-scope s n o p r = agree_then (ScopeLike Sees) Leaving (or_sticks o) p _ _ (agree-sticks (ScopeLike Sees) o p r) (λ x y l. ((n, y), refl, l))

agree-line : (i : ℕ) (s : State) (c : Scope Kind) (x : Line) → ScopeLike Sees s.scope c → Agree Leaving (step i s x) (lineᶜ i c x)
unfolding step lineᶜ
agree-line i s c (let_line w x) l =
    agree_then Sees Leaving (eval x s.ellipsoid s.scope.known) (kind_of_expr x c.known) _ _ (agree-eval x s.ellipsoid s.scope.known c.known l.known_like) (λ y k r.
    let g : Given Value = given_on i w y in
    let h : Given Kind = given_on i w k in
    agree-scope s (kind_code k) (give g s.scope) (give h c) (give-like Sees g h s.scope c (refl, refl, r) l))
agree-line i s c (show_line w) l =
    agree_then Sees Leaving (meet (lookup w s.scope.known)) (known? name (lookup w c.known)) _ _ (agree-word w s.scope.known c.known l.known_like) (λ y k r. ((kind_code k, c), refl, l))
agree-line i s c total_line l = agree_then Sees Leaving (met (Metres (total s.entries))) (fine len) _ _ (agree-test [] (in_limit (Metres (total s.entries))) (Metres (total s.entries)) len refl) (λ y k r. ((2, c), refl, l))
agree-line i s c (apart_line q) l =
    let x = Number (num_value (signless q)) in
    agree_then Sees Leaving (met x) (fine number) _ _ (agree-test [] (in_limit x) x number refl) (λ y k r. go (stand_apart (num_value (signless q)) (fixes s.entries)))
  where
    go : (b : Bool) → Agree Leaving (held_apart b s) (fine (254, c))
    go true = ((254, c), refl, l)
    go false = tt

pub agree-step : (i : ℕ) (s : State) (c : Stateᶜ) (x : Line) → View s c → Agree View (step i s x) (stepᶜ i c x)
unfolding stepᶜ
agree-step i s c x l = go (step i s x) (lineᶜ i c.scope x) (agree-line i s c.scope x l)
  where
    go : (o : Out State) (p : Checked (ℕ × Scope Kind)) → Agree Leaving o p → Agree View o (thenᶜ p (λ q. fine (noted c q)))
    go (goes fs t) p (q, e, r) = (noted c q, ap (λ p. thenᶜ p (λ q. fine (noted c q))) e, r)
    go (stops fs r) p h = tt
    go (sticks fs) p (f, e) = (f, ap (λ p. thenᶜ p (λ q. fine (noted c q))) e)

-- a reading is n
readings-seen : (ws : List Word) (rs : List Float) → KnownLike Sees (readings ws rs) (map (λ w. given_on 0 w number) ws)
readings-seen [] rs = tt
readings-seen (w ∷ ws) [] = ((refl, refl, refl), readings-seen ws [])
readings-seen (w ∷ ws) (r ∷ rs) = ((refl, refl, refl), readings-seen ws rs)

pub start_seen : (rs : List Float) → ScopeLike Sees (opened (readings reading_words rs)) (opened reading_kinds)
start_seen rs = record { known_like = readings-seen reading_words rs; given_like = tt }
