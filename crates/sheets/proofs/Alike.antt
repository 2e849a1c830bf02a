-- Two scopes that are alike but for what their names stand for: what is done with names comes to the same in both. Assumes nothing.
use mathlib.Core.Path.{◌≡◌, refl, ap, ap₂, ◌∙◌, subst}
use mathlib.Core.List.{List, [], ◌∷◌}
use mathlib.Core.Option.{Option, none, some}
use mathlib.Core.Bool.{Bool, true, false, ◌||◌}
use Rattle.sheets.specs.Text.{Word}
use Rattle.sheets.specs.Table.{table}
use Rattle.sheets.specs.Lookup.{same_word, opens}
use Rattle.sheets.specs.Names.{Given, Known, or_else, lookup, knows, barred}
use Rattle.sheets.specs.Scopes.{Scope, with_name, give_if, give}
use Rattle.sheets.specs.Refusals.{Checked, fine, bad}

-- one for one
abbrev pub Each₂ : {A B : Type 0} → (A → B → Type 0) → List A → List B → Type 0
Each₂ R [] [] = Unit {0}
Each₂ R [] (y ∷ ys) = ⊥
Each₂ R (x ∷ xs) [] = ⊥
Each₂ R (x ∷ xs) (y ∷ ys) = R x y × Each₂ R xs ys

-- both are there, or neither; the same fault, or two results
abbrev pub Both? : {A B : Type 0} → (A → B → Type 0) → Option A → Option B → Type 0
Both? R none none = Unit {0}
Both? R none (some y) = ⊥
Both? R (some x) none = ⊥
Both? R (some x) (some y) = R x y

abbrev pub Match : {A B : Type 0} → (A → B → Type 0) → Checked A → Checked B → Type 0
Match R (fine x) (fine y) = R x y
Match R (fine x) (bad g) = ⊥
Match R (bad f) (fine y) = ⊥
Match R (bad f) (bad g) = f ≡ g

module _ {A B : Type 0} (R : A → B → Type 0) where
  abbrev pub GivenLike : Given A → Given B → Type 0
  GivenLike g h = (g.line ≡ h.line) × (g.name ≡ h.name) × R g.value h.value

  abbrev pub KnownLike : Known A → Known B → Type 0
  KnownLike gs hs = Each₂ GivenLike gs hs

  pub record ScopeLike (s : Scope A) (t : Scope B) : Type 0 where
    pub known_like : KnownLike s.known t.known
    pub given_like : KnownLike s.given t.given

  -- ---- words

  pub lookup-like : (w : Word) (gs : Known A) (hs : Known B) → KnownLike gs hs → Both? R (lookup w gs) (lookup w hs)
  lookup-like w [] [] r = tt
  lookup-like w [] (h ∷ hs) r = absurd r
  lookup-like w (g ∷ gs) [] r = absurd r
  lookup-like w (g ∷ gs) (h ∷ hs) r =
      subst (λ (v : Word). Both? R (lookup w (g ∷ gs)) (or_else (same_word w v) h.value (lookup w hs))) r.0.1 (go (same_word w g.name) (lookup w gs) (lookup w hs) (lookup-like w gs hs r.1))
    where
      go : (b : Bool) (o : Option A) (p : Option B) → Both? R o p → Both? R (or_else b g.value o) (or_else b h.value p)
      go true o p k = r.0.2
      go false o p k = k

  knows-like : (w : Word) (gs : Known A) (hs : Known B) → KnownLike gs hs → knows w gs ≡ knows w hs
  knows-like w [] [] r = refl
  knows-like w [] (h ∷ hs) r = absurd r
  knows-like w (g ∷ gs) [] r = absurd r
  knows-like w (g ∷ gs) (h ∷ hs) r = ap₂ (λ a b. a || b) (ap (same_word w) r.0.1) (knows-like w gs hs r.1)

  with-name : (g : Given A) (h : Given B) (s : Scope A) (t : Scope B) → GivenLike g h → ScopeLike s t → ScopeLike (with_name g s) (with_name h t)
  with-name g h s t p r = record { known_like = (p, r.known_like); given_like = (p, r.given_like) }

  pub give-like : (g : Given A) (h : Given B) (s : Scope A) (t : Scope B) → GivenLike g h → ScopeLike s t → Match ScopeLike (give g s) (give h t)
  give-like g h s t p r =
      let e : barred g.name s.known ≡ barred h.name t.known =
      ap (λ (w : Word). opens table w || knows w s.known) p.1 ∙ ap (λ (b : Bool). opens table h.name || b) (knows-like h.name s.known t.known r.known_like) in
      subst (λ (b : Bool). Match ScopeLike (give g s) (give_if b h t)) e (go (barred g.name s.known))
    where
      go : (b : Bool) → Match ScopeLike (give_if b g s) (give_if b h t)
      go true = refl
      go false = with-name g h s t p r
