-- The check's walk over the lines, a turn at a time, and the whole sheet: a law for each way out of `walk_lines`, `unless_bad` and `admit`. Assumes nothing.
use Prim.Native.Nat.{ℕ, suc, ◌+◌, ◌-◌, ◌<◌, ◌≤◌}
use native.Mathlib.Omega.{arith}
use mathlib.Core.Path.{◌≡◌, refl, sym, ap, ◌∙◌, subst}
use mathlib.Core.Bool.{Bool, true, false}
use mathlib.Core.List.{List, [], ◌∷◌, ◌++◌}
use lib.ListN.{length, take, set}
use lib.Seq.{take-suc-set, length-take-le}
use Rattle.frames.specs.declared.Ellipsoid.{Ellipsoid}
use Rattle.sheets.specs.Text.{Word}
use Rattle.sheets.specs.Trees.{Line, let_line, show_line, total_line, Head, Sheet, numbered, apart_line}
use Rattle.sheets.specs.Grammar.{IsLine, after}
use Rattle.sheets.specs.code.reader.Codes.{code_of}
use Rattle.sheets.specs.code.reader.Reader.{Got, none as no_got, got, read_line, read_head, Form, formed, bad_line, ◌thenᶠ◌, lines_step, read_lines, sheet_step, read_sheet}
use Rattle.sheets.specs.code.reader.Views.{lines_form}
use Rattle.sheets.specs.code.check.FirstLines.{first_in, first_of}
use Rattle.sheets.specs.Kinds.{Kind}
use Rattle.sheets.specs.Scopes.{Scope}
use Rattle.sheets.specs.Refusals.{Fault, name, kind, fault, Checked, fine, bad, thenᶜ}
use Rattle.sheets.specs.Check.{Stateᶜ, lineᶜ, noted, stepᶜ, Walked, passes, refuses, onwardᶜ, stepsᶜ, startᶜ, walk}
use Rattle.sheets.specs.Admitted.{LineFits}
use Rattle.sheets.specs.Answers.{ranged, of_walked, of_form}
use Rattle.sheets.specs.Machine.{surface}
use Rattle.sheets.specs.declared.check.first_line.FirstLine.{FirstLine}
use Rattle.sheets.specs.LineNumbers.{line_number}
use Rattle.sheets.proofs.reader.Spans.{holds_at}
use Rattle.sheets.proofs.reader.LineNumbers.{number-next}
use Rattle.sheets.proofs.reader.LineLaws.{LineStands, line-sound}
use Rattle.sheets.proofs.reader.Walks.{lines_end, lines-over, lines_step_lem, Step, walk-line}
use Rattle.sheets.specs.declared.check.names.Names.{Names}
use Rattle.sheets.specs.code.check.Newest.{no_names, with_name}
use Rattle.sheets.specs.code.check.Walking.{kind_from, Stands, line_word, line_said, LineHas, Outcome, Walks, LinesWalk, unless_bad, Admits}
use Rattle.sheets.specs.declared.check.admit.LineKind.{LineKind}
use Rattle.std.specs.Prelude.{Option, Some, None, Result, Ok, Err}
use Rattle.sheets.specs.declared.refusals.Refusal.{Refusal as Code}
use Rattle.sheets.specs.declared.refusals.Refused.{Refused}
use Rattle.sheets.specs.code.Refusals.{code_for}
use Rattle.sheets.proofs.check.NewestLaws.{newest-none}
use Rattle.sheets.proofs.check.LinesExact.{Leaves, leaves}
use Rattle.sheets.proofs.check.PassedLaws.{reading-is, stands-given, stands-shown, stands-blank}

-- ---- a line of the walk: p is its code and what it leaves

steps-fine : (l : Line) (ls : List Line) (i : ℕ) (s : Stateᶜ) (p : ℕ × Scope Kind) → lineᶜ i s.scope l ≡ fine p → stepsᶜ (numbered i (l ∷ ls)) s ≡ stepsᶜ (numbered (suc i) ls) (noted s p)
unfolding stepsᶜ stepᶜ
steps-fine l ls i s p e = ap (λ o. onwardᶜ (thenᶜ o (λ p. fine (noted s p))) i (λ t. stepsᶜ (numbered (suc i) ls) t)) e

steps-bad : (l : Line) (ls : List Line) (i : ℕ) (s : Stateᶜ) (f : Fault) → lineᶜ i s.scope l ≡ bad f → stepsᶜ (numbered i (l ∷ ls)) s ≡ refuses f i
unfolding stepsᶜ stepᶜ
steps-bad l ls i s f e = ap (λ o. onwardᶜ (thenᶜ o (λ p. fine (noted s p))) i (λ t. stepsᶜ (numbered (suc i) ls) t)) e

laid-after : (codes : List ℕ) (n : ℕ) → n < length codes → (s : Stateᶜ) (k : ℕ) → take n codes ≡ 255 ∷ s.codes → take (n + 1) (set codes n k) ≡ 255 ∷ (s.codes ++ (k ∷ []))
laid-after codes n h s k e =
    let en : n + 1 ≡ suc n = omega arith in
    ap (λ j. take j (set codes n k)) en ∙ take-suc-set codes n k h ∙ ap (λ z. z ++ (k ∷ [])) e

-- what the walk meets is not the form
not-form : (f : Fault) → Code.Form ≡ code_for (fault f) → ⊥
not-form name e = let z : ◌≡◌ {A = ℕ} 0 1 = cc in omega arith
not-form kind e = let z : ◌≡◌ {A = ℕ} 0 1 = cc in omega arith

abbrev pub refused_by : Code → ℕ → Outcome
refused_by why j = Err (record { refusal = why; line = j })

-- ---- readings put together

alone : (f : Form (List Line)) → f ≡ (f thenᶠ (λ ls. formed ls))
unfolding ◌thenᶠ◌
alone (formed ls) = refl
alone (bad_line j) = refl

twice : (f : Form (List Line)) (g h : List Line → List Line) → ((f thenᶠ (λ ls. formed (g ls))) thenᶠ (λ ls. formed (h ls))) ≡ (f thenᶠ (λ ls. formed (h (g ls))))
unfolding ◌thenᶠ◌
twice (formed ls) g h = refl
twice (bad_line j) g h = refl

-- ---- the walk, where so many lines after line 1 are passed and the next one stands at a place: its number is one more than the LFs before it, and those before it were read, and make the state

pub record Midway (s : List ℕ) (start at passed : ℕ) (names : Names) : Type 0 where
  pub has_number : passed + 2 ≡ line_number s at
  pub before : List Line → List Line
  pub phase : ℕ
  pub state : Stateᶜ
  pub whole : read_lines 95 2 0 s start ≡ (read_lines (95 - passed) (passed + 2) phase s at thenᶠ (λ ls. formed (before ls)))
  pub walked : (ls : List Line) → stepsᶜ (numbered 2 (before ls)) startᶜ ≡ stepsᶜ (numbered (passed + 2) ls) state
  pub stands : Stands names passed state.scope.known
  pub laid : take (passed + 1) names.kinds ≡ 255 ∷ state.codes

pub midway_start : (s t : List ℕ) (at : ℕ) → s ≡ t → 2 ≡ line_number t at → (names : Names) → names ≡ no_names → Midway s at at 0 names
unfolding kind_from
midway_start s t at e two names en = rw en record { has_number = two ∙ ap (λ x. line_number x at) (sym e); before = λ ls. ls; phase = 0; state = startᶜ; whole = alone (read_lines 95 2 0 s at); walked = λ ls. refl; stands = record { from = newest-none; is = reading-is }; laid = refl }

-- of bytes that are the same
pub walk_same : (s t : List ℕ) → s ≡ t → (start : ℕ) (e : Ellipsoid) (a : Outcome) → LinesWalk (read_lines 95 2 0 s start) e start a → LinesWalk (read_lines 95 2 0 t start) e start a
walk_same s t h start e a w = subst (λ l. LinesWalk (read_lines 95 2 0 l start) e start a) h w

module _ (s : List ℕ) (start at passed : ℕ) (names : Names) (m : Midway s start at passed names) where
  -- the lines from this place on
  abbrev onward : Form (List Line)
  onward = read_lines (95 - passed) (passed + 2) m.phase s at

  -- a answers the whole
  abbrev pub Answers : Ellipsoid → Outcome → Type 0
  Answers e a = LinesWalk (read_lines 95 2 0 s start) e start a

  came : (f : Form (List Line)) → onward ≡ f → read_lines 95 2 0 s start ≡ (f thenᶠ (λ ls. formed (m.before ls)))
  came f e = m.whole ∙ ap (λ f. f thenᶠ (λ ls. formed (m.before ls))) e

  walk-bad : (j : ℕ) → onward ≡ bad_line j → (e : Ellipsoid) (a : Outcome) → a ≡ refused_by Code.Form j → Answers e a
  unfolding ◌thenᶠ◌ LinesWalk
  walk-bad j h e a ea = subst (λ f. LinesWalk f e start a) (sym (came (bad_line j) h)) ea

  walk-formed : (ls : List Line) → onward ≡ formed ls → (e : Ellipsoid) (a : Outcome) → Walks (stepsᶜ (numbered (passed + 2) ls) m.state) e start a → Answers e a
  unfolding ◌thenᶠ◌ LinesWalk
  walk-formed ls h e a w = subst (λ f. LinesWalk f e start a) (sym (came (formed ls) h)) (subst (λ o. Walks o e start a) (sym (m.walked ls)) w)

  pub walk-done : length s ≤ at → (e : Ellipsoid) → Answers e (Ok (record { lines = passed + 1; ellipsoid = e; start = start; codes = names.kinds }))
  unfolding Walks stepsᶜ
  walk-done h e =
      let few = m.stands.from.few in
      let n : length (255 ∷ m.state.codes) ≡ passed + 1 = ap length (sym m.laid) ∙ length-take-le (passed + 1) names.kinds (omega (arith, few, m.stands.from.sizes.1)) in
      walk-formed [] (lines_end s at (passed + 2) m.phase (95 - passed) h) e _ (names.kinds, ap (λ k. Ok (record { lines = k; ellipsoid = e; start = start; codes = names.kinds })) (sym n), omega (arith, few), ap (λ k. take k names.kinds) n ∙ m.laid)

  module _ (h : at < length s) where
    pub walk-over : 95 ≤ passed → (e : Ellipsoid) (a : Outcome) → a ≡ refused_by Code.Form 97 → Answers e a
    walk-over l e a ea =
        let i : passed + 2 ≡ 97 = omega (arith, m.stands.from.few) in
        walk-bad (passed + 2) (lines-over s at (passed + 2) m.phase (95 - passed) (omega (arith, m.stands.from.few)) h) e a (ea ∙ ap (refused_by Code.Form) (sym i))

    -- r is what the line came to
    module _ (r : Result LineKind Code) (hr : LineHas (read_line s at) (passed + 2) m.state.scope r) (le : passed < 95) where
      -- a 3 is final: what the reader reads is never refused by it
      pub walk-three : r ≡ Err Code.Form → (e : Ellipsoid) (a : Outcome) → a ≡ refused_by Code.Form (passed + 2) → Answers e a
      unfolding line_said lines_step
      walk-three er e a ea =
          walk-bad (passed + 2) (
          lines_step_lem s at (passed + 2) m.phase (95 - passed) (omega arith) h
          ∙ ap (λ o. lines_step false (passed + 2) o (λ l. read_lines (95 - passed - 1) (passed + 2 + 1) (after m.phase l) s)) (unread (read_line s at) refl))
          e a ea
        where
          refuted : (w : Word) (q : Checked (ℕ × Scope Kind)) (n : ℕ) → r ≡ line_said w q n → ⊥
          refuted w (fine p) n i = let z : ◌≡◌ {A = ℕ} 0 1 = cc in omega arith
          refuted w (bad f) n i = let z : Code.Form ≡ code_for (fault f) = cc in not-form f z

          unread : (o : Got Line) → read_line s at ≡ o → read_line s at ≡ no_got
          unread no_got eo = eo
          unread (got l n) eo = absurd (refuted (line_word l) (lineᶜ (passed + 2) m.state.scope l) n (hr.is l n eo))

      pub walk-fault : (why : Code) → r ≡ Err why → (e : Ellipsoid) (a : Outcome)
          → a ≡ Err (unless_bad (lines_form (passed + 2) (read_lines (97 - (passed + 2)) (passed + 2) m.phase s at)) (record { refusal = why; line = passed + 2 })) → Answers e a
      unfolding Walks line_said lines_form unless_bad
      walk-fault why er e a ea =
          let i : 97 - (passed + 2) ≡ 95 - passed = omega arith in
          go onward refl (ea ∙ ap (λ k. Err (unless_bad (lines_form (passed + 2) (read_lines k (passed + 2) m.phase s at)) (record { refusal = why; line = passed + 2 }))) i)
        where
          go : (f : Form (List Line)) → onward ≡ f → a ≡ Err (unless_bad (lines_form (passed + 2) f) (record { refusal = why; line = passed + 2 })) → Answers e a
          go (bad_line j) ef ea = walk-bad j ef e a ea
          go (formed ls) ef ea =
              walk-formed ls ef e a (subst (λ ls. Walks (stepsᶜ (numbered (passed + 2) ls) m.state) e start a) (sym now.all)
              (refuse (lineᶜ (passed + 2) m.state.scope now.line) refl (hr.is now.line now.next now.stands)))
            where
              now : Step s (95 - passed) (passed + 2) m.phase at ls ef
              now = walk-line s (95 - passed) (passed + 2) m.phase at ls ef h

              refuse : (q : Checked (ℕ × Scope Kind)) → lineᶜ (passed + 2) m.state.scope now.line ≡ q → r ≡ line_said (line_word now.line) q now.next
                  → Walks (stepsᶜ (numbered (passed + 2) (now.line ∷ now.rest)) m.state) e start a
              refuse (fine p) eq i = let z : ◌≡◌ {A = ℕ} 0 1 = cc in absurd (omega arith)
              refuse (bad f) eq i =
                  let j : why ≡ code_for (fault f) = cc in
                  subst (λ q. Walks q e start a) (sym (steps-bad now.line now.rest (passed + 2) m.state f eq)) (ea ∙ ap (λ k. refused_by k (passed + 2)) j)

      module _ (y : LineKind) (er : r ≡ Ok y) where
        stands_after : (l : Line) → IsLine l → (p : ℕ × Scope Kind) → LineFits (passed + 2) m.state.scope.known l p.1.known p.0
            → Stands (with_name names (code_of (line_word l)) p.0 (passed + 1)) (passed + 1) p.1.known
        stands_after (let_line w x) hl p (k, has, free, new, e, en) = rw (← e, ← en) (stands-given names passed m.state.scope.known m.stands le w hl.0.1.0 k (passed + 2))
        stands_after (show_line w) hl p (k, has, e, en) = rw (← e, ← en) (stands-shown names passed m.state.scope.known m.stands le w hl.0.1.0 k has)
        stands_after total_line hl p (e, en) = rw (← e) (stands-blank names passed m.state.scope.known m.stands le p.0)
        stands_after (apart_line q) hl p (e, en) = rw (← e) (stands-blank names passed m.state.scope.known m.stands le p.0)

        whole-after : (l : Line) → read_line s at ≡ got l y.next
            → read_lines 95 2 0 s start ≡ (read_lines (95 - (passed + 1)) (passed + 1 + 2) (after m.phase l) s y.next thenᶠ (λ ls. formed (m.before (l ∷ ls))))
        unfolding lines_step
        whole-after l el =
            let p = after m.phase l in
            let ek : 95 - passed - 1 ≡ 95 - (passed + 1) = omega arith in
            let ei : passed + 2 + 1 ≡ passed + 1 + 2 = omega arith in
            let there = read_lines (95 - (passed + 1)) (passed + 1 + 2) p s y.next in
            came (there thenᶠ (λ ls. formed (l ∷ ls))) (
            lines_step_lem s at (passed + 2) m.phase (95 - passed) (omega arith) h
            ∙ ap (λ o. lines_step false (passed + 2) o (λ l. read_lines (95 - passed - 1) (passed + 2 + 1) (after m.phase l) s)) el
            ∙ ap (λ k. read_lines k (passed + 2 + 1) p s y.next thenᶠ (λ ls. formed (l ∷ ls))) ek
            ∙ ap (λ i. read_lines (95 - (passed + 1)) i p s y.next thenᶠ (λ ls. formed (l ∷ ls))) ei)
            ∙ twice there (λ ls. l ∷ ls) m.before

        walked-after : (l : Line) (p : ℕ × Scope Kind) → lineᶜ (passed + 2) m.state.scope l ≡ fine p → (ls : List Line)
            → stepsᶜ (numbered 2 (m.before (l ∷ ls))) startᶜ ≡ stepsᶜ (numbered (passed + 1 + 2) ls) (noted m.state p)
        walked-after l p e ls =
            let ei : suc (passed + 2) ≡ passed + 1 + 2 = omega arith in
            m.walked (l ∷ ls) ∙ steps-fine l ls (passed + 2) m.state p e ∙ ap (λ i. stepsᶜ (numbered i ls) (noted m.state p)) ei

        pub walk-on : (later : Names) → later ≡ with_name names y.code y.kind (passed + 1) → Midway s start y.next (passed + 1) later
        unfolding line_said
        walk-on later et = let (l, el) = hr.read y er in go l el (lineᶜ (passed + 2) m.state.scope l) refl (hr.is l y.next el)
          where
            go : (l : Line) → read_line s at ≡ got l y.next → (q : Checked (ℕ × Scope Kind)) → lineᶜ (passed + 2) m.state.scope l ≡ q → r ≡ line_said (line_word l) q y.next
                → Midway s start y.next (passed + 1) later
            go l el (fine p) eq e =
                let es : ◌≡◌ {A = LineKind} (record { code = code_of (line_word l); kind = p.0; next = y.next }) y = cc in
                let ec : code_of (line_word l) ≡ y.code = ap (λ (x : LineKind). x.code) es in
                let ek : p.0 ≡ y.kind = ap (λ (x : LineKind). x.kind) es in
                let line : IsLine l = (holds_at (LineStands s at) (read_line s at) l y.next (line-sound s at) el).1 in
                let fits = subst (Leaves (passed + 2) m.state.scope l) eq (leaves (passed + 2) m.state.scope l) in
                let ei : passed + 2 + 1 ≡ passed + 1 + 2 = omega arith in
                record {
                  has_number = sym ei ∙ number-next s l at y.next el (passed + 2) m.has_number;
                  before = λ ls. m.before (l ∷ ls);
                  phase = after m.phase l;
                  state = noted m.state p;
                  whole = whole-after l el;
                  walked = walked-after l p eq;
                  stands = rw (et, ← ec, ← ek) (stands_after l line p fits);
                  laid = rw (et, ← ek) (laid-after names.kinds (passed + 1) (omega (arith, m.stands.from.sizes.1)) m.state p.0 m.laid);
                }
            go l el (bad f) eq e = let z : ◌≡◌ {A = ℕ} 0 1 = cc in absurd (omega arith)

-- ---- the form pass after a refusal

module _ (o : Form (List Line)) (from : ℕ) (f : Result ℕ ℕ) (ef : f ≡ lines_form from o) (n : ℕ) (r : Refused) where
  pub unless-bad : f ≡ Err n → (q : Refused) → q ≡ record { refusal = Code.Form; line = n } → q ≡ unless_bad (lines_form from o) r
  unfolding unless_bad
  unless-bad h q eq = eq ∙ ap (λ f. unless_bad f r) (sym h ∙ ef)

  pub unless-fine : f ≡ Ok n → r ≡ unless_bad (lines_form from o) r
  unfolding unless_bad
  unless-fine h = ap (λ f. unless_bad f r) (sym h ∙ ef)

-- ---- the whole sheet: q is what line 1 came to

module _ (s : List ℕ) (q : Option FirstLine) (eq : q ≡ first_of (read_head s)) (a : Outcome) where
  -- the sheet by its line 1 and its lines
  abbrev Answered : Got Head → Type 0
  Answered o = Admits s (of_form (sheet_step o (read_lines 95 2 0 s))) a

  by-head : ((o : Got Head) → read_head s ≡ o → first_of o ≡ q → Answered o) → Admits s (of_form (read_sheet s)) a
  unfolding read_sheet
  by-head g = g (read_head s) refl (sym eq)

  pub admit-no-head : q ≡ None → a ≡ refused_by Code.Form 1 → Admits s (of_form (read_sheet s)) a
  unfolding sheet_step first_of Admits
  admit-no-head h ea = by-head go
    where
      go : (o : Got Head) → read_head s ≡ o → first_of o ≡ q → Answered o
      go no_got eo e = ea
      go (got x m) eo e = let z : ◌≡◌ {A = ℕ} 0 1 = cc in absurd (omega arith)

  module _ (r : FirstLine) (er : q ≡ Some r) where
    -- by what the reader reads of line 1
    by-read : ((x : Head) → read_head s ≡ got x r.next → r.ellipsoid ≡ first_in (ranged x) (surface x) → Answered (got x r.next)) → Admits s (of_form (read_sheet s)) a
    unfolding first_of
    by-read g = by-head go
      where
        go : (o : Got Head) → read_head s ≡ o → first_of o ≡ q → Answered o
        go no_got eo e = let z : ◌≡◌ {A = ℕ} 0 1 = cc in absurd (omega arith)
        go (got x k) eo e =
            let same : ◌≡◌ {A = FirstLine} (record { ellipsoid = first_in (ranged x) (surface x); next = k }) r = cc in
            let en : k ≡ r.next = ap (λ (z : FirstLine). z.next) same in
            subst (λ k. Answered (got x k)) (sym en) (g x (eo ∙ ap (got x) en) (sym (ap (λ (z : FirstLine). z.ellipsoid) same)))

    pub admit-out-of-range : r.ellipsoid ≡ None → a ≡ Err (unless_bad (lines_form 2 (read_lines 95 2 0 s r.next)) (record { refusal = Code.Ellipsoid; line = 1 })) → Admits s (of_form (read_sheet s)) a
    unfolding sheet_step Admits unless_bad lines_form ◌thenᶠ◌
    admit-out-of-range h ea = by-read (λ x eo ex. in-it (ranged x) x refl (sym h ∙ ex))
      where
        by_lines : (x : Head) (f : Form (List Line)) → ranged x ≡ false → a ≡ Err (unless_bad (lines_form 2 f) (record { refusal = Code.Ellipsoid; line = 1 })) → Admits s (of_form (f thenᶠ (λ ls. formed (record { head = x; lines = ls })))) a
        by_lines x (bad_line j) er e = e
        by_lines x (formed ls) er e = rw er e

        in-it : (b : Bool) (x : Head) → ranged x ≡ b → None ≡ first_in b (surface x) → Answered (got x r.next)
        in-it true x er e = let z : ◌≡◌ {A = ℕ} 0 1 = cc in absurd (omega arith)
        in-it false x er e = by_lines x (read_lines 95 2 0 s r.next) er ea

    pub admit-in-range : (d : Ellipsoid) → r.ellipsoid ≡ Some d → LinesWalk (read_lines 95 2 0 s r.next) d r.next a → Admits s (of_form (read_sheet s)) a
    unfolding sheet_step Admits LinesWalk Walks walk ◌thenᶠ◌
    admit-in-range d h w = by-read (λ x eo ex. in-it (ranged x) x eo refl (sym h ∙ ex))
      where
        by-walk : (c : Sheet) → read_head s ≡ got c.head r.next → read_lines 95 2 0 s r.next ≡ formed c.lines → (o : Walked) → Walks o (surface c.head) r.next a → Admits s (of_walked c o) a
        by-walk c eh el (passes cs) t = (r.next, eh, el, t)
        by-walk c eh el (refuses x j) t = t

        by_lines : (x : Head) (f : Form (List Line)) → read_head s ≡ got x r.next → read_lines 95 2 0 s r.next ≡ f → ranged x ≡ true → LinesWalk f (surface x) r.next a → Admits s (of_form (f thenᶠ (λ ls. formed (record { head = x; lines = ls })))) a
        by_lines x (bad_line j) eh ef er t = t
        by_lines x (formed ls) eh ef er t = rw er (by-walk (record { head = x; lines = ls }) eh ef (stepsᶜ (numbered 2 ls) startᶜ) t)

        in-it : (b : Bool) (x : Head) → read_head s ≡ got x r.next → ranged x ≡ b → Some d ≡ first_in b (surface x) → Answered (got x r.next)
        in-it true x eo er e =
            let j : d ≡ surface x = cc in
            by_lines x (read_lines 95 2 0 s r.next) eo refl er (subst (λ d. LinesWalk (read_lines 95 2 0 s r.next) d r.next a) j w)
        in-it false x eo er e = let z : ◌≡◌ {A = ℕ} 0 1 = cc in absurd (omega arith)
