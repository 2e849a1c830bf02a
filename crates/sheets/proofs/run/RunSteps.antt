-- The run over the lines, a step at a time: a law for each way out of `run_lines` and each way round its loop. Assumes nothing.
use Rattle.std.specs.Prelude.{Option, Some, Result, Ok, Err}
use Prim.Native.Nat.{ℕ, ◌+◌, ◌*◌, ◌<◌, ◌≤◌}
use native.Mathlib.Omega.{arith}
use mathlib.Core.Path.{◌≡◌, refl, sym, ap, subst, ◌∙◌}
use mathlib.Core.Bool.{Bool, true, false}
use mathlib.Core.List.{List, [], ◌∷◌, ◌++◌}
use lib.Dec.{leb}
use lib.ListN.{length, get_or, set, replicate, length-replicate}
use lib.Ieee.{Float, of_bits, binary64}
use borrow.Author.Tests.{leb-true, leb-false}
use Rattle.numbers.specs.Ops.{num, decimal}
use Rattle.numbers.specs.Lengths.{metres}
use Rattle.frames.specs.declared.Ellipsoid.{Ellipsoid}
use Rattle.sheets.specs.declared.rows.value.Slot.{Slot}
use Rattle.sheets.specs.declared.reader.lines.WholeLine.{WholeLine}
use Rattle.sheets.specs.declared.reader.lines.LineHead.{LineHead}
use Rattle.sheets.specs.declared.answers.RunAnswer.{RunAnswer}
use Rattle.sheets.specs.declared.Halt.{Halt}
use Rattle.sheets.specs.declared.run.shown.Shown.{Shown}
use Rattle.sheets.specs.Text.{Word}
use Rattle.sheets.specs.Trees.{Expr, Line, let_line, numbered}
use Rattle.sheets.specs.Grammar.{IsWord, after as after_phase}
use Rattle.sheets.specs.LineNumbers.{line_number}
use Rattle.sheets.specs.Kinds.{kind_of, kind_code}
use Rattle.sheets.specs.Names.{given_on}
use Rattle.sheets.specs.Entries.{entry_lines, total}
use Rattle.sheets.specs.Aparts.{fixes}
use Rattle.sheets.specs.Machine.{eval, State, step, steps}
use Rattle.sheets.specs.Answers.{laid, Tells}
use Rattle.sheets.specs.Claim.{Unstuck}
use Rattle.sheets.specs.code.reader.Codes.{code_of}
use Rattle.sheets.specs.code.reader.Reader.{none as no_got, got, limit, let_word, rest, read_line, formed, read_lines}
use Rattle.sheets.specs.code.reader.Views.{line_head}
use Rattle.sheets.specs.declared.check.names.Names.{Names as Given}
use Rattle.sheets.specs.code.check.Newest as Search
use Rattle.sheets.specs.code.run.Floats.{Lies}
use Rattle.sheets.specs.code.run.Known.{Tabled, Ready}
use Rattle.sheets.specs.code.run.Keeping.{nothing_kept, Lined, FixesKept}
use Rattle.sheets.specs.code.run.Evaluating.{Evaluated, AnswersTo}
use Rattle.sheets.specs.code.run.Running.{WithReadings, LetWith, GivenAt, stopped_at, Runs}
use Rattle.sheets.specs.code.run.Wholes.{Names, LineDoes}
use Rattle.sheets.proofs.reader.LineNumbers.{number-next}
use Rattle.sheets.proofs.reader.LineSteps.{head-says}
use Rattle.sheets.proofs.reader.Inverse.{limit-read}
use Rattle.sheets.proofs.reader.Walks.{Step, walk_end, walk-line}
use Rattle.sheets.proofs.run.KnownLaws.{tabled_start, tabled-let}
use Rattle.sheets.proofs.run.ListedLaws.{listed_start, listed-let}
use Rattle.sheets.proofs.run.FixLaws.{no_lets, let_at, rising_none, rising-line, rising-let, lined-start, lined-let, fixes-none, fixes-let}
use Rattle.sheets.proofs.run.StepLaws.{onwards, line-stops, given, let-step, answers-is}
use Rattle.sheets.proofs.run.Stages.{Stage, Now}
use Rattle.sheets.proofs.run.WholeSteps.{Comes, whole-comes}

-- from there on r and out' tell what the machine comes to
pub record RunsFrom (s : List ℕ) (e : Ellipsoid) (rs : List Float) (d : List ℕ) (h : Stage) (r : RunAnswer) (out' : List ℕ) : Type 0 where
  is : (ls : List Line) (st : State) → Now s e rs d h ls st → Unstuck (steps (numbered h.line ls) st) → Tells (steps (numbered h.line ls) st) d r out'

-- whatever answers from there on answers the whole, from line 2, which stands at `start`: what the loop of `run_lines` holds
abbrev pub Decides : List ℕ → ℕ → Ellipsoid → List Float → List ℕ → Stage → Type 0
Decides s start e rs d h = (r : RunAnswer) (out' : List ℕ) → RunsFrom s e rs d h r out' → Runs s start e rs d r out'

-- the code's 0.0
zeros : replicate 2940 (of_bits binary64 0) ≡ replicate 2940 (num 0)
unfolding of_bits decimal
zeros = ap (replicate 2940) refl

sum-none : metres (num 0) ≡ total []
unfolding total
sum-none = refl

-- before line 2
abbrev first : ℕ → Given → Slot → Shown → List Float → List ℕ → Stage
first at names x k f d = record { at = at; line = 2; slots = replicate 96 x; names = names; shown = k; floats = f; n = 0; written = 0; out = d }

pub runs-start : (s : List ℕ) (at : ℕ) → 2 ≡ line_number s at → (e : Ellipsoid) (rs : List Float) (d : List ℕ) (names : Given) → names ≡ Search.no_names → (x : Slot) (k : Shown) → k ≡ nothing_kept → (f : List Float) → WithReadings rs (replicate 2940 (of_bits binary64 0)) f
    → (r : RunAnswer) (out' : List ℕ) → RunsFrom s e rs d (first at names x k f d) r out' → Runs s at e rs d r out'
unfolding fixes
runs-start s at two e rs d names none-yet x k nk f hf r out' h = record {
  is = λ size ls el st ee ek en un.
      h.is ls st (record {
        size = size;
        has_number = two;
        left = 95;
        phase = 0;
        reads = el;
        lines = omega arith;
        surface = ee;
        tabled = subst (λ ps. Tabled ps (replicate 96 x) 0 rs) (sym ek) (tabled_start rs _);
        listed = rw none-yet (listed_start _ rs f (length-replicate 96 x) (hf.is zeros).0 (hf.is zeros).1);
        lets = no_lets;
        rising = rising_none;
        lined = subst (λ ps. Lined ps names.words 0 no_lets) (sym ek) (lined-start rs _);
        kept = subst (λ es. FixesKept (fixes es) no_lets k.places f 0) (sym en) (subst (λ (k : Shown). FixesKept [] no_lets k.places f 0) (sym nk) (fixes-none no_lets f 0));
        sums = ap (λ (k : Shown). k.sum) nk ∙ sum-none ∙ ap total (sym en);
        count = ap (λ es. length (entry_lines es)) (sym en);
        bound = omega arith;
        text = ap (λ es. laid (entry_lines es) d) (sym en);
      }) un;
}

module _ {s : List ℕ} {e : Ellipsoid} {rs : List Float} {d : List ℕ} {h : Stage} where
  -- where the number is another than that of the line, no state is stood for, and any answer does
  pub runs-numbered : ((h.line ≡ line_number s h.at) → ⊥) → (r : RunAnswer) (out' : List ℕ) → RunsFrom s e rs d h r out'
  runs-numbered not r out' = record { is = λ ls st now un. absurd (not now.has_number) }

  pub runs-end : length s ≤ h.at → (r : RunAnswer) → r ≡ record { number = 0; line = 0; written = h.written } → RunsFrom s e rs d h r h.out
  unfolding steps
  runs-end over r er = record {
    is = λ ls st now un.
        let j : ls ≡ [] = walk_end s now.left h.line now.phase h.at ls now.reads over in
        rw j (er ∙ ap (λ m. record { number = 0; line = 0; written = m }) now.count, now.text);
  }

  -- there is no line 97
  pub runs-over : 96 < h.line → (r : RunAnswer) → r ≡ record { number = 0; line = 0; written = h.written } → RunsFrom s e rs d h r h.out
  runs-over high r er = go (leb (length s) h.at) refl
    where
      go : (b : Bool) → leb (length s) h.at ≡ b → RunsFrom s e rs d h r h.out
      go true q = runs-end (leb-true (length s) h.at q) r er
      go false q = record {
        is = λ ls st now un.
            let sp = walk-line s now.left h.line now.phase h.at ls now.reads (leb-false (length s) h.at q) in
            absurd (omega (arith, sp.one_less, now.lines, high));
      }

  module _ (inside : h.at < length s) where
    -- what is said of the line that stands there
    by-line : (q : RunAnswer) (out' : List ℕ)
        → ((ls : List Line) (st : State) (now : Now s e rs d h ls st) (sp : Step s now.left h.line now.phase h.at ls now.reads)
        → Unstuck (steps (numbered h.line (sp.line ∷ sp.rest)) st) → Tells (steps (numbered h.line (sp.line ∷ sp.rest)) st) d q out')
        → RunsFrom s e rs d h q out'
    by-line q out' k = record {
      is = λ ls st now un.
          let sp = walk-line s now.left h.line now.phase h.at ls now.reads inside in
          subst (λ ys. Unstuck (steps (numbered h.line ys) st) → Tells (steps (numbered h.line ys) st) d q out') (sym sp.all) (k ls st now sp) un;
    }

    -- and the next line, wherever the code has found it, has the next number
    number-after : (ls : List Line) (st : State) (now : Now s e rs d h ls st) (sp : Step s now.left h.line now.phase h.at ls now.reads) (next : ℕ) → next ≡ sp.next → h.line + 1 ≡ line_number s next
    number-after ls st now sp next en = number-next s sp.line h.at sp.next sp.stands h.line now.has_number ∙ ap (line_number s) (sym en)

    pub runs-bad : read_line s h.at ≡ no_got → (q : RunAnswer) (out' : List ℕ) → RunsFrom s e rs d h q out'
    runs-bad bad q out' = by-line q out' (λ ls st now sp un. let i = sp.stands in let z : ◌≡◌ {A = ℕ} 0 1 = cc in absurd (omega arith))

    -- ---- a let

    module _ (code value : ℕ) (says : (w : Word) × IsWord w × (code_of w ≡ code) × (read_line s h.at ≡ limit h.at (rest s (let_word w) value)))
        (r : Evaluated) (next : ℕ) (g : List Float) (hl : LetWith s value e h.names h.floats (21 * (h.n + 1)) r next g) where
      let-here : (ls : List Line) (st : State) → Now s e rs d h ls st → (y : Line) (m : ℕ) → read_line s h.at ≡ got y m
          → (x : Expr) × (y ≡ let_line says.0 x) × AnswersTo (eval x st.ellipsoid st.scope.known) m (21 * (h.n + 1)) h.floats r next g
      let-here ls st now y m el =
          let (er, short) = limit-read h.at (rest s (let_word says.0) value) y m (sym says.3 ∙ el) in
          let ready : Ready st.scope.known h.names h.floats (21 * (h.n + 1)) = record { slots = h.slots; readings = rs; n = h.n; listed = now.listed; tabled = now.tabled; below = omega arith } in
          let (x, ey, a) = hl.is st.scope.known ready says.0 y m er in
          (x, ey, subst (λ z. AnswersTo (eval x z st.scope.known) m (21 * (h.n + 1)) h.floats r next g) (sym now.surface) a)

      pub runs-let-not : (i : Halt) → r ≡ Err i → (a : RunAnswer) → a ≡ stopped_at i h.line h.written → RunsFrom s e rs d h a h.out
      unfolding step
      runs-let-not i ei a ea = by-line a h.out (λ ls st now sp un.
          let (x, ey, an) = let-here ls st now sp.line sp.next sp.stands in
          line-stops h.line st sp.line sp.rest (eval x st.ellipsoid st.scope.known) _ (ap (step h.line st) ey) i (sym ei ∙ an.answers.is) h.written now.count d h.out now.text a ea un)

      -- the name's slot is filled
      pub runs-let : (kind : ℕ) → r ≡ Ok kind → h.n < 95 → (y : Slot) (names : Given) → GivenAt code kind (h.n + 1) g h.names y names → (q : RunAnswer) (out' : List ℕ)
          → RunsFrom s e rs d (record { at = next; line = h.line + 1; slots = set h.slots (h.n + 1) y; names = names; shown = h.shown; floats = g; n = h.n + 1; written = h.written; out = h.out }) q out'
          → RunsFrom s e rs d h q out'
      runs-let kind er few y names hg q out' hr = by-line q out' (λ ls st now sp un.
          let (x, ex, an) = let-here ls st now sp.line sp.next sp.stands in
          let (fs, v, eo, ev, lies, ek) = answers-is (eval x st.ellipsoid st.scope.known) (21 * (h.n + 1)) h.floats r g an.answers kind er in
          let en = an.ends kind er in
          let ew : y.word ≡ code = ap (λ (z : Slot). z.word) hg.slot_is in
          let eu : y.value ≡ v = ap (λ (z : Slot). z.value) hg.slot_is ∙ sym ev in
          let st' = given h.line says.0 v st in
          onwards h.line st st' sp.line sp.rest (fs ++ []) (let-step h.line st says.0 x fs v eo sp.line ex sp.rest un) d q out' (hr.is sp.rest st' (record {
            size = now.size;
            has_number = number-after ls st now sp next en;
            left = sp.fewer;
            phase = after_phase now.phase sp.line;
            reads = subst (λ z. read_lines sp.fewer (h.line + 1) (after_phase now.phase sp.line) s z ≡ formed sp.rest) (sym en) sp.goes_on;
            lines = omega (arith, sp.one_less, now.lines);
            surface = now.surface;
            tabled = subst (λ z. Tabled (given_on h.line says.0 v ∷ st.scope.known) (set h.slots z y) z rs) (omega arith)
                (tabled-let st.scope.known h.slots h.n rs now.tabled (omega (arith, few, now.listed.slots)) says.0 says.1 v y (ew ∙ sym says.2) eu h.line);
            listed = rw hg.names_are (listed-let h.slots rs h.names h.floats h.n now.listed few y code kind ew (ek ∙ ap (λ z. kind_code (kind_of z)) (sym eu)) (21 * (h.n + 1)) (omega arith) g an.answers.kept (subst (Lies g (21 * (h.n + 1))) (sym eu) lies));
            lets = let_at now.lets h.n h.line;
            rising = rising-let now.lets h.n h.line now.rising;
            lined = subst (λ ws. Lined (given_on h.line says.0 v ∷ st.scope.known) ws (h.n + 1) (let_at now.lets h.n h.line)) (sym (ap (λ (x : Given). x.words) hg.names_are ∙ ap (set h.names.words (h.n + 1)) (sym says.2))) (subst (λ z. Lined (given_on h.line says.0 v ∷ st.scope.known) (set h.names.words z (code_of says.0)) z (let_at now.lets h.n h.line)) (omega arith)
                (lined-let st.scope.known h.names.words h.n now.lets now.lined (omega (arith, few, now.listed.from.sizes.0)) says.0 says.1 v h.line));
            kept = fixes-let (fixes st.entries) now.lets h.shown.places h.floats h.n now.kept h.line g an.answers.kept;
            sums = now.sums;
            count = now.count;
            bound = omega (arith, now.bound);
            text = now.text;
          })) un)

    -- ---- a line that is read whole

    module _ (head : Option LineHead) (eh : head ≡ line_head s h.at) (y : WholeLine) (next : ℕ) (is : head ≡ Some (LineHead.Whole y next)) (high : h.line ≤ 96)
        (c : ℕ) (hc : Names y c) (j : ℕ) (hj : Search.Placed h.names c j) (x : Slot) (r : Result ℕ Halt) (shown : Shown) (out : List ℕ) (hr : LineDoes s y j (get_or h.slots j x).value h.floats h.shown h.out h.written r shown out) where
      whole_here : (ls : List Line) (st : State) (now : Now s e rs d h ls st) (l : Line) (m : ℕ) → read_line s h.at ≡ got l m → (next ≡ m) × Comes h now.lets d st l r shown out
      whole_here ls st now l m el =
          let (k, t, ek) = head-says s h.at head eh _ is in
          let same = (limit-read h.at (got k next) l m (sym ek ∙ el)).0 in
          let kl : k ≡ l = cc in
          (cc, subst (λ k. Comes h now.lets d st k r shown out) kl (whole-comes now high r shown out y k t c hc j hj x hr))

      pub runs-whole-not : (i : Halt) → r ≡ Err i → (a : RunAnswer) → a ≡ stopped_at i h.line h.written → RunsFrom s e rs d h a out
      runs-whole-not i ei a ea = by-line a out (λ ls st now sp un.
          let (o, k, es, er, eo) = (whole_here ls st now sp.line sp.next sp.stands).1.stays i ei in
          line-stops h.line st sp.line sp.rest o k es i er h.written now.count d out (eo ∙ now.text) a ea un)

      -- the text may grow by a line
      pub runs-whole : 2 ≤ h.line → (count : ℕ) → r ≡ Ok count → (q : RunAnswer) (out' : List ℕ)
          → RunsFrom s e rs d (record { at = next; line = h.line + 1; slots = h.slots; names = h.names; shown = shown; floats = h.floats; n = h.n; written = count; out = out }) q out'
          → RunsFrom s e rs d h q out'
      runs-whole low count er q out' on = by-line q out' (λ ls st now sp un.
          let (en, comes) = whole_here ls st now sp.line sp.next sp.stands in
          let (st', es, b) = comes.goes_on count er in
          onwards h.line st st' sp.line sp.rest [] es d q out' (on.is sp.rest st' (record {
            size = now.size;
            has_number = number-after ls st now sp next en;
            left = sp.fewer;
            phase = after_phase now.phase sp.line;
            reads = subst (λ z. read_lines sp.fewer (h.line + 1) (after_phase now.phase sp.line) s z ≡ formed sp.rest) (sym en) sp.goes_on;
            lines = omega (arith, sp.one_less, now.lines);
            surface = b.surface ∙ now.surface;
            tabled = subst (λ ps. Tabled ps h.slots h.n rs) (sym b.known) now.tabled;
            listed = now.listed;
            lets = now.lets;
            rising = rising-line now.lets h.n h.line now.rising;
            lined = subst (λ ps. Lined ps h.names.words h.n now.lets) (sym b.known) now.lined;
            kept = b.kept;
            sums = b.sums;
            count = b.counted;
            bound = omega (arith, b.bound, now.bound, low);
            text = b.text;
          })) un)
