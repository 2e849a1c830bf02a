-- What a line that is read whole comes to in the machine, by what the code answers of it. Assumes nothing.
use Rattle.std.specs.Prelude.{Result, Ok, Err}
use Prim.Native.Nat.{ℕ, ◌+◌, ◌≤◌}
use native.Mathlib.Omega.{arith}
use mathlib.Core.Path.{◌≡◌, refl, sym, ap, ap₂, subst, ◌∙◌}
use mathlib.Core.Bool.{Bool, true, false}
use mathlib.Core.List.{List, [], ◌∷◌, ◌++◌}
use mathlib.Core.Option.{Option, none, some}
use lib.ListN.{length, get_or, length-append}
use lib.Ieee.{Float}
use Rattle.frames.specs.declared.GeocentricPosition.{GeocentricPosition}
use Rattle.frames.specs.declared.Ellipsoid.{Ellipsoid}
use Rattle.sheets.specs.declared.Value.{Value}
use Rattle.sheets.specs.declared.Value.TheVariants.{Number}
use Rattle.sheets.specs.declared.rows.value.Slot.{Slot}
use Rattle.sheets.specs.declared.reader.lines.NameAt.{NameAt}
use Rattle.sheets.specs.declared.reader.lines.WholeLine.{WholeLine}
use Rattle.sheets.specs.declared.refusals.Refusal.{Refusal as Code}
use Rattle.sheets.specs.declared.Halt.{Halt}
use Rattle.sheets.specs.declared.run.shown.Shown.{Shown}
use Rattle.sheets.specs.Text.{Word, ascii}
use Rattle.sheets.specs.Trees.{Unsigned, signless, Line, show_line, total_line, apart_line}
use Rattle.sheets.specs.Names.{Given, given_on, lookup, line_of_let}
use Rattle.sheets.specs.Letters.{𝐥, 𝐠, held}
use Rattle.sheets.specs.Limits.{num_value, near, in_limit}
use Rattle.sheets.specs.Entries.{Entry, shown as entry, summed, entry_name, entry_value, entry_line, entry_lines, plus, total}
use Rattle.sheets.specs.Machine.{Out, goes, stops, after, then as thenᵒ, test, met, meet, State, write, held_apart, step}
use Rattle.sheets.specs.Aparts.{fixes, stand_apart}
use Rattle.sheets.specs.Refusals.{limit, apart}
use Rattle.sheets.specs.Table.{when}
use Rattle.sheets.specs.Answers.{laid}
use Rattle.sheets.specs.code.reader.Codes.{letter, word_char}
use Rattle.sheets.specs.code.reader.Reader.{got, chars_if, chars, word_if, read_word}
use Rattle.sheets.specs.code.reader.Views.{WholeIn}
use Rattle.sheets.specs.code.check.Newest.{place_from}
use Rattle.sheets.specs.code.check.Newest as Search
use Rattle.sheets.specs.code.run.Known.{word_found}
use Rattle.sheets.specs.code.run.Keeping.{FixAt, FixesKept}
use Rattle.sheets.specs.code.run.Apart.{apart_answer}
use Rattle.sheets.specs.code.run.Evaluating.{evaluated}
use Rattle.sheets.specs.code.run.Wholes.{Names, TestedLine, KeptIf, ShownIf, TotalLine, Does, LineDoes}
use Rattle.sheets.proofs.reader.Slices.{word-is}
use Rattle.sheets.proofs.run.TextBound.{line-length, word-length, entries-last}
use Rattle.sheets.proofs.run.LineText.{line-laid}
use Rattle.sheets.proofs.ApartLaws.{held-position}
use Rattle.sheets.proofs.check.NewestLaws.{place_is}
use Rattle.sheets.proofs.run.ListedLaws.{placed-few, listed_at, found-position}
use Rattle.sheets.proofs.run.SumLaws.{total-show, total-total}
use Rattle.sheets.proofs.run.FixLaws.{fixes-show, fixes-total}
use Rattle.sheets.proofs.run.ApartSteps.{stand-is}
use Rattle.sheets.proofs.run.WholeParts.{tested-not, tested-is}
use Rattle.sheets.proofs.run.Stages.{Stage, Now}

-- the machine's state behind the line, what is kept of its shows, and its text
pub record Behind (h : Stage) (lets : ℕ → ℕ) (d : List ℕ) (st st' : State) (shown : Shown) (count : ℕ) (out : List ℕ) : Type 0 where
  pub surface : st'.ellipsoid ≡ st.ellipsoid
  pub known : st'.scope.known ≡ st.scope.known
  pub kept : FixesKept (fixes st'.entries) lets shown.places h.floats h.n
  pub sums : shown.sum ≡ total st'.entries
  pub counted : count ≡ length (entry_lines st'.entries)
  pub bound : count ≤ h.written + 223
  pub text : out ≡ laid (entry_lines st'.entries) d

halted : {i j : Halt} → ◌≡◌ {A = Result ℕ Halt} (Err i) (Err j) → i ≡ j
halted e = cc

-- the line does not go on, and nothing is written; or the machine goes on to a state behind it
pub record Comes (h : Stage) (lets : ℕ → ℕ) (d : List ℕ) (st : State) (l : Line) (r : Result ℕ Halt) (shown : Shown) (out : List ℕ) : Type 0 where
  pub stays : (i : Halt) → r ≡ Err i → (o : Out Value) × (k : Value → Out State) × (step h.line st l ≡ thenᵒ o k) × (Err i ≡ evaluated o) × (out ≡ h.out)
  pub goes_on : (count : ℕ) → r ≡ Ok count → (st' : State) × (step h.line st l ≡ goes [] st') × Behind h lets d st st' shown count out

module _ {s : List ℕ} {e : Ellipsoid} {rs : List Float} {d : List ℕ} {h : Stage} {ls : List Line} {st : State} (now : Now s e rs d h ls st) (high : h.line ≤ 96)
    (r : Result ℕ Halt) (shown : Shown) (out : List ℕ) where
  abbrev Comes-to : Line → Type 0
  Comes-to l = Comes h now.lets d st l r shown out

  -- a line that writes an entry, whose name stands in t, and tests its value
  entry-comes : (l : Line) (a : Entry) (k : Value → Out State) → step h.line st l ≡ thenᵒ (met (entry_value a)) k → k (entry_value a) ≡ goes [] (write st a)
      → (t : List ℕ) (from end : ℕ) → read_word t from ≡ got (entry_name a) end → TestedLine t from end (entry_value a) h.out h.written r out
      → (in_limit (entry_value a) ≡ true → FixesKept (fixes (st.entries ++ (a ∷ []))) now.lets shown.places h.floats h.n × (shown.sum ≡ total (st.entries ++ (a ∷ [])))) → Comes-to l
  entry-comes l a k es ek t from end ew tested kept = record {
    stays = λ i ei. let (er, eo, rest) = tested-not t from end (entry_value a) h.out h.written r out tested i ei in (met (entry_value a), k, es, er, eo);
    goes_on = λ count er.
        let (em, inside, hw) = tested-is t from end (entry_value a) h.out h.written r out tested count er in
        let text = entry_lines st.entries in
        let grows = entries-last st.entries a in
        let (eo, ec) = line-laid t from (entry_name a) end ew (entry_value a) text d out count (omega (arith, now.size, now.count, now.bound, high)) (rw (← now.text, ← now.count) hw) in
        let len = line-length (entry_name a) (entry_value a) (word-length (entry_name a) (word-is t from (entry_name a) end ew)) in (
          write st a,
          es ∙ ap (λ o. thenᵒ o k) em ∙ ap (after []) ek,
          record {
            surface = refl;
            known = refl;
            kept = (kept inside).0;
            sums = (kept inside).1;
            counted = ec ∙ ap length (sym grows);
            bound = omega (arith, ec, length-append text (entry_line a), len, now.count);
            text = eo ∙ ap (λ (z : List ℕ). laid z d) (sym grows);
          },
        );
  }

  abbrev entry_on : Word → Value → Entry
  entry_on w y = entry h.line (given_on (line_of_let w st.scope.known) w y)

  show-comes : (name : NameAt) (w : Word) → read_word s name.from ≡ got w name.end → (j : ℕ) → j ≤ h.n → (o : Option Value) → lookup w st.scope.known ≡ o
      → ((v : Value) → o ≡ some v → (p : GeocentricPosition) → held 𝐠 v ≡ some p → FixAt now.lets h.floats h.n j (record { line = line_of_let w st.scope.known; position = p }))
      → ShownIf s name o j h.shown h.out h.written r shown out → Comes-to (show_line w)
  unfolding step ShownIf KeptIf evaluated
  show-comes name w ew j few none eo kept sh = record {
    stays = λ i ei. let stuck : i ≡ Halt.Sticks = halted (sym ei ∙ sh.0) in (meet none, λ y. goes [] (write st (entry_on w y)), ap (λ o. thenᵒ (meet o) (λ y. goes [] (write st (entry_on w y)))) eo, ap (λ z. Err z) stuck, sh.2);
    goes_on = λ count er. let e = sh.0 in let z : ◌≡◌ {A = ℕ} 0 1 = cc in absurd (omega arith);
  }
  show-comes name w ew j few (some v) eo kept sh =
      let g : Given Value = given_on (line_of_let w st.scope.known) w v in
      entry-comes (show_line w) (entry_on w v) _ (ap (λ o. thenᵒ (meet o) (λ y. goes [] (write st (entry_on w y)))) eo) refl s name.from name.end ew sh.0 (λ inside.
      let (ej, et) = subst (λ b. KeptIf b v j h.shown shown) inside sh.1 in (
        subst (λ js. FixesKept (fixes (st.entries ++ (entry_on w v ∷ []))) now.lets js h.floats h.n) (sym ej) (fixes-show st.entries now.lets h.shown.places h.floats h.n now.kept h.line g j (omega (arith, now.listed.from.few)) (kept v refl)),
        et ∙ ap (λ t. plus t (held 𝐥 v)) now.sums ∙ sym (total-show st.entries h.line g),
      ))

  total-comes : TotalLine h.shown.sum h.out h.written r out → shown ≡ h.shown → Comes-to total_line
  unfolding step read_word word_if chars chars_if letter word_char
  total-comes tested ek =
      entry-comes total_line (summed (total st.entries)) _ refl refl (ascii "total") 0 5 refl (subst (λ l. TotalLine l h.out h.written r out) now.sums tested) (λ inside. (
        rw (ek, fixes-total st.entries (total st.entries)) now.kept,
        ap (λ (k : Shown). k.sum) ek ∙ now.sums ∙ sym (total-total st.entries (total st.entries)),
      ))

  apart-comes : (q : Unsigned) → r ≡ apart_answer (num_value (signless q)) h.floats h.shown.places h.written → shown ≡ h.shown → out ≡ h.out → Comes-to (apart_line q)
  unfolding step apart_answer evaluated in_limit
  apart-comes q er ek eo = go (near (num_value (signless q))) refl (stand_apart (num_value (signless q)) (fixes st.entries)) refl (er ∙ ap (λ b. when (near (num_value (signless q))) (when b (Ok h.written) (Err (Halt.Refused Code.Apart))) (Err (Halt.Refused Code.Limit))) (stand-is (num_value (signless q)) h.floats h.shown.places (fixes st.entries) now.lets h.n h.line now.kept now.rising now.listed.from.few))
    where
      stopping : (o : Out Value) (k : Value → Out State) (c : Code) → step h.line st (apart_line q) ≡ thenᵒ o k → Err (Halt.Refused c) ≡ evaluated o → r ≡ Err (Halt.Refused c) → Comes-to (apart_line q)
      stopping o k c es eq e = record {
        stays = λ i ei. (o, k, es, ap (λ z. Err z) (halted (sym ei ∙ e)) ∙ eq, eo);
        goes_on = λ count i. let z : ◌≡◌ {A = ℕ} 0 1 = cc in absurd (omega arith);
      }

      behind : (count : ℕ) → r ≡ Ok h.written → r ≡ Ok count → Behind h now.lets d st st shown count out
      behind count e i =
          let same : count ≡ h.written = cc in
          record {
            surface = refl;
            known = refl;
            kept = subst (λ (k : Shown). FixesKept (fixes st.entries) now.lets k.places h.floats h.n) (sym ek) now.kept;
            sums = ap (λ (k : Shown). k.sum) ek ∙ now.sums;
            counted = same ∙ now.count;
            bound = omega arith;
            text = eo ∙ now.text;
          }

      decided : (n b : Bool) → near (num_value (signless q)) ≡ n → stand_apart (num_value (signless q)) (fixes st.entries) ≡ b → step h.line st (apart_line q) ≡ thenᵒ (test [] n (Number (num_value (signless q)))) (λ y. held_apart b st)
      decided n b en eb = ap₂ (λ (n b : Bool). thenᵒ (test [] n (Number (num_value (signless q)))) (λ y. held_apart b st)) en eb

      go : (n : Bool) → near (num_value (signless q)) ≡ n → (b : Bool) → stand_apart (num_value (signless q)) (fixes st.entries) ≡ b → r ≡ when n (when b (Ok h.written) (Err (Halt.Refused Code.Apart))) (Err (Halt.Refused Code.Limit)) → Comes-to (apart_line q)
      go false en b eb e = stopping (stops [] limit) (λ y. goes [] st) Code.Limit (decided false b en eb) refl e
      go true en false eb e = stopping (stops [] apart) (λ y. goes [] st) Code.Apart (decided true false en eb) refl e
      go true en true eb e = record {
        stays = λ i ei. let z : ◌≡◌ {A = ℕ} 0 1 = cc in absurd (omega arith);
        goes_on = λ count i. (st, decided true true en eb, behind count e i);
      }

  -- by its form: the line l stands there, its word at the place j among the names
  pub whole-comes : (y : WholeLine) (l : Line) → WholeIn s y l → (c : ℕ) → Names y c → (j : ℕ) → Search.Placed h.names c j → (x : Slot)
      → LineDoes s y j (get_or h.slots j x).value h.floats h.shown h.out h.written r shown out → Comes-to l
  unfolding Does
  whole-comes (WholeLine.Show name) l (w, ew, ec, el) c hc j pj x hr =
      let hj = subst (λ k. Search.Placed h.names k j) (hc.is name refl) pj in
      let known = now.tabled.is w (word-is s name.from w name.end ew) ∙ ap (word_found h.slots rs h.n) ec ∙ sym (listed_at h.slots rs h.names h.floats h.n now.listed name.code j hj x) in
      let few = placed-few h.slots rs h.names h.floats h.n now.listed name.code j hj in
      let place = place_is h.names h.n now.listed.from name.code j hj in
      let line = now.lined.is w (word-is s name.from w name.end ew) ∙ ap (λ c. now.lets (place_from h.names.words h.n c)) ec ∙ sym (ap now.lets place) in
      subst Comes-to (sym el) (show-comes name w ew j few _ known (λ v ev p ep. record {
        few = few;
        line = sym line;
        lies = found-position h.slots rs h.names h.floats h.n now.listed name.code j hj x v ev p (held-position v p ep);
      }) hr.is.is)
  whole-comes WholeLine.Total l el c hc j pj x hr = subst Comes-to (sym el) (total-comes hr.is.0 hr.is.1)
  whole-comes (WholeLine.Apart x) l (q, ex, el) c hc j pj y hr = subst Comes-to (sym el) (apart-comes q (hr.is.0 ∙ ap (λ x. apart_answer x h.floats h.shown.places h.written) (sym ex)) hr.is.1 hr.is.2)
