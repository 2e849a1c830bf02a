-- The reader gives a sheet exactly where the bytes are that sheet, and a line's number exactly where that line is the first that breaks the grammar. Assumes nothing.
use Prim.Native.Nat.{ℕ, zero, suc, ◌+◌, ◌<◌, ◌≤◌}
use native.Mathlib.Omega.{arith}
use mathlib.Core.Path.{◌≡◌, refl, sym, ap, ◌∙◌, subst}
use mathlib.Core.Bool.{Bool, true, false}
use mathlib.Core.Logic.{◌⊎◌, inl, inr, ⊎_elim, ◌↔◌}
use mathlib.Core.List.{List, [], ◌∷◌, ◌++◌, append_assoc}
use lib.Dec.{leb}
use lib.ListN.{length, get_or, drop, length-drop}
use lib.Seq.{drop-cons, drop-length}
use borrow.Author.Tests.{le-leb, lt-leb, leb-true, leb-false}
use Rattle.sheets.specs.Trees.{Line, Head, Sheet}
use Rattle.sheets.specs.Grammar.{print_head, print_line, print_lines, print_sheet, IsHead, IsLine, AreLines, IsSheet, allowed, after, after_all, Written, HeadBegins, LineBegins, FirstBad, at_head, at_line, at_97, Reads}
use Rattle.sheets.specs.code.reader.Reader.{Got, none, got, or_else, nothing, read_line, permitted, read_in, read_head, Form, formed, bad_line, ◌thenᶠ◌, lines_step, read_lines, sheet_step, read_sheet}
use Rattle.sheets.proofs.reader.Spans.{spans-drop, drop-spans, Holds, holds_at}
use Rattle.sheets.proofs.reader.LineLaws.{HeadStands, head-sound, head-complete, LineStands, line-sound, line-complete}

module _ (s : List ℕ) where
  -- ---- a line that may stand at its place
  abbrev Standing : ℕ → ℕ → Line → ℕ → Type 0
  Standing p at l n = LineStands s at l n × (allowed p l ≡ true)

  in-sound : (p at : ℕ) → Holds (Standing p at) (read_in p s at)
  unfolding permitted or_else Holds
  in-sound p at = go (read_line s at) (line-sound s at)
    where
      test : (l : Line) (n : ℕ) → LineStands s at l n → (t : Bool) → allowed p l ≡ t → Holds (Standing p at) (or_else t (got l) nothing n)
      test l n h true e = (h, e)
      test l n h false e = tt

      go : (o : Got Line) → Holds (LineStands s at) o → Holds (Standing p at) (permitted p o)
      go none h = tt
      go (got l n) h = test l n h (allowed p l) refl

  in-stands : (p at : ℕ) (l : Line) (n : ℕ) → read_in p s at ≡ got l n → Standing p at l n
  in-stands p at l n e = holds_at (Standing p at) (read_in p s at) l n (in-sound p at) e

  in-complete : (p at n : ℕ) (l : Line) → read_line s at ≡ got l n → allowed p l ≡ true → read_in p s at ≡ got l n
  unfolding permitted or_else
  in-complete p at n l e h = rw (e, h) refl

  -- ---- what an answer about lines says

  -- these lines from a place on, at most k, and nothing after them
  abbrev Whole : ℕ → ℕ → ℕ → List Line → Type 0
  Whole k p at ls = (drop at s ≡ print_lines ls) × AreLines p ls × (length ls ≤ k)

  -- with line i at this place, line j is the first bad one
  abbrev Broken : ℕ → ℕ → ℕ → ℕ → ℕ → Type 0
  Broken k i p at j =
      (ls : List Line) × (b : ℕ) × (r : List ℕ) × (drop at s ≡ print_lines ls ++ (b ∷ r)) × AreLines p ls × (length ls ≤ k) × (j ≡ i + length ls) × ((length ls ≡ k) ⊎ ¬ (LineBegins (after_all p ls) (b ∷ r)))

  abbrev Says : ℕ → ℕ → ℕ → ℕ → Form (List Line) → Type 0
  Says k i p at (formed ls) = Whole k p at ls
  Says k i p at (bad_line j) = Broken k i p at j

  nothing_left : (at : ℕ) → at ≤ length s → length s ≤ at → drop at s ≡ []
  nothing_left at a b = let e : at ≡ length s = omega arith in rw e (drop-length s)

  no_line : (p at : ℕ) → read_in p s at ≡ none → ¬ (LineBegins p (drop at s))
  no_line p at e h =
      let (l, r, el, sl, al) = h in
      let q = (drop-spans s (print_line l) r at el).0 in
      let g : read_in p s at ≡ got l (at + length (print_line l)) = in-complete p at _ l (line-complete s l at _ q sl) al in
      let z : ◌≡◌ {A = ℕ} 0 1 = cc in omega arith

  lines-say : (k i p at : ℕ) → at ≤ length s → Says k i p at (read_lines k i p s at)
  unfolding read_lines lines_step ◌thenᶠ◌ after_all
  lines-say zero i p at a = go (leb (length s) at) refl
    where
      go : (t : Bool) → leb (length s) at ≡ t → Says zero i p at (lines_step t i none (λ l n. bad_line i))
      go true e = (nothing_left at a (leb-true _ _ e), tt, omega arith)
      go false e = ([], get_or s at 0, drop (suc at) s, drop-cons s at 0 (leb-false _ _ e), tt, omega arith, omega arith, inl refl)
  lines-say (suc k) i p at a = go (leb (length s) at) refl (read_in p s at) refl (λ l n h. lines-say k (i + 1) (after p l) n h)
    where
      more : (l : Line) (n : ℕ) → Standing p at l n → (o : Form (List Line)) → Says k (i + 1) (after p l) n o → Says (suc k) i p at (o thenᶠ (λ ls. formed (l ∷ ls)))
      more l n q (formed ls) h = (spans-drop s (print_line l) at n q.0.0 q.0.2 ∙ ap (λ t. print_line l ++ t) h.0, (q.0.1, q.1, h.1), omega (arith, h.2))
      more l n q (bad_line j) h =
          let (ls, b, r, e, sl, le, ej, w) = h in (
            l ∷ ls,
            b,
            r,
            spans-drop s (print_line l) at n q.0.0 q.0.2 ∙ ap (λ t. print_line l ++ t) e ∙ sym (append_assoc (print_line l) (print_lines ls) (b ∷ r)),
            (q.0.1, q.1, sl),
            omega arith,
            omega arith,
            ⊎_elim (λ z. inl (ap suc z)) (λ z. inr z) w,
          )

      go : (t : Bool) → leb (length s) at ≡ t → (o : Got Line) → read_in p s at ≡ o → ((l : Line) (n : ℕ) → n ≤ length s → Says k (i + 1) (after p l) n (read_lines k (i + 1) (after p l) s n))
          → Says (suc k) i p at (lines_step t i o (λ l. read_lines k (i + 1) (after p l) s))
      go true e o eo rest = (nothing_left at a (leb-true _ _ e), tt, omega arith)
      go false e none eo rest =
          let d = drop-cons s at 0 (leb-false _ _ e) in
          ([], get_or s at 0, drop (suc at) s, d, tt, omega arith, omega arith, inr (rw d at (no_line p at eo)))
      go false e (got l n) eo rest = let q = in-stands p at l n eo in more l n q (read_lines k (i + 1) (after p l) s n) (rest l n q.0.2)

  -- ---- and the other way
  lines-first : (l : Line) (k i p at n : ℕ) → read_in p s at ≡ got l n → read_lines (suc k) i p s at ≡ read_lines k (i + 1) (after p l) s n thenᶠ (λ ls. formed (l ∷ ls))
  unfolding read_lines lines_step
  lines-first l k i p at n e = rw (lt-leb (length s) at (in-stands p at l n e).0.3, e) refl

  next : (p : ℕ) (l : Line) (r : List ℕ) (at : ℕ) → drop at s ≡ print_line l ++ r → IsLine l → allowed p l ≡ true → (n : ℕ) × (read_in p s at ≡ got l n) × (drop n s ≡ r) × (n ≤ length s)
  next p l r at e h al =
      let (q, d) = drop-spans s (print_line l) r at e in
      let g = in-complete p at (at + length (print_line l)) l (line-complete s l at (at + length (print_line l)) q h) al in
      (at + length (print_line l), g, d, (in-stands p at l (at + length (print_line l)) g).0.2)

  lines-whole : (ls : List Line) (k i p at : ℕ) → at ≤ length s → Whole k p at ls → read_lines k i p s at ≡ formed ls
  unfolding read_lines lines_step ◌thenᶠ◌
  lines-whole [] zero i p at a h = let z : length s ≤ at = omega (arith, length-drop at s, ap length h.0) in rw (le-leb (length s) at z) refl
  lines-whole [] (suc k) i p at a h = let z : length s ≤ at = omega (arith, length-drop at s, ap length h.0) in rw (le-leb (length s) at z) refl
  lines-whole (l ∷ ls) zero i p at a h = absurd (omega (arith, h.2))
  lines-whole (l ∷ ls) (suc k) i p at a h =
      let (n, g, d, le) = next p l (print_lines ls) at h.0 h.1.0 h.1.1 in
      lines-first l k i p at n g ∙ ap (λ o. o thenᶠ (λ ls. formed (l ∷ ls))) (lines-whole ls k (i + 1) (after p l) n le (d, h.1.2, omega (arith, h.2)))

  lines-broken : (ls : List Line) (b : ℕ) (r : List ℕ) (k i p at : ℕ) → at ≤ length s → drop at s ≡ print_lines ls ++ (b ∷ r) → AreLines p ls → length ls ≤ k
      → (length ls ≡ k) ⊎ ¬ (LineBegins (after_all p ls) (b ∷ r)) → read_lines k i p s at ≡ bad_line (i + length ls)
  unfolding read_lines lines_step ◌thenᶠ◌ after_all
  lines-broken [] b r zero i p at a e h le w =
      let z : at < length s = omega (arith, length-drop at s, ap length e) in
      rw (lt-leb (length s) at z) (ap (λ j. bad_line j) (omega arith))
  lines-broken [] b r (suc k) i p at a e h le w = go (read_in p s at) refl
    where
      bad : ¬ (LineBegins p (b ∷ r))
      bad = ⊎_elim (λ z. absurd (omega arith)) (λ z. z) w

      go : (o : Got Line) → read_in p s at ≡ o → read_lines (suc k) i p s at ≡ bad_line (i + 0)
      go none eo =
          let z : at < length s = omega (arith, length-drop at s, ap length e) in
          rw (lt-leb (length s) at z, eo) (ap (λ j. bad_line j) (omega arith))
      go (got l n) eo =
          let q = in-stands p at l n eo in
          absurd (bad (l, drop n s, sym e ∙ spans-drop s (print_line l) at n q.0.0 q.0.2, q.0.1, q.1))
  lines-broken (l ∷ ls) b r zero i p at a e h le w = absurd (omega arith)
  lines-broken (l ∷ ls) b r (suc k) i p at a e h le w =
      let (n, g, d, len) = next p l (print_lines ls ++ (b ∷ r)) at (e ∙ append_assoc (print_line l) (print_lines ls) (b ∷ r)) h.0 h.1 in
      lines-first l k i p at n g
      ∙ ap (λ o. o thenᶠ (λ ls. formed (l ∷ ls))) (lines-broken ls b r k (i + 1) (after p l) n len d h.2 (omega arith) (⊎_elim (λ z. inl (omega arith)) (λ z. inr z) w))
      ∙ ap (λ j. bad_line j) (omega arith)

  -- ---- sheets
  head-stands : (h : Head) (n : ℕ) → read_head s ≡ got h n → HeadStands s h n
  head-stands h n e = holds_at (HeadStands s) (read_head s) h n (head-sound s) e

  bad-after : (c : Sheet) (b : ℕ) (r : List ℕ) → s ≡ print_sheet c ++ (b ∷ r) → IsSheet c → (length c.lines ≡ 95) ⊎ ¬ (LineBegins (after_all 0 c.lines) (b ∷ r)) → FirstBad s (length c.lines + 2)
  bad-after c b r e h (inl n) = let z : 97 ≡ length c.lines + 2 = omega arith in rw z at (at_97 c b r e h n)
  bad-after c b r e h (inr w) = at_line c b r e h w

  -- the reader finds what the grammar makes of the bytes
  pub reader-reads : Reads s (read_sheet s)
  unfolding read_sheet sheet_step ◌thenᶠ◌
  reader-reads = go (read_head s) refl
    where
      lines : (h : Head) (n : ℕ) → HeadStands s h n → (f : Form (List Line)) → Says 95 2 0 n f → Reads s (f thenᶠ (λ ls. formed (record { head = h; lines = ls })))
      lines h n p (formed ls) q = (spans-drop s (print_head h) 0 n p.0 p.2 ∙ ap (λ t. print_head h ++ t) q.0, (p.1, q.1, q.2))
      lines h n p (bad_line j) q =
          let (ls, b, r, e, sl, le, ej, w) = q in
          let i : j ≡ length ls + 2 = omega arith in
          rw i (bad-after (record { head = h; lines = ls }) b r
          (spans-drop s (print_head h) 0 n p.0 p.2 ∙ ap (λ t. print_head h ++ t) e ∙ sym (append_assoc (print_head h) (print_lines ls) (b ∷ r))) (p.1, sl, le) w)

      go : (o : Got Head) → read_head s ≡ o → Reads s (sheet_step o (read_lines 95 2 0 s))
      go none e = at_head (λ b. never b e)
        where
          never : HeadBegins s → read_head s ≡ none → ⊥
          never b e =
              let (h, r, eh, sh) = b in
              let g : read_head s ≡ got h (0 + length (print_head h)) = head-complete s h _ (drop-spans s (print_head h) r 0 eh).0 sh in
              let z : ◌≡◌ {A = ℕ} 0 1 = cc in omega arith
      go (got h n) e = let p = head-stands h n e in lines h n p (read_lines 95 2 0 s n) (lines-say 95 2 0 n p.2)

  start : (h : Head) (r : List ℕ) → s ≡ print_head h ++ r → IsHead h
      → (n : ℕ) × (read_sheet s ≡ read_lines 95 2 0 s n thenᶠ (λ ls. formed (record { head = h; lines = ls }))) × (drop n s ≡ r) × (n ≤ length s)
  unfolding read_sheet sheet_step
  start h r e sh =
      let (p, q) = drop-spans s (print_head h) r 0 e in
      let g = head-complete s h (0 + length (print_head h)) p sh in
      (0 + length (print_head h), ap (λ o. sheet_step o (read_lines 95 2 0 s)) g, q, (head-stands h (0 + length (print_head h)) g).2)

  -- a sheet
  pub sheet-reads : (c : Sheet) → (read_sheet s ≡ formed c) ↔ Written s c
  unfolding ◌thenᶠ◌
  sheet-reads c = ((λ e. subst (Reads s) e reader-reads), back)
    where
      back : Written s c → read_sheet s ≡ formed c
      back w =
          let (n, e, d, le) = start c.head (print_lines c.lines) w.0 w.1.0 in
          e ∙ ap (λ f. f thenᶠ (λ ls. formed (record { head = c.head; lines = ls }))) (lines-whole c.lines 95 2 0 n le (d, w.1.1, w.1.2))

  -- the first line that breaks the grammar
  pub sheet-breaks : (j : ℕ) → (read_sheet s ≡ bad_line j) ↔ FirstBad s j
  unfolding ◌thenᶠ◌ read_sheet sheet_step
  sheet-breaks j = ((λ e. subst (Reads s) e reader-reads), back j)
    where
      head : (o : Got Head) → read_head s ≡ o → ¬ (HeadBegins s) → sheet_step o (read_lines 95 2 0 s) ≡ bad_line 1
      head none e h = refl
      head (got x n) e h =
          let p = head-stands x n e in
          absurd (h (x, drop n s, spans-drop s (print_head x) 0 n p.0 p.2, p.1))

      later : (c : Sheet) (b : ℕ) (r : List ℕ) → s ≡ print_sheet c ++ (b ∷ r) → IsSheet c → (length c.lines ≡ 95) ⊎ ¬ (LineBegins (after_all 0 c.lines) (b ∷ r)) → read_sheet s ≡ bad_line (length c.lines + 2)
      later c b r e h w =
          let (n, g, d, le) = start c.head (print_lines c.lines ++ (b ∷ r)) (e ∙ append_assoc (print_head c.head) (print_lines c.lines) (b ∷ r)) h.0 in
          let i : 2 + length c.lines ≡ length c.lines + 2 = omega arith in
          g ∙ ap (λ f. f thenᶠ (λ ls. formed (record { head = c.head; lines = ls }))) (lines-broken c.lines b r 95 2 0 n le d h.1 h.2 w) ∙ ap (λ k. bad_line k) i

      back : (j : ℕ) → FirstBad s j → read_sheet s ≡ bad_line j
      back j (at_head h) = head (read_head s) refl h
      back j (at_line c b r e h w) = later c b r e h (inr w)
      back j (at_97 c b r e h n) = later c b r e h (inl n) ∙ ap (λ k. bad_line k) (omega arith)

  -- and nothing else
  pub reader-only : (o : Form Sheet) → Reads s o → read_sheet s ≡ o
  reader-only (formed c) w = (sheet-reads c).1 w
  reader-only (bad_line j) b = (sheet-breaks j).1 b
