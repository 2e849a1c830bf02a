-- Kinds as numbers, and what the code answers by a word's code and such a number, against the kind table.
use Rattle.std.specs.Prelude.{◌≡◌, List, [], ◌∷◌, Bool, ◌&&◌, not, ℕ, suc, ◌+◌, ◌*◌, eqb, get_or, Option, Some, None}
use Rattle.std.proofs.Math.Option.{Option as Maybe, none, some}
use mir.Val.{has_key}
use Rattle.sheets.specs.code.reader.Codes.{code_of}
use Rattle.frames.specs.declared.Orientation.TheVariants.{Enu, Ned, Body, Wan}
use Rattle.sheets.specs.Kinds.{Kind, number, angle, len, geocentric, geodetic, vector, frame, kind_code}
use Rattle.sheets.specs.Table.{Row, when, table}
use Rattle.sheets.specs.Lookup.{oriented, KindRow, kind_rows}

-- the kind with this code; the last one for a number that is no kind's
abbrev pub kind_at : ℕ → Kind
kind_at n = get_or (number ∷ angle ∷ len ∷ geocentric ∷ geodetic ∷ vector Enu ∷ vector Ned ∷ vector Body ∷ vector Wan ∷ frame Enu ∷ frame Ned ∷ frame Body ∷ frame Wan ∷ []) n (frame Wan)

-- kinds as digits 1 to 13 to the base 16, after those that made the number n
unfoldable pub key_from : ℕ → List Kind → ℕ
key_from n [] = n
key_from n (k ∷ ks) = key_from (n * 16 + suc (kind_code k)) ks

abbrev pub key_of : List Kind → ℕ
key_of ks = key_from 0 ks

-- a kind's code, where there is a kind
abbrev pub code_if : Maybe Kind → Option ℕ
code_if none = None
code_if (some k) = Some (kind_code k)

-- the kind g, where the key is one of these, and else r
abbrev pub row_num : List ℕ → ℕ → ℕ → Option ℕ → Option ℕ
row_num [] g key r = r
row_num (k ∷ ks) g key r = when (eqb k key) (Some g) (row_num ks g key r)

-- the code of the kind that the first row gives whose word has the code c and whose kinds have the key k
unfoldable pub search_num : List KindRow → ℕ → ℕ → Option ℕ
search_num [] c k = None
search_num (p ∷ ps) c k = when (eqb (code_of p.word) c && eqb (key_of p.takes) k) (Some (kind_code p.gives)) (search_num ps c k)

-- r is the kind of a bracket, by its word's code and its arguments' key
pub record RowKind (code key : ℕ) (r : Option ℕ) : Type 0 where
  pub is : r ≡ search_num (kind_rows table) code key

-- none of the codes
abbrev pub Missed : List ℕ → ℕ → Type 0
Missed [] x = Unit {0}
Missed (k ∷ ks) x = Missed ks x × (x ≡ k → ⊥)

-- the codes of the words of the rows for which p holds, each once and the last first, before the codes ks
unfoldable pub codes_for : (Row → Bool) → List Row → List ℕ → List ℕ
codes_for p [] ks = ks
codes_for p (r ∷ rs) ks = codes_for p rs (when (p r && not (has_key ks (code_of r.word))) (code_of r.word ∷ ks) ks)

-- those of the operators that take no vector and no frame
unfoldable pub plain_codes : List ℕ
plain_codes = codes_for (λ r. not (oriented r.takes)) table []

-- the same, for a word with none of the codes
pub record RowKindBeyond (codes : List ℕ) (code key : ℕ) (r : Option ℕ) : Type 0 where
  pub is : Missed codes code → RowKind code key r

-- the codes of the operators' words
abbrev pub row_codes : List Row → List ℕ
row_codes [] = []
row_codes (r ∷ rs) = code_of r.word ∷ row_codes rs
