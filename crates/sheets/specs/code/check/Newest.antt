-- The search for a word among those given, the newest first. `words` of `Names` has their codes, each at its place, counted from 1.
-- No part of what must be believed: the newest place for each remainder of the words' codes by 512 only spares the search places at which the word cannot stand.
use Rattle.std.specs.Prelude.{ℕ, zero, suc, ◌%◌, ◌<◌, ◌≤◌, ◌≡◌, List, Option, Some, None, eqb, leb, length, get_or, set, replicate}
use Rattle.sheets.specs.Table.{when}
use Rattle.sheets.specs.declared.check.names.Names.{Names}

-- at the start: no word, and line 1 has no kind
abbrev pub no_names : Names
no_names = record { words = replicate 96 0; kinds = replicate 96 255; newest = replicate 512 0 }

-- the word with this code given at a place, with this kind
abbrev pub with_name : Names → ℕ → ℕ → ℕ → Names
with_name names c kind place = record { words = set names.words place c; kinds = set names.kinds place kind; newest = set names.newest (c % 512) place }

-- the newest place of a word that may be the one with this code
abbrev pub newest_of : Names → ℕ → ℕ
newest_of names c = get_or names.newest (c % 512) 0

-- where the search for it begins: at none, 0, where there is no such place among the 96
unfoldable pub search_from : Names → ℕ → ℕ
search_from names c = when (leb (newest_of names c) 95) (newest_of names c) 0

-- of the first n words: for each remainder a place, at most n, behind which no word has it
pub record Newest (names : Names) (n : ℕ) : Type 0 where
  pub sizes : (length names.words ≡ 96) × (length names.kinds ≡ 96) × (length names.newest ≡ 512)
  pub few : n ≤ 95
  pub most : (c : ℕ) → newest_of names c ≤ n
  pub is : (i : ℕ) → i < n → i < newest_of names (get_or names.words (suc i) 0)

-- the place of the newest of the first n words that has this code; 0 for none
unfoldable pub place_from : List ℕ → ℕ → ℕ → ℕ
place_from words zero c = 0
place_from words (suc n) c = when (eqb (get_or words (suc n) 0) c) (suc n) (place_from words n c)

-- that place, where there is one
abbrev pub as_place : ℕ → Option ℕ
as_place zero = None
as_place (suc n) = Some (suc n)

-- the place of the word with this code
unfoldable pub place_found : Names → ℕ → Option ℕ
place_found names c = as_place (place_from names.words (search_from names c) c)

-- r is the place of the word with this code, 0 for none
pub record Placed (names : Names) (c r : ℕ) : Type 0 where
  pub most : r ≤ 95
  pub is : r ≡ place_from names.words (search_from names c) c
