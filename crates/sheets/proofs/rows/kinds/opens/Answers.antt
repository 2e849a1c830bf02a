-- `sheets::rows::kinds::opens` meets its contract. Assumes nothing.
use Prim.Native.Nat.{ℕ}
use mathlib.Core.List.{List, [], ◌∷◌, map}
use Rattle.sheets.specs.Text.{ascii}
use Rattle.sheets.specs.code.reader.Codes.{word_char, code_from, code_of}
use Rattle.sheets.specs.Table.{table}
use Rattle.sheets.proofs.rows.KindRowLaws.{opens-yes, opens-no}
use Rattle.sheets.proofs.rows.kinds.opens.Goals as goal

-- the codes of each arm, in their order
abbrev arm1 : List ℕ
arm1 = map code_of (ascii "m" ∷ ascii "deg" ∷ ascii "geo" ∷ ascii "lla" ∷ ascii "togeo" ∷ ascii "tolla" ∷ [])

abbrev arm2 : List ℕ
arm2 = map code_of (ascii "venu" ∷ ascii "vned" ∷ ascii "vwan" ∷ ascii "vbody" ∷ [])

abbrev arm3 : List ℕ
arm3 = map code_of (ascii "aenu" ∷ ascii "aned" ∷ ascii "awan" ∷ ascii "abody" ∷ [])

abbrev arm4 : List ℕ
arm4 = map code_of (ascii "enu" ∷ ascii "ned" ∷ ascii "wan" ∷ ascii "body" ∷ ascii "look" ∷ [])

abbrev arm5 : List ℕ
arm5 = map code_of (ascii "at" ∷ ascii "to" ∷ ascii "neg" ∷ ascii "move" ∷ ascii "turn" ∷ [])

abbrev arm6 : List ℕ
arm6 = map code_of (ascii "add" ∷ ascii "sub" ∷ ascii "swap" ∷ ascii "scale" ∷ [])

abbrev arm7 : List ℕ
arm7 = map code_of (ascii "ry" ∷ ascii "elev" ∷ ascii "range" ∷ ascii "bearing" ∷ [])

abbrev arm8 : List ℕ
arm8 = map code_of (ascii "rx" ∷ ascii "rz" ∷ ascii "origin" ∷ [])

pub returns-in-13 : goal.returns-in-13
unfolding table word_char code_from
returns-in-13 c = opens-yes arm1 tt _ c.in-13.is

pub returns-in-1121750 : goal.returns-in-1121750
unfolding table word_char code_from
returns-in-1121750 c = opens-yes arm2 tt _ c.in-1121750.is

pub returns-in-58037 : goal.returns-in-58037
unfolding table word_char code_from
returns-in-58037 c = opens-yes arm3 tt _ c.in-58037.is

pub returns-in-7384 : goal.returns-in-7384
unfolding table word_char code_from
returns-in-7384 c = opens-yes arm4 tt _ c.in-7384.is

pub returns-in-57 : goal.returns-in-57
unfolding table word_char code_from
returns-in-57 c = opens-yes arm5 tt _ c.in-57.is

pub returns-in-1521 : goal.returns-in-1521
unfolding table word_char code_from
returns-in-1521 c = opens-yes arm6 tt _ c.in-1521.is

pub returns-in-691 : goal.returns-in-691
unfolding table word_char code_from
returns-in-691 c = opens-yes arm7 tt _ c.in-691.is

pub returns-in-690 : goal.returns-in-690
unfolding table word_char code_from
returns-in-690 c = opens-yes arm8 tt _ c.in-690.is

pub returns-in_default : goal.returns-in_default
unfolding table word_char code_from
returns-in_default c = opens-no (arm8 ∷ arm7 ∷ arm6 ∷ arm5 ∷ arm4 ∷ arm3 ∷ arm2 ∷ arm1 ∷ []) tt _ c.in_default.in_default-own.rest
