-- `sheets::run::readings::reading_index` meets its contract. Assumes nothing.
use borrow.Author.Tests.{ne_eqb}
use native.Mathlib.Omega.{arith}
use mathlib.Core.Path.{refl}
use Rattle.sheets.specs.code.reader.Codes.{word_char, code_from}
use Rattle.sheets.specs.code.run.Known.{reading_index, index_in}
use Rattle.sheets.proofs.run.readings.reading_index.Goals as goal

pub returns-in-693 : goal.returns-in-693
unfolding reading_index index_in word_char code_from
returns-in-693 c = rw c.in-693.is (refl, omega arith)

pub returns-in-694 : goal.returns-in-694
unfolding reading_index index_in word_char code_from
returns-in-694 c = rw c.in-694.is (refl, omega arith)

pub returns-in-695 : goal.returns-in-695
unfolding reading_index index_in word_char code_from
returns-in-695 c = rw c.in-695.is (refl, omega arith)

pub returns-in-696 : goal.returns-in-696
unfolding reading_index index_in word_char code_from
returns-in-696 c = rw c.in-696.is (refl, omega arith)

pub returns-in-697 : goal.returns-in-697
unfolding reading_index index_in word_char code_from
returns-in-697 c = rw c.in-697.is (refl, omega arith)

pub returns-in-698 : goal.returns-in-698
unfolding reading_index index_in word_char code_from
returns-in-698 c = rw c.in-698.is (refl, omega arith)

pub returns-in-699 : goal.returns-in-699
unfolding reading_index index_in word_char code_from
returns-in-699 c = rw c.in-699.is (refl, omega arith)

pub returns-in-700 : goal.returns-in-700
unfolding reading_index index_in word_char code_from
returns-in-700 c = rw c.in-700.is (refl, omega arith)

pub returns-in-701 : goal.returns-in-701
unfolding reading_index index_in word_char code_from
returns-in-701 c = rw c.in-701.is (refl, omega arith)

pub returns-in-702 : goal.returns-in-702
unfolding reading_index index_in word_char code_from
returns-in-702 c = rw c.in-702.is (refl, omega arith)

pub returns-in-25705 : goal.returns-in-25705
unfolding reading_index index_in word_char code_from
returns-in-25705 c = rw c.in-25705.is (refl, omega arith)

pub returns-in-25706 : goal.returns-in-25706
unfolding reading_index index_in word_char code_from
returns-in-25706 c = rw c.in-25706.is (refl, omega arith)

pub returns-in-25707 : goal.returns-in-25707
unfolding reading_index index_in word_char code_from
returns-in-25707 c = rw c.in-25707.is (refl, omega arith)

pub returns-in-25708 : goal.returns-in-25708
unfolding reading_index index_in word_char code_from
returns-in-25708 c = rw c.in-25708.is (refl, omega arith)

pub returns-in-25709 : goal.returns-in-25709
unfolding reading_index index_in word_char code_from
returns-in-25709 c = rw c.in-25709.is (refl, omega arith)

pub returns-in-25710 : goal.returns-in-25710
unfolding reading_index index_in word_char code_from
returns-in-25710 c = rw c.in-25710.is (refl, omega arith)

pub returns-in_default : goal.returns-in_default
unfolding reading_index index_in word_char code_from
returns-in_default c = simp (ne_eqb _ _ c.in_default.in_default-own.rest.0.0.0.0.0.0.0.0.0.0.0.0.0.0.0.1, ne_eqb _ _ c.in_default.in_default-own.rest.0.0.0.0.0.0.0.0.0.0.0.0.0.0.1, ne_eqb _ _ c.in_default.in_default-own.rest.0.0.0.0.0.0.0.0.0.0.0.0.0.1, ne_eqb _ _ c.in_default.in_default-own.rest.0.0.0.0.0.0.0.0.0.0.0.0.1, ne_eqb _ _ c.in_default.in_default-own.rest.0.0.0.0.0.0.0.0.0.0.0.1, ne_eqb _ _ c.in_default.in_default-own.rest.0.0.0.0.0.0.0.0.0.0.1, ne_eqb _ _ c.in_default.in_default-own.rest.0.0.0.0.0.0.0.0.0.1, ne_eqb _ _ c.in_default.in_default-own.rest.0.0.0.0.0.0.0.0.1, ne_eqb _ _ c.in_default.in_default-own.rest.0.0.0.0.0.0.0.1, ne_eqb _ _ c.in_default.in_default-own.rest.0.0.0.0.0.0.1, ne_eqb _ _ c.in_default.in_default-own.rest.0.0.0.0.0.1, ne_eqb _ _ c.in_default.in_default-own.rest.0.0.0.0.1, ne_eqb _ _ c.in_default.in_default-own.rest.0.0.0.1, ne_eqb _ _ c.in_default.in_default-own.rest.0.0.1, ne_eqb _ _ c.in_default.in_default-own.rest.0.1, ne_eqb _ _ c.in_default.in_default-own.rest.1) (omega arith)
