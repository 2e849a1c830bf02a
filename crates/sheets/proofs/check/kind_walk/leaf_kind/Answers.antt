-- `sheets::check::kind_walk::leaf_kind` meets its contract. Assumes nothing.
use mathlib.Core.Path.{refl}
use Rattle.sheets.proofs.check.KindSteps.{word-unknown, word-known, num-has, leaf-none}
use Rattle.sheets.proofs.check.kind_walk.leaf_kind.Goals as goal

pub returns-in_default : goal.returns-in_default
returns-in_default c = record { is = λ ps st. record { is = λ h depth. num-has _ _ _ refl depth ps h _ c.word.ensures c.in_default.is _ c.num.ensures _ c.in-Some-num.is } }

pub returns-in_default-num : goal.returns-in_default-num
returns-in_default-num c = record { is = λ ps st. record { is = λ h depth. leaf-none _ _ _ refl depth ps h _ c.word.ensures _ c.in_default.is _ c.num.ensures c.in_default-num.is } }

pub returns-in_default-kind : goal.returns-in_default-kind
returns-in_default-kind c = record { is = λ ps st. record { is = λ h depth. word-unknown _ _ _ refl depth ps h _ c.word.ensures _ _ c.in-Some.is _ st _ c.kind.ensures c.in_default-kind.is } }

pub returns : goal.returns
returns c = record { is = λ ps st. record { is = λ h depth. word-known _ _ _ refl depth ps h _ c.word.ensures _ _ c.in-Some.is _ st _ c.kind.ensures _ c.in-Some-kind.is } }
