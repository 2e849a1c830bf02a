-- `sheets::check::admit::whole_kind` meets its contract. Assumes nothing.
use Rattle.sheets.proofs.check.LineKindSteps.{whole-show, whole-total, whole_apart}
use Rattle.sheets.proofs.check.admit.whole_kind.Goals as goal

pub returns-in-Show : goal.returns-in-Show
returns-in-Show c = record { is = λ i d st. whole-show _ _ c.in-Show.is _ i d _ (c.known_kind.ensures.is i d st) }

pub returns-in-Total : goal.returns-in-Total
returns-in-Total c = record { is = λ i d st. rw c.nameless.ensures (whole-total _ c.in-Total.is _ i d) }

pub returns-in-Apart : goal.returns-in-Apart
returns-in-Apart c = record { is = λ i d st. rw c.nameless-in-Apart.ensures (whole_apart _ _ c.in-Apart.is _ i d) }
