-- `numbers::root::scaled` meets its contract. Assumes nothing.
use Rattle.std.proofs.Common.{◌≡◌, ℕ, ◌*◌, ◌^◌, ◌≤◌, sym, ap, ◌∙◌, arith}
use Rattle.numbers.specs.code.RootSteps.{Lifted}
use Rattle.numbers.proofs.Values.{subnormal}
use Rattle.numbers.proofs.root.scaled.Goals as goal

top : {n n' t w g : ℕ} → n ≡ n' → t ≤ 1534 → Lifted n t w g → Lifted n' 1534 w g
top e h l = record { same = l.same ∙ e; low = l.low; high = l.high; under = omega (arith, l.under); over = l.over }

pub returns-then-b-lt-TWO_52 : goal.returns-then-b-lt-TWO_52
returns-then-b-lt-TWO_52 c = top (ap (λ (x : ℕ). x * 2 ^ 1022) (sym (subnormal _ c.if-b-lt-TWO_52.true))) (omega arith) c.lifted.ensures
