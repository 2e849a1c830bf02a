-- The loop of `numbers::root::by_digits`.
use Rattle.std.proofs.Common.{◌≡◌, ℕ, ◌+◌, ◌*◌, ◌^◌, ◌<◌, ◌≤◌}
use Rattle.numbers.proofs.root.by_digits.Given as goal

pub record Inv (w left rest root i : ℕ) : Type 0 where
  pub sum : w * 4 ^ i ≡ (root * root + rest) * 18014398509481984 + left
  pub small : left < 18014398509481984
  pub less : rest ≤ 2 * root
  pub short : root < 2 ^ i
  pub turns : i ≤ 53

abbrev pub invariant-loop : goal.invariant-loop
invariant-loop l = Inv l.w l.left l.rest l.root l.counter
