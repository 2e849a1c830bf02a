-- The loop of `numbers::units::shifted`: after n turns, rest is what b leaves of a * 2 ^ (11 * n).
use Rattle.std.proofs.Common.{◌≡◌, ◌*◌, ◌%◌, ◌^◌}
use Rattle.numbers.proofs.units.shifted.Given as goal

abbrev pub invariant-loop : goal.invariant-loop
invariant-loop l = l.rest ≡ l.a * 2 ^ (11 * l.counter) % l.b
