-- What the digits from the place on make of the value so far is what those from the start make of 0.
use Rattle.std.proofs.Common.{◌≡◌, ◌+◌}
use lib.ListN.{drop}
use Rattle.replay_text.specs.Numbers.{digits, decimal}
use Rattle.replay_text.proofs.numbers.number.Given as goal

abbrev pub invariant-loop-i : goal.invariant-loop-i
invariant-loop-i l =
    (l.next ≡ l.i)
    × (decimal l.value (drop l.i l.line) ≡ decimal 0 (drop l.start l.line))
    × (l.i + digits (drop l.i l.line) ≡ l.start + digits (drop l.start l.line))
