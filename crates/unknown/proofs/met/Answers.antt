-- The first that is met stays the first.
use Rattle.std.proofs.Common.{◌≡◌, ◌+◌, Some, arith}
use Rattle.unknown.specs.Crossing.{stretch_count, nth_stretch}
use Rattle.unknown.specs.Meeting.{met}
use Rattle.unknown.proofs.Meeting.{met_next, met_stays}
use Rattle.unknown.proofs.met.Goals as goal

pub returns-in-Some : goal.returns-in-Some
returns-in-Some c =
    let a = c.args in
    let list = a.known.now.list.now in
    let k = c.loop-k.k in
    let e : met a.back a.p (nth_stretch a.back list) (k + 1) ≡ Some c.in-Some.c = grind (arith, met_next) in
    met_stays a.back a.p (nth_stretch a.back list) (k + 1) (stretch_count list) c.in-Some.c (omega arith) e
