-- What is to come of a feed falls: with a run that is begun, however many samples it has, and with each piece. Assumes nothing.
use mathlib.Core.Path.{◌≡◌}
use Prim.Native.Nat.{◌-◌, ◌*◌, ◌^◌, ◌<◌}
use native.Mathlib.Nat.{lt_of_lt_of_le, le-add_right}
use native.Mathlib.Omega.{arith}
use lib.Arith.{digits_lt}
use Rattle.replay_feed.specs.Rest.{rest}
use Rattle.replay_feed.specs.declared.Feed.{Feed}

pub begun : (f r : Feed) → 0 < f.runs → r.runs ≡ f.runs - 1 → r.left < 2 ^ 64 → rest r < rest f
unfolding rest
begun f r h e fits =
    let fewer : r.runs < f.runs = omega arith in
    lt_of_lt_of_le (digits_lt {q = r.runs} {m = f.runs} {r = r.left} {c = 2 ^ 64} fewer fits) (le-add_right (f.runs * 2 ^ 64) f.left)
