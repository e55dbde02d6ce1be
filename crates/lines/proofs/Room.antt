-- How many values a lane has.
use Prim.Native.Nat.{ℕ, ◌^◌, ◌≤◌}
use native.Mathlib.Nat.{pow-le-pow_right}
use native.Mathlib.Omega.{arith}

-- a byte's, or more
pub room_least : {u : ℕ} → 1 ≤ u → 256 ≤ 256 ^ u
room_least {u} h = pow-le-pow_right {n = 256} (omega arith) {i = 1} {j = u} h
