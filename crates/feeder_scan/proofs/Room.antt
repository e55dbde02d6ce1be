-- The room of samples in lent bytes.
use Prim.Native.Nat.{ℕ, suc, ◌<◌}
use native.Mathlib.Nat.{mul-le-mul_right}
use native.Mathlib.Omega.{arith}
use Rattle.lines.specs.Held.{Held}
use Rattle.feeder_scan.specs.Holds.{Holds}

-- each of them lies within
pub held : {unit n len : ℕ} → Holds unit n len → (i : ℕ) → i < n → Held unit i len
held {unit} {n} h i l = record { unit_size = h.unit_size; room = omega (arith, h.room, mul-le-mul_right {m = suc i} {n = n} unit l) }
