-- The answer of the scan: 0 where there are no samples; else what the scan by three masks says.
use Prim.Native.Nat.{ℕ, zero, suc, ◌-◌, ◌≤◌}
use mathlib.Core.Path.{◌≡◌, ap, ap₂, ◌∙◌}
use Rattle.std.specs.Prelude.{Option, Some, unwrap_or}
use native.Mathlib.Nat.{zero-add, sub-zero}
use native.Mathlib.Omega.{arith}
use Rattle.rules.specs.Sample.{list_from}
use Rattle.rules.specs.Trigger.{first_fire}
use Rattle.terms.specs.declared.Masks.{Masks}
use Rattle.terms.specs.Terms.{as_masks}
use Rattle.feeder_lists.specs.Bytes.{units}
use Rattle.feeder_scan.specs.declared.Wanted.{Wanted}
use Rattle.feeder_scan.specs.declared.samples.Samples.{Samples}
use Rattle.feeder_scan.specs.Scan.{samples_in, sample_in, wanted_of, masks_for, fire_from}
use Rattle.feeder_scan.proofs.Lines.{fire_first}

pub none_scanned : (m : Masks) (q : Option ℕ) (s : ℕ → ℕ) (n : ℕ) → n ≡ 0 → 0 ≡ first_fire (as_masks m) q (list_from s 0 n)
unfolding first_fire list_from
none_scanned m q s n e = rw e

-- v is the first sample, p the one before it
pub scanned : (m : Masks) (q : Option ℕ) (s : Samples) {w : Wanted} {v p r : ℕ} → 1 ≤ s.n → w ≡ wanted_of m → v ≡ sample_in s 0 → p ≡ unwrap_or q v → r ≡ fire_from (masks_for w) (sample_in s) p 0 s.n
    → r ≡ first_fire (as_masks m) q (samples_in s)
unfolding list_from
scanned m q s {w} {v} {p} h ew ev ep er =
    er
    ∙ ap₂ (λ (x : Wanted) (y : ℕ). fire_from (masks_for x) (sample_in s) y 0 s.n) ew (ep ∙ ap (unwrap_or q) ev)
    ∙ zero-add (after (s.n - 0))
    ∙ ap after (sub-zero s.n)
    ∙ whole s.n h
  where
    after : ℕ → ℕ
    after k = first_fire (masks_for (wanted_of m)) (Some (unwrap_or q (sample_in s 0))) (units s.unitsize k s.bytes.now)

    whole : (k : ℕ) → 1 ≤ k → after k ≡ first_fire (as_masks m) q (units s.unitsize k s.bytes.now)
    whole zero l = absurd (omega arith)
    whole (suc k) l = fire_first m q (sample_in s 0) (list_from (sample_in s) 1 k)
