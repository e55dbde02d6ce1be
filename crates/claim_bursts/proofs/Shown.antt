-- A burst as a mill counts its places is of one burst of the run: the shift loses nothing. 02: CR 1.
use mathlib.Core.Path.{◌≡◌, refl, sym, ap, ◌∙◌}
use Rattle.std.specs.Prelude.{Option, None, Some}
use Rattle.rules.proofs.Options.{none-ne-some, some_inj}
use Prim.Native.Nat.{ℕ}
use Rattle.rules.specs.Burst.{Burst}
use Rattle.rules.specs.Mill.{MillBurst, mill_place, place_at, shown_burst}
use Rattle.rules.proofs.Mill.{counted_place}

place_one : (origin i j : ℕ) → mill_place origin i ≡ mill_place origin j → i ≡ j
place_one origin i j e = sym (counted_place origin i) ∙ ap (place_at origin) e ∙ counted_place origin j

pub shown_one : (origin : ℕ) (a b : Option Burst) → shown_burst origin a ≡ shown_burst origin b → a ≡ b
shown_one origin None None e = refl
shown_one origin None (Some b) e = absurd (none-ne-some _ e)
shown_one origin (Some a) None e = absurd (none-ne-some _ (sym e))
shown_one origin (Some a) (Some b) e =
    let z = some_inj e in
    let f = place_one origin a.first b.first (ap (λ (x : MillBurst). x.first) z) in
    let l = place_one origin a.last b.last (ap (λ (x : MillBurst). x.last) z) in
    λ i. Some (record { first = f i; last = l i; jumps_end = (z i).jumps_end; jumps_start = (z i).jumps_start })
