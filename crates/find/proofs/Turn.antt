-- A turn of find's loop: it takes a level, passes a run of its nodes, and knows again what it knew.
use Prim.Native.Nat.{ℕ, suc, ◌+◌, ◌-◌, ◌*◌, ◌/◌, ◌≤◌, ◌<◌, min}
use mathlib.Core.Path.{◌≡◌, sym, ap, ◌∙◌, subst, subst₂}
use mathlib.Core.Bool.{Bool, true, false}
use mathlib.Core.List.{List}
use Rattle.std.specs.Prelude.{None, Some}
use native.Mathlib.Nat.{mul-le-mul_right}
use native.Mathlib.Omega.{arith}
use Rattle.rules.specs.Node.{Node, span, top_level, chunk}
use Rattle.rules.specs.Walk.{Walked, walk_from}
use Rattle.rules.proofs.Walk.{span_pos}
use Rattle.rules.proofs.Steps.{walk_steps_le}
use Rattle.level.specs.Best.{Best}
use Rattle.find.specs.Part.{reader_from, PartBacked}
use Rattle.find.specs.Run.{node_at, nth_node, RunHeld}
use Rattle.find.specs.Way.{way_in, moved, left_in, to_border, number_in}
use Rattle.find.specs.Takes.{Takes}
use Rattle.find.proofs.Going.{told, Going, going_starts, going_end}
use Rattle.find.proofs.Way.{Placed, placed_moved, moves_fit, Stretch, stretch_of, stretch_some, left_is}
use Rattle.find.proofs.Line.{Line, run_past, run_found, run_lower, stretch_line}
use Rattle.find.proofs.Parts.{run_reads, run_held}

-- ---- taking a level
-- what `take` knows before it asks n nodes, from number `from` of the level's list on
module _ (back : Bool) (unit base hi : ℕ) (part : List ℕ) (levels : ℕ → List ℕ) (pos room cap l s n from : ℕ) (level : List ℕ)
    (e : room ≡ left_in back base hi pos) (b : Best pos room cap l) (es : s ≡ span l) (en : n ≡ min (to_border back (pos / s)) (room / s)) (ef : from ≡ number_in base l s pos) (el : level ≡ levels l) where
  pub take_held : PartBacked unit base hi part levels → base ≤ pos → pos ≤ hi → cap ≤ top_level → hi < 18446744073709551616 → RunHeld unit part level l back from n
  take_held r low high top m =
      subst₂ (λ (t : List ℕ) (f : ℕ). RunHeld unit part t l back f n) (sym el) (sym ef)
      (run_held back base hi pos room cap l s n (record { low = low; high = high; room_is = e }) (stretch_of back pos room cap l s n b es en) unit part levels r (omega (arith, b.below)) m)

-- ---- the loop
-- the walk in a chunk has few steps, whatever memory holds
chunk_most : (back : Bool) (reader : ℕ → ℕ → Node) (base hi mask p v : ℕ) → base ≤ p → p ≤ hi → hi ≤ base + chunk → (walk_from (way_in back reader base hi) mask p v).steps ≤ chunk + 5
chunk_most true reader base hi mask p v i j h = omega (arith, walk_steps_le (way_in true reader base hi) mask (suc (p - base + top_level)) p top_level v)
chunk_most false reader base hi mask p v i j h = omega (arith, walk_steps_le (way_in false reader base hi) mask (suc (hi - p + top_level)) p top_level v)

-- what the loop knows: where it stands, and that the walk from there on, its steps counted on, is the whole walk
pub record Stands (back : Bool) (unit base hi : ℕ) (part : List ℕ) (levels : ℕ → List ℕ) (mask : ℕ) (whole : Walked) (count pos room cap v : ℕ) : Type 0 where
  pub placed : Placed back base hi pos room
  pub going : Going (way_in back (reader_from base unit part levels) base hi) mask whole count pos cap v
  -- so no count wraps
  pub few_steps : whole.steps ≤ chunk + 5

pub stands_first : (back : Bool) (unit base hi : ℕ) (part : List ℕ) (levels : ℕ → List ℕ) (mask start room v : ℕ) → base ≤ start → start ≤ hi → hi ≤ base + chunk → room ≡ left_in back base hi start
    → Stands back unit base hi part levels mask (walk_from (way_in back (reader_from base unit part levels) base hi) mask start v) 0 start room top_level v
stands_first back unit base hi part levels mask start room v low high most e = record {
  placed = record { low = low; high = high; room_is = e };
  going = going_starts (way_in back (reader_from base unit part levels) base hi) mask start v;
  few_steps = chunk_most back (reader_from base unit part levels) base hi mask start v low high most;
}

module _ {back : Bool} {unit base hi : ℕ} {part : List ℕ} {levels : ℕ → List ℕ} {mask : ℕ} {whole : Walked} {count pos room cap v : ℕ}
    (x : Stands back unit base hi part levels mask whole count pos room cap v) where
  pub stands_last : room ≡ 0 → told None count ≡ whole
  stands_last z = going_end x.going (left_is back (reader_from base unit part levels) base hi pos ∙ sym x.placed.room_is ∙ z)

  -- a level is taken
  module _ {l s n k u : ℕ} (t : Takes back unit base hi part levels mask pos cap v l s n k u) where
    best : Best pos room cap l
    best = subst (λ (y : ℕ). Best pos y cap l) (sym x.placed.room_is) t.best

    asked : n ≡ min (to_border back (pos / s)) (room / s)
    asked = t.asked ∙ ap (λ (y : ℕ). min (to_border back (pos / s)) (y / s)) (sym x.placed.room_is)

    stretch : Stretch back pos room cap l s n
    stretch = stretch_of back pos room cap l s n best t.span_is asked

    some_asked : 1 ≤ n
    some_asked = stretch_some back pos room cap l s n best t.span_is asked

    line : Line (way_in back (reader_from base unit part levels) base hi) pos cap l (λ (j : ℕ). moved back pos (j * s)) (nth_node back (node_at unit part (levels l) l) (number_in base l s pos)) n
    line =
        stretch_line back (reader_from base unit part levels) base hi pos room cap l s n x.placed stretch (nth_node back (node_at unit part (levels l) l) (number_in base l s pos))
        (λ j h. run_reads back base hi pos room cap l s n x.placed stretch unit part levels j h)

    pub turn_room : k * s ≤ room
    turn_room = omega (arith, stretch.fits, mul-le-mul_right {m = k} {n = n} s t.passed.most)

    pub turn_moves : hi < 18446744073709551616 → (back ≡ true → k * s ≤ pos) × (back ≡ false → pos + k * s < 18446744073709551616)
    turn_moves m = moves_fit back base hi pos room x.placed (k * s) turn_room m

    -- where all are passed, at least one sample is
    pub turn_some : n ≤ k → 1 ≤ k * s
    turn_some h = omega (arith, t.span_is, span_pos l, mul-le-mul_right {m = 1} {n = k} s (omega (arith, some_asked)))

    module _ {q : ℕ} (eq : q ≡ moved back pos (k * s)) where
      placed_there : Placed back base hi q (room - k * s)
      placed_there = subst (λ (y : ℕ). Placed back base hi y (room - k * s)) (sym eq) (placed_moved back base hi pos room x.placed (k * s) turn_room)

      pub turn_past : Stands back unit base hi part levels mask whole (count + k) q (room - k * s) cap u
      turn_past = record { placed = placed_there; few_steps = x.few_steps; going = subst (λ (y : ℕ). Going (way_in back (reader_from base unit part levels) base hi) mask whole (count + k) y cap u) (sym eq) (run_past x.going line t.passed) }

      pub turn_found : k < n → l ≡ 0 → told (Some q) (count + k + 1) ≡ whole
      turn_found h z = ap (λ (y : ℕ). told (Some y) (count + k + 1)) eq ∙ run_found x.going line t.passed h z

      pub turn_lower : k < n → (l ≡ 0 → ⊥) → Stands back unit base hi part levels mask whole (count + k + 1) q (room - k * s) (l - 1) u
      turn_lower h z = record { placed = placed_there; few_steps = x.few_steps; going = subst (λ (y : ℕ). Going (way_in back (reader_from base unit part levels) base hi) mask whole (count + k + 1) y (l - 1) u) (sym eq) (run_lower x.going line t.passed h t.best.below z) }
