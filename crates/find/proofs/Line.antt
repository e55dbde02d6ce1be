-- A run of quiet nodes of one level is as many steps of the walk, at any level and in either direction.
use Prim.Native.Nat.{ℕ, zero, suc, ◌+◌, ◌-◌, ◌*◌, ◌≤◌, ◌<◌}
use mathlib.Core.Path.{◌≡◌, refl, sym, subst, subst₂}
use mathlib.Core.Bool.{Bool, true, false}
use Rattle.std.specs.Prelude.{Some}
use native.Mathlib.Nat.{le_refl, suc-mul}
use native.Mathlib.Omega.{arith}
use Rattle.rules.specs.Node.{Node}
use Rattle.rules.specs.Walk.{Walked, Way, best}
use Rattle.find.specs.Run.{carried, Run}
use Rattle.find.specs.Way.{way_in, moved}
use Rattle.find.proofs.Going.{told, Going, going_past, going_lower, going_found}
use Rattle.find.proofs.Way.{Placed, Stretch, left_is, some_samples, room_for, place_after, placed_after, level_after_lem}

-- n places from p on at which the walk takes level l: place j is `at j` and has the node `nodes j`
pub record Line (w : Way) (p cap l : ℕ) (at : ℕ → ℕ) (nodes : ℕ → Node) (n : ℕ) : Type 0 where
  pub starts : p ≡ at 0
  pub moves : (j : ℕ) → at (suc j) ≡ w.past l (at j)
  pub reads : (j : ℕ) → j < n → nodes j ≡ w.node l (at j)
  pub some_left : (j : ℕ) → j < n → 0 < w.left (at j)
  pub falls : (j : ℕ) → j < n → w.left (at (suc j)) < w.left (at j)
  pub level : (j : ℕ) → j < n → l ≡ best (λ (l : ℕ). w.takes l (at j)) cap

module _ {w : Way} {mask : ℕ} {whole : Walked} {count p cap v l : ℕ} {at : ℕ → ℕ} {nodes : ℕ → Node} {n k u : ℕ}
    (g : Going w mask whole count p cap v) (line : Line w p cap l at nodes n) (r : Run nodes mask v n k u) where
  -- after j of the nodes that are quiet
  after : (j : ℕ) → j ≤ k → Going w mask whole (count + j) (at j) cap (carried v nodes j)
  after zero h = subst₂ (λ (y x : ℕ). Going w mask whole y x cap v) (omega arith) line.starts g
  after (suc j) h = going_past (after j (omega arith)) (line.some_left j below) (line.level j below) (line.reads j below) (omega arith) (line.moves j) (line.falls j below) (r.quiets.each j h)
    where
      below : j < n
      below = omega (arith, r.most)

  -- after all of them
  pub run_past : Going w mask whole (count + k) (at k) cap u
  run_past = subst (λ (x : ℕ). Going w mask whole (count + k) (at k) cap x) (sym r.quiets.carries) (after k (le_refl k))

  -- the first node that is not quiet is the find at level 0, and lowers the cap at the others; it is read too
  pub run_found : k < n → l ≡ 0 → told (Some (at k)) (count + k + 1) ≡ whole
  run_found h z = going_found run_past (line.some_left k h) (line.level k h) (line.reads k h) refl (r.stops h) z

  pub run_lower : k < n → l ≤ cap → (l ≡ 0 → ⊥) → Going w mask whole (count + k + 1) (at k) (l - 1) u
  run_lower h c z = going_lower run_past (line.some_left k h) (line.level k h) (line.reads k h) refl c (r.stops h) z

-- a stretch is such a line, over any reader that has its nodes
module _ (back : Bool) (reader : ℕ → ℕ → Node) (base hi pos room cap l s n : ℕ) (p : Placed back base hi pos room) (t : Stretch back pos room cap l s n) where
  abbrev way : Way
  way = way_in back reader base hi

  abbrev at : ℕ → ℕ
  at = place_after back base hi pos room cap l s n p t

  left_after : (j : ℕ) → j * s ≤ room → way.left (at j) ≡ room - j * s
  left_after j h = omega (arith, left_is back reader base hi (at j), (placed_after back base hi pos room cap l s n p t j h).room_is)

  pub stretch_line : (nodes : ℕ → Node) → ((j : ℕ) → j < n → nodes j ≡ way.node l (at j)) → Line way pos cap l at nodes n
  stretch_line nodes reads = record {
    starts = starts back;
    moves = λ j. moves j back;
    reads = reads;
    some_left = λ j h. omega (arith, left_after j (omega (arith, fits j h)), fits j h, Some);
    falls = λ j h. omega (arith, left_after j (omega (arith, fits j h)), left_after (suc j) (omega (arith, fits j h, suc-mul j s)), fits j h, Some, suc-mul j s);
    level = λ j h. level_after_lem back base hi pos room cap l s n p t j h reader;
  }
    where
      Some : 1 ≤ s
      Some = some_samples back base hi pos room cap l s n p t

      fits : (j : ℕ) → j < n → j * s + s ≤ room
      fits j h = room_for back base hi pos room cap l s n p t j h

      starts : (b : Bool) → pos ≡ moved b pos (0 * s)
      starts true = omega arith
      starts false = omega arith

      moves : (j : ℕ) (b : Bool) → moved b pos (suc j * s) ≡ (way_in b reader base hi).past l (moved b pos (j * s))
      moves j true = omega (arith, suc-mul j s, t.span_is)
      moves j false = omega (arith, suc-mul j s, t.span_is)
