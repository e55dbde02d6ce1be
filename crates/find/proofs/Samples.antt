-- The next few samples, none of them at a border of a level above 0, are a stretch of level 0 of the walk in their chunk.
use Prim.Native.Nat.{ℕ, ◌+◌, ◌-◌, ◌*◌, ◌%◌, ◌≤◌, ◌<◌, min}
use mathlib.Core.Path.{◌≡◌, refl, sym, ap, ap₂, ◌∙◌, subst}
use mathlib.Core.Bool.{Bool, true, false, cond}
use mathlib.Core.List.{List}
use Rattle.std.specs.Prelude.{None, Some}
use native.Mathlib.Nat.{div-one}
use native.Mathlib.Decide.{dec_lt, ℕ_discrete}
use native.Mathlib.Omega.{arith}
use borrow.Author.Tests.{eq-eqb, ne_eqb, lt-ltb, le-ltb}
use Rattle.rules.specs.Node.{mirror, chunk, top_level}
use Rattle.rules.specs.Walk.{Walked, nothing, walk_from}
use Rattle.node.specs.Memory.{reader_of}
use Rattle.node.proofs.NodeMemory.{reads_sample}
use Rattle.find.specs.Run.{nth_node, Run}
use Rattle.find.specs.Way.{way_in, moved, left_in, to_border}
use Rattle.find.specs.Near.{few, few_stored, leaf_in, found_after, Near}
use Rattle.find.proofs.Going.{told, going_starts}
use Rattle.find.proofs.Way.{Placed, Stretch, best_within}
use Rattle.find.proofs.Line.{run_found, stretch_line}

-- ---- what `near` answers, m samples being asked
module _ (unit len : ℕ) (samples : List ℕ) (back : Bool) (p mask v m k u : ℕ) (em : m ≡ few_stored back len p) (r : Run (nth_node back (leaf_in unit samples) p) mask v m k u) where
  asked : Run (nth_node back (leaf_in unit samples) p) mask v (few_stored back len p) k u
  asked = subst (λ (x : ℕ). Run (nth_node back (leaf_in unit samples) p) mask v x k u) em r

  pub near_found : k < m → {q : ℕ} → q ≡ moved back p k → Near unit len samples back mask p v (told (Some q) (k + 1))
  near_found h eq = record { count = k; value = u; passed = asked; answer_is = ap (λ (x : ℕ). told (Some x) (k + 1)) eq ∙ sym (ap (λ (b : Bool). cond b (found_after back p k) nothing) (lt-ltb k (few_stored back len p) (omega arith))) }

  pub near_none : m ≤ k → Near unit len samples back mask p v nothing
  near_none h = record { count = k; value = u; passed = asked; answer_is = sym (ap (λ (b : Bool). cond b (found_after back p k) nothing) (le-ltb k (few_stored back len p) (omega arith))) }

-- ---- the walk
-- what few says of n samples
record Free (back : Bool) (p n : ℕ) : Type 0 where
  pub between : 0 < n → p % 32 ≡ 0 → ⊥
  pub border : n ≤ to_border back p

free : (back : Bool) (p n : ℕ) → n ≤ few back p → Free back p n
free back p n h = go (ℕ_discrete (p % 32) 0)
  where
    go : Dec (p % 32 ≡ 0) → Free back p n
    go (yes z) = let e : few back p ≡ 0 = ap (λ (b : Bool). cond b 0 (min (to_border back p) 8)) (eq-eqb _ _ z) in record { between = λ i _. omega arith; border = omega arith }
    go (no z) = let e : few back p ≡ min (to_border back p) 8 = ap (λ (b : Bool). cond b 0 (min (to_border back p) 8)) (ne_eqb _ _ z) in record { between = λ _. z; border = omega arith }

module _ (unit len : ℕ) (samples : List ℕ) (back : Bool) (p : ℕ) (hp : p ≤ len) where
  abbrev n : ℕ
  n = few_stored back len p

  module _ (mask v k u : ℕ) (r : Run (nth_node back (leaf_in unit samples) p) mask v n k u) (h : k < n) where
    module _ (levels : ℕ → List ℕ) (c : ℕ) (low : c * chunk ≤ p) (high : p ≤ (c + 1) * chunk) where
      abbrev hi : ℕ
      hi = min ((c + 1) * chunk) len

      inside : (b : Bool) → n ≤ left_in b 0 len p → n ≤ to_border b p → n ≤ left_in b (c * chunk) hi p
      inside true i j = let z : p % 32 ≡ 0 → ⊥ = (free back p n (omega arith)).between (omega arith) in omega arith
      inside false i j = let z : p % 32 ≡ 0 → ⊥ = (free back p n (omega arith)).between (omega arith) in omega arith

      found_there : found_after back p k ≡ walk_from (way_in back (reader_of unit samples levels) (c * chunk) hi) mask p v
      found_there = ap₂ (λ (x n : ℕ). told (Some (moved back p x)) n) place counts ∙ run_found (going_starts (way_in back (reader_of unit samples levels) (c * chunk) hi) mask p v) (stretch_line back (reader_of unit samples levels) (c * chunk) hi p (left_in back (c * chunk) hi p) top_level 0 1 n placed taken (nth_node back (leaf_in unit samples) p) (λ j _. reads j back)) r h refl
        where
          place : k ≡ k * 1
          place = omega arith

          counts : k + 1 ≡ 0 + k + 1
          counts = omega arith

          fits : n ≤ left_in back (c * chunk) hi p
          fits = inside back (omega arith) (free back p n (omega arith)).border

          placed : Placed back (c * chunk) hi p (left_in back (c * chunk) hi p)
          placed = record { low = low; high = omega arith; room_is = refl }

          taken : Stretch back p (left_in back (c * chunk) hi p) top_level 0 1 n
          taken = record {
            takes = best_within p (left_in back (c * chunk) hi p) top_level 0 p (omega arith) ((free back p n (omega arith)).between (omega arith)) (omega (arith, fits)) (omega arith);
            span_is = refl;
            border = subst (λ (x : ℕ). n ≤ to_border back x) (sym (div-one p)) (free back p n (omega arith)).border;
            fits = omega (arith, fits);
          }

          reads : (j : ℕ) (b : Bool) → nth_node b (leaf_in unit samples) p j ≡ (way_in b (reader_of unit samples levels) (c * chunk) hi).node 0 (moved b p (j * 1))
          reads j true = ap mirror (ap (leaf_in unit samples) (omega arith) ∙ sym (reads_sample unit samples levels 0 (p - j * 1 - 1) refl))
          reads j false = ap (leaf_in unit samples) (omega arith) ∙ sym (reads_sample unit samples levels 0 (p + j * 1) refl)

  -- what is found is what the walk in p's chunk finds, in as many steps, whatever levels hold
  pub near_finds : {mask v : ℕ} {answer : Walked} → Near unit len samples back mask p v answer → (answer.found ≡ None → ⊥) → (levels : ℕ → List ℕ) (c : ℕ) → c * chunk ≤ p → p ≤ (c + 1) * chunk
      → answer ≡ walk_from (way_in back (reader_of unit samples levels) (c * chunk) (min ((c + 1) * chunk) len)) mask p v
  near_finds {mask} {v} {answer} r t levels c low high = go (dec_lt r.count n)
    where
      answers : Bool → Walked
      answers b = cond b (found_after back p r.count) nothing

      go : Dec (r.count < n) → answer ≡ walk_from (way_in back (reader_of unit samples levels) (c * chunk) (min ((c + 1) * chunk) len)) mask p v
      go (yes h) = r.answer_is ∙ ap answers (lt-ltb r.count n h) ∙ found_there mask v r.count r.value r.passed h levels c low high
      go (no h) = absurd (t (ap (λ (w : Walked). w.found) (r.answer_is ∙ ap answers (le-ltb r.count n (omega arith)))))
