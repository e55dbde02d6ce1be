-- Reading a part of memory: the nodes of a stretch are the reader's, and lie in memory.
use Prim.Native.Nat.{ℕ, suc, ◌+◌, ◌-◌, ◌*◌, ◌/◌, ◌≤◌, ◌<◌}
use mathlib.Core.Path.{◌≡◌, refl, sym, ap, ◌∙◌, subst}
use mathlib.Core.Bool.{Bool, true, false, cond}
use mathlib.Core.List.{List}
use native.Mathlib.Nat.{div-add-mod', mul-le-mul_right, suc-mul, add-mul-div_right, div-le_self}
use native.Mathlib.Decide.{ℕ_discrete}
use native.Mathlib.Omega.{arith}
use borrow.Author.Tests.{eq-eqb, ne_eqb}
use lib.Dec.{eqb}
use lib.ListN.{length}
use Rattle.rules.specs.Sample.{sample_of}
use Rattle.rules.specs.Node.{leaf, mirror, span, top_level}
use Rattle.rules.specs.Refusal.{node_size}
use Rattle.node.specs.Memory.{node_in}
use Rattle.capture.specs.Backed.{Bytes}
use Rattle.capture.proofs.Backed.{sample_held}
use Rattle.find.specs.Part.{reader_from, PartBacked}
use Rattle.find.specs.Run.{node_at, nth_number, nth_node, NodeHeld, NthHeld, RunHeld}
use Rattle.find.specs.Way.{way_in, moved, left_in, number_in}
use Rattle.find.proofs.Way.{Placed, Stretch, some_samples, room_for, place_after}

module _ (base unit : ℕ) (part : List ℕ) (levels : ℕ → List ℕ) (l p : ℕ) where
  pub from_sample : l ≡ 0 → reader_from base unit part levels l p ≡ leaf (sample_of unit part (p - base))
  unfolding reader_from
  from_sample z = ap (λ (b : Bool). cond b (leaf (sample_of unit part (p - base))) (node_in (levels l) (p / span l))) (eq-eqb l 0 z)

  pub from_node : (l ≡ 0 → ⊥) → reader_from base unit part levels l p ≡ node_in (levels l) (p / span l)
  unfolding reader_from
  from_node z = ap (λ (b : Bool). cond b (leaf (sample_of unit part (p - base))) (node_in (levels l) (p / span l))) (ne_eqb l 0 z)

  -- by the number of the place
  pub from_number : (s : ℕ) → s ≡ span l → reader_from base unit part levels l p ≡ node_at unit part (levels l) l (number_in base l s p)
  unfolding reader_from node_at
  from_number s e = go (eqb l 0) ∙ ap (λ (x : ℕ). cond (eqb l 0) (leaf (sample_of unit part (number_in base l x p))) (node_in (levels l) (number_in base l x p))) (sym e)
    where
      go : (b : Bool) → cond b (leaf (sample_of unit part (p - base))) (node_in (levels l) (p / span l))
          ≡ cond b (leaf (sample_of unit part (cond b (p - base) (p / span l)))) (node_in (levels l) (cond b (p - base) (p / span l)))
      go true = refl
      go false = refl

-- bytes of n samples hold fewer
pub bytes_less : (unit n k : ℕ) (bytes : List ℕ) → Bytes unit n bytes → k ≤ n → Bytes unit k bytes
bytes_less unit n k bytes b h = record { unit_size = b.unit_size; room = omega (arith, mul-le-mul_right unit h, b.room) }

-- ---- numbers of places
module _ (base l s : ℕ) (e : s ≡ span l) (some : 1 ≤ s) where
  number_zero : (p : ℕ) → l ≡ 0 → number_in base l s p ≡ p - base
  number_zero p z = ap (λ (b : Bool). cond b (p - base) (p / s)) (eq-eqb l 0 z)

  number_above : (p : ℕ) → (l ≡ 0 → ⊥) → number_in base l s p ≡ p / s
  number_above p z = ap (λ (b : Bool). cond b (p - base) (p / s)) (ne_eqb l 0 z)

  -- d nodes on
  number_on : (p d : ℕ) → base ≤ p → number_in base l s (p + d * s) ≡ number_in base l s p + d
  number_on p d h = go (ℕ_discrete l 0)
    where
      go : Dec (l ≡ 0) → number_in base l s (p + d * s) ≡ number_in base l s p + d
      go (yes z) = let one : d * s ≡ d * 1 = ap (λ (x : ℕ). d * x) (e ∙ ap span z) in omega (arith, number_zero (p + d * s) z, number_zero p z)
      go (no z) = omega (arith, number_above (p + d * s) z, number_above p z, add-mul-div_right p d {z = s} some)

  number_le : (p : ℕ) → number_in base l s p ≤ p
  number_le p = go (ℕ_discrete l 0)
    where
      go : Dec (l ≡ 0) → number_in base l s p ≤ p
      go (yes z) = omega (arith, number_zero p z)
      go (no z) = omega (arith, number_above p z, div-le_self p s)

  -- the node at p lies in memory
  number_held : (unit hi p : ℕ) (part : List ℕ) (levels : ℕ → List ℕ) → PartBacked unit base hi part levels → l ≤ top_level → base ≤ p → p + s ≤ hi → NodeHeld unit part (levels l) l (number_in base l s p)
  number_held unit hi p part levels r top low high = record {
    sample = λ z. sample_held r.bytes (number_in base l s p) (omega (arith, number_zero p z));
    node = λ z. subst (λ (x : ℕ). x * node_size + node_size ≤ length (levels l)) (sym (number_above p z)) (r.nodes.inside l (p / s) (omega arith) top (subst (λ (x : ℕ). p / s * x < hi) e (omega (arith, div-add-mod' p s))));
  }

-- ---- a stretch
-- where its node k starts
abbrev nth_start : Bool → ℕ → ℕ → ℕ → ℕ
nth_start true pos s k = pos - k * s - s
nth_start false pos s k = pos + k * s

module _ (back : Bool) (base hi pos room cap l s n : ℕ) (p : Placed back base hi pos room) (t : Stretch back pos room cap l s n) where
  some : 1 ≤ s
  some = some_samples back base hi pos room cap l s n p t

  module _ (k : ℕ) (h : k < n) where
    fits : k * s + s ≤ room
    fits = room_for back base hi pos room cap l s n p t k h

    start_within : (b : Bool) → base ≤ pos → pos ≤ hi → room ≡ left_in b base hi pos → (base ≤ nth_start b pos s k) × (nth_start b pos s k + s ≤ hi)
    start_within true i j e = (omega (arith, fits), omega (arith, fits))
    start_within false i j e = (omega (arith, fits), omega (arith, fits))

    -- before that start, k + 1 nodes back
    number_back : room ≡ left_in true base hi pos → number_in base l s pos ≡ number_in base l s (nth_start true pos s k) + suc k
    number_back e = ap (number_in base l s) whole ∙ number_on base l s t.span_is some (pos - k * s - s) (suc k) (omega (arith, fits))
      where
        whole : pos ≡ pos - k * s - s + suc k * s
        whole = omega (arith, fits, suc-mul k s)

    number_nth : (b : Bool) → base ≤ pos → room ≡ left_in b base hi pos → nth_number b (number_in base l s pos) k ≡ number_in base l s (nth_start b pos s k)
    number_nth true i e = omega (arith, number_back e)
    number_nth false i e = sym (number_on base l s t.span_is some pos k i)

    module _ (unit : ℕ) (part : List ℕ) (levels : ℕ → List ℕ) where
      nth_reads : nth_node back (node_at unit part (levels l) l) (number_in base l s pos) k ≡ (way_in back (reader_from base unit part levels) base hi).node l (moved back pos (k * s))
      nth_reads = go back p.room_is
        where
          at : (x y : ℕ) → x ≡ number_in base l s y → node_at unit part (levels l) l x ≡ reader_from base unit part levels l y
          at x y e = ap (node_at unit part (levels l) l) e ∙ sym (from_number base unit part levels l y s t.span_is)

          go : (b : Bool) → room ≡ left_in b base hi pos → nth_node b (node_at unit part (levels l) l) (number_in base l s pos) k ≡ (way_in b (reader_from base unit part levels) base hi).node l (moved b pos (k * s))
          go true e = ap mirror (at _ (pos - k * s - s) (number_nth true p.low e) ∙ ap (λ (x : ℕ). reader_from base unit part levels l (pos - k * s - x)) t.span_is)
          go false e = at _ (pos + k * s) (number_nth false p.low e)

      nth_held : PartBacked unit base hi part levels → l ≤ top_level → hi < 18446744073709551616 → NthHeld unit part (levels l) l back (number_in base l s pos) k
      nth_held r top m = record {
        behind = λ z. omega (arith, number_back (p.room_is ∙ ap (λ (b : Bool). left_in b base hi pos) z));
        ahead = λ z. before (p.room_is ∙ ap (λ (b : Bool). left_in b base hi pos) z);
        held = let i = start_within back p.low p.high p.room_is in subst (NodeHeld unit part (levels l) l) (sym (number_nth back p.low p.room_is)) (number_held base l s t.span_is some unit hi (nth_start back pos s k) part levels r top i.0 i.1);
      }
        where
          before : room ≡ left_in false base hi pos → number_in base l s pos + k < 18446744073709551616
          before e = omega (arith, number_nth false p.low e, number_le base l s t.span_is some (pos + k * s), fits, p.high)

  pub run_reads : (unit : ℕ) (part : List ℕ) (levels : ℕ → List ℕ) (k : ℕ) → k < n
      → nth_node back (node_at unit part (levels l) l) (number_in base l s pos) k ≡ (way_in back (reader_from base unit part levels) base hi).node l (place_after back base hi pos room cap l s n p t k)
  run_reads unit part levels k h = nth_reads k h unit part levels

  pub run_held : (unit : ℕ) (part : List ℕ) (levels : ℕ → List ℕ) → PartBacked unit base hi part levels → l ≤ top_level → hi < 18446744073709551616 → RunHeld unit part (levels l) l back (number_in base l s pos) n
  run_held unit part levels r top m = record { each = λ k h. nth_held k h unit part levels r top m }
