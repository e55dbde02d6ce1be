-- Laws of level memory: a node that was put is read back and the rest stays; right levels give true nodes to a walk.
use Prim.Native.Nat.{ℕ, zero, suc, ◌+◌, ◌*◌, ◌/◌, ◌%◌, ◌≤◌, ◌<◌, min}
use mathlib.Core.Path.{◌≡◌, refl, sym, ap, ap₂, ◌∙◌}
use mathlib.Core.Bool.{Bool, cond}
use mathlib.Core.Logic.{◌⊎◌, inl, inr, ◌≢◌}
use mathlib.Core.List.{List, [], ◌∷◌}
use native.Mathlib.Nat.{div-add-mod', add-zero, not-suc-le-zero}
use native.Mathlib.Decide.{ℕ_discrete, dec_lt}
use native.Mathlib.Omega.{arith}
use borrow.Author.Tests.{eq-eqb, ne_eqb}
use lib.ListN.{length, get_or, set, length-set}
use lib.Seq.{sets, length-sets, get_or-set_same, get_or-set_other}
use Rattle.rules.specs.Sample.{sample_of}
use Rattle.rules.specs.Node.{Node, half, numbers_of, leaf, node_of, span, top_level}
use Rattle.rules.specs.Refusal.{node_size}
use Rattle.rules.specs.Walk.{all_levels}
use Rattle.rules.proofs.Node.{node_one}
use Rattle.rules.proofs.Walk.{span_pos}
use Rattle.rules.proofs.Found.{TrueNodes}
use Rattle.node.specs.Memory.{node_in, put_node, reader_of, Right}

-- ---- a run of stores
-- other numbers stay
sets_other : (vs l : List ℕ) (i k : ℕ) → (k < i) ⊎ (i + length vs ≤ k) → get_or (sets l i vs) k 0 ≡ get_or l k 0
sets_other [] l i k h = refl
sets_other (v ∷ vs) l i k h = sets_other vs (set l i v) (suc i) k (side h) ∙ get_or-set_other l i k v 0 (apart h)
  where
    side : (k < i) ⊎ (i + suc (length vs) ≤ k) → (k < suc i) ⊎ (suc i + length vs ≤ k)
    side (inl a) = inl (omega arith)
    side (inr a) = inr (omega arith)

    apart : (k < i) ⊎ (i + suc (length vs) ≤ k) → k ≢ i
    apart (inl a) e = omega arith
    apart (inr a) e = omega arith

-- what is stored is read back
sets_at : (vs l : List ℕ) (i k : ℕ) → i + length vs ≤ length l → k < length vs → get_or (sets l i vs) (i + k) 0 ≡ get_or vs k 0
sets_at [] l i k h b = absurd (not-suc-le-zero b)
sets_at (v ∷ vs) l i zero h b = ap (λ (x : ℕ). get_or (sets (set l i v) (suc i) vs) x 0) (add-zero i) ∙ sets_other vs (set l i v) (suc i) i (inl (omega arith)) ∙ get_or-set_same l i v 0 (omega arith)
sets_at (v ∷ vs) l i (suc k) h b = ap (λ (x : ℕ). get_or (sets (set l i v) (suc i) vs) x 0) next ∙ sets_at vs (set l i v) (suc i) k (simp length-set (omega arith)) (omega arith)
  where
    next : i + suc k ≡ suc i + k
    next = omega arith

-- lists with equal numbers at a node's places have the same node
pub node_at : (k l : List ℕ) (i : ℕ) → ((x : ℕ) → x < node_size → get_or k (i * node_size + x) 0 ≡ get_or l (i * node_size + x) 0) → node_in k i ≡ node_in l i
node_at k l i h = λ t. record { first = first t; last = h 1 (omega arith) t; toggles = h 2 (omega arith) t; count = ap₂ (λ (x y : ℕ). x + half * y) (h 3 (omega arith)) (h 4 (omega arith)) t }
  where
    first : get_or k (i * node_size) 0 ≡ get_or l (i * node_size) 0
    first = ap (λ (x : ℕ). get_or k x 0) (sym (add-zero (i * node_size))) ∙ h 0 (omega arith) ∙ ap (λ (x : ℕ). get_or l x 0) (add-zero (i * node_size))

module _ (l : List ℕ) (j : ℕ) (n : Node) where
  pub length_put : length (put_node l j n) ≡ length l
  unfolding put_node
  length_put = length-sets l (j * node_size) (numbers_of n)

  -- what is put is read back
  pub put_same : j * node_size + node_size ≤ length l → node_in (put_node l j n) j ≡ n
  unfolding put_node
  put_same h = λ t. record {
    first = (ap (λ (x : ℕ). get_or (sets l (j * node_size) (numbers_of n)) x 0) (sym (add-zero (j * node_size))) ∙ at 0 (omega arith)) t;
    last = at 1 (omega arith) t;
    toggles = at 2 (omega arith) t;
    count = (ap₂ (λ (x y : ℕ). x + half * y) (at 3 (omega arith)) (at 4 (omega arith)) ∙ whole) t;
  }
    where
      at : (k : ℕ) → k < node_size → get_or (sets l (j * node_size) (numbers_of n)) (j * node_size + k) 0 ≡ get_or (numbers_of n) k 0
      at k b = sets_at (numbers_of n) l (j * node_size) k h b

      whole : n.count % half + half * (n.count / half) ≡ n.count
      whole = omega arith

  -- the other numbers stay
  pub put_rest : (k : ℕ) → (k < j * node_size) ⊎ (j * node_size + node_size ≤ k) → get_or (put_node l j n) k 0 ≡ get_or l k 0
  unfolding put_node
  put_rest k h = sets_other (numbers_of n) l (j * node_size) k h

-- the other nodes stay
pub put_other : (l : List ℕ) (j : ℕ) (n : Node) (i : ℕ) → i ≢ j → node_in (put_node l j n) i ≡ node_in l i
put_other l j n i z = node_at (put_node l j n) l i (λ x h. put_rest l j n (i * node_size + x) (side (dec_lt i j) x h))
  where
    side : Dec (i < j) → (x : ℕ) → x < node_size → (i * node_size + x < j * node_size) ⊎ (j * node_size + node_size ≤ i * node_size + x)
    side (yes d) x h = inl (omega arith)
    side (no d) x h = inr (omega (arith, z))

-- ---- what memory reads
module _ (unit : ℕ) (samples : List ℕ) (levels : ℕ → List ℕ) where
  pub reads_sample : (l p : ℕ) → l ≡ 0 → reader_of unit samples levels l p ≡ leaf (sample_of unit samples p)
  unfolding reader_of
  reads_sample l p z = ap (λ (b : Bool). cond b (leaf (sample_of unit samples p)) (node_in (levels l) (p / span l))) (eq-eqb l 0 z)

  pub reads_node : (l p : ℕ) → (l ≡ 0 → ⊥) → reader_of unit samples levels l p ≡ node_in (levels l) (p / span l)
  unfolding reader_of
  reads_node l p z = ap (λ (b : Bool). cond b (leaf (sample_of unit samples p)) (node_in (levels l) (p / span l))) (ne_eqb l 0 z)

  -- right levels are true nodes to a walk
  pub right_true : (len : ℕ) → Right (sample_of unit samples) len levels → TrueNodes all_levels (reader_of unit samples levels) (sample_of unit samples) len
  right_true len r = record { is = λ l p hl _ a h. go l p hl a h (ℕ_discrete l 0) }
    where
      go : (l p : ℕ) → l ≤ top_level → p % span l ≡ 0 → p + span l ≤ len → Dec (l ≡ 0) → reader_of unit samples levels l p ≡ node_of (sample_of unit samples) p (p + span l)
      go l p hl a h (yes z) = reads_sample l p z ∙ sym (ap (λ (k : ℕ). node_of (sample_of unit samples) p (p + span k)) z ∙ node_one (sample_of unit samples) p)
      go l p hl a h (no z) =
          reads_node l p z
          ∙ r l (omega arith) hl (p / span l) (omega (arith, at, span_pos l))
          ∙ ap₂ (node_of (sample_of unit samples)) at ends
        where
          at : p / span l * span l ≡ p
          at = omega (arith, div-add-mod' p (span l))

          ends : min (suc (p / span l) * span l) len ≡ p + span l
          ends = omega (arith, at)
