-- What append's contract means, over the contract itself: `Post` of the call's generated `Reads`.
use Prim.Native.Nat.{ℕ, suc, ◌+◌, ◌-◌, ◌*◌, ◌/◌, ◌%◌, ◌≤◌, ◌<◌}
use mathlib.Core.Path.{◌≡◌, sym, ap, ap₂, ◌∙◌, subst, subst⁻¹}
use mathlib.Core.Logic.{◌⊎◌, inl, inr}
use mathlib.Core.List.{List, ◌++◌}
use native.Mathlib.Nat.{div-add-mod', mul-add-div_right}
use native.Mathlib.Decide.{ℕ_discrete}
use native.Mathlib.Omega.{arith}
use lib.ListN.{length, get_or, length-append}
use lib.Seq.{paste}
use contract.Lifetimes.{Lfts}
use denote.Ref.{Bor, MutBor, at_last}
use Rattle.rules.specs.Node.{span, top_level, level_node}
use Rattle.rules.specs.Sample.{sample_of, sample_count}
use Rattle.rules.specs.Refusal.{node_size}
use Rattle.rules.proofs.Refusal.{Sound, MarkInside}
use Rattle.rules.proofs.Touched.{node_low, node_high}
use Rattle.node.specs.Memory.{node_in, level_of, Right}
use Rattle.range.specs.Join.{made_over}
use Rattle.range.proofs.Right.{made_true}
use Rattle.store.specs.Room.{AppendRoom}
use Rattle.store.proofs.Bytes.{paste_twice}
use Rattle.store.proofs.Stored.{RoomOrNone, none_samples, none_levels, level_length, level_rest, samples_length, bytes_rest, old_samples, new_samples, has_room, stored_right}
use Rattle.store.proofs.Written.{SameNew, written_alike}
use Rattle.std.specs.Prelude.{Result}
use Rattle.answer.specs.declared.Refusal.{Refusal}
use Rattle.answer.specs.Answered as answered
use Rattle.capture.specs.declared.Capture.{Capture}
use Rattle.capture.specs.Record.{store_of, lent_of}
use Rattle.append.specs.Append.{record_of, grown, refusal_of, taken_of, Appends}
use Rattle.append.proofs.Answer.{taken_none, taken_all, passed, passed_room}
use Rattle.append.proofs.append.Reads as append

-- the lent memory
pub record Memory : Type 0 where
  pub samples : List ℕ
  pub l1 : List ℕ
  pub l2 : List ℕ
  pub l3 : List ℕ
  pub l4 : List ℕ

abbrev pub levels : Memory → ℕ → List ℕ
levels m = level_of m.l1 m.l2 m.l3 m.l4

-- every level of a capture's memory is right for the samples that are stored in it
abbrev pub RightIn : Capture → Memory → Type 0
RightIn c m = Right (sample_of c.unitsize m.samples) c.len (levels m)

abbrev Ref : Type 0
Ref = MutBor (List ℕ)

-- one call of append, as its contract has it: the answer v and the memory m' are allowed. The references are whatever the caller lends
pub record Called (c : Capture) (m : Memory) (bytes : List ℕ) (v : Result Capture Refusal) (m' : Memory) : Type 0 where
  pub κs : Lfts 6
  pub s : Ref
  pub r1 : Ref
  pub r2 : Ref
  pub r3 : Ref
  pub r4 : Ref
  pub b : Bor (List ℕ)
  pub s_is : s.now ≡ m.samples
  pub r1_is : r1.now ≡ m.l1
  pub r2_is : r2.now ≡ m.l2
  pub r3_is : r3.now ≡ m.l3
  pub r4_is : r4.now ≡ m.l4
  pub b_is : b.now ≡ bytes
  pub promised : append.Post κs (c, (s, (r1, (r2, (r3, (r4, (b, tt))))))) v
      (c, (at_last s m'.samples, (at_last r1 m'.l1, (at_last r2 m'.l2, (at_last r3 m'.l3, (at_last r4 m'.l4, (b, tt)))))))

-- one call
module _ {c : Capture} {m : Memory} {bytes : List ℕ} {v : Result Capture Refusal} {m' : Memory} (call : Called c m bytes v m') where
  pub equations : Appends c bytes m.samples (levels m) v m'.samples (levels m')
  equations = rw (← call.s_is, ← call.r1_is, ← call.r2_is, ← call.r3_is, ← call.r4_is, ← call.b_is) call.promised

  -- how many samples it takes
  abbrev pub taken : ℕ
  taken = taken_of c m.samples (levels m) bytes

  roomed : RoomOrNone c.unitsize c.len taken m.samples (levels m) bytes
  roomed = pick (ℕ_discrete (refusal_of c m.samples (levels m) bytes) 0)
    where
      pick : Dec (refusal_of c m.samples (levels m) bytes ≡ 0) → RoomOrNone c.unitsize c.len taken m.samples (levels m) bytes
      pick (yes e) =
          inr (subst⁻¹ (λ (n : ℕ). AppendRoom c.unitsize c.len n (length m.samples) (levels m) (length bytes)) (taken_all c bytes m.samples (levels m) e)
          (passed_room c bytes m.samples (levels m) e))
      pick (no e) = inl (taken_none c bytes m.samples (levels m) e)

  -- Right levels stay right, whether the call refuses or not: for the samples that are stored then, partial last nodes included.
  pub right_stays : RightIn c m → RightIn (record_of c v) m'
  right_stays r = subst⁻¹ (λ (x : Capture). RightIn x m') equations.record_is (stored_right equations.memory roomed r)

  -- 01, Store: "Each node touched is made anew from the level below, partial last nodes included." On right levels each node is its nodes of the level below, joined.
  pub made_anew : RightIn c m → (l j : ℕ) → 1 ≤ l → l < top_level → j * span (suc l) < (record_of c v).len → node_in (levels m' (suc l)) j ≡ made_over (node_in (levels m' l)) (((record_of c v).len - 1) / span l) j
  made_anew r l j p q h =
      right_stays r (suc l) (omega arith) q j h
      ∙ sym (made_true (sample_of (record_of c v).unitsize m'.samples) (record_of c v).len l (((record_of c v).len - 1) / span l) (node_in (levels m' l)) (right_stays r l p (omega arith))
      (omega (arith, node_low ((record_of c v).len - 1) l)) (omega (arith, node_high ((record_of c v).len - 1) l)) j h)

  -- The samples that were stored stay, and the ones that are taken follow.
  pub old_stay : (i : ℕ) → i < c.len → sample_of c.unitsize m'.samples i ≡ sample_of c.unitsize m.samples i
  old_stay = old_samples equations.memory roomed

  pub new_follow : (i : ℕ) → i < taken → sample_of c.unitsize m'.samples (c.len + i) ≡ sample_of c.unitsize bytes i
  new_follow = new_samples equations.memory roomed

  -- Nothing else in lent memory changes, whatever it holds: no length,
  pub lengths_stay : (length m'.samples ≡ length m.samples) × ((l : ℕ) → 1 ≤ l → l ≤ top_level → length (levels m' l) ≡ length (levels m l))
  lengths_stay = (samples_length equations.memory roomed, level_length equations.memory)

  -- no byte before the new samples or after them,
  pub bytes_stay : (k : ℕ) → (k < c.len * c.unitsize) ⊎ ((c.len + taken) * c.unitsize ≤ k) → get_or m'.samples k 0 ≡ get_or m.samples k 0
  bytes_stay = bytes_rest equations.memory roomed

  -- and no number of a level before the first node that covers a new sample or after the last one.
  pub nodes_stay : (l k : ℕ) → 1 ≤ l → l ≤ top_level → (k < c.len / span l * node_size) ⊎ (((c.len + taken - 1) / span l + 1) * node_size ≤ k) → get_or (levels m' l) k 0 ≡ get_or (levels m l) k 0
  nodes_stay = level_rest equations.memory

  -- A call that refuses gives the record back, and changes no memory.
  module _ (refused : answered.refusal_of v ≡ 0 → ⊥) where
    none_taken : taken ≡ 0
    none_taken = taken_none c bytes m.samples (levels m) (λ e. refused (equations.number_is ∙ e))

    same_level : (l : ℕ) → 1 ≤ l → l ≤ top_level → levels m' l ≡ levels m l
    same_level = none_levels equations.memory none_taken

    pub refused_leaves : (record_of c v ≡ c) × (m' ≡ m)
    unfolding level_of
    refused_leaves = (
      equations.record_is ∙ (λ i. record { unitsize = c.unitsize; capacity = c.capacity; len = same i; trigger = c.trigger }),
      λ i. record {
        samples = none_samples equations.memory none_taken i;
        l1 = same_level 1 (omega arith) (omega arith) i;
        l2 = same_level 2 (omega arith) (omega arith) i;
        l3 = same_level 3 (omega arith) (omega arith) i;
        l4 = same_level 4 (omega arith) (omega arith) i;
      },
    )
      where
        same : c.len + taken ≡ c.len
        same = omega (arith, none_taken)

  -- A call that does not refuse takes every whole sample of the bytes.
  module _ (done : answered.refusal_of v ≡ 0) where
    not_refused : refusal_of c m.samples (levels m) bytes ≡ 0
    not_refused = sym equations.number_is ∙ done

    pub takes_all : taken ≡ sample_count c.unitsize bytes
    takes_all = taken_all c bytes m.samples (levels m) not_refused

-- ---- what the written nodes depend on
-- 02, CR 2: "over any lent memory the first-level nodes that append or push writes depend on len, that node and the samples it now stores, and on none stored before".
-- It holds of every level. Two calls on any two captures and memories, of the same len, whose unfinished nodes of a level and new samples are the same: each node of that level that covers
-- a new sample is the same after them.
module _ {c : Capture} {m : Memory} {a : List ℕ} {v : Result Capture Refusal} {m' : Memory} {d : Capture} {k : Memory} {b : List ℕ} {w : Result Capture Refusal} {k' : Memory}
    (one : Called c m a v m') (two : Called d k b w k') (same_len : c.len ≡ d.len) (same_count : taken one ≡ taken two) (l : ℕ) (low : 1 ≤ l) (high : l ≤ top_level)
    (same : SameNew c.len (taken one) l (levels m l) (levels k l) (sample_of c.unitsize m'.samples) (sample_of d.unitsize k'.samples)) where
  pub new_alone : (j : ℕ) → c.len / span l ≤ j → j * span l < c.len + taken one → node_in (levels m' l) j ≡ node_in (levels k' l) j
  new_alone =
      written_alike c.len (taken one) l (sample_of c.unitsize m'.samples) (sample_of d.unitsize k'.samples) (levels m l) (levels k l) same
      (λ z j h. has_room c.unitsize c.len (taken one) m.samples (levels m) a (roomed one) z l j low high h)
      (λ z j h. has_room d.unitsize d.len (taken two) k.samples (levels k) b (roomed two) (λ e. z (same_count ∙ e)) l j low high (omega (arith, same_len, same_count)))
      d.len (taken two) same_len same_count (levels m' l) (levels k' l) ((equations one).memory.levels_are l low high) ((equations two).memory.levels_are l low high)

-- ---- two calls
-- the whole samples of two runs of bytes, of which the first has no leftover
counts_add : (u : ℕ) (a b : List ℕ) → 1 ≤ u → length a % u ≡ 0 → (sample_count u a * u ≡ length a) × (sample_count u (a ++ b) ≡ sample_count u a + sample_count u b)
counts_add u a b h z = (whole, ap (λ (x : ℕ). x / u) (length-append a b ∙ ap (λ (x : ℕ). x + length b) (sym whole)) ∙ mul-add-div_right h (sample_count u a) (length b))
  where
    whole : sample_count u a * u ≡ length a
    whole = omega (arith, div-add-mod' (length a) u, z)

-- Appending in pieces: a, with no leftover byte, and then b. Where neither call refuses, a call of both together does not refuse,
-- and it leaves the same record, the same sample memory and, where the levels are right before, the same nodes.
pub record SameLeft (c : Capture) (m : Memory) (c₁ : Capture) (v₂ : Result Capture Refusal) (m₂ : Memory) (w : Result Capture Refusal) (m' : Memory) : Type 0 where
  pub not_refused : answered.refusal_of w ≡ 0
  pub same_record : record_of c₁ v₂ ≡ record_of c w
  pub same_samples : m₂.samples ≡ m'.samples
  pub right_levels : RightIn c m → RightIn (record_of c₁ v₂) m₂ × RightIn (record_of c w) m'
  pub same_nodes : RightIn c m → (l j : ℕ) → 1 ≤ l → l ≤ top_level → j * span l < (record_of c w).len → node_in (levels m₂ l) j ≡ node_in (levels m' l) j

module _ {c : Capture} {m : Memory} {a b : List ℕ} {v₁ : Result Capture Refusal} {m₁ : Memory} {v₂ : Result Capture Refusal} {m₂ : Memory} {w : Result Capture Refusal} {m' : Memory}
    (call₁ : Called c m a v₁ m₁) (call₂ : Called (record_of c v₁) m₁ b v₂ m₂) (both : Called c m (a ++ b) w m')
    (done₁ : answered.refusal_of v₁ ≡ 0) (done₂ : answered.refusal_of v₂ ≡ 0) (whole : length a % c.unitsize ≡ 0) where
  abbrev u : ℕ
  u = c.unitsize

  abbrev na : ℕ
  na = sample_count u a

  abbrev nb : ℕ
  nb = sample_count u b

  first_passed : Sound (store_of c) (lent_of m.samples (levels m)) × MarkInside (store_of c) × (c.len + na ≤ c.capacity)
  first_passed = (passed c a m.samples (levels m)).0 (not_refused call₁ done₁)

  counts : (na * u ≡ length a) × (sample_count u (a ++ b) ≡ na + nb)
  counts = counts_add u a b first_passed.0.unit_size.least whole

  first_record : record_of c v₁ ≡ grown c na
  first_record = (equations call₁).record_is ∙ ap (grown c) (takes_all call₁ done₁)

  second : Called (grown c na) m₁ b v₂ m₂
  second = subst (λ (x : Capture). Called x m₁ b v₂ m₂) first_record call₂

  both_done : answered.refusal_of w ≡ 0
  both_done = (equations both).number_is ∙ (passed c (a ++ b) m.samples (levels m)).1 (first_passed.0, first_passed.1, omega (arith, counts.1, second_fits))
    where
      second_fits : c.len + na + nb ≤ c.capacity
      second_fits = ((passed (grown c na) b m₁.samples (levels m₁)).0 (not_refused second done₂)).2

  records : record_of (record_of c v₁) v₂ ≡ record_of c w
  records =
      ap (λ (x : Capture). record_of x v₂) first_record
      ∙ (equations second).record_is
      ∙ ap (grown (grown c na)) (takes_all second done₂)
      ∙ (λ i. record { unitsize = u; capacity = c.capacity; len = end i; trigger = c.trigger })
      ∙ sym ((equations both).record_is ∙ ap (grown c) (takes_all both both_done ∙ counts.1))
    where
      end : c.len + na + nb ≡ c.len + (na + nb)
      end = omega arith

  memory : m₂.samples ≡ m'.samples
  memory =
      (equations second).memory.samples_are
      ∙ ap (λ (n : ℕ). paste m₁.samples ((c.len + na) * u) b (n * u)) (takes_all second done₂)
      ∙ ap₂ (λ (x : List ℕ) (at : ℕ). paste x at b (nb * u)) ((equations call₁).memory.samples_are ∙ ap (paste m.samples (c.len * u) a) stored) start
      ∙ paste_twice m.samples a b (c.len * u) (nb * u) (omega (arith, room))
      ∙ ap (paste m.samples (c.len * u) (a ++ b)) (sym total)
      ∙ sym ((equations both).memory.samples_are ∙ ap (λ (n : ℕ). paste m.samples (c.len * u) (a ++ b) (n * u)) (takes_all both both_done))
    where
      stored : taken_of c m.samples (levels m) a * u ≡ length a
      stored = ap (λ (n : ℕ). n * u) (takes_all call₁ done₁) ∙ counts.0

      start : (c.len + na) * u ≡ c.len * u + length a
      start = omega (arith, counts.0)

      total : sample_count u (a ++ b) * u ≡ length a + nb * u
      total = ap (λ (n : ℕ). n * u) counts.1 ∙ omega (arith, counts.0)

      room : (c.len + sample_count u (a ++ b)) * u ≤ length m.samples
      room = (passed_room c (a ++ b) m.samples (levels m) (not_refused both both_done)).room.samples

  pub pieces : SameLeft c m (record_of c v₁) v₂ m₂ w m'
  pieces = record {
    not_refused = both_done;
    same_record = records;
    same_samples = memory;
    right_levels = rights;
    same_nodes = λ r l j p q h. nodes (rights r) l j p q h;
  }
    where
      rights : RightIn c m → RightIn (record_of (record_of c v₁) v₂) m₂ × RightIn (record_of c w) m'
      rights r = (right_stays call₂ (right_stays call₁ r), right_stays both r)

      nodes : RightIn (record_of (record_of c v₁) v₂) m₂ × RightIn (record_of c w) m' → (l j : ℕ) → 1 ≤ l → l ≤ top_level → j * span l < (record_of c w).len → node_in (levels m₂ l) j ≡ node_in (levels m' l) j
      nodes t l j p q h =
          t.0 l p q j (subst⁻¹ (λ (x : Capture). j * span l < x.len) records h)
          ∙ ap₂ (λ (x : Capture) (s : List ℕ). level_node (sample_of x.unitsize s) x.len l j) records memory
          ∙ sym (t.1 l p q j h)
