-- Reading: the samples of a good file in a new store's memory, and what is left where a row refuses.
use mathlib.Core.Path.{◌≡◌, sym, ap, ◌∙◌, subst, subst⁻¹}
use mathlib.Core.Bool.{true, false}
use mathlib.Core.List.{List}
use Prim.Native.Nat.{ℕ, zero, suc, ◌-◌, ◌*◌, ◌≤◌}
use native.Mathlib.Nat.{zero-mul}
use native.Mathlib.Omega.{arith}
use lib.ListN.{length, take, drop, length-take, length-drop}
use lib.Seq.{paste, take_all}
use Rattle.rules.specs.Refusal.{Store, Lent, most_samples, lent_short}
use Rattle.rules.specs.Block.{block_size}
use Rattle.rules.specs.Shelf.{Heading, blocks_for, heading_in, payloads, bytes_in, file_test}
use Rattle.rules.specs.ShelfCalls.{capacity_wrong, store_in, read_refusal}
use Rattle.rules.proofs.Refusal.{Sound, rows_then}
use Rattle.rules.proofs.ShelfHead.{Headed, heading_headed}
use Rattle.rules.proofs.Shelf.{passed, headed_store}
use Rattle.store.specs.Room.{StoreRoom}
use Rattle.store.specs.Stored.{LevelsAfter, Stored}
use Rattle.store.proofs.Fits.{sound_room}
use Rattle.store.proofs.Stored.{stored_none}
use Rattle.capture.specs.declared.Capture.{Capture}
use Rattle.node.specs.declared.Memory.{Memory}
use Rattle.capture.specs.Record.{store_of, lent_of, lent_in}
use Rattle.std.specs.Prelude.{Ok, Err}
use Rattle.answer.specs.declared.Refusal.{Refusal}
use Rattle.answer.specs.Answered.{number}
use Rattle.answer.proofs.Answered.{number_least}
use Rattle.rules.specs.Answer.{Answer, refused, given, unless}
use Rattle.capture.proofs.Answer.{unless_given}
use Rattle.capture.proofs.Calls.{unrefused_none, unrefused_all}
use Rattle.shelf_read.specs.Read.{room_refusal, TakeRoom, bytes_behind, Reads}
use Rattle.shelf_read.proofs.Tested.{LetIn, let_in, last_row}

-- ---- the samples taken
-- what stands behind block 0, as it is lent
pub behind : (file : List ℕ) → take (length file - block_size) (drop block_size file) ≡ drop block_size file
behind file = take_all (length file - block_size) (drop block_size file) (simp length-drop (omega arith))

pub behind_length : (file : List ℕ) → length (take (length file - block_size) (drop block_size file)) ≡ length file - block_size
behind_length file = simp (length-take, length-drop) (omega arith)

-- bytes at the start of a new store's memory, and the levels above them
pub stored_front : (unit len : ℕ) (bytes s s' : List ℕ) (lv lv' : ℕ → List ℕ) → s' ≡ paste s 0 bytes (len * unit) → LevelsAfter unit 0 len s' lv lv' → Stored unit 0 len bytes s lv s' lv'
stored_front unit len bytes s s' lv lv' e d = record { samples_are = e ∙ ap (λ (k : ℕ). paste s k bytes (len * unit)) (sym (zero-mul unit)); levels_are = d }

pub stored_taken : (unit len : ℕ) (file s s' : List ℕ) (lv lv' : ℕ → List ℕ)
    → s' ≡ paste s 0 (take (len * unit) (payloads (blocks_for (len * unit)) (take (length file - block_size) (drop block_size file)))) (len * unit)
    → LevelsAfter unit 0 len s' lv lv' → Stored unit 0 len (bytes_behind (len * unit) file) s lv s' lv'
stored_taken unit len file s s' lv lv' e d =
    stored_front unit len (bytes_behind (len * unit) file) s s' lv lv' (e ∙ ap (λ (l : List ℕ). paste s 0 (take (len * unit) (payloads (blocks_for (len * unit)) l)) (len * unit)) (behind file)) d

-- what row 15 says of memory, known to be this
pub row_of : (capacity : ℕ) (h : Heading) {a : Answer Store} {m m' : Memory}
    → a ≡ unless (room_refusal capacity (lent_in m) h) (store_in capacity h) → m ≡ m' → a ≡ unless (room_refusal capacity (lent_in m') h) (store_in capacity h)
row_of capacity h e p = e ∙ ap (λ (m : Memory). unless (room_refusal capacity (lent_in m) h) (store_in capacity h)) p

-- a new store has room for what a file says
module _ {capacity : ℕ} (samples : List ℕ) {levels : ℕ → List ℕ} {h : Heading} (r : Headed h) (least : 1 ≤ capacity) (most : capacity ≤ most_samples) (holds : h.len ≤ capacity)
    (enough : lent_short (store_in capacity h) (lent_of samples levels) ≡ false) where
  pub new_room : StoreRoom h.unit 0 h.len (length samples) levels
  new_room = sound_room (record { unit = h.unit; capacity = capacity; len = 0; mark = h.mark }) samples levels h.len empty (omega (arith, holds))
    where
      sound : Sound (store_in capacity h) (lent_of samples levels)
      sound = (rows_then (store_in capacity h) (lent_of samples levels) (headed_store capacity h r least most holds) enough).0

      empty : Sound (record { unit = h.unit; capacity = capacity; len = 0; mark = h.mark }) (lent_of samples levels)
      empty = record {
        unit_size = sound.unit_size;
        capacity_least = sound.capacity_least;
        capacity_most = sound.capacity_most;
        len_most = omega arith;
        samples = sound.samples;
        level = sound.level;
      }

-- ---- the call
-- a refusal of an answer is its row
pub unless_refused : {A : Type 0} (a : A) (n k : ℕ) → refused k ≡ unless n a → k ≡ n
unless_refused a zero k e = absurd (let z : ◌≡◌ {A = ℕ} 0 1 = cc in omega (arith, z))
unless_refused a (suc n) k e = cc

module _ (capacity : ℕ) (file samples : List ℕ) (levels : ℕ → List ℕ) where
  abbrev h : Heading
  h = heading_in file

  abbrev lent : Lent
  lent = lent_of samples levels

  -- a store that is let in, with nothing in it yet
  pub take_room : LetIn capacity lent file → (st : Store) → st ≡ store_in capacity h → TakeRoom st (length file) (length samples) levels
  take_room r st e = subst⁻¹ (λ (x : Store). TakeRoom x (length file) (length samples) levels) e
      (record { room = new_room samples (heading_headed file (passed file r.passed).0) r.capacity_least r.capacity_most r.len_most r.enough; size = (passed file r.passed).1 })

  abbrev room : ℕ
  room = room_refusal capacity lent h

  -- past the first two rows, by what was given of a new store
  module _ (right : false ≡ capacity_wrong capacity) (good : true ≡ file_test file) where
    decides : room ≡ read_refusal capacity lent file
    decides = last_row capacity lent file (sym right) (sym good)

    pub reads_short : (r : Refusal) → refused (number r) ≡ unless room (store_in capacity h) → Reads capacity file samples levels (Err r) samples levels
    reads_short r e = record {
      answer_is = e ∙ ap (λ (n : ℕ). unless n (store_in capacity h)) decides;
      memory = stored_none h.unit 0 _ (bytes_in file) samples levels (unrefused_none (unless_refused _ _ _ e ∙ decides) (λ z. omega (arith, number_least r)) h.len);
    }

    module _ (c : Capture) (made : given (store_of c) ≡ unless room (store_in capacity h)) where
      passes : (room ≡ 0) × (store_in capacity h ≡ store_of c)
      passes = unless_given (store_in capacity h) room (store_of c) (sym made)

      pub takes : TakeRoom (store_of c) (length file) (length samples) levels
      takes = take_room (let_in capacity lent file (sym decides ∙ passes.0)) (store_of c) (sym passes.1)

      pub reads_done : {samples' : List ℕ} {levels' : ℕ → List ℕ}
          → Stored c.unitsize 0 c.len (bytes_behind (c.len * c.unitsize) file) samples levels samples' levels' → Reads capacity file samples levels (Ok c) samples' levels'
      unfolding bytes_in
      reads_done {samples'} {levels'} d = record {
        answer_is = made ∙ ap (λ (n : ℕ). unless n (store_in capacity h)) decides;
        memory =
            subst⁻¹ (λ (k : ℕ). Stored h.unit 0 k (bytes_in file) samples levels samples' levels') (unrefused_all decides passes.0 h.len)
            (subst (λ (x : Store). Stored x.unit 0 x.len (bytes_behind (x.len * x.unit) file) samples levels samples' levels') (sym passes.1) d);
      }
