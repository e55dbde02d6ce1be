-- The rows of a salvaging, in order, and what is left by the first that holds.
use mathlib.Core.Path.{◌≡◌, refl, sym, ap, ap₂, ◌∙◌, subst⁻¹}
use mathlib.Core.Bool.{Bool, true, false, cond}
use mathlib.Core.List.{List}
use Prim.Native.Nat.{ℕ, ◌*◌, ◌≤◌}
use native.Mathlib.Omega.{arith}
use lib.Dec.{ltb}
use lib.ListN.{length, take, drop}
use lib.Seq.{take_all, take_at}
use borrow.Author.Tests.{ltb-false}
use Rattle.rules.specs.Refusal.{Store, Lent, lent_short}
use Rattle.rules.specs.Shelf.{Heading, heading_of, heading_in, head_test}
use Rattle.rules.specs.ShelfCalls.{capacity_wrong, store_in, store_short, written_to}
use Rattle.rules.specs.Stretches.{pairs_of}
use Rattle.rules.specs.Salvage as rule
use Rattle.rules.proofs.Refusal.{neither, row_passed}
use Rattle.rules.proofs.ShelfHead.{heading_headed}
use Rattle.rules.proofs.Stretches.{pairs_length}
use Rattle.store.specs.Room.{StoreRoom}
use Rattle.store.proofs.Stored.{stored_none}
use Rattle.capture.specs.declared.Capture.{Capture}
use Rattle.capture.specs.Record.{store_of, lent_of}
use Rattle.capture.proofs.Answer.{unless_given}
use Rattle.capture.proofs.Calls.{unrefused_none}
use Rattle.rules.specs.Answer.{refused, given, unless}
use Rattle.std.specs.Prelude.{Err, Some}
use Rattle.answer.specs.declared.Refusal.{Refusal}
use Rattle.answer.specs.Answered.{number}
use Rattle.answer.proofs.Answered.{number_least, stops}
use Rattle.shelf_read.specs.Read.{room_refusal}
use Rattle.shelf_read.proofs.Tested.{capacity_right}
use Rattle.shelf_read.proofs.Taken.{unless_refused, new_room}
use Rattle.shelf_stretches.specs.declared.Found.{Found}
use Rattle.shelf_stretches.specs.Told.{Finds}
use Rattle.shelf_salvage.specs.Salvage.{Opened, Salvages}

-- ---- the rows ahead of the stretches
module _ (capacity : ℕ) (lent : Lent) (file : List ℕ) where
  abbrev h : Heading
  h = heading_in file

  -- what none of them refuses
  pub record LetIn : Type 0 where
    pub right : capacity_wrong capacity ≡ false
    pub head : head_test file ≡ true
    pub enough : store_short capacity lent h ≡ false

-- a store that is let in
module _ (capacity : ℕ) (file samples : List ℕ) (levels : ℕ → List ℕ) (t : LetIn capacity (lent_of samples levels) file) where
  pub parts : ((heading_in file).len ≤ capacity) × (lent_short (store_in capacity (heading_in file)) (lent_of samples levels) ≡ false)
  parts =
      let u = (neither (ltb capacity (heading_in file).len) (lent_short (store_in capacity (heading_in file)) (lent_of samples levels))).0 t.enough in
      (ltb-false capacity (heading_in file).len u.0, u.1)

  pub let_room : (st : Store) → st ≡ store_in capacity (heading_in file) → Opened file st (length samples) × StoreRoom st.unit 0 st.len (length samples) levels
  let_room st e =
      let c = capacity_right capacity t.right in
      let room = new_room samples (heading_headed file t.head) c.0 c.1 parts.0 parts.1 in (
        record { head = t.head; says = ap heading_of e; holds = subst⁻¹ (λ (x : Store). x.len * x.unit ≤ length samples) e (omega (arith, room.samples)) },
        subst⁻¹ (λ (x : Store). StoreRoom x.unit 0 x.len (length samples) levels) e room,
      )

-- ---- the list, told
-- the stretches of a file's bad blocks stand in front of the list
pub listed : (file list : List ℕ) {found : Found} (list' : List ℕ) → Finds file list (Some found) list' → take (2 * found.stretches) list' ≡ pairs_of (rule.stretches_of file)
listed file list list' f = ap₂ take (ap (λ (k : ℕ). 2 * k) f.1) f.3 ∙ front
  where
    all : take (rule.list_need file) (pairs_of (rule.stretches_of file)) ≡ pairs_of (rule.stretches_of file)
    all = take_all (rule.list_need file) (pairs_of (rule.stretches_of file)) (omega (arith, pairs_length (rule.stretches_of file)))

    front : take (rule.list_need file) (written_to (rule.list_need file) (pairs_of (rule.stretches_of file)) list) ≡ pairs_of (rule.stretches_of file)
    front =
        take_at (take (rule.list_need file) (pairs_of (rule.stretches_of file))) (drop (rule.list_need file) list) (rule.list_need file) (ap length all ∙ pairs_length (rule.stretches_of file))
        ∙ all

-- ---- the call
module _ (capacity : ℕ) (file samples : List ℕ) (levels : ℕ → List ℕ) (list : List ℕ) where
  abbrev lent : Lent
  lent = lent_of samples levels

  abbrev rows : ℕ
  rows = rule.salvage_refusal capacity lent (length list) file

  refuses : (r : Refusal) → number r ≡ rows → Salvages capacity file samples levels list (Err r) samples levels list
  refuses r e = record {
    answer_is = stops r rows (rule.salvaged_of capacity file) e;
    memory = stored_none (heading_in file).unit 0 _ (rule.salvaged_bytes file) samples levels (unrefused_none e n (heading_in file).len);
    list_is = ap (λ (k : ℕ). written_to k (pairs_of (rule.stretches_of file)) list) (sym (unrefused_none e n (rule.list_need file)));
  }
    where
      n : number r ≡ 0 → ⊥
      n z = omega (arith, number_least r)

  -- past the first two rows, by what was given of a new store
  module _ (right : false ≡ capacity_wrong capacity) (head : true ≡ head_test file) where
    abbrev room : ℕ
    room = room_refusal capacity lent (heading_in file)

    abbrev short : Bool
    short = store_short capacity lent (heading_in file)

    pub refuses_store : (r : Refusal) → refused (number r) ≡ unless room (store_in capacity (heading_in file)) → Salvages capacity file samples levels list (Err r) samples levels list
    refuses_store r e = refuses r (go short refl (unless_refused _ _ _ e))
      where
        row : Bool → ℕ
        row b = cond b 15 0

        go : (b : Bool) → short ≡ b → number r ≡ room → number r ≡ rows
        go true e k = k ∙ rw (← right, ← head, e)
        go false e k = absurd (omega (arith, number_least r, k, ap row e))

    module _ (c : Capture) (made : given (store_of c) ≡ unless room (store_in capacity (heading_in file))) where
      passes : (room ≡ 0) × (store_in capacity (heading_in file) ≡ store_of c)
      passes = unless_given (store_in capacity (heading_in file)) room (store_of c) (sym made)

      pub rooms : Opened file (store_of c) (length samples) × StoreRoom c.unitsize 0 c.len (length samples) levels
      rooms =
          let enough = ((row_passed 15 0 short (omega arith)).0 passes.0).0 in
          let_room capacity file samples levels (record { right = sym right; head = sym head; enough = enough }) (store_of c) (sym passes.1)
