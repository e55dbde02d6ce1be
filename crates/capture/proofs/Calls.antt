-- Laws of the plain calls: samples that are copied, and a chunk's bytes.
use Prim.Native.Nat.{ℕ, zero, suc, ◌+◌, ◌-◌, ◌*◌, ◌/◌, ◌≤◌, ◌<◌}
use mathlib.Core.Path.{◌≡◌, refl, sym, ap, ap₂, ◌∙◌}
use mathlib.Core.Bool.{Bool, true, false, cond, ◌&&◌}
use mathlib.Core.List.{List, [], ◌∷◌, ◌++◌, append_assoc}
use native.Mathlib.Nat.{le_refl, mul-le-mul_right, add-zero}
use native.Mathlib.Numerals.{add-one}
use native.Mathlib.Omega.{arith}
use lib.ListN.{length, get_or, take, drop, set, length-append, length-drop}
use lib.Seq.{drop-cons, set_at}
use lib.Dec.{ltb}
use borrow.Author.Tests.{eq-eqb, ne_eqb, lt-ltb, le-ltb}
use Rattle.rules.specs.Answer.{unrefused}
use Rattle.rules.specs.Reading.{copied_to, part_of, raw_shown}
use Rattle.rules.specs.Sample.{sample_of, list_from}
use Rattle.rules.specs.Node.{chunk, top_level, chunk_end}
use Rattle.rules.specs.Refusal.{Store, store_wrong, samples_need, level_need, store_refusal, fresh, copied, samples_refusal}
use Rattle.rules.proofs.Refusal.{Sound, Ranged, ranged, none_refused, row_passed}
use Rattle.lines.specs.Held.{Held}
use Rattle.node.specs.Memory.{level_of}
use Rattle.capture.specs.declared.Sizes.{Sizes}
use Rattle.std.specs.Prelude.{Ok, Err}
use Rattle.answer.specs.declared.Refusal.{Refusal}
use Rattle.answer.specs.Answered.{number}
use Rattle.answer.proofs.Answered.{number_least, stops, goes}
use Rattle.capture.specs.Record.{sizes_as, lent_of, Sized}
use Rattle.capture.specs.Calls.{need_refusal, memory_need, Copies, raw_of, RawLies}

-- ---- needs
pub memory_is : (st : Store) (r : Sizes) → Sized st r → sizes_as r ≡ memory_need st
memory_is st r h = λ i. sizes_as (record { samples = h.samples i; l1 = h.l1 i; l2 = h.l2 i; l3 = h.l3 i; l4 = h.l4 i })

-- memory of the lengths that needs says passes rows 1 and 2
pub needs_enough : (channels capacity : ℕ) → need_refusal (fresh channels capacity) ≡ 0 → store_refusal (fresh channels capacity) (memory_need (fresh channels capacity)) ≡ 0
unfolding level_of
needs_enough channels capacity e = none_refused st (memory_need st) (record {
  unit_size = r.unit_size;
  capacity_least = r.capacity_least;
  capacity_most = r.capacity_most;
  len_most = r.len_most;
  samples = le_refl (samples_need st);
  level = level;
}) r.mark_inside
  where
    st : Store
    st = fresh channels capacity

    r : Ranged st
    r = ranged st ((row_passed 1 0 (store_wrong st) (omega arith)).0 e).0

    level : (l : ℕ) → 1 ≤ l → l ≤ top_level → level_need st l ≤ level_of (level_need st 1) (level_need st 2) (level_need st 3) (level_need st 4) l
    level zero a b = absurd (omega arith)
    level (suc zero) a b = le_refl (level_need st 1)
    level (suc (suc zero)) a b = le_refl (level_need st 2)
    level (suc (suc (suc zero))) a b = le_refl (level_need st 3)
    level (suc (suc (suc (suc zero)))) a b = le_refl (level_need st 4)
    level (suc (suc (suc (suc (suc l))))) a b = absurd (omega arith)

-- ---- lists of samples
pub length_from : (s : ℕ → ℕ) (p n : ℕ) → length (list_from s p n) ≡ n
unfolding list_from
length_from s p zero = refl
length_from s p (suc n) = ap suc (length_from s (p + 1) n)

pub from_last : (s : ℕ → ℕ) (p n : ℕ) → list_from s p (suc n) ≡ list_from s p n ++ (s (p + n) ∷ [])
unfolding list_from
from_last s p zero = ap (λ (k : ℕ). s k ∷ []) (sym (add-zero p))
from_last s p (suc n) = ap (λ (l : List ℕ). s p ∷ l) (from_last s (p + 1) n ∙ ap (λ (k : ℕ). list_from s (p + 1) n ++ (s k ∷ [])) next)
  where
    next : p + 1 + n ≡ p + suc n
    next = omega arith

-- ---- samples
pub over_none : (s : ℕ → ℕ) (p : ℕ) (output : List ℕ) → output ≡ copied_to s p 0 output
unfolding copied_to list_from
over_none s p output = refl

pub over_turn : (s : ℕ → ℕ) (p i v : ℕ) (output now : List ℕ) → i < length output → now ≡ copied_to s p i output → v ≡ s (p + i) → set now i v ≡ copied_to s p (i + 1) output
unfolding copied_to
over_turn s p i v output now h e ev =
    ap (λ (l : List ℕ). set l i v) (e ∙ ap (λ (l : List ℕ). list_from s p i ++ l) (drop-cons output i 0 h))
    ∙ set_at (list_from s p i) (get_or output i 0) (drop (suc i) output) v i (length_from s p i)
    ∙ ap (λ (x : ℕ). list_from s p i ++ (x ∷ drop (suc i) output)) ev
    ∙ sym (append_assoc (list_from s p i) (s (p + i) ∷ []) (drop (suc i) output))
    ∙ ap (λ (l : List ℕ). l ++ drop (suc i) output) (sym (from_last s p i))
    ∙ ap (λ (k : ℕ). list_from s p k ++ drop k output) (sym (add-one i))

pub length_over : (s : ℕ → ℕ) (p k : ℕ) (output : List ℕ) → k ≤ length output → length (copied_to s p k output) ≡ length output
unfolding copied_to
length_over s p k output h = length-append (list_from s p k) (drop k output) ∙ omega (arith, length_from s p k, length-drop k output)

-- nothing is copied or drawn where a row refuses
pub unrefused_none : {n r : ℕ} → n ≡ r → (n ≡ 0 → ⊥) → (k : ℕ) → unrefused r k ≡ 0
unrefused_none {n} {r} e h k = go r (λ z. h (e ∙ z))
  where
    go : (x : ℕ) → (x ≡ 0 → ⊥) → unrefused x k ≡ 0
    go zero z = absurd (z refl)
    go (suc x) z = refl

pub unrefused_all : {n r : ℕ} → n ≡ r → n ≡ 0 → (k : ℕ) → unrefused r k ≡ k
unrefused_all e z k = ap (λ (x : ℕ). unrefused x k) (sym e ∙ z)

module _ (s : ℕ → ℕ) (p k : ℕ) (output : List ℕ) {n r : ℕ} (e : n ≡ r) where
  pub none_copied : (n ≡ 0 → ⊥) → output ≡ copied_to s p (unrefused r k) output
  none_copied h = over_none s p output ∙ ap (λ (x : ℕ). copied_to s p x output) (sym (unrefused_none e h k))

  pub all_copied : n ≡ 0 → copied_to s p k output ≡ copied_to s p (unrefused r k) output
  all_copied z = ap (λ (x : ℕ). copied_to s p x output) (sym (unrefused_all e z k))

-- what samples promises, where a row refuses and where none does
module _ (st : Store) (bytes : List ℕ) (levels : ℕ → List ℕ) (start count : ℕ) (output : List ℕ) where
  abbrev rows_of : ℕ
  rows_of = samples_refusal st (lent_of bytes levels) start count (length output)

  pub copies_refused : (r : Refusal) → number r ≡ rows_of → Copies st bytes levels start count output (Err r) output
  copies_refused r e = record {
    answer_is = stops r rows_of (copied st.len start count) e;
    output_is = none_copied (sample_of st.unit bytes) start (copied st.len start count) output e (λ z. omega (arith, number_least r));
  }

  pub copies_done : rows_of ≡ 0 → (k : ℕ) → k ≡ copied st.len start count → (output' : List ℕ) → output' ≡ copied_to (sample_of st.unit bytes) start k output → Copies st bytes levels start count output (Ok k) output'
  copies_done z k h output' d = record {
    answer_is = goes rows_of (copied st.len start count) k z h;
    output_is = d ∙ ap (λ (x : ℕ). copied_to (sample_of st.unit bytes) start x output) h ∙ all_copied (sample_of st.unit bytes) start (copied st.len start count) output (sym z) refl;
  }

-- places up to len lie in the sample memory
pub stored : (st : Store) (bytes : List ℕ) (levels : ℕ → List ℕ) → Sound st (lent_of bytes levels) → (p : ℕ) → p ≤ st.len → p * st.unit ≤ length bytes
stored st bytes levels h p l = omega (arith, h.samples, mul-le-mul_right {m = p} {n = st.capacity} st.unit (omega (arith, h.len_most)))

pub held_stored : (st : Store) (bytes : List ℕ) (levels : ℕ → List ℕ) → Sound st (lent_of bytes levels) → (i : ℕ) → i < st.len → Held st.unit i (length bytes)
held_stored st bytes levels h i l = record { unit_size = h.unit_size; room = omega (arith, stored st bytes levels h (i + 1) (omega arith)) }

-- ---- raw
-- a chunk with stored samples: its bytes lie in the sample memory
pub chunk_starts : (st : Store) (bytes : List ℕ) (levels : ℕ → List ℕ) → Sound st (lent_of bytes levels) → (c : ℕ) → c < (st.len + (chunk - 1)) / chunk → c * chunk * st.unit ≤ length bytes
chunk_starts st bytes levels h c l = stored st bytes levels h (c * chunk) (omega arith)

pub chunk_ends : (st : Store) (bytes : List ℕ) (levels : ℕ → List ℕ) → Sound st (lent_of bytes levels) → (c e : ℕ) → e ≡ chunk_end st.len c → e * st.unit ≤ length bytes
chunk_ends st bytes levels h c e d = stored st bytes levels h e (omega arith)

pub chunk_forward : (st : Store) (c e : ℕ) → e ≡ chunk_end st.len c → c < (st.len + (chunk - 1)) / chunk → c * chunk * st.unit ≤ e * st.unit
chunk_forward st c e d l = mul-le-mul_right {m = c * chunk} {n = e} st.unit (omega arith)

module _ (st : Store) (bytes : List ℕ) (levels : ℕ → List ℕ) (c : ℕ) where
  abbrev rows : ℕ
  rows = store_refusal st (lent_of bytes levels)

  abbrev part : List ℕ
  part = part_of st.unit bytes (c * chunk) (chunk_end st.len c)

  raw_refused : (rows ≡ 0 → ⊥) → [] ≡ raw_of st bytes levels c
  raw_refused h = sym (ap (λ (b : Bool). cond b part []) (ne_eqb rows 0 h))

  raw_is : rows ≡ 0 → part ≡ raw_of st bytes levels c
  raw_is e = sym (ap (λ (b : Bool). cond b part []) (eq-eqb rows 0 e))

  raw_past : rows ≡ 0 → (st.len + (chunk - 1)) / chunk ≤ c → [] ≡ raw_of st bytes levels c
  unfolding part_of
  raw_past e h = ap (λ (k : ℕ). take k (drop (c * chunk * st.unit) bytes)) (sym none) ∙ raw_is e
    where
      none : chunk_end st.len c * st.unit - c * chunk * st.unit ≡ 0
      none = omega (arith, mul-le-mul_right {m = chunk_end st.len c} {n = c * chunk} st.unit (omega arith))

  -- an empty part
  nothing : [] ≡ raw_of st bytes levels c → raw_shown st (lent_of bytes levels) c ≡ false → RawLies st bytes levels c 0 0
  nothing e f = record {
    from_is = sym (ap (λ (b : Bool). cond b (c * chunk * st.unit) 0) f);
    to_is = sym (ap (λ (b : Bool). cond b (chunk_end st.len c * st.unit) 0) f);
    lies = record { order = omega arith; inside = omega arith; part_is = e };
  }

  pub lies_refused : (rows ≡ 0 → ⊥) → RawLies st bytes levels c 0 0
  lies_refused h = nothing (raw_refused h) (ap (λ (b : Bool). b && ltb (c * chunk) st.len) (ne_eqb rows 0 h))

  pub lies_past : rows ≡ 0 → (st.len + (chunk - 1)) / chunk ≤ c → RawLies st bytes levels c 0 0
  lies_past e h = nothing (raw_past e h) (ap₂ (λ (a b : Bool). a && b) (eq-eqb rows 0 e) (le-ltb (c * chunk) st.len (omega arith)))

  pub lies_part : Sound st (lent_of bytes levels) → (e : ℕ) → rows ≡ 0 → e ≡ chunk_end st.len c → c < (st.len + (chunk - 1)) / chunk → RawLies st bytes levels c (c * chunk * st.unit) (e * st.unit)
  unfolding part_of
  lies_part h e z d l = record {
    from_is = sym (ap (λ (b : Bool). cond b (c * chunk * st.unit) 0) shown);
    to_is = ap (λ (k : ℕ). k * st.unit) d ∙ sym (ap (λ (b : Bool). cond b (chunk_end st.len c * st.unit) 0) shown);
    lies = record {
      order = chunk_forward st c e d l;
      inside = chunk_ends st bytes levels h c e d;
      part_is = ap (λ (k : ℕ). take (k * st.unit - c * chunk * st.unit) (drop (c * chunk * st.unit) bytes)) d ∙ raw_is z;
    };
  }
    where
      shown : raw_shown st (lent_of bytes levels) c ≡ true
      shown = ap₂ (λ (a b : Bool). a && b) (eq-eqb rows 0 z) (lt-ltb (c * chunk) st.len (omega arith))
