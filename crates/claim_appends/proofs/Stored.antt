-- A list of appends, by append's contract alone: each takes every whole sample or is refused with 8, keeps what was stored, and keeps the levels right.
use mathlib.Core.Path.{◌≡◌, refl, sym, ap, ap₂, ◌∙◌, subst, subst⁻¹}
use mathlib.Core.Bool.{Bool, cond}
use mathlib.Core.List.{List, [], ◌∷◌, ◌++◌}
use Rattle.std.specs.Prelude.{None}
use Rattle.rules.proofs.Options.{none-ne-some}
use Prim.Native.Nat.{ℕ, ◌+◌, ◌-◌, ◌*◌, ◌^◌, ◌≤◌, ◌<◌}
use native.Mathlib.Decide.{dec_lt}
use native.Mathlib.Omega.{arith}
use borrow.Author.Tests.{le-leb, lt-leb}
use lib.ListN.{length, length-append, get_or-append}
use lib.Seq.{get_or-append-add}
use denote.Ref.{at_last}
use Rattle.rules.specs.Sample.{sample_of, sample_count, samples_of}
use Rattle.rules.specs.Refusal.{Store, level_need, store_refusal, fresh}
use Rattle.rules.proofs.Sample.{samples_length, samples_at}
use Rattle.rules.proofs.Refusal.{Sound, sound, none_refused}
use Rattle.node.specs.Memory.{Right}
use Rattle.rebuild.proofs.Right.{right_same}
use Rattle.capture.specs.declared.Capture.{Capture}
use Rattle.capture.specs.Record.{store_of, lent_of}
use Rattle.capture.proofs.Answer.{unless_given}
use Rattle.std.specs.Prelude.{Result}
use Rattle.answer.specs.declared.Refusal.{Refusal}
use Rattle.answer.specs.Answered as answered
use Rattle.append.specs.Append.{record_of, refusal_of, taken_of}
use Rattle.append.proofs.Answer.{refused_full, refused_none, taken_none, taken_all}
use Rattle.append.proofs.Theorems.{Called, equations, right_stays, old_stay, new_follow, lengths_stay}
use Rattle.append.proofs.Theorems as call
use Rattle.claim_captures.specs.Words.{Memory, levels, at, AreBytes, shown_at}
use Rattle.claim_captures.proofs.Words.{WordList, no_words, words_taken}
use Rattle.claim_captures.proofs.Alike.{captures_alike}
use Rattle.claim_captures.proofs.Additive.{additive}
use Rattle.claim_appends.specs.Claim.{MayAppend, Appending, Filling, fits, taken, stored_from, numbers_from, unit, stored, Stores, AppendsStore, DensitiesAdd}
use Rattle.claim_appends.specs.Claim.Appending.{stop, step}

-- ---- one call
abbrev lent_as : Memory → call.Memory
lent_as m = record { samples = m.samples; l1 = m.l1; l2 = m.l2; l3 = m.l3; l4 = m.l4 }

called : (c : Capture) (m : Memory) (bytes : List ℕ) (v : Result Capture Refusal) (m' : Memory) → MayAppend c m bytes v m' → Called c (lent_as m) bytes v (lent_as m')
called c m bytes v m' may = record {
  κs = may.0;
  s = at_last may.1.samples m.samples;
  r1 = at_last may.1.l1 m.l1;
  r2 = at_last may.1.l2 m.l2;
  r3 = at_last may.1.l3 m.l3;
  r4 = at_last may.1.l4 m.l4;
  b = shown_at may.2 bytes;
  s_is = refl;
  r1_is = refl;
  r2_is = refl;
  r3_is = refl;
  r4_is = refl;
  b_is = refl;
  promised = may.3;
}

-- samples that were stored, and those that follow them
followed : (xs ys : List ℕ) (f : ℕ → ℕ) → ((i : ℕ) → i < length xs → f i ≡ at xs i) → ((i : ℕ) → i < length ys → f (length xs + i) ≡ at ys i) → (i : ℕ) → i < length (xs ++ ys) → f i ≡ at (xs ++ ys) i
followed xs ys f old new i h = go (dec_lt i (length xs))
  where
    go : Dec (i < length xs) → f i ≡ at (xs ++ ys) i
    go (yes l) = old i l ∙ sym (get_or-append xs ys 0 i l)
    go (no l) =
        ap f (sym back) ∙ new (i - length xs) (omega (arith, length-append xs ys)) ∙ sym (get_or-append-add xs ys (i - length xs) 0) ∙ ap (at (xs ++ ys)) back
      where
        back : length xs + (i - length xs) ≡ i
        back = omega arith

-- ---- a list
module _ (u capacity : ℕ) where
  -- the record of a store that holds n samples
  abbrev store_of_lem : ℕ → Store
  store_of_lem n = record { unit = u; capacity = capacity; len = n; mark = None }

  record Kept (xs : List ℕ) (c : Capture) (m : Memory) : Type 0 where
    record_is : store_of c ≡ store_of_lem (length xs)
    passes : store_refusal (store_of c) (lent_of m.samples (levels m)) ≡ 0
    samples_are : (i : ℕ) → i < length xs → sample_of u m.samples i ≡ at xs i
    right : Right (sample_of c.unitsize m.samples) c.len (levels m)

  module _ (xs : List ℕ) (c : Capture) (m : Memory) (bytes : List ℕ) (v : Result Capture Refusal) (m' : Memory) (k : Kept xs c m) (may : MayAppend c m bytes v m') where
    call_of : Called c (lent_as m) bytes v (lent_as m')
    call_of = called c m bytes v m' may

    unit_is : c.unitsize ≡ u
    unit_is = ap (λ (st : Store). st.unit) k.record_is

    capacity_is : c.capacity ≡ capacity
    capacity_is = ap (λ (st : Store). st.capacity) k.record_is

    len_is : c.len ≡ length xs
    len_is = ap (λ (st : Store). st.len) k.record_is

    abbrev n : ℕ
    n = sample_count c.unitsize bytes

    count_is : n ≡ sample_count u bytes
    count_is = ap (λ (x : ℕ). sample_count x bytes) unit_is

    abbrev number : ℕ
    number = refusal_of c m.samples (levels m) bytes

    abbrev more : ℕ
    more = taken_of c m.samples (levels m) bytes

    -- the record afterwards, and the rows that it passes
    grown_is : store_of (record_of c v) ≡ store_of_lem (c.len + more)
    grown_is = ap store_of (equations call_of).record_is ∙ (λ i. record { unit = (k.record_is i).unit; capacity = (k.record_is i).capacity; len = c.len + more; mark = (k.record_is i).mark })

    abbrev before : Sound (store_of c) (lent_of m.samples (levels m))
    before = sound (store_of c) (lent_of m.samples (levels m)) k.passes

    still : c.len + more ≤ c.capacity → store_refusal (store_of_lem (c.len + more)) (lent_of m'.samples (levels m')) ≡ 0
    still h = none_refused (store_of_lem (c.len + more)) (lent_of m'.samples (levels m')) (record {
      unit_size = record { least = omega (arith, before.unit_size, unit_is); most = omega (arith, before.unit_size, unit_is) };
      capacity_least = omega (arith, before.capacity_least, capacity_is);
      capacity_most = omega (arith, before.capacity_most, capacity_is);
      len_most = omega (arith, capacity_is);
      samples = subst (λ (st : Store). st.capacity * st.unit ≤ length m'.samples) k.record_is (subst⁻¹ (λ (x : ℕ). c.capacity * c.unitsize ≤ x) (lengths_stay call_of).0 before.samples);
      level = λ l p q. subst (λ (st : Store). level_need st l ≤ length (levels m' l)) (same_need l) (subst⁻¹ (λ (x : ℕ). level_need (store_of c) l ≤ x) ((lengths_stay call_of).1 l p q) (before.level l p q));
    }) (λ j e. absurd (none-ne-some j e))
      where
        same_need : (l : ℕ) → store_of c ≡ store_of_lem (length xs)
        same_need l = k.record_is

    -- the list zs is what is stored afterwards
    kept_now : (zs : List ℕ) → length zs ≡ c.len + more → c.len + more ≤ c.capacity → ((i : ℕ) → i < length zs → sample_of u m'.samples i ≡ at zs i) → Kept zs (record_of c v) m'
    kept_now zs e h f = record {
      record_is = grown_is ∙ ap store_of_lem (sym e);
      passes = subst⁻¹ (λ (st : Store). store_refusal st (lent_of m'.samples (levels m')) ≡ 0) grown_is (still h);
      samples_are = f;
      right = right_stays call_of k.right;
    }

    old : (i : ℕ) → i < length xs → sample_of u m'.samples i ≡ at xs i
    old i h = rw (← unit_is) (old_stay call_of i (rw len_is h)) ∙ k.samples_are i h

    new : more ≡ n → (i : ℕ) → i < length (samples_of u bytes) → sample_of u m'.samples (length xs + i) ≡ at (samples_of u bytes) i
    new e i h =
        let l : i < sample_count u bytes = rw (← samples_length u bytes) h in
        rw (← unit_is, ← len_is) (new_follow call_of i (omega (arith, e, count_is))) ∙ sym (samples_at u bytes i l)

    abbrev Done : Bool → Type 0
    Done b = Kept (cond b (xs ++ samples_of u bytes) xs) (record_of c v) m' × (answered.refusal_of v ≡ cond b 0 8)

    one_kept : Done (fits u capacity xs bytes)
    one_kept = go (dec_lt c.capacity (c.len + n))
      where
        go : Dec (c.capacity < c.len + n) → Done (fits u capacity xs bytes)
        go (yes h) = subst⁻¹ Done (lt-leb (length xs + sample_count u bytes) capacity (omega (arith, capacity_is, len_is, count_is))) (kept_now xs (omega (arith, len_is, None)) (omega (arith, before.len_most, None)) old, (equations call_of).number_is ∙ sym full)
          where
            full : 8 ≡ number
            full = refused_full c bytes m.samples (levels m) (sym k.passes) h

            None : more ≡ 0
            None = taken_none c bytes m.samples (levels m) (λ z. omega (arith, full))
        go (no h) =
            subst⁻¹ Done (le-leb (length xs + sample_count u bytes) capacity (omega (arith, capacity_is, len_is, count_is))) (
              kept_now (xs ++ samples_of u bytes) (length-append xs (samples_of u bytes) ∙ omega (arith, samples_length u bytes, len_is, all, count_is)) (omega (arith, all)) (followed xs (samples_of u bytes) (sample_of u m'.samples) old (new all)),
              (equations call_of).number_is ∙ sym passed,
            )
          where
            passed : 0 ≡ number
            passed = refused_none c bytes m.samples (levels m) (sym k.passes) (omega arith)

            all : more ≡ n
            all = taken_all c bytes m.samples (levels m) (sym passed)

  all_kept : (xs : List ℕ) {appends : List (List ℕ)} {c : Capture} {m : Memory} {numbers : List ℕ} {c'' : Capture} {m'' : Memory} → Kept xs c m → Appending c m appends numbers c'' m''
      → Kept (stored_from u capacity xs appends) c'' m'' × (numbers ≡ numbers_from u capacity xs appends)
  unfolding stored_from numbers_from
  all_kept xs k stop = (k, refl)
  all_kept xs {c = c} {m = m} k (step {bytes = bytes} {v = v} {m' = m'} may rest) =
      let one = one_kept xs c m bytes v m' k may in
      let more = all_kept (taken u capacity xs bytes) one.0 rest in
      (more.0, ap₂ (λ (x : ℕ) (ns : List ℕ). x ∷ ns) one.1 more.1)

  -- what is taken of bytes are samples of the unit
  stored_words : (xs : List ℕ) → WordList u xs → (appends : List (List ℕ)) → AreBytes appends → WordList u (stored_from u capacity xs appends)
  unfolding stored_from
  stored_words xs w [] are = w
  stored_words xs w (b ∷ bs) are = stored_words (taken u capacity xs b) (words_taken u xs b w are.0 (fits u capacity xs b)) bs are.1

-- ---- what appends made
module _ (a : Filling) where
  -- start refuses nothing, and its record has no sample and no mark
  start_is : (store_refusal (fresh a.channels a.capacity) (lent_of a.before.samples (levels a.before)) ≡ 0) × (fresh a.channels a.capacity ≡ store_of a.fresh)
  start_is =
      unless_given (fresh a.channels a.capacity) (store_refusal (fresh a.channels a.capacity) (lent_of a.before.samples (levels a.before))) (store_of a.fresh)
      (sym a.started.2)

  first : Kept (unit a) a.capacity [] a.fresh a.before
  first = record {
    record_is = sym start_is.1;
    passes = subst (λ (st : Store). store_refusal st (lent_of a.before.samples (levels a.before)) ≡ 0) start_is.1 start_is.0;
    samples_are = λ i h. absurd (omega arith);
    right = λ l p q j h. absurd (omega (arith, ap (λ (st : Store). st.len) start_is.1));
  }

  both : Kept (unit a) a.capacity (stored a) a.capture a.memory × (a.numbers ≡ numbers_from (unit a) a.capacity [] a.appends)
  both = all_kept (unit a) a.capacity [] first a.appended

  pub appends_stored : Stores a
  appends_stored = record {
    record_is = k.record_is;
    held = record {
      passes = k.passes;
      len_is = len_is;
      mark_is = ap (λ (st : Store). st.mark) k.record_is;
      samples_are = samples_are;
      levels_right = subst (λ (n : ℕ). Right (at (stored a)) n (levels a.memory)) len_is (right_same (sample_of a.capture.unitsize a.memory.samples) (at (stored a)) (levels a.memory) a.capture.len (λ i h. samples_are i (omega (arith, len_is))) k.right);
      words = λ i h. subst⁻¹ (λ (u : ℕ). at (stored a) i < 256 ^ u) (ap (λ (st : Store). st.unit) k.record_is) (stored_words (unit a) a.capacity [] (no_words (unit a)) a.appends a.are_bytes i);
    };
    numbers_are = both.1;
  }
    where
      k : Kept (unit a) a.capacity (stored a) a.capture a.memory
      k = both.0

      len_is : a.capture.len ≡ length (stored a)
      len_is = ap (λ (st : Store). st.len) k.record_is

      samples_are : (i : ℕ) → i < length (stored a) → sample_of a.capture.unitsize a.memory.samples i ≡ at (stored a) i
      samples_are i h = ap (λ (st : Store). sample_of st.unit a.memory.samples i) k.record_is ∙ k.samples_are i h

pub appends_store : AppendsStore
appends_store one two v =
    let t = captures_alike (stored one) None one.capture one.memory (stored two) None two.capture two.memory (appends_stored one).held (appends_stored two).held v in
    (appends_stored one, appends_stored two, t.0, t.1, t.2)

pub densities_add : DensitiesAdd
densities_add a = additive (stored a) None a.capture a.memory (appends_stored a).held
