-- What the plain calls answer, as 01's numbers and values, and the memory that they leave.
use Rattle.std.specs.Prelude.{◌≡◌, List, [], ◌∷◌, ℕ, ◌+◌, ◌-◌, ◌≤◌, length, take, drop, Result}
use Rattle.std.specs.Borrow.{Bor}
use Rattle.rules.specs.Sample.{sample_of}
use Rattle.rules.specs.Refusal.{Store, Lent, first_of, store_wrong, samples_need, level_need}
use Rattle.rules.specs.Reading.{copied_to, copy_count, samples_answer, raw_answer, raw_from, raw_to}
use Rattle.answer.specs.Answered.{told_of}
use Rattle.answer.specs.declared.Refusal.{Refusal}
use Rattle.capture.specs.Record.{sizes_as, lent_of}
use Rattle.capture.specs.declared.stored.Stored.{Stored}

-- ---- needs
-- 1 is for a capacity that no store has
abbrev pub need_refusal : Store → ℕ
need_refusal st = first_of (record { number = 1; holds = store_wrong st } ∷ [])

-- as lengths of lent slices
abbrev pub memory_need : Store → Lent
memory_need st = sizes_as (record { samples = samples_need st; l1 = level_need st 1; l2 = level_need st 2; l3 = level_need st 3; l4 = level_need st 4 })

-- ---- samples
pub record Copies (st : Store) (bytes : List ℕ) (levels : ℕ → List ℕ) (start count : ℕ) (output : List ℕ) (r : Result ℕ Refusal) (output' : List ℕ) : Type 0 where
  pub answer_is : told_of r ≡ samples_answer st (lent_of bytes levels) start count (length output)
  pub output_is : output' ≡ copied_to (sample_of st.unit bytes) start (copy_count st (lent_of bytes levels) start count (length output)) output

-- k samples from place p on are stored, and have room in an output
pub record Source (stored : Stored) (p k output : ℕ) : Type 0 where
  pub places : 1 ≤ k → p + k ≤ stored.len
  pub room : k ≤ output

-- ---- raw
-- chunk c's stored bytes
abbrev pub raw_of : Store → List ℕ → (ℕ → List ℕ) → ℕ → List ℕ
raw_of st bytes levels c = raw_answer st (lent_of bytes levels) bytes c

-- a part of memory, from one place to another
pub record Lies (bytes part : List ℕ) (from to : ℕ) : Type 0 where
  pub order : from ≤ to
  pub inside : to ≤ length bytes
  pub part_is : take (to - from) (drop from bytes) ≡ part

-- the part of chunk c, as two places
pub record RawLies (st : Store) (bytes : List ℕ) (levels : ℕ → List ℕ) (c from to : ℕ) : Type 0 where
  pub from_is : from ≡ raw_from st (lent_of bytes levels) c
  pub to_is : to ≡ raw_to st (lent_of bytes levels) c
  pub lies : Lies bytes (raw_of st bytes levels c) from to

-- and as a reference into sample memory: its bytes, and the place that it points to
pub record RawPart (st : Store) (samples : Bor (List ℕ)) (levels : ℕ → List ℕ) (c : ℕ) (part : Bor (List ℕ)) : Type 0 where
  pub bytes_are : part.now ≡ raw_of st samples.now levels c
  pub block_is : part.ref_ptr.0 ≡ samples.ref_ptr.0
  pub place_is : part.ref_ptr.1 ≡ samples.ref_ptr.1 + raw_from st (lent_of samples.now levels) c
