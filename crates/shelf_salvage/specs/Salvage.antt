-- What salvaging answers and leaves. 02: CR 8.
use Rattle.std.specs.Prelude.{◌≡◌, true, List, [], ◌∷◌, ◌++◌, ℕ, ◌+◌, ◌*◌, ◌/◌, ◌%◌, ◌≤◌, ◌<◌, length, get_or, take, drop, Result}
use Rattle.rules.specs.Sample.{UnitSize}
use Rattle.rules.specs.Answer.{Answer}
use Rattle.rules.specs.Refusal.{Store, most_samples}
use Rattle.rules.specs.Block.{block_size, payload_at, payload_most, zeros}
use Rattle.rules.specs.Shelf.{heading_of, heading_in, head_test}
use Rattle.rules.specs.Stretches.{Stretch, apart, pairs_in}
use Rattle.rules.specs.Salvage as rule
use Rattle.store.specs.Stored.{Stored}
use Rattle.answer.specs.declared.Refusal.{Refusal}
use Rattle.answer.specs.Answered.{answer_of}
use Rattle.capture.specs.Record.{store_of, lent_of}
use Rattle.shelf_salvage.specs.declared.Salvaged.{Salvaged}

abbrev pub salvaged_as : Salvaged → rule.Salvaged
salvaged_as s = record { store = store_of s.store; stretches = s.stretches; replaced = s.replaced }

abbrev pub salvage_of : Result Salvaged Refusal → Answer rule.Salvaged
salvage_of r = answer_of salvaged_as r

-- ---- the samples
-- n bytes of samples, where their blocks are wholly there; what memory holds past them stays
pub record Gathers (n : ℕ) (file samples samples' : List ℕ) : Type 0 where
  pub size : length samples' ≡ length samples
  pub inside : (j : ℕ) → j < n → block_size * (j / payload_most + 1) + block_size ≤ length file → get_or samples' j 0 ≡ get_or file (block_size * (j / payload_most + 1) + (payload_at + j % payload_most)) 0
  pub behind : (j : ℕ) → n ≤ j → get_or samples' j 0 ≡ get_or samples j 0

-- zero over the samples of a stretch, and of several
abbrev pub zeroed : ℕ → Stretch → List ℕ → List ℕ
zeroed unit s bytes = take (s.first * unit) bytes ++ (zeros (s.count * unit) ++ drop (s.first * unit + s.count * unit) bytes)

unfoldable pub blanked : ℕ → List Stretch → List ℕ → List ℕ
blanked unit [] bytes = bytes
blanked unit (s ∷ ss) bytes = blanked unit ss (zeroed unit s bytes)

-- a list's pairs are stretches of len samples, which memory holds
pub record BlankRoom (unit : ℕ) (list : List ℕ) (samples : ℕ) : Type 0 where
  pub len : ℕ
  pub unit_size : UnitSize unit
  pub few : len ≤ most_samples
  pub holds : len * unit ≤ samples
  pub in_order : apart 0 len (pairs_in list) ≡ true

-- a file whose block 0 says what the record says, and room for the samples
pub record Opened (file : List ℕ) (st : Store) (samples : ℕ) : Type 0 where
  pub head : head_test file ≡ true
  pub says : heading_of st ≡ heading_in file
  pub holds : st.len * st.unit ≤ samples

-- ---- the call
-- a call of salvage, over any memory: its answer, the memory that it leaves, which is what append of the samples to the fresh store leaves, and the list
pub record Salvages (capacity : ℕ) (file samples : List ℕ) (levels : ℕ → List ℕ) (list : List ℕ) (r : Result Salvaged Refusal) (samples' : List ℕ) (levels' : ℕ → List ℕ) (list' : List ℕ) : Type 0 where
  pub answer_is : salvage_of r ≡ rule.salvage_answer capacity (lent_of samples levels) (length list) file
  pub memory : Stored (heading_in file).unit 0 (rule.salvage_count capacity (lent_of samples levels) (length list) file) (rule.salvaged_bytes file) samples levels samples' levels'
  pub list_is : list' ≡ rule.salvage_list capacity (lent_of samples levels) list file
