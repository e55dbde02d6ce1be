-- What is stored, read: its samples and nodes, and the way into it.
use Rattle.std.specs.Prelude.{◌≡◌, ℕ, Result, Ok, Err}
use Rattle.rules.specs.Sample.{sample_of}
use Rattle.rules.specs.Node.{Node}
use Rattle.rules.specs.Refusal.{store_refusal}
use Rattle.answer.specs.Answered.{number}
use Rattle.answer.specs.declared.Refusal.{Refusal}
use Rattle.node.specs.Memory.{reader_of}
use Rattle.node.specs.Lent.{levels_of}
use Rattle.node.specs.declared.Memory.{Memory}
use Rattle.capture.specs.Record.{store_of, lent_in}
use Rattle.capture.specs.declared.Capture.{Capture}
use Rattle.capture.specs.declared.stored.Stored.{Stored}

-- s[i]
abbrev pub sample_in : Stored → ℕ → ℕ
sample_in s i = sample_of s.unitsize s.memory.samples.now i

-- the node of a level at a place, as memory has it
abbrev pub reader_in : Stored → ℕ → ℕ → Node
reader_in s = reader_of s.unitsize s.memory.samples.now (levels_of s.memory.levels)

-- what is left of it at another length
pub record CutTo (s : Stored) (len : ℕ) (t : Stored) : Type 0 where
  pub unit_is : t.unitsize ≡ s.unitsize
  pub len_is : t.len ≡ len
  pub memory_is : t.memory ≡ s.memory

-- rows 1 and 2 let a capture and its memory pass, and this is what it stores
pub record Opened (c : Capture) (m : Memory) (s : Stored) : Type 0 where
  pub passes : store_refusal (store_of c) (lent_in m) ≡ 0
  pub unit_is : s.unitsize ≡ c.unitsize
  pub len_is : s.len ≡ c.len
  pub memory_is : s.memory ≡ m

-- or the first that does not
abbrev pub Opens : Capture → Memory → Result Stored Refusal → Type 0
Opens c m (Ok s) = Opened c m s
Opens c m (Err r) = number r ≡ store_refusal (store_of c) (lent_in m)
