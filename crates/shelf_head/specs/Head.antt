-- The code's heading and answers as 02's.
use Rattle.std.specs.Prelude.{◌≡◌, ℕ, ◌*◌, ◌^◌, ◌<◌, Result}
use Rattle.rules.specs.Answer.{Answer}
use Rattle.rules.specs.Block.{block_size}
use Rattle.rules.specs.Shelf as rule
use Rattle.answer.specs.declared.Refusal.{Refusal}
use Rattle.answer.specs.Answered.{answer_of, told_of}
use Rattle.shelf_head.specs.declared.Heading.{Heading}

abbrev pub heading_as : Heading → rule.Heading
heading_as h = record { unit = h.unitsize; mark = h.trigger; len = h.len }

-- a file's length, and what block 0 says
abbrev pub length_of : Result ℕ Refusal → Answer ℕ
length_of r = told_of r

abbrev pub said_of : Result Heading Refusal → Answer rule.Heading
said_of r = answer_of heading_as r

-- memory for the blocks of n bytes of samples
pub record BlocksRoom (room n : ℕ) : Type 0 where
  pub few : n < 2 ^ 32
  pub size : room ≡ block_size * rule.blocks_for n
