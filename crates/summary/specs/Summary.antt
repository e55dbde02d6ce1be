-- The node of a range as the code takes it, over any levels and samples: chunk by chunk, in each by runs of the highest level that fits.
use Rattle.std.specs.Prelude.{◌≡◌, Bool, cond, List, ℕ, zero, suc, ◌+◌, ◌-◌, ◌*◌, ◌/◌, ◌≤◌, ◌<◌, min, ltb, leb}
use Rattle.std.specs.Prelude.{Option, None, Some, Result}
use Rattle.std.specs.Option.{option_map}
use Rattle.rules.specs.Node.{Node, node_of, span, chunk, top_level}
use Rattle.rules.specs.Walk.{best}
use Rattle.rules.specs.Answer.{Answer}
use Rattle.answer.specs.Answered.{answer_of}
use Rattle.answer.specs.declared.Refusal.{Refusal}
use Rattle.node.specs.Memory.{as_node, node_in}
use Rattle.node.specs.Lent.{levels_of}
use Rattle.node.specs.Told.{Told}
use Rattle.node.specs.declared.Node as own
use Rattle.capture.specs.Stored.{sample_in}
use Rattle.capture.specs.declared.stored.Stored.{Stored}
use Rattle.level.specs.Best.{fits_at}
use Rattle.range.specs.Join.{join_over}
use Rattle.summary.specs.Gather.{joined}

-- ---- within a chunk
-- the highest level that has a border at p and ends by b
abbrev pub level_at : ℕ → ℕ → ℕ
level_at p b = best (fits_at p (b - p)) top_level

-- nodes of w samples from p on, up to the next border of the level above, 32 times as wide, or the last that ends by b
abbrev pub run_end : ℕ → ℕ → ℕ → ℕ
run_end w p b = min ((p / (32 * w) + 1) * (32 * w)) (b / w * w)

abbrev pub step_end : ℕ → ℕ → ℕ
step_end p b = run_end (span (level_at p b)) p b

-- the part of [p, b) that starts at p: a run of samples, or of nodes of a level
unfoldable pub part_node : (ℕ → List ℕ) → (ℕ → ℕ) → ℕ → ℕ → ℕ → Node
part_node levels s zero p end = node_of s p end
part_node levels s (suc l) p end = join_over (node_in (levels (suc l))) (p / span (suc l)) (end / span (suc l) - 1 - p / span (suc l))

module _ (levels : ℕ → List ℕ) (s : ℕ → ℕ) where
  abbrev pub step_node : ℕ → ℕ → Node
  step_node p b = part_node levels s (level_at p b) p (step_end p b)

  unfoldable pub chunk_node : ℕ → ℕ → Node
  chunk_node a b = joined step_node step_end a b

  -- what the code knows of a part
  pub record Part (counted : Bool) (p b : ℕ) (n : Node) (end : ℕ) : Type 0 where
    pub node_is : Told counted n (step_node p b)
    pub end_is : end ≡ step_end p b
    pub more : p < end
    pub upto : end ≤ b

-- ---- over chunks
-- where the first chunk of [p, b) ends
abbrev pub cut_at : ℕ → ℕ → ℕ
cut_at p b = min ((p / chunk + 1) * chunk) b

module _ (levels : ℕ → List ℕ) (s : ℕ → ℕ) where
  unfoldable pub by_levels : ℕ → ℕ → Node
  by_levels a b = joined (λ p e. chunk_node levels s p (cut_at p e)) cut_at a b

  -- up to 64 samples are read themselves: what is prepared for the levels would cost more
  unfoldable pub summed : ℕ → ℕ → Node
  summed a b = cond (leb (b - a) 64) (node_of s a b) (by_levels a b)

  -- "the node of [a, min(b,len)), or none if empty"
  abbrev pub summary_of : ℕ → ℕ → ℕ → Option Node
  summary_of len a b = cond (ltb a (min b len)) (Some (summed a (min b len))) None

-- of what is stored
abbrev pub summed_in : Stored → ℕ → ℕ → Node
summed_in s = summed (levels_of s.memory.levels) (sample_in s)

abbrev pub summed_of : Result (Option own.Node) Refusal → Answer (Option Node)
summed_of r = answer_of (option_map as_node) r
