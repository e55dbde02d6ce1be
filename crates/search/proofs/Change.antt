-- The theorems about next_change and prev_change. All that is known of the calls is what their contracts promise: `Post` of each one's generated `Reads`.
-- Where levels are right the answer is 01's next or previous (rules' next_some, next_none, previous_some and previous_none say what that is),
-- with the steps of 01's walk over the run, of which there are few; whatever memory holds, a place that is found lies in the range asked.
use Prim.Native.Nat.{ℕ, ◌*◌, ◌≤◌}
use mathlib.Core.Path.{◌≡◌, refl, sym, ap, ◌∙◌, subst}
use mathlib.Core.List.{List}
use Rattle.std.specs.Prelude.{Some, Result}
use contract.Lifetimes.{Lfts}
use Rattle.rules.specs.Sample.{sample_of}
use Rattle.rules.specs.Walk.{Walked, next_entered, previous_entered, all_levels, run_reader, next_search, previous_search}
use Rattle.rules.specs.Answer.{given}
use Rattle.rules.specs.Refusal.{store_refusal}
use Rattle.rules.proofs.Found.{TrueNodes}
use Rattle.rules.proofs.Steps.{next_searched, previous_searched}
use Rattle.rules.proofs.Effort.{next_effort, previous_effort}
use Rattle.node.specs.Memory.{reader_of, Right}
use Rattle.node.specs.Lent.{levels_of}
use Rattle.node.specs.declared.Memory.{Memory}
use Rattle.node.proofs.NodeMemory.{right_true}
use Rattle.capture.specs.declared.Capture.{Capture}
use Rattle.capture.specs.Record.{store_of, lent_of}
use Rattle.capture.proofs.Answer.{unless_given}
use Rattle.answer.specs.declared.Counted.{Counted}
use Rattle.answer.specs.declared.Refusal.{Refusal}
use Rattle.search.specs.Answer.{found_of, asked, next_of, previous_of}
use Rattle.search.proofs.Within.{After, UpTo, next_within, previous_within}
use Rattle.search.proofs.next_change.Reads as next-change
use Rattle.search.proofs.prev_change.Reads as prev-change

-- a call with these arguments, and its answer r. The memory is whatever the caller lent
module _ (κs : Lfts 1) (c : Capture) (memory : Memory) (mask from : ℕ) (r : Result (Counted ℕ) Refusal) where
  abbrev pub levels : ℕ → List ℕ
  levels = levels_of memory.levels

  abbrev pub samples : List ℕ
  samples = memory.samples.now

  abbrev pub s : ℕ → ℕ
  s = sample_of c.unitsize samples

  abbrev pub NextAnswered : Type 0
  NextAnswered = next-change.Post κs (c, (memory, (mask, (from, tt)))) r (c, (memory, (mask, (from, tt))))

  abbrev pub PreviousAnswered : Type 0
  PreviousAnswered = prev-change.Post κs (c, (memory, (mask, (from, tt)))) r (c, (memory, (mask, (from, tt))))

  true_nodes : Right s c.len levels → TrueNodes all_levels (reader_of c.unitsize samples levels) s c.len
  true_nodes h = right_true c.unitsize samples levels c.len h

  -- where levels are right, the answer is 01's
  pub next_right : NextAnswered → Right s c.len levels → found_of r ≡ asked c samples levels (next_search s c.len mask from)
  unfolding next_of
  next_right p h = p ∙ ap (asked c samples levels) (next_searched (reader_of c.unitsize samples levels) s c.len mask (true_nodes h) from)

  pub previous_right : PreviousAnswered → Right s c.len levels → found_of r ≡ asked c samples levels (previous_search s c.len mask from)
  unfolding previous_of
  previous_right p h = p ∙ ap (asked c samples levels) (previous_searched (reader_of c.unitsize samples levels) s c.len mask (true_nodes h) from)

  -- a run's own nodes are true
  run_true : TrueNodes all_levels (run_reader s) s c.len
  run_true = record { is = λ l p top has aligned room. refl }

  -- "A search over whole levels reads at most 384 nodes per chunk it enters." (02, CR 3) It enters the chunks that 01's walk over the run enters
  pub next_reads : NextAnswered → Right s c.len levels → (w : Walked) → found_of r ≡ given w → w.steps ≤ 384 * next_entered all_levels (run_reader s) c.len mask from
  next_reads p h w e =
      subst (λ (x : Walked). x.steps ≤ 384 * next_entered all_levels (run_reader s) c.len mask from)
      (unless_given _ (store_refusal (store_of c) (lent_of samples levels)) w (sym (next_right p h) ∙ e)).1 (next_effort (run_reader s) s c.len mask run_true from)

  pub previous_reads : PreviousAnswered → Right s c.len levels → (w : Walked) → found_of r ≡ given w → w.steps ≤ 384 * previous_entered all_levels (run_reader s) c.len mask from
  previous_reads p h w e =
      subst (λ (x : Walked). x.steps ≤ 384 * previous_entered all_levels (run_reader s) c.len mask from)
      (unless_given _ (store_refusal (store_of c) (lent_of samples levels)) w (sym (previous_right p h) ∙ e)).1 (previous_effort (run_reader s) s c.len mask run_true from)

  -- whatever memory holds, a place found is one of the range
  pub next_range : NextAnswered → (i n : ℕ) → found_of r ≡ given (record { found = Some i; steps = n }) → After from c.len i
  unfolding next_of
  next_range p i n e = next_within all_levels (reader_of c.unitsize samples levels) c.len mask from i (ap (λ (w : Walked). w.found) (unless_given _ (store_refusal (store_of c) (lent_of samples levels)) _ (sym p ∙ e)).1)

  pub previous_range : PreviousAnswered → (i n : ℕ) → found_of r ≡ given (record { found = Some i; steps = n }) → UpTo from c.len i
  unfolding previous_of
  previous_range p i n e = previous_within all_levels (reader_of c.unitsize samples levels) c.len mask from i (ap (λ (w : Walked). w.found) (unless_given _ (store_refusal (store_of c) (lent_of samples levels)) _ (sym p ∙ e)).1)
