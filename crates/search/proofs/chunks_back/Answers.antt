-- The loop follows the walk, chunk by chunk and past quiet ones.
use Rattle.std.proofs.Common.{◌-◌, arith}
use mathlib.Core.Bool.{true, true≢false}
use native.Mathlib.Nat.{le_refl}
use Rattle.rules.specs.Walk.{all_levels}
use Rattle.capture.specs.Stored.{reader_in}
use Rattle.search.proofs.Chunks.{some_there, none_there, previous_starts, coursing_fits, coursing_counts, coursing_found, coursing_end}
use Rattle.search.proofs.Quiet.{back_on, chunks_held}
use Rattle.search.proofs.chunks_back.Goals as goal

pub loop-left-init : goal.loop-left-init
loop-left-init c =
    let a = c.args in
    let s = a.stored.now in
    (previous_starts all_levels (reader_in s) a.mask s.len s.backed.most a.start c.requires, c.requires, omega arith, omega arith)

pub overflow_add-count : goal.overflow_add-count
overflow_add-count c = let p = c.loop-left in omega (arith, coursing_counts p.invariant.0 (p.left - 1) (omega arith) _ c.in_chunk-p.ensures)

pub returns-then-is_some : goal.returns-then-is_some
returns-then-is_some c = let p = c.loop-left in coursing_found p.invariant.0 (p.left - 1) (omega arith) _ c.in_chunk-p.ensures (some_there _ _ c.is_some.ensures c.if-is_some.true)

pub quiet_chunks-passed-requires : goal.quiet_chunks-passed-requires
quiet_chunks-passed-requires c =
    let ci = c.loop-left.left - 1 in
    chunks_held c.args.stored.now true ci ci (le_refl ci) (λ _. omega arith) (λ z. absurd (true≢false z))

pub overflow_add-count-in-loop-left : goal.overflow_add-count-in-loop-left
overflow_add-count-in-loop-left c =
    omega (arith, coursing_fits (back_on c.args.stored.now c.loop-left.invariant.0 (omega arith) _ c.in_chunk-p.ensures (none_there _ _ c.is_some.ensures c.if-is_some.false) c.quiet_chunks-passed.ensures))

pub loop-left-preserved : goal.loop-left-preserved
loop-left-preserved c = (back_on c.args.stored.now c.loop-left.invariant.0 (omega arith) _ c.in_chunk-p.ensures (none_there _ _ c.is_some.ensures c.if-is_some.false) c.quiet_chunks-passed.ensures, omega arith, omega arith, omega arith)

pub returns : goal.returns
returns c = coursing_end c.loop-left.invariant.0 (omega arith)
