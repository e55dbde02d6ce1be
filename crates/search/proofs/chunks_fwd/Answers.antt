-- The loop follows the walk, chunk by chunk and past quiet ones.
use Rattle.std.proofs.Common.{◌+◌, ◌-◌, arith}
use mathlib.Core.Bool.{false, false≢true}
use Rattle.rules.specs.Walk.{chunks_for, all_levels}
use Rattle.capture.specs.Stored.{reader_in}
use Rattle.search.proofs.Chunks.{some_there, none_there, next_starts, coursing_fits, coursing_counts, coursing_found, coursing_end}
use Rattle.search.proofs.Quiet.{ahead_on, chunks_held}
use Rattle.search.proofs.chunks_fwd.Goals as goal

pub loop-ci-init : goal.loop-ci-init
loop-ci-init c =
    let a = c.args in
    let s = a.stored.now in
    (next_starts all_levels (reader_in s) a.mask s.len s.backed.most a.from c.requires, omega arith, omega arith, omega arith, λ h. omega arith)

pub overflow_add-count : goal.overflow_add-count
overflow_add-count c = let p = c.loop-ci in omega (arith, coursing_counts p.invariant.0 (chunks_for c.args.stored.now.len - (p.ci + 1)) (omega arith) _ c.in_chunk-p.ensures)

pub returns-then-is_some : goal.returns-then-is_some
returns-then-is_some c = let p = c.loop-ci in coursing_found p.invariant.0 (chunks_for c.args.stored.now.len - (p.ci + 1)) (omega arith) _ c.in_chunk-p.ensures (some_there _ _ c.is_some.ensures c.if-is_some.true)

pub quiet_chunks-passed-requires : goal.quiet_chunks-passed-requires
quiet_chunks-passed-requires c = chunks_held c.args.stored.now false _ _ (omega arith) (λ z. absurd (false≢true z)) (λ _. omega arith)

pub overflow_add-count-in-loop-ci : goal.overflow_add-count-in-loop-ci
overflow_add-count-in-loop-ci c =
    omega (arith, coursing_fits (ahead_on c.args.stored.now c.loop-ci.invariant.0 (omega arith) _ c.in_chunk-p.ensures (none_there _ _ c.is_some.ensures c.if-is_some.false) (omega arith) c.quiet_chunks-passed.ensures))

pub loop-ci-preserved : goal.loop-ci-preserved
loop-ci-preserved c =
    (ahead_on c.args.stored.now c.loop-ci.invariant.0 (omega arith) _ c.in_chunk-p.ensures (none_there _ _ c.is_some.ensures c.if-is_some.false) (omega arith) c.quiet_chunks-passed.ensures, omega arith, omega arith, omega arith, λ h. omega arith)

pub returns : goal.returns
returns c = coursing_end c.loop-ci.invariant.0 (omega arith)
