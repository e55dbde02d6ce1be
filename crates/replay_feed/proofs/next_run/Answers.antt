-- A run that is begun makes less to come, however many samples it has.
use Rattle.std.proofs.Common.{rules}
use Rattle.replay_feed.proofs.Falls.{begun}
use Rattle.replay_feed.proofs.next_run.Goals as goal

pub returns-then-f : goal.returns-then-f
returns-then-f c = begun _ _ (search rules) c.run_at.ensures.1 (search rules)

pub returns : goal.returns
returns c = begun _ _ (search rules) c.run_at-2.ensures.1 (search rules)
