-- The ring, and the record beside it.
use Rattle.feeder.specs.Record.{recorder_of}
use Rattle.feeder_push.proofs.Fires.{waited_is}
use Rattle.feeder_push.proofs.wait.Goals as goal

pub returns : goal.returns
returns c = record {
  recorder_is = waited_is (recorder_of c.args.f) c.args.pushed.now c.last_sample.ensures c.place_after.ensures c.filled.ensures;
  ring_is = c.ring_write.ensures;
}
