use Rattle.std.proofs.Common.{rules}
use Rattle.replay.proofs.Taken.{taken}
use Rattle.replay.proofs.text_of.Goals as goal

pub returns : goal.returns
returns g c = taken 131072 (g.F.Read.remaining c.args.file) c.read_to_end.new.buf.items (search rules)
