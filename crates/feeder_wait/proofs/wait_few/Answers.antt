-- Where none fires all go to the ring.
use Rattle.std.proofs.Common.{length, sym, ◌∙◌}
use Rattle.feeder_wait.proofs.Short.{few_copy, few_went}
use Rattle.feeder_wait.proofs.wait_few.Goals as goal

pub copy_few-requires : goal.copy_few-requires
copy_few-requires c = few_copy c.args.numbers.now (length c.args.ring.now) c.args.pushed.now c.requires

pub returns : goal.returns
returns c = few_went c.args.numbers.now c.args.ring.now c.args.pushed.now c.requires (sym c.fires.ensures ∙ c.if-fires.false) (c.from.ensures ∙ c.at-last.ensures) c.min.ensures c.copy_few.ensures
