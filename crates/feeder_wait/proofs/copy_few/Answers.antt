-- The bytes at either end are all of them.
use Rattle.std.proofs.Common.{◌-◌, refl, arith}
use Rattle.rules.specs.Sample.{list_from}
use Rattle.feeder_wait.proofs.Ends.{copied}
use Rattle.feeder_wait.proofs.copy_few.Goals as goal

pub returns-then-k-lt4 : goal.returns-then-k-lt4
unfolding list_from
returns-then-k-lt4 c =
    let a = c.args in
    copied a.bytes.now a.at a.k 2 c.requires.held (a.k - 2) 0 (omega arith) (omega arith) (omega arith) a.ring.now c.requires.slots _ _ refl (omega arith) _ _ c.put_two.ensures c.put_two-then-k-lt4.ensures

pub returns : goal.returns
unfolding list_from
returns c =
    let a = c.args in
    copied a.bytes.now a.at a.k 4 c.requires.held 0 (a.k - 4) (omega arith) (omega arith) (omega arith) a.ring.now c.requires.slots _ _ (omega arith) refl _ _ c.put_four.ensures c.put_four-2.ensures
