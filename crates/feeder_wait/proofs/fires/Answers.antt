-- No sample has the levels, so none fires.
use Rattle.std.proofs.Common.{◌≡◌, sym, ap, ◌∙◌, arith}
use borrow.Author.Tests.{le-ltb}
use Rattle.rules.specs.Trigger.{first_fire}
use Rattle.rules.proofs.Sample.{list_length}
use Rattle.terms.specs.declared.Masks.{Masks}
use Rattle.terms.specs.Terms.{as_masks}
use Rattle.feeder_scan.specs.Scan.{samples_in, sample_in}
use Rattle.feeder_numbers.specs.Numbers.{known_in, previous_sample_in, previous_in}
use Rattle.feeder_wait.specs.Wait.{fire_of}
use Rattle.feeder_wait.proofs.fires.Goals as goal

pub returns : goal.returns
returns c =
    let r = c.args.numbers.now in
    let p = c.args.pushed.now in
    let q = previous_in (known_in r) (previous_sample_in r) in
    let none : fire_of r p ≡ p.n =
    ap (λ (m : Masks). first_fire (as_masks m) q (samples_in p)) (sym c.masks_in-masks.ensures) ∙ c.any_level.ensures c.if-any_level.false q ∙ list_length (sample_in p) 0 p.n
    in
    sym (le-ltb (fire_of r p) p.n (omega arith))
