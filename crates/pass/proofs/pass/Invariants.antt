-- From here on quiet nodes reach as far as from the start; a turn moves on, or lowers the cap.
use Rattle.std.proofs.Common.{◌+◌, ◌-◌, ◌≤◌}
use Rattle.rules.specs.Node.{top_level}
use Rattle.node.specs.Lent.{levels_of}
use Rattle.pass.specs.Pass.{pass_from}
use Rattle.pass.proofs.Laws.{Left}
use Rattle.pass.proofs.pass.Given as goal

abbrev pub invariant-loop-pos : goal.invariant-loop-pos
invariant-loop-pos l =
    let p = l.part in
    let levels = levels_of p.levels in
    (l.start ≤ l.pos) × (l.pos ≤ p.hi) × (l.maxl ≤ top_level) × Left p.unitsize p.base p.hi p.samples.now levels l.mask (pass_from p.unitsize p.base p.hi p.samples.now levels l.mask l.start l.before) l.pos l.maxl l.value

abbrev pub decreases-loop-pos : goal.decreases-loop-pos
decreases-loop-pos l = l.part.hi - l.pos + l.maxl
