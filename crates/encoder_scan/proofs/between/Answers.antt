-- Four bits, whatever lines are asked for.
use Rattle.std.proofs.Common.{◌^◌}
use Rattle.encoder_scan.proofs.Laws.{step_by}
use Rattle.encoder_scan.proofs.between.Goals as goal

pub returns : goal.returns
returns g c =
    let m = g.L.Lane in
    let a = c.args in
    rw (c.and.ensures, c.and-2.ensures, c.xor-moved.ensures, c.xor.ensures, c.xor-2.ensures, c.xor-3.ensures, c.xor-4.ensures, c.xor-5.ensures)
    (step_by g.L.Ask.told (256 ^ m.size) (m.value a.x) (m.value a.y) (m.value a.before) (m.value a.after) c.requires.0 c.requires.1 c.tell-a.ensures c.tell-b.ensures c.tell-a2.ensures c.tell-b2.ensures)
