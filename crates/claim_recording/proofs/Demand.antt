-- 2. and 3. answers and looking alike, and with them demand 3: a recording is a capture with right levels that holds its run. So its densities add up, and its encoders replay.
use Rattle.claim_captures.proofs.Alike.{captures_alike}
use Rattle.claim_captures.proofs.Additive.{additive}
use Rattle.claim_captures.proofs.Turns as captures
use Rattle.claim_recording.specs.Claim.{store, run, mark, Demand3, DensitiesAdd, EncodersReplay, EncodersReverse}
use Rattle.claim_recording.proofs.Selection.{selection}

pub demand3 : Demand3
demand3 one two v =
    let t = captures_alike (run one) (mark one) (store one) one.memory.store (run two) (mark two) (store two) two.memory.store (selection one).held (selection two).held v in
    (selection one, selection two, t.0, t.1, t.2)

pub densities_add : DensitiesAdd
densities_add r = additive (run r) (mark r) (store r) r.memory.store (selection r).held

pub encoders_replay : EncodersReplay
encoders_replay r = captures.encoders_replay (run r) (mark r) (store r) r.memory.store (selection r).held

pub encoders_reverse : EncodersReverse
encoders_reverse one two =
    captures.encoders_reverse (run one) (mark one) (store one) one.memory.store (run two) (mark two) (store two) two.memory.store (selection one).held (selection two).held
