-- A copy, then zeros.
use Rattle.std.proofs.Common.{◌+◌, length, arith}
use Rattle.rules.specs.Block.{payload_at}
use Rattle.shelf_block.proofs.Made.{put_over, zeros_put, payload_put}
use Rattle.shelf_block.proofs.put_payload.Goals as goal

pub returns : goal.returns
returns c =
    let end = payload_at + length c.args.payload.now in
    payload_put c.args.block.now _ _ c.args.payload.now c.requires.0 c.requires.1
    (put_over c.args.block.now _ c.args.payload.now payload_at end (omega arith) c.copy_from_slice.ensures.after)
    (zeros_put _ _ end (c.fill.ensures.after (λ y e. e)))
