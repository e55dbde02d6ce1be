-- The fields where they stand.
use Rattle.std.proofs.Common.{◌∙◌}
use Rattle.shelf_head.proofs.Head.{number_at, said}
use Rattle.shelf_head.proofs.heading_in.Goals as goal

pub returns : goal.returns
returns c =
    let f = c.args.file.now in
    said f _ _ _ _ _ c.from.ensures (c.number_in.ensures ∙ number_at f 14) c.from-2.ensures (c.number_in-2.ensures ∙ number_at f 22) c.mark_in.ensures
