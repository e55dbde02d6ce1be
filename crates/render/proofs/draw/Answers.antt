-- Turn by turn one pixel more is drawn.
use Rattle.std.proofs.Common.{ap, ◌∙◌, arith}
use Rattle.std.specs.Prelude.{Option}
use Rattle.rules.specs.Node.{lines_of}
use Rattle.rules.specs.Pixel.{Range, range_from}
use Rattle.node.specs.Memory.{as_node}
use Rattle.pixel.specs.Ranges.{view_as}
use Rattle.summary.specs.Summary.{summed_in}
use Rattle.render.specs.Render.{pixel_node}
use Rattle.render.proofs.Row.{drawn_none, drawn_turn}
use Rattle.render.proofs.draw.Goals as goal

pub loop-px-init : goal.loop-px-init
loop-px-init c =
    let a = c.args in
    drawn_none (summed_in a.stored.now) (range_from a.origin (view_as a.view) a.stored.now.len) a.output.now

pub loop-px-preserved : goal.loop-px-preserved
loop-px-preserved c =
    let a = c.args in
    let l = c.loop-px in
    drawn_turn (summed_in a.stored.now) (range_from a.origin (view_as a.view) a.stored.now.len) l.px (as_node c.pixel_node-n.result) a.output.now l.output (omega (arith, c.requires.room)) l.invariant
    (c.pixel_node-n.ensures ∙ ap (λ (r : Option Range). lines_of (pixel_node (summed_in a.stored.now) r)) c.pixel_range-span.ensures)
