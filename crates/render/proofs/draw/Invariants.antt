-- Pixel by pixel a row is drawn.
use Rattle.std.proofs.Common.{◌≡◌}
use Rattle.rules.specs.Pixel.{range_from}
use Rattle.pixel.specs.Ranges.{view_as}
use Rattle.summary.specs.Summary.{summed_in}
use Rattle.render.specs.Render.{drawn}
use Rattle.render.proofs.draw.Given as goal

abbrev pub invariant-loop-px : goal.invariant-loop-px
invariant-loop-px l = l.output ≡ drawn (summed_in l.stored) (range_from l.origin (view_as l.view) l.stored.len) l.px l.fn.output
