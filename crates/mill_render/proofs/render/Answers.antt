-- The first row that holds, or the pixels drawn and cut down.
use Rattle.std.proofs.lemmas.Result.{err_from_is_err_and}
use Rattle.pixel.specs.Ranges.{view_as}
use Rattle.mill_render.proofs.Drawing.{draws_shut, draws_unseen, draws_all}
use Rattle.mill_render.proofs.render.Goals as goal

pub returns-in_err-stored : goal.returns-in_err-stored
returns-in_err-stored c =
    let a = c.args in
    let p = err_from_is_err_and c.from_residual.result c.from_residual.ensures.1 in
    rw (p.1, p.2) (draws_shut a.c a.memory a.grant (view_as a.view) a.width a.output.now c.in_err-stored.field-0.0 c.in_err-stored.ensures)

pub returns-in_err-check_view : goal.returns-in_err-check_view
returns-in_err-check_view c =
    let a = c.args in
    let p = err_from_is_err_and c.from_residual-in_err-check_view.result c.from_residual-in_err-check_view.ensures.1 in
    rw (p.1, p.2) (draws_unseen a.c a.memory a.grant (view_as a.view) a.width a.output.now c.in_ok-stored.ensures c.in_err-check_view.field-0.0 c.in_err-check_view.ensures)

pub returns : goal.returns
returns c =
    let a = c.args in
    draws_all a.c a.memory a.grant (view_as a.view) a.width a.output.now c.in_ok-stored.ensures c.in_ok-check_view.ensures c.origin-from.result c.origin-from.ensures c.draw.new.output c.cut_down.new.output c.draw.ensures c.cut_down.ensures
