-- The row that refuses, or the search.
use Rattle.std.proofs.lemmas.Result.{err_from_is_err_and}
use Rattle.unknown.proofs.Passing.{certain_stops, certain_goes}
use Rattle.unknown.proofs.certain_change.Goals as goal

pub returns-in_err-known : goal.returns-in_err-known
returns-in_err-known c =
    let a = c.args in
    let p = err_from_is_err_and c.from_residual.result c.from_residual.ensures.1 in
    rw (p.1, p.2) (certain_stops a.back a.c a.memory a.list.now a.mask a.from c.in_err-known.field-0.0 c.in_err-known.ensures)

pub returns : goal.returns
returns c = let a = c.args in certain_goes a.back a.c a.memory a.list.now a.mask a.from c.in_ok-known.ensures _ c.certain_in.ensures
