-- The row that refuses, 01's search, or the one across stretches.
use Rattle.std.proofs.Common.{◌∙◌, true, false}
use Rattle.std.proofs.lemmas.Result.{err_from_is_err_and}
use Rattle.capture.specs.Stored.{reader_in}
use Rattle.unknown.proofs.Passing.{possible_as, possible_stops, possible_goes}
use Rattle.unknown.proofs.possible_change.Goals as goal

pub returns-in_err-known : goal.returns-in_err-known
returns-in_err-known c =
    let a = c.args in
    let p = err_from_is_err_and c.from_residual.result c.from_residual.ensures.1 in
    rw (p.1, p.2) (possible_stops a.back a.c a.memory a.list.now a.mask a.from c.in_err-known.field-0.0 c.in_err-known.ensures)

pub returns-then-is_empty : goal.returns-then-is_empty
returns-then-is_empty c =
    let a = c.args in
    let k = c.in_ok-known.known in
    possible_goes a.back a.c a.memory a.list.now a.mask a.from c.in_ok-known.ensures _
    (c.change.ensures ∙ possible_as a.back k.stored.unitsize (reader_in k.stored) k.stored.len k.list.now a.mask a.from true c.if-is_empty.ensures)

pub returns : goal.returns
returns c =
    let a = c.args in
    let k = c.in_ok-known.known in
    possible_goes a.back a.c a.memory a.list.now a.mask a.from c.in_ok-known.ensures _
    (c.possible_across.ensures ∙ possible_as a.back k.stored.unitsize (reader_in k.stored) k.stored.len k.list.now a.mask a.from false c.if-is_empty.ensures)
