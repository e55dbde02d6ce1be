-- The first row that holds, or the service's copy cut down.
use Rattle.std.proofs.Common.{false, ℕ, ap, ◌∙◌, subst, ℤ, pos}
use Rattle.std.specs.Prelude.{Err}
use Rattle.std.proofs.lemmas.Result.{err_from_is_err_and}
use Rattle.rules.specs.Mill.{place_at}
use Rattle.number.proofs.Signed.{read_is}
use Rattle.mill.specs.Reader.{Passed, Passes}
use Rattle.mill_read.proofs.Copy.{copies_shut, copies_none, copies_cut}
use Rattle.mill_read.proofs.samples.Goals as goal

pub returns-in_err-check : goal.returns-in_err-check
returns-in_err-check c =
    let a = c.args in
    let p = err_from_is_err_and c.from_residual.result c.from_residual.ensures.1 in
    let r = c.in_err-check.field-0.0 in
    rw (p.1, p.2) (copies_shut a.c a.memory a.grant a.start a.count a.output.now r (subst (λ (z : ℤ). Passes a.c a.memory false z (pos 0) (Err r)) (read_is a.start c.ranges.start) c.in_err-check.ensures))

pub returns-in_err-k : goal.returns-in_err-k
returns-in_err-k c =
    let a = c.args in
    let p = err_from_is_err_and c.from_residual-in_err-k.result c.from_residual-in_err-k.ensures.1 in
    let s = c.in_ok-check.field-0 in
    let read = read_is a.start c.ranges.start in
    rw (p.1, p.2)
    (copies_none a.c a.memory a.grant a.start a.count a.output.now (subst (λ (z : ℤ). Passed a.c a.memory false z (pos 0) s) read c.in_ok-check.ensures) c.place_at-i.result (c.place_at-i.ensures ∙ ap (place_at c.origin.result) read ∙ ap (λ (o : ℕ). place_at o a.start) c.origin.ensures)
    c.samples.new.output c.in_err-k.field-0.0 c.in_err-k.ensures)

pub returns : goal.returns
returns c =
    let a = c.args in
    let s = c.in_ok-check.field-0 in
    let read = read_is a.start c.ranges.start in
    copies_cut a.c a.memory a.grant a.start a.count a.output.now (subst (λ (z : ℤ). Passed a.c a.memory false z (pos 0) s) read c.in_ok-check.ensures) c.place_at-i.result (c.place_at-i.ensures ∙ ap (place_at c.origin.result) read ∙ ap (λ (o : ℕ). place_at o a.start) c.origin.ensures)
    c.samples.new.output c.in_ok-k.k c.in_ok-k.ensures c.cut_down.new.output c.cut_down.ensures
