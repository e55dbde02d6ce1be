-- The first of the mill's rows refuses, whatever 9 says.
use Rattle.std.proofs.Common.{false, ℤ, pos, [], ◌∷◌, subst}
use Rattle.std.specs.Prelude.{Err}
use Rattle.std.proofs.lemmas.Result.{err_from_is_err_and}
use Rattle.rules.specs.Refusal.{get_row}
use Rattle.rules.specs.Mill.{place_at}
use Rattle.number.proofs.Signed.{read_is}
use Rattle.mill.specs.Reader.{origin_in, Passes}
use Rattle.mill.proofs.Under.{under_refused}
use Rattle.mill_read.proofs.get.Goals as goal

pub returns-in_err-stored : goal.returns-in_err-stored
returns-in_err-stored c =
    let a = c.args in
    let p = err_from_is_err_and c.from_residual.result c.from_residual.ensures.1 in
    let r = c.in_err-stored.field-0.0 in
    rw (p.1, p.2) (under_refused a.c a.memory false a.place (pos 0) r (subst (λ (z : ℤ). Passes a.c a.memory false z (pos 0) (Err r)) (read_is a.place c.ranges.place) c.in_err-stored.ensures) (get_row a.c.len (place_at (origin_in a.c) a.place) ∷ []) _)
