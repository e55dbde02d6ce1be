-- The first row that holds, or the samples stored.
use Rattle.std.proofs.Common.{ℕ, List, sym, arith}
use Rattle.std.proofs.lemmas.Result.{err_from_is_err_and}
use Rattle.rules.proofs.Refusal.{sound}
use Rattle.node.specs.Memory.{level_of}
use Rattle.answer.specs.declared.Refusal.TheVariants.{Full}
use Rattle.capture.specs.Record.{store_of, lent_of}
use Rattle.append.proofs.Answer.{rows_of, room_of, refused_first, refused_full, refused_none, appends_refused, appends_done}
use Rattle.append.proofs.append.Goals as goal

pub returns-in_err-check : goal.returns-in_err-check
returns-in_err-check c =
    let a = c.args in
    let seen = rows_of a.c c.in_err-check.ensures c.lent.ensures in
    let lv : ℕ → List ℕ = level_of a.l1.now a.l2.now a.l3.now a.l4.now in
    let p = err_from_is_err_and c.from_residual.result c.from_residual.ensures.1 in
    rw (p.1, p.2) (appends_refused a.c a.bytes.now a.samples.now lv c.in_err-check.field-0.0 (refused_first a.c a.bytes.now a.samples.now lv c.in_err-check.field-0.0 seen))

pub returns-then-c-n : goal.returns-then-c-n
returns-then-c-n c =
    let a = c.args in
    let seen = rows_of a.c c.in_ok-check.ensures c.lent.ensures in
    let lv : ℕ → List ℕ = level_of a.l1.now a.l2.now a.l3.now a.l4.now in
    let d = sound (store_of a.c) (lent_of a.samples.now lv) (sym seen) in
    appends_refused a.c a.bytes.now a.samples.now lv Full (refused_full a.c a.bytes.now a.samples.now lv seen (omega (arith, c.if-c-n.true, d.len_most)))

pub append_samples-requires : goal.append_samples-requires
append_samples-requires c =
    let a = c.args in
    let seen = rows_of a.c c.in_ok-check.ensures c.lent.ensures in
    let lv : ℕ → List ℕ = level_of a.l1.now a.l2.now a.l3.now a.l4.now in
    let d = sound (store_of a.c) (lent_of a.samples.now lv) (sym seen) in
    room_of a.c a.bytes.now a.samples.now lv d (omega (arith, c.if-c-n.false, d.len_most))

pub returns : goal.returns
returns c =
    let a = c.args in
    let seen = rows_of a.c c.in_ok-check.ensures c.lent.ensures in
    let lv : ℕ → List ℕ = level_of a.l1.now a.l2.now a.l3.now a.l4.now in
    let d = sound (store_of a.c) (lent_of a.samples.now lv) (sym seen) in
    appends_done a.c a.bytes.now a.samples.now lv (refused_none a.c a.bytes.now a.samples.now lv seen (omega (arith, c.if-c-n.false, d.len_most))) _ _ c.append_samples.ensures
