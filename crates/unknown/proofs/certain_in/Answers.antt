-- None stays none.
use Rattle.std.proofs.Common.{◌≡◌, None, sym, ◌∙◌, ◌+◌, arith}
use Rattle.capture.specs.Stored.{reader_in}
use Rattle.unknown.specs.Crossing.{walked, stretch_count, nth_stretch, crossed}
use Rattle.unknown.proofs.Crossing.{crossed_start, crossed_next, none_left}
use Rattle.unknown.proofs.certain_in.Goals as goal

pub returns-in_err-i : goal.returns-in_err-i
returns-in_err-i c =
    let a = c.args in
    let s = walked a.back (reader_in a.known.now.stored) a.mask a.known.now.stored.len in
    let w = nth_stretch a.back a.known.now.list.now in
    rw c.from_residual.ensures (none_left s a.back w (s a.from) 0 (stretch_count a.known.now.list.now) (omega arith) (sym (crossed_start s a.back w (s a.from)) ∙ (sym c.change.ensures ∙ c.in_err-i.was)))

pub returns-in_err-i-2 : goal.returns-in_err-i-2
returns-in_err-i-2 c =
    let a = c.args in
    let s = walked a.back (reader_in a.known.now.stored) a.mask a.known.now.stored.len in
    let w = nth_stretch a.back a.known.now.list.now in
    let none : crossed s a.back w (c.loop-k.k + 1) (s a.from) ≡ None = grind (arith, crossed_next) in
    rw c.from_residual-in_err-i-2.ensures (none_left s a.back w (s a.from) (c.loop-k.k + 1) (stretch_count a.known.now.list.now) (omega arith) none)
