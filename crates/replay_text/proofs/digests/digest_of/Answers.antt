-- Word by word.
use Rattle.std.proofs.Common.{◌<◌, arith, sym, ap, ◌∙◌, map, length}
use Rattle.std.proofs.lemmas.List.{get_or-map, length-map}
use Rattle.replay_text.proofs.Digesting.{goes_on, ends}
use Rattle.replay_text.proofs.digests.digest_of.Goals as goal

pub loop-w-preserved : goal.loop-w-preserved
loop-w-preserved g c =
    let v = g.W.Word.value in
    let xs = c.args.words.now in
    let i = c.loop-w.w-index in
    let inside : i < length xs = omega arith in
    goes_on _ (map v xs) _ i _ _ c.loop-w.invariant (simp length-map inside)
    (c.number.ensures.value ∙ ap v c.w-item.is ∙ sym (get_or-map v xs i c.w-item.result 0 inside))
    c.digest_with-d.ensures

pub returns-clause-digest : goal.returns-clause-digest
returns-clause-digest g c =
    (ends _ (map g.W.Word.value c.args.words.now) _ _ c.loop-w.invariant (simp length-map (omega arith))).0
