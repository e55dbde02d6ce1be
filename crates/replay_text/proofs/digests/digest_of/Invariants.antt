-- What the rest of the words make of the digest so far is what all of them make of the first.
use Rattle.std.proofs.Common.{map}
use Rattle.replay_text.proofs.Digesting.{Digesting}
use Rattle.replay_text.proofs.digests.digest_of.Given as goal

abbrev pub invariant-loop-w : goal.invariant-loop-w
invariant-loop-w g l = Digesting l.digest (map g.W.Word.value l.words) l.d l.w-index
