-- The terms of the bytes that are left, joined to what the earlier ones came to.
use Rattle.std.proofs.Common.{◌≡◌, length, fold}
use Rattle.terms.specs.Terms.{with_term, terms_of}
use Rattle.term_bytes.specs.Bytes.{terms_in}
use Rattle.term_bytes.proofs.terms_in.Given as goal

abbrev pub invariant-loop-rest : goal.invariant-loop-rest
invariant-loop-rest l = fold with_term l.sum (terms_in l.rest) ≡ terms_of (terms_in l.bytes)

abbrev pub decreases-loop-rest : goal.decreases-loop-rest
decreases-loop-rest l = length l.rest
