-- The lines that fail are none exactly when every term holds.
use Rattle.terms.specs.Terms.{as_masks}
use Rattle.terms.proofs.Unmet.{unmet_none}
use Rattle.terms.proofs.Masks.matches.Goals as goal

pub returns : goal.returns
returns c = unmet_none (as_masks c.args.self) c.args.prev c.args.v
