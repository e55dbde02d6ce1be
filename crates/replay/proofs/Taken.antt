-- What a reader gives up to a limit.
use Rattle.std.proofs.Common.{◌≡◌, List, ℕ, Option, Some, None, IfSome, take}
use Rattle.std.specs.Option.{option_map}

pub taken : (limit : ℕ) (remaining : Option (List ℕ)) (xs : List ℕ) → IfSome (option_map (take limit) remaining) (λ ys. xs ≡ ys) → IfSome remaining (λ bytes. xs ≡ take limit bytes)
taken limit None xs h = h
taken limit (Some bytes) xs h = h
