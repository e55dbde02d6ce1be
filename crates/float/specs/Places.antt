-- Where a floor lies among the stored places. 01: Burst and render.
use Rattle.std.specs.Prelude.{ℕ, cond, ltb, pos, negsuc}
use Rattle.rules.specs.Floor.{Whole, none, under, over, at}
use Rattle.float.specs.declared.Place.{Place}
use Rattle.float.specs.declared.Place.TheVariants.{Below, At, Beyond}

-- below 0, the place n below hi, or from hi on. NaN's counts as below
abbrev pub place_of : Whole → ℕ → Place
place_of none hi = Below
place_of under hi = Below
place_of over hi = Beyond
place_of (at (negsuc k)) hi = Below
place_of (at (pos n)) hi = cond (ltb n hi) (At n) Beyond
