-- The range of places of a pixel, by where its edges lie among the stored places. 01: Burst and render.
use Rattle.std.specs.Prelude.{cond, ℕ, ◌+◌, min, max, eqb}
use Rattle.std.specs.Prelude.{Option, None, Some}
use Rattle.rules.specs.Pixel.{View, Range}
use Rattle.float.specs.declared.Place.{Place}
use Rattle.float.specs.declared.Place.TheVariants.{Below, At, Beyond}
use Rattle.pixel.specs.declared.Span.{Span}
use Rattle.pixel.specs.declared.View as own

-- document 01's view, and its range
abbrev pub view_as : own.View → View
view_as v = record { start = v.start; spp = v.spp }

abbrev pub range_as : Span → Range
range_as s = record { from = s.from; to = s.to }

-- "b = min(max(b, a+1) + 1, len)"
abbrev pub end_at : ℕ → ℕ → ℕ → ℕ
end_at a b len = min (max b (a + 1) + 1) len

-- from where a lies to the end that b gives
abbrev pub spanned_by : Place → ℕ → ℕ → Option Range
spanned_by Below b len = Some (record { from = 0; to = end_at 0 b len })
spanned_by (At a) b len = Some (record { from = a; to = end_at a b len })
spanned_by Beyond b len = None

-- by where both lie; beyond len is as good as len
abbrev pub ended_by : Place → Place → ℕ → Option Range
ended_by a Below len = None
ended_by a (At n) len = spanned_by a n len
ended_by a Beyond len = spanned_by a len len

abbrev pub cover_by : Place → Place → ℕ → Option Range
cover_by a b len = cond (eqb len 0) None (ended_by a b len)
