-- A run on its way to the store: the places that are left, what is cut by them, and the bytes.
use Rattle.std.specs.Prelude.{◌≡◌, cond, List, ◌++◌, ℕ, ◌+◌, ◌-◌, ◌*◌, ◌≤◌, ◌<◌, min, max, eqb, leb, length, take, drop}
use Rattle.std.specs.Prelude.{Option, None, Some, unwrap_or}
use Rattle.store.specs.Stored.{Stored}
use Rattle.store.specs.Room.{StoreRoom}
use Rattle.rules.specs.Push.{room_for}
use Rattle.feeder.specs.declared.Feeder.{Feeder}
use Rattle.feeder_scan.specs.declared.samples.Samples.{Samples}
use Rattle.feeder_run.specs.declared.Run.{Run}

-- the places that are left: under the limit, or else under the capacity
abbrev pub room_of : Feeder → ℕ
room_of f = cond (eqb f.limit 0) (f.capture.capacity - f.capture.len) (f.limit - f.capture.len)

-- len is within the capacity, and within a limit
pub record Within (f : Feeder) : Type 0 where
  pub len_most : f.capture.len ≤ f.capture.capacity
  pub limit_most : f.limit ≤ f.capture.capacity
  pub len_limit : 0 < f.limit → f.capture.len ≤ f.limit

-- the first samples of a run that fit: of the w newest of a ring whose next slot is place, and of `own` of a push
pub record RunIs (room pre place w own : ℕ) (r : Run) : Type 0 where
  pub end_is : r.end ≡ pre - (w - place)
  pub older_is : r.older ≡ min (w - place) room
  pub start_is : r.start ≡ place - w
  pub newer_is : r.newer ≡ min (min w place) (room - r.older)
  pub own_is : r.own ≡ min own (room - r.older - r.newer)
  pub count_is : r.count ≡ r.older + r.newer + r.own

-- its bytes, in memory g of a ring and b of a push, whose own samples start at d
abbrev pub bytes_of : ℕ → List ℕ → List ℕ → ℕ → Run → List ℕ
bytes_of unit g b d r = take (r.older * unit) (drop (r.end * unit) g) ++ take (r.newer * unit) (drop (r.start * unit) g) ++ take (r.own * unit) (drop (d * unit) b)

-- a run lies in memory of g bytes of a ring and b of a push, and has room
pub record WriteRoom (unit len : ℕ) (r : Run) (d s : ℕ) (levels : ℕ → List ℕ) (g b : ℕ) : Type 0 where
  pub room : StoreRoom unit len r.count s levels
  pub all : r.count ≡ r.older + r.newer + r.own
  pub end_fits : (r.end + r.older) * unit ≤ g
  pub start_fits : (r.start + r.newer) * unit ≤ g
  pub own_fits : (d + r.own) * unit ≤ b

-- ---- the whole
-- memory has room up to the capacity, and g bytes have the ring's slots
pub record RunRoom (f : Feeder) (p : Samples) (s : ℕ) (levels : ℕ → List ℕ) (g : ℕ) : Type 0 where
  pub unit_is : p.unitsize ≡ f.capture.unitsize
  pub room : StoreRoom f.capture.unitsize f.capture.len (f.capture.capacity - f.capture.len) s levels
  pub within : Within f
  pub ring : f.pre * f.capture.unitsize ≤ g
  pub place_inside : f.place < max f.pre 1

-- of n samples, x their bytes, as many went to the store as the limit leaves room for, or none where these have no room
pub record Takes (f : Feeder) (n : ℕ) (x samples : List ℕ) (levels : ℕ → List ℕ) (t : Option ℕ) (samples' : List ℕ) (levels' : ℕ → List ℕ) : Type 0 where
  pub taken_is : t ≡ cond (leb (f.capture.len + room_for f.limit f.capture.len n) f.capture.capacity) (Some (room_for f.limit f.capture.len n)) None
  pub memory : Stored f.capture.unitsize f.capture.len (unwrap_or t 0) x samples levels samples' levels'
  pub enough : unwrap_or t 0 * f.capture.unitsize ≤ length x
