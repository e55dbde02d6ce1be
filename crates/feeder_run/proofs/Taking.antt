-- What went to the store, in each case.
use mathlib.Core.Path.{◌≡◌, refl, sym, ap, ◌∙◌, subst}
use mathlib.Core.Bool.{Bool, false, cond}
use Rattle.std.specs.Prelude.{None, Some}
use mathlib.Core.List.{List, ◌++◌}
use Prim.Native.Nat.{ℕ, ◌+◌, ◌-◌, ◌*◌, ◌≤◌, ◌<◌}
use native.Mathlib.Nat.{le_refl, zero-mul}
use native.Mathlib.Omega.{arith}
use borrow.Author.Tests.{le-leb, lt-leb, ltb-false}
use lib.Dec.{ltb}
use lib.ListN.{length, take, drop, length-take}
use lib.Seq.{take-take}
use Rattle.store.specs.Stored.{Stored}
use Rattle.store.proofs.Fits.{less_room}
use Rattle.store.proofs.Stored.{stored_none}
use Rattle.rules.specs.Ring.{kept_bytes}
use Rattle.rules.specs.Push.{room_for}
use Rattle.feeder.specs.declared.Feeder.{Feeder}
use Rattle.feeder_scan.specs.declared.samples.Samples.{Samples}
use Rattle.feeder_run.specs.declared.Run.{Run}
use Rattle.feeder_run.specs.Run.{room_of, RunIs, bytes_of, WriteRoom, RunRoom, Takes}
use Rattle.feeder_run.proofs.Cuts.{room_cuts, run_count, run_room, first_bytes, bytes_size}

-- no room
pub takes_none : (f : Feeder) (n : ℕ) (x s : List ℕ) (lv : ℕ → List ℕ) → f.capture.capacity < f.capture.len + room_for f.limit f.capture.len n → Takes f n x s lv None s lv
takes_none f n x s lv h = record {
  taken_is = sym (ap (λ (t : Bool). cond t (Some (room_for f.limit f.capture.len n)) None) (lt-leb (f.capture.len + room_for f.limit f.capture.len n) f.capture.capacity h));
  memory = stored_none f.capture.unitsize f.capture.len 0 x s lv refl;
  enough = omega (arith, zero-mul f.capture.unitsize);
}

-- of x only its first bytes are meant
first_stored : (u len k : ℕ) (x s : List ℕ) (lv : ℕ → List ℕ) (s' : List ℕ) (lv' : ℕ → List ℕ) → Stored u len k (take (k * u) x) s lv s' lv' → Stored u len k x s lv s' lv'
first_stored u len k x s lv s' lv' d = record {
  samples_are = d.samples_are ∙ ap (λ (y : List ℕ). take (len * u) s ++ y ++ drop (len * u + k * u) s) (take-take (k * u) (k * u) x (le_refl (k * u)));
  levels_are = d.levels_are;
}

module _ (f : Feeder) (p : Samples) (s : List ℕ) (lv : ℕ → List ℕ) (g : List ℕ) (w d : ℕ) (h : RunRoom f p (length s) lv (length g)) (kept : w ≤ f.pre) (passed : d ≤ p.n)
    (free : ltb f.capture.capacity (f.capture.len + room_for f.limit f.capture.len (w + (p.n - d))) ≡ false) (r : Run) (is : RunIs (room_of f) f.pre f.place w (p.n - d) r) where
  abbrev u : ℕ
  u = f.capture.unitsize

  abbrev b : List ℕ
  b = p.bytes.now

  abbrev count : ℕ
  count = room_for f.limit f.capture.len (w + (p.n - d))

  abbrev x : List ℕ
  x = kept_bytes u f.pre g f.place w ++ drop (d * u) b

  bytes : p.n * u ≤ length b
  bytes = rw h.unit_is at p.held.room

  fits : f.capture.len + count ≤ f.capture.capacity
  fits = ltb-false f.capture.capacity (f.capture.len + count) free

  all : r.count ≡ count
  all = run_count u f.pre g f.place w b d p.n (room_of f) r h.ring h.place_inside kept passed bytes is ∙ sym (room_cuts f (w + (p.n - d)) fits)

  pub write_room : WriteRoom u f.capture.len r d (length s) lv (length g) (length b)
  write_room =
      run_room u f.pre g f.place w b d p.n (room_of f) r h.ring h.place_inside kept passed bytes is f.capture.len (length s) lv
      (less_room u f.capture.len (f.capture.capacity - f.capture.len) r.count (length s) lv h.room (omega (arith, fits, all)))

  first : bytes_of u g b d r ≡ take (r.count * u) x
  first = first_bytes u f.pre g f.place w b d p.n (room_of f) r h.ring h.place_inside kept passed bytes is

  pub takes_some : {s' : List ℕ} (lv' : ℕ → List ℕ) → Stored u f.capture.len r.count (bytes_of u g b d r) s lv s' lv' → Takes f (w + (p.n - d)) x s lv (Some r.count) s' lv'
  takes_some {s'} lv' e = record {
    taken_is = ap (λ (k : ℕ). Some k) all ∙ sym (ap (λ (t : Bool). cond t (Some count) None) (le-leb (f.capture.len + count) f.capture.capacity fits));
    memory = first_stored u f.capture.len r.count x s lv s' lv' (subst (λ (y : List ℕ). Stored u f.capture.len r.count y s lv s' lv') first e);
    enough = omega (arith, length-take (r.count * u) x, ap length first, bytes_size u f.capture.len r d (length s) lv g b write_room refl refl refl);
  }
