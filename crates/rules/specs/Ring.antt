-- The ring of earlier samples in its memory: u bytes to a slot, for any unit u. 01: Records, Recorder.
use Rattle.std.specs.Prelude.{cond, List, ◌++◌, ℕ, zero, suc, ◌+◌, ◌-◌, ◌*◌, min, ltb, eqb, length, take, drop}

-- x put at byte `at` of memory s, in the form that a lent part of s leaves
abbrev pub written : List ℕ → ℕ → List ℕ → List ℕ
written s at x = take at s ++ (x ++ drop (length x) (drop at s))

-- ---- writing: one sample, then the next slot. "goes to slot k mod pre (none if pre = 0)"
abbrev pub next_slot : ℕ → ℕ → ℕ
next_slot pre place = cond (ltb (place + 1) pre) (place + 1) 0

-- the ring place after n samples
unfoldable pub place_after : ℕ → ℕ → ℕ → ℕ
place_after pre place zero = place
place_after pre place (suc n) = place_after pre (next_slot pre place) n

-- the bytes of one sample, to its slot
abbrev pub put_bytes : ℕ → ℕ → List ℕ → ℕ → List ℕ → List ℕ
put_bytes u pre g place x = cond (eqb pre 0) g (written g (place * u) x)

-- the ring's bytes after the first n samples of b
unfoldable pub ring_bytes : ℕ → ℕ → List ℕ → ℕ → ℕ → List ℕ → List ℕ
ring_bytes u pre g place zero b = g
ring_bytes u pre g place (suc n) b = ring_bytes u pre (put_bytes u pre g place (take u b)) (next_slot pre place) n (drop u b)

-- ---- reading
-- the bytes of the last n samples, oldest first: two parts of the ring, its end and what stands before the ring place
abbrev pub kept_bytes : ℕ → ℕ → List ℕ → ℕ → ℕ → List ℕ
kept_bytes u pre g place n =
    take ((n - place) * u) (drop ((pre - (n - place)) * u) g)
    ++ take (min n place * u) (drop ((place - n) * u) g)
