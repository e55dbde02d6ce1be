-- An encoder's replay as the code takes it, over whatever memory holds: quiet nodes are passed, and from the first that is not samples are scanned, stretch by stretch,
-- as long as something moves or, where changes are far apart, to the end of the node.
use Rattle.std.specs.Prelude.{◌≡◌, Bool, true, cond, ◌||◌, List, ℕ, zero, suc, ◌+◌, ◌-◌, ◌*◌, ◌/◌, ◌≤◌, min, ltb, leb, eqb, pos, ◌-ℤ◌}
use Rattle.rules.specs.Sample.{sample_of}
use Rattle.rules.specs.Node.{chunk, chunk_end}
use Rattle.rules.specs.Encoder.{Turns, no_turns, add_turns, turns_of, pair_mask}
use Rattle.pass.specs.Pass.{pass_from}
use Rattle.encoder_scan.specs.Scan.{widest, Counts}

-- changes are far apart: 256 places or more were passed from p to i
abbrev pub is_far : ℕ → ℕ → Bool
is_far p i = leb (p + 256) i

-- the first place behind i that w divides, or len
abbrev pub border : ℕ → ℕ → ℕ → ℕ
border len w i = min ((i / w + 1) * w) len

-- how many places a stretch that is scanned from place i on has at most: a node's there, else as many as are taken at once
abbrev pub width : ℕ → ℕ → ℕ → ℕ
width unit p i = cond (is_far p i) 32 (widest unit)

-- it ends with its node, or its places, or with the capture
abbrev pub stretch_end : ℕ → ℕ → ℕ → ℕ → ℕ
stretch_end unit len p i = border len (width unit p i) i

-- what the code knows of that place
pub record Ends (unit len p i end : ℕ) : Type 0 where
  pub is : end ≡ stretch_end unit len p i
  pub least : i ≤ end
  pub most : end ≤ len
  pub more : min (i + 1) len ≤ end
  pub few : end - i ≤ widest unit

-- whether nodes are asked behind it, `moved` of its places having moved
abbrev pub quiet_behind : ℕ → ℕ → ℕ → Bool
quiet_behind p i moved = is_far p i || eqb moved 0

-- where scanning goes on at place p: where nodes are asked, at `onward p`
abbrev pub resume_at : (ℕ → ℕ) → Bool → ℕ → ℕ
resume_at onward quiet p = cond quiet (onward p) p

-- and of this one
pub record Resumed (onward : ℕ → ℕ) (len : ℕ) (quiet : Bool) (p i : ℕ) : Type 0 where
  pub is : i ≡ resume_at onward quiet p
  pub low : p ≤ i
  pub high : i ≤ len

abbrev pub count_all : Turns → ℕ
count_all t = t.forward + t.backward + t.skipped

module _ (unit : ℕ) (onward : ℕ → ℕ) (s : ℕ → ℕ) (len a b : ℕ) where
  -- the stretch that is scanned from place i on
  abbrev pub stretch : ℕ → ℕ → Turns
  stretch p i = turns_of s a b (i - 1) (stretch_end unit len p i - i)

  -- what is counted from place p on, added to t, in at most `fuel` stretches
  unfoldable pub hops_from : ℕ → ℕ → Bool → Turns → Turns
  hops_from zero p quiet t = t
  hops_from (suc fuel) p quiet t =
      cond (ltb p len)
      (hops_from fuel (stretch_end unit len p (resume_at onward quiet p)) (quiet_behind p (resume_at onward quiet p) (count_all (stretch p (resume_at onward quiet p)))) (add_turns t (stretch p (resume_at onward quiet p))))
      t

-- what two lines do over n places from p on, counted
pub record Scanned (s : ℕ → ℕ) (a b p n forward backward skipped : ℕ) : Type 0 where
  pub counts : Counts (turns_of s a b p n) forward backward skipped
  pub few : forward + backward + skipped ≤ n

-- three counts, with the position that they come to
abbrev pub counted : ℕ → ℕ → ℕ → Turns
counted f k n = record { position = pos f -ℤ pos k; forward = f; backward = k; skipped = n }

-- how far the nodes that memory holds are quiet, within the chunk of place p; the value before them is the sample
abbrev pub onward_in : ℕ → ℕ → List ℕ → (ℕ → List ℕ) → ℕ → ℕ → ℕ
onward_in unit len samples levels mask p = pass_from unit 0 (chunk_end len (p / chunk)) samples levels mask p (sample_of unit samples (p - 1))

unfoldable pub hops_of : ℕ → ℕ → List ℕ → (ℕ → List ℕ) → ℕ → ℕ → Turns
hops_of unit len samples levels a b = hops_from unit (onward_in unit len samples levels (pair_mask a b)) (sample_of unit samples) len a b len 1 true no_turns
