-- The walk of "Search", over any reader of nodes: which nodes it takes, in which order, and how many. 01: Search.
-- A reader gives the node of level l that starts at a place; level 0 is the sample. A level set says which levels above 0 there are.
use Rattle.std.specs.Prelude.{Bool, true, cond, ◌&&◌, ℕ, zero, suc, ◌+◌, ◌-◌, ◌*◌, ◌/◌, ◌%◌, ltb, leb, eqb}
use Rattle.std.specs.Prelude.{Option, None, Some}
use Rattle.rules.specs.Node.{Node, node_of, mirror, quiet, top_level, span, chunk, chunk_end, nodes_for}
use Rattle.rules.specs.Search.{higher, lower, next, previous, start_back}

-- what a search found, and its steps: "A step is one taking of a level" (02, CR 3)
pub record Counted (A : Type 0) : Type 0 where
  pub found : Option A
  pub steps : ℕ

-- what was found seen through f, with the same count
abbrev pub through : {A B : Type 0} → (Option A → Option B) → Counted A → Counted B
through f c = record { found = f c.found; steps = c.steps }

-- a walk finds a place
abbrev pub Walked : Type 0
Walked = Counted ℕ

abbrev pub nothing : Walked
nothing = record { found = None; steps = 0 }

-- a direction within a chunk
pub record Way : Type 0 where
  -- how many places are left at p
  pub left : ℕ → ℕ
  -- whether level l can be taken at p
  pub takes : ℕ → ℕ → Bool
  -- the node taken, its near end as first
  pub node : ℕ → ℕ → Node
  -- the place past it
  pub past : ℕ → ℕ → ℕ

-- "p is a multiple of 32^l and p + 32^l fits the stored part of the chunk", which ends at hi
abbrev pub forward : (ℕ → Bool) → (ℕ → ℕ → Node) → ℕ → Way
forward has reader hi = record {
  left = λ p. hi - p;
  takes = λ l p. has l && (eqb (p % span l) 0 && leb (p + span l) hi);
  node = λ l p. reader l p;
  past = λ l p. p + span l;
}

-- "Backward is the mirror": the node that ends at p, read from its last sample, in the chunk that starts at lo
abbrev pub backward : (ℕ → Bool) → (ℕ → ℕ → Node) → ℕ → Way
backward has reader lo = record {
  left = λ p. p - lo;
  takes = λ l p. has l && (eqb (p % span l) 0 && leb (lo + span l) p);
  node = λ l p. mirror (reader l (p - span l));
  past = λ l p. p - span l;
}

-- "take the highest level up to a cap"; "level 0 is the sample"
unfoldable pub best : (ℕ → Bool) → ℕ → ℕ
best takes zero = 0
best takes (suc cap) = cond (takes (suc cap)) (suc cap) (best takes cap)

-- a step ends the walk, or goes on at a place, under a cap, with the value before
pub data Step : Type 0 where
  ended : Step
  found_at : ℕ → Step
  on : ℕ → ℕ → ℕ → Step

-- "No masked change ..: pass it. Otherwise level 0 is the find, and a higher level lowers the cap to l − 1."
abbrev pub taking : Way → ℕ → ℕ → ℕ → ℕ → ℕ → Step
taking w mask l p cap before =
    cond (quiet (w.node l p) before mask)
    (on (w.past l p) cap (w.node l p).last)
    (cond (eqb l 0) (found_at p) (on p (l - 1) before))

abbrev pub step : Way → ℕ → ℕ → ℕ → ℕ → Step
step w mask p cap before =
    cond (eqb (w.left p) 0) ended
    (taking w mask (best (λ l. w.takes l p) cap) p cap before)

-- the walk after a step; each but the end takes one node
abbrev pub after : Step → (ℕ → ℕ → ℕ → Walked) → Walked
after ended rest = nothing
after (found_at p) rest = record { found = Some p; steps = 1 }
after (on p cap before) rest = record { found = (rest p cap before).found; steps = suc (rest p cap before).steps }

-- at most `fuel` steps, which bound the recursion: the places left and the cap together fall at each step, so those of `walk_from` are enough
unfoldable pub walk : Way → ℕ → ℕ → ℕ → ℕ → ℕ → Walked
walk w mask zero p cap before = nothing
walk w mask (suc fuel) p cap before = after (step w mask p cap before) (walk w mask fuel)

-- "a cap (4 at each chunk)"
abbrev pub walk_from : Way → ℕ → ℕ → ℕ → Walked
walk_from w mask p before = walk w mask (suc (w.left p + top_level)) p top_level before

-- ---- over chunks
-- a direction over chunks, by their numbers
pub record Course : Type 0 where
  -- the way within chunk c
  pub way : ℕ → Way
  -- the chunk after c, the place at which it is entered, and the value before that place
  pub next_chunk : ℕ → ℕ
  pub entry : ℕ → ℕ
  pub value : ℕ → ℕ

abbrev pub ahead : (ℕ → Bool) → (ℕ → ℕ → Node) → ℕ → Course
ahead has reader len = record {
  way = λ c. forward has reader (chunk_end len c);
  next_chunk = higher;
  entry = λ c. (c + 1) * chunk;
  value = λ c. (reader 0 ((c + 1) * chunk - 1)).first;
}

-- "an earlier chunk is entered at its length", which is where chunk c starts
abbrev pub behind : (ℕ → Bool) → (ℕ → ℕ → Node) → Course
behind has reader = record {
  way = λ c. backward has reader (c * chunk);
  next_chunk = lower;
  entry = λ c. c * chunk;
  value = λ c. (reader 0 (c * chunk)).first;
}

-- a chunk's find, else the rest's, with the steps of both
abbrev pub or_found : Option ℕ → Option ℕ → Option ℕ
or_found (Some i) rest = Some i
or_found None rest = rest

abbrev pub or_steps : Option ℕ → ℕ → ℕ → ℕ
or_steps (Some i) n rest = n
or_steps None n rest = n + rest

abbrev pub or_else : Walked → Walked → Walked
or_else w rest = record {
  found = or_found w.found rest.found;
  steps = or_steps w.found w.steps rest.steps;
}

-- n chunks from chunk c on, entered at place p
unfoldable pub chunks : Course → ℕ → ℕ → ℕ → ℕ → ℕ → Walked
chunks k mask zero c p before = nothing
chunks k mask (suc n) c p before =
    or_else (walk_from (k.way c) mask p before)
    (chunks k mask n (k.next_chunk c) (k.entry c) (k.value c))

-- how many of n chunks it enters, those up to the first that has a find (02, CR 3: "per chunk it enters");
-- one with no place left is not entered
abbrev pub enters : ℕ → ℕ
enters zero = 0
enters (suc left) = 1

abbrev pub or_entered : ℕ → Option ℕ → ℕ → ℕ
or_entered left (Some i) rest = enters left
or_entered left None rest = enters left + rest

unfoldable pub entered : Course → ℕ → ℕ → ℕ → ℕ → ℕ → ℕ
entered k mask zero c p before = 0
entered k mask (suc n) c p before =
    or_entered ((k.way c).left p) (walk_from (k.way c) mask p before).found
    (entered k mask n (k.next_chunk c) (k.entry c) (k.value c))

-- how many chunks hold len samples: a chunk is a node of the top level
abbrev pub chunks_for : ℕ → ℕ
chunks_for len = nodes_for len top_level

-- what is said of a course over chunks (its walk, or the chunks that it enters), of the search forward:
-- "The walk starts at place from + 1 with s[from] as the value before."
abbrev pub ahead_from : {A : Type 0} → (Course → ℕ → ℕ → ℕ → ℕ → ℕ → A) → A → (ℕ → Bool) → (ℕ → ℕ → Node) → ℕ → ℕ → ℕ → A
ahead_from of none_left has reader len mask from =
    cond (ltb (from + 1) len)
    (of (ahead has reader len) mask (chunks_for len - (from + 1) / chunk) ((from + 1) / chunk) (from + 1) (reader 0 from).first)
    none_left

abbrev pub next_walk : (ℕ → Bool) → (ℕ → ℕ → Node) → ℕ → ℕ → ℕ → Walked
next_walk has reader len mask from = ahead_from chunks nothing has reader len mask from

abbrev pub next_entered : (ℕ → Bool) → (ℕ → ℕ → Node) → ℕ → ℕ → ℕ → ℕ
next_entered has reader len mask from = ahead_from entered 0 has reader len mask from

-- and backward, "from min(from, len−1) with the sample there as the value after"
abbrev pub behind_from : {A : Type 0} → (Course → ℕ → ℕ → ℕ → ℕ → ℕ → A) → (ℕ → Bool) → (ℕ → ℕ → Node) → ℕ → ℕ → A
behind_from of has reader mask p = of (behind has reader) mask (p / chunk + 1) (p / chunk) p (reader 0 p).first

abbrev pub previous_from : (ℕ → Bool) → (ℕ → ℕ → Node) → ℕ → ℕ → Walked
previous_from has reader mask p = behind_from chunks has reader mask p

abbrev pub previous_walk : (ℕ → Bool) → (ℕ → ℕ → Node) → ℕ → ℕ → ℕ → Walked
previous_walk has reader len mask from = cond (eqb len 0) nothing (previous_from has reader mask (start_back len from))

abbrev pub previous_entered : (ℕ → Bool) → (ℕ → ℕ → Node) → ℕ → ℕ → ℕ → ℕ
previous_entered has reader len mask from = cond (eqb len 0) 0 (behind_from entered has reader mask (start_back len from))

-- the levels of a full store: all
abbrev pub all_levels : ℕ → Bool
all_levels l = true

-- ---- of a run
-- its true nodes
abbrev pub run_reader : (ℕ → ℕ) → ℕ → ℕ → Node
run_reader s l p = node_of s p (p + span l)

-- "Every forward and backward search returns the count of nodes read, samples at level 0 included, equal to the steps of 01's walk." (02, CR 3)
abbrev pub next_search : (ℕ → ℕ) → ℕ → ℕ → ℕ → Walked
next_search s len mask from = record {
  found = next s len mask from;
  steps = (next_walk all_levels (run_reader s) len mask from).steps;
}

abbrev pub previous_search : (ℕ → ℕ) → ℕ → ℕ → ℕ → Walked
previous_search s len mask from = record {
  found = previous s len mask from;
  steps = (previous_walk all_levels (run_reader s) len mask from).steps;
}
