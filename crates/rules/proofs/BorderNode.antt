-- The borders of samples, nodes and searches, computed: what a range takes in and what it leaves out. 01: Records; Store; Search. Assumes nothing.
use mathlib.Core.Path.{◌≡◌, refl}
use mathlib.Core.Bool.{true, false}
use mathlib.Core.List.{[], ◌∷◌}
use Rattle.std.specs.Prelude.{None, Some}
use Prim.Native.Nat.{ℕ, ◌+◌, ◌*◌, ◌^◌}
use Rattle.rules.specs.Sample.{unit_of, sample_of, sample_count, list_from, samples_of, line}
use Rattle.rules.specs.Node.{Node, Lines, toggles_of, differs, count_of, changes_in, most_count, numbers_of, cap_count, node_of, join, leaf, mirror, lines_of, cut, quiet, top_level, span, chunk, nodes_for, node_start, node_end, level_node}
use Rattle.rules.specs.Search.{seek, next, previous, summary, cut_summary, count_in, density}
use Rattle.rules.specs.Cutting.{Rising, cut_end, parts_sum, borders_sum}
use native.Mathlib.Omega.{arith}

-- ---- bytes and samples
pub samples :
    -- "More than 8 channels means unit 2, else 1."
    (unit_of 0 ≡ 1)
    × (unit_of 8 ≡ 1)
    × (unit_of 9 ≡ 2)
    × (unit_of 17 ≡ 2)
    -- "Unit 1: one byte"; "Unit 2: two bytes, low first."
    × (sample_of 1 (1 ∷ 2 ∷ 255 ∷ []) 2 ≡ 255)
    × (sample_of 2 (1 ∷ 2 ∷ 3 ∷ 4 ∷ []) 0 ≡ 513)
    × (sample_of 2 (1 ∷ 2 ∷ 3 ∷ 4 ∷ []) 1 ≡ 1027)
    × (sample_of 2 (255 ∷ 255 ∷ []) 0 ≡ 65535)
    -- "Append takes floor(bytes / unit) samples; a leftover byte is dropped."
    × (sample_count 1 (7 ∷ 8 ∷ 9 ∷ []) ≡ 3)
    × (sample_count 2 (7 ∷ []) ≡ 0)
    × (sample_count 2 (7 ∷ 8 ∷ []) ≡ 1)
    × (sample_count 2 (7 ∷ 8 ∷ 9 ∷ []) ≡ 1)
    × (sample_count 2 (7 ∷ 8 ∷ 9 ∷ 10 ∷ []) ≡ 2)
    × (samples_of 1 (1 ∷ 2 ∷ 3 ∷ []) ≡ 1 ∷ 2 ∷ 3 ∷ [])
    × (samples_of 2 (1 ∷ 2 ∷ 3 ∷ 4 ∷ 5 ∷ []) ≡ 513 ∷ 1027 ∷ [])
    -- "bit k for line k"
    × (line 5 0 ≡ 1)
    × (line 5 1 ≡ 0)
    × (line 5 2 ≡ 1)
    × (line 32768 15 ≡ 1)
    × (line 32768 14 ≡ 0)
unfolding sample_of list_from line
samples = (refl, refl, refl, refl, refl, refl, refl, refl, refl, refl, refl, refl, refl, refl, refl, refl, refl, refl, refl, refl)

-- ---- nodes
abbrev node : ℕ → ℕ → ℕ → ℕ → Node
node first last toggles count = record { first = first; last = last; toggles = toggles; count = count }

abbrev lines : ℕ → ℕ → ℕ → Lines
lines first last toggles = record { first = first; last = last; toggles = toggles }

-- every change is one of a line of its own: 2 at place 1, 1 at place 2, 4 at place 3
abbrev s : ℕ → ℕ
s = sample_of 1 (1 ∷ 3 ∷ 2 ∷ 6 ∷ [])

pub nodes :
    -- "s[a], s[b−1], and the OR of s[i] XOR s[i−1] for a < i < b"
    (node_of s 0 1 ≡ node 1 1 0 0)
    × (node_of s 0 2 ≡ node 1 3 2 1)
    × (node_of s 1 2 ≡ node 3 3 0 0)
    × (node_of s 1 3 ≡ node 3 2 1 1)
    × (node_of s 0 4 ≡ node 1 6 7 3)
    × (node_of (sample_of 1 (0 ∷ 1 ∷ 0 ∷ [])) 0 3 ≡ node 0 0 1 2)
    × (leaf 3 ≡ node 3 3 0 0)
    -- "toggles = both toggles OR (left last XOR right first)": the border alone, and what is not the border
    × (join (node_of s 0 2) (node_of s 2 4) ≡ node 1 6 7 3)
    × (join (node 0 1 0 5) (node 0 0 0 7) ≡ node 0 0 1 13)
    × (join (node 0 1 0 5) (node 1 1 0 7) ≡ node 0 1 0 12)
    × (join (node 0 1 0 0) (node 1 0 0 0) ≡ node 0 0 0 0)
    × (join (node 0 0 1 1) (node 0 0 3 2) ≡ node 0 0 3 3)
    × (join (node 0 1 3 4) (node 0 0 1 1) ≡ node 0 0 3 6)
    -- "a sum above 2^32 − 1 counts as that": the last sum below it, that number itself, and the border that goes beyond it
    × (join (node 0 0 0 4294967290) (node 0 0 0 4) ≡ node 0 0 0 4294967294)
    × (join (node 0 0 0 4294967290) (node 0 0 0 5) ≡ node 0 0 0 4294967295)
    × (join (node 0 0 0 4294967290) (node 0 0 0 6) ≡ node 0 0 0 4294967295)
    × (join (node 0 1 0 65535) (node 0 0 0 0) ≡ node 0 0 1 65536)
    × (join (node 0 1 0 4294967294) (node 0 0 0 0) ≡ node 0 0 1 4294967295)
    × (join (node 0 1 0 4294967295) (node 0 0 0 0) ≡ node 0 0 1 4294967295)
    × (join (node 0 0 0 4294967295) (node 0 0 0 4294967295) ≡ node 0 0 0 4294967295)
    × (mirror (node 1 2 4 3) ≡ node 2 1 4 3)
    -- "Cutting down takes first, last and toggles AND that mask"
    × (cut 6 (node 5 3 15 9) ≡ lines 4 2 6)
    × (lines_of (node 5 3 15 9) ≡ lines 5 3 15)
    -- "low first": the last count that its low number holds alone, the next one, one with both, and the most
    × (numbers_of (node 1 2 3 65535) ≡ 1 ∷ 2 ∷ 3 ∷ 65535 ∷ 0 ∷ [])
    × (numbers_of (node 1 2 3 65536) ≡ 1 ∷ 2 ∷ 3 ∷ 0 ∷ 1 ∷ [])
    × (numbers_of (node 1 2 3 327684) ≡ 1 ∷ 2 ∷ 3 ∷ 4 ∷ 5 ∷ [])
    × (numbers_of (node 1 2 3 4294967295) ≡ 1 ∷ 2 ∷ 3 ∷ 65535 ∷ 65535 ∷ [])
    -- "No masked change against the value before, nor inside": the border alone, inside alone, both, another line, the last sample
    × (quiet (node 1 1 0 7) 1 1 ≡ true)
    × (quiet (node 1 1 0 7) 0 1 ≡ false)
    × (quiet (node 1 1 1 7) 1 1 ≡ false)
    × (quiet (node 1 1 1 7) 0 1 ≡ false)
    × (quiet (node 1 1 0 7) 3 1 ≡ true)
    × (quiet (node 1 1 2 7) 1 1 ≡ true)
    × (quiet (node 1 0 0 7) 1 1 ≡ true)
unfolding sample_of toggles_of count_of node_of
nodes = (refl, refl, refl, refl, refl, refl, refl, refl, refl, refl, refl, refl, refl, refl, refl, refl, refl, refl, refl, refl, refl, refl, refl, refl, refl, refl, refl, refl, refl, refl, refl, refl, refl, refl)

-- ---- levels; the sample at each place is the place
abbrev places : ℕ → ℕ
places i = i

pub levels :
    (top_level ≡ 4)
    × (span 0 ≡ 1)
    × (span 1 ≡ 32)
    × (span 4 ≡ 1048576)
    × (chunk ≡ 1048576)
    -- "ceil(capacity / 32^l) nodes"
    × (nodes_for 1 1 ≡ 1)
    × (nodes_for 32 1 ≡ 1)
    × (nodes_for 33 1 ≡ 2)
    × (nodes_for 1024 2 ≡ 1)
    × (nodes_for 1025 2 ≡ 2)
    -- "[j × 32^l, min((j+1) × 32^l, len))"
    × (node_start 1 0 ≡ 0)
    × (node_start 1 2 ≡ 64)
    × (node_start 2 2 ≡ 2048)
    × (node_end 95 1 2 ≡ 95)
    × (node_end 96 1 2 ≡ 96)
    × (node_end 97 1 2 ≡ 96)
    × (level_node places 40 1 0 ≡ node 0 31 31 31)
    × (level_node places 40 1 1 ≡ node 32 39 7 7)
unfolding toggles_of count_of node_of
levels = (refl, refl, refl, refl, refl, refl, refl, refl, refl, refl, refl, refl, refl, refl, refl, refl, refl, refl)

-- ---- searches: line 0 changes at place 2, line 1 at place 4
abbrev t : ℕ → ℕ
t = sample_of 1 (0 ∷ 0 ∷ 1 ∷ 1 ∷ 3 ∷ [])

-- "smallest i with from < i < len"
pub nexts :
    (next t 5 1 1 ≡ Some 2)
    × (next t 5 1 2 ≡ None)
    × (next t 3 1 0 ≡ Some 2)
    × (next t 2 1 0 ≡ None)
    × (next t 5 2 3 ≡ Some 4)
    × (next t 5 3 0 ≡ Some 2)
    × (next t 5 3 2 ≡ Some 4)
    × (next t 5 0 0 ≡ None)
    × (next t 5 65532 0 ≡ None)
    × (next t 5 1 18446744073709551615 ≡ None)
    × (next t 0 1 0 ≡ None)
unfolding sample_of seek
nexts = (refl, refl, refl, refl, refl, refl, refl, refl, refl, refl, refl)

-- "largest such i with 1 ≤ i ≤ from"
pub previouses :
    (previous t 5 1 1 ≡ None)
    × (previous t 5 1 2 ≡ Some 2)
    × (previous t 5 3 3 ≡ Some 2)
    × (previous t 5 3 4 ≡ Some 4)
    × (previous t 5 3 5 ≡ Some 4)
    × (previous t 4 3 100 ≡ Some 2)
    × (previous t 3 3 100 ≡ Some 2)
    × (previous t 2 3 100 ≡ None)
    × (previous s 4 2 1 ≡ Some 1)
    × (previous s 2 2 9 ≡ Some 1)
    × (previous s 4 2 0 ≡ None)
    × (previous t 0 1 100 ≡ None)
unfolding sample_of seek
previouses = (refl, refl, refl, refl, refl, refl, refl, refl, refl, refl, refl, refl)

-- "the node of [a, min(b,len)), or none if empty"
pub summaries :
    (summary t 5 1 2 ≡ Some (node 0 0 0 0))
    × (summary t 5 1 3 ≡ Some (node 0 1 1 1))
    × (summary t 5 2 2 ≡ None)
    × (summary t 5 3 2 ≡ None)
    × (summary t 5 4 9 ≡ Some (node 3 3 0 0))
    × (summary t 5 3 5 ≡ Some (node 1 3 2 1))
    × (summary t 4 3 5 ≡ Some (node 1 1 0 0))
    × (summary t 5 5 9 ≡ None)
    × (cut_summary 5 None ≡ None)
    × (cut_summary 6 (Some (node 5 3 15 9)) ≡ Some (lines 4 2 6))
unfolding sample_of toggles_of count_of node_of
summaries = (refl, refl, refl, refl, refl, refl, refl, refl, refl, refl)

-- ---- cuttings
pub cuttings :
    Rising 2 (3 ∷ 5 ∷ [])
    × (Rising 2 (2 ∷ 5 ∷ []) → ⊥)
    × (Rising 2 (5 ∷ 5 ∷ []) → ⊥)
    × (cut_end 2 [] ≡ 2)
    × (cut_end 2 (3 ∷ 5 ∷ []) ≡ 5)
    × (parts_sum (λ a b. 10 * a + b) 2 (3 ∷ 5 ∷ []) ≡ 58)
    -- of the places 3 and 4 that lie between the parts of [2, 5), t changes at 4; the last end is no border
    × (borders_sum t (3 ∷ 4 ∷ 5 ∷ []) ≡ 1)
    × (borders_sum t (3 ∷ 4 ∷ []) ≡ 0)
    × (borders_sum t (2 ∷ 4 ∷ 5 ∷ []) ≡ 2)
unfolding sample_of
cuttings = ((omega arith, (omega arith, tt)), λ r. omega (arith, r.0), λ r. omega (arith, r.1.0), refl, refl, refl, refl, refl, refl)

-- ---- counts
-- "the number of places inside it at which any line changes"; "the number of changes in [a,b), cut at len as in summary, 0 if that is empty" (02, CR 5)
pub counts :
    (differs 3 3 ≡ 0)
    × (differs 3 2 ≡ 1)
    × (differs 0 32768 ≡ 1)
    -- a change at a is outside, one at b − 1 inside and one at b outside
    × (changes_in t 1 5 ≡ 2)
    × (changes_in t 2 5 ≡ 1)
    × (changes_in t 2 4 ≡ 0)
    × (changes_in t 1 3 ≡ 1)
    × (changes_in t 1 2 ≡ 0)
    × (changes_in t 4 5 ≡ 0)
    × (changes_in t 4 4 ≡ 0)
    × (changes_in t 4 2 ≡ 0)
    × (changes_in places 0 40 ≡ 39)
    -- "2^32 − 1"
    × (most_count + 1 ≡ 2 ^ 32)
    × (cap_count 4294967294 ≡ 4294967294)
    × (cap_count 4294967295 ≡ 4294967295)
    × (cap_count 4294967296 ≡ 4294967295)
    × (count_in None ≡ 0)
    × (count_in (Some (node 1 2 3 4)) ≡ 4)
    -- cut at len, and any numbers
    × (density t 5 0 5 ≡ 2)
    × (density t 5 0 4 ≡ 1)
    × (density t 4 0 5 ≡ 1)
    × (density t 5 2 9 ≡ 1)
    × (density t 5 0 18446744073709551615 ≡ 2)
    × (density t 5 18446744073709551615 0 ≡ 0)
    × (density t 5 5 9 ≡ 0)
    × (density t 5 2 2 ≡ 0)
    × (density t 0 0 9 ≡ 0)
unfolding sample_of count_of
counts = (refl, refl, refl, refl, refl, refl, refl, refl, refl, refl, refl, refl, refl, refl, refl, refl, refl, refl, refl, refl, refl, refl, refl, refl, refl, refl, refl)
