-- The borders of what get, samples and Raw read of a store, of whole, and of masks and lines, computed. 01: Other calls; Lists of pushes; Records. Assumes nothing.
use mathlib.Core.Path.{◌≡◌, refl}
use mathlib.Core.Bool.{true, false, cond, ◌&&◌}
use mathlib.Core.List.{List, [], ◌∷◌}
use Rattle.std.specs.Prelude.{Option, None, Some}
use Prim.Native.Nat.{ℕ}
use native.Mathlib.Omega.{arith}
use lib.Dec.{eqb}
use lib.ListN.{length, get_or}
use Rattle.rules.specs.Sample.{sample_of, list_from, Word, Within, all_lines, cut_to, cut_lines}
use Rattle.rules.specs.Node.{Node, Words, toggles_of, count_of, node_of, level_node, chunk_end}
use Rattle.rules.specs.Search.{seek}
use Rattle.rules.specs.Refusal.{Store, Lent, level_short}
use Rattle.rules.specs.Answer.{Answer, refused, given, unrefused}
use Rattle.rules.specs.Reading.{get_answer, copied_to, copy_count, samples_answer, part_of, raw_answer, raw_from, raw_to}
use Rattle.rules.specs.Wrong.{same_node, NodeAt, first_wrong, whole_answer}
use Rattle.rules.proofs.BorderRows.{store, plenty, no_memory}

-- ---- get and samples. Five samples stored, and memory goes on behind them
abbrev bytes : List ℕ
bytes = 10 ∷ 11 ∷ 12 ∷ 13 ∷ 14 ∷ 15 ∷ 16 ∷ 17 ∷ []

abbrev s : ℕ → ℕ
s = sample_of 1 bytes

abbrev five : Store
five = store 1 8 5 None

-- len above capacity
abbrev wrong : Store
wrong = store 1 8 9 None

pub gets :
    (get_answer five plenty s 0 ≡ given 10)
    × (get_answer five plenty s 4 ≡ given 14)
    × (get_answer five plenty s 5 ≡ refused 9)
    × (get_answer five no_memory s 5 ≡ refused 2)
    × (get_answer wrong no_memory s 9 ≡ refused 1)
    × (get_answer five no_memory s 0 ≡ refused 2)
unfolding sample_of level_short
gets = (refl, refl, refl, refl, refl, refl)

-- the answer, and what output is left
abbrev copies : ℕ → ℕ → List ℕ → List ℕ
copies start n output = copied_to s start (copy_count five plenty start n (length output)) output

abbrev copies_on : Store → Lent → List ℕ → List ℕ
copies_on st memory output = copied_to s 1 (copy_count st memory 1 3 (length output)) output

abbrev answers : ℕ → ℕ → ℕ → Answer ℕ
answers start n output = samples_answer five plenty start n output

abbrev four : List ℕ
four = 90 ∷ 91 ∷ 92 ∷ 93 ∷ []

pub copied_samples :
    -- "copies s[start..min(start+count, len)), nothing if that is empty"; "Output past what is copied or drawn is unchanged": up to count, up to len, past it
    (copies 1 3 four ≡ 11 ∷ 12 ∷ 13 ∷ 93 ∷ [])
    × (copies 0 1 four ≡ 10 ∷ 91 ∷ 92 ∷ 93 ∷ [])
    × (copies 1 4 four ≡ 11 ∷ 12 ∷ 13 ∷ 14 ∷ [])
    × (copies 1 5 four ≡ 11 ∷ 12 ∷ 13 ∷ 14 ∷ [])
    × (copies 3 3 four ≡ 13 ∷ 14 ∷ 92 ∷ 93 ∷ [])
    × (copies 5 3 four ≡ four)
    × (copies 6 3 four ≡ four)
    × (copies 1 0 four ≡ four)
    × (copies 1 3 (90 ∷ 91 ∷ 92 ∷ []) ≡ 11 ∷ 12 ∷ 13 ∷ [])
    × (copies 3 3 (90 ∷ 91 ∷ []) ≡ 13 ∷ 14 ∷ [])
    × (copies 5 3 [] ≡ [])
    -- where a row refuses it, output is as given
    × (copies 1 3 (90 ∷ 91 ∷ []) ≡ 90 ∷ 91 ∷ [])
    × (copies 3 3 (90 ∷ []) ≡ 90 ∷ [])
    × (copies_on five no_memory four ≡ four)
    × (copies_on wrong plenty four ≡ four)
    × (answers 1 3 4 ≡ given 3)
    × (answers 1 3 3 ≡ given 3)
    × (answers 3 3 4 ≡ given 2)
    × (answers 3 3 2 ≡ given 2)
    × (answers 3 3 1 ≡ refused 11)
    × (answers 5 3 4 ≡ given 0)
    × (answers 1 3 2 ≡ refused 11)
    × (samples_answer five no_memory 1 3 2 ≡ refused 2)
    × (samples_answer wrong no_memory 1 3 2 ≡ refused 1)
    -- what is written is counted where no row refuses
    × (unrefused 0 5 ≡ 5)
    × (unrefused 1 5 ≡ 0)
    × (unrefused 11 5 ≡ 0)
unfolding sample_of list_from level_short copied_to
copied_samples = (refl, refl, refl, refl, refl, refl, refl, refl, refl, refl, refl, refl, refl, refl, refl, refl, refl, refl, refl, refl, refl, refl, refl, refl, refl, refl, refl)

-- ---- "Raw(c) returns chunk c's stored bytes as a part of the lent sample memory, empty if c is past the end or 1 or 2 below would apply"
pub raw_bytes :
    (part_of 1 bytes 2 5 ≡ 12 ∷ 13 ∷ 14 ∷ [])
    × (part_of 2 bytes 1 3 ≡ 12 ∷ 13 ∷ 14 ∷ 15 ∷ [])
    × (part_of 2 bytes 3 3 ≡ [])
    × (part_of 1 bytes 4 3 ≡ [])
    -- a chunk that is not full, and past the end
    × (raw_answer five plenty bytes 0 ≡ 10 ∷ 11 ∷ 12 ∷ 13 ∷ 14 ∷ [])
    × (raw_answer (store 2 4 3 None) plenty bytes 0 ≡ 10 ∷ 11 ∷ 12 ∷ 13 ∷ 14 ∷ 15 ∷ [])
    × (raw_answer five plenty bytes 1 ≡ [])
    × (raw_answer five plenty bytes 18446744073709551615 ≡ [])
    × (raw_answer (store 1 8 0 None) plenty bytes 0 ≡ [])
    × (raw_answer five no_memory bytes 0 ≡ [])
    × (raw_answer wrong plenty bytes 0 ≡ [])
unfolding level_short part_of
raw_bytes = (refl, refl, refl, refl, refl, refl, refl, refl, refl, refl, refl)

-- a full chunk, and one sample behind it, of any memory; the parts are those above
pub raw_chunks : (memory : List ℕ)
    → (raw_answer (store 1 2097152 1048576 None) plenty memory 0 ≡ part_of 1 memory 0 1048576)
    × (raw_answer (store 1 2097152 1048577 None) plenty memory 0 ≡ part_of 1 memory 0 1048576)
    × (raw_answer (store 1 2097152 1048577 None) plenty memory 1 ≡ part_of 1 memory 1048576 1048577)
    × (raw_answer (store 2 2097152 1048577 None) plenty memory 0 ≡ part_of 2 memory 0 1048576)
    × (raw_answer (store 2 2097152 1048577 None) plenty memory 1 ≡ part_of 2 memory 1048576 1048577)
unfolding level_short
raw_chunks memory = (refl, refl, refl, refl, refl)

-- where the part lies: in either unit, of a full chunk, one sample behind it, past the end, of no samples, and where 1 or 2 applies
pub raw_places :
    (raw_from (store 1 2097152 1048577 None) plenty 0 ≡ 0)
    × (raw_to (store 1 2097152 1048577 None) plenty 0 ≡ 1048576)
    × (raw_from (store 1 2097152 1048577 None) plenty 1 ≡ 1048576)
    × (raw_to (store 1 2097152 1048577 None) plenty 1 ≡ 1048577)
    × (raw_from (store 2 2097152 1048577 None) plenty 1 ≡ 2097152)
    × (raw_to (store 2 2097152 1048577 None) plenty 1 ≡ 2097154)
    × (raw_from (store 1 2097152 1048576 None) plenty 1 ≡ 0)
    × (raw_to (store 1 2097152 1048576 None) plenty 1 ≡ 0)
    × (raw_from five plenty 1 ≡ 0)
    × (raw_to five plenty 1 ≡ 0)
    × (raw_to (store 1 8 0 None) plenty 0 ≡ 0)
    × (raw_from (store 1 2097152 1048577 None) no_memory 1 ≡ 0)
    × (raw_to five no_memory 0 ≡ 0)
    × (raw_to wrong plenty 0 ≡ 0)
unfolding level_short
raw_places = (refl, refl, refl, refl, refl, refl, refl, refl, refl, refl, refl, refl, refl, refl)

pub chunk_ends :
    (chunk_end 5 0 ≡ 5)
    × (chunk_end 1048576 0 ≡ 1048576)
    × (chunk_end 1048577 0 ≡ 1048576)
    × (chunk_end 1048577 1 ≡ 1048577)
    × (chunk_end 3000000 1 ≡ 2097152)
chunk_ends = (refl, refl, refl, refl, refl)

-- ---- whole: every sample is its place, and 70 are stored
abbrev node : ℕ → ℕ → ℕ → ℕ → Node
node first last toggles count = record { first = first; last = last; toggles = toggles; count = count }

-- levels 1 to 4, and what stands behind their nodes
abbrev memory : List Node → List Node → List Node → List Node → ℕ → ℕ → Node
memory l1 l2 l3 l4 l j = get_or (get_or ([] ∷ l1 ∷ l2 ∷ l3 ∷ l4 ∷ []) l []) j (node 9 9 9 9)

abbrev whole : ℕ → List Node → List Node → List Node → List Node → Option NodeAt
whole len l1 l2 l3 l4 = whole_answer (λ i. i) len (memory l1 l2 l3 l4)

abbrev at : ℕ → ℕ → Option NodeAt
at level number = Some (record { level = level; number = number })

-- the nodes of [0, 32), [32, 64), [64, 70) and [0, 70)
abbrev n0 : Node
n0 = node 0 31 31 31

abbrev n1 : Node
n1 = node 32 63 31 31

abbrev n2 : Node
n2 = node 64 69 7 5

abbrev all : List Node
all = node 0 69 127 69 ∷ []

-- a wrong one
abbrev bad : Node
bad = node 0 0 0 0

pub wholes :
    (same_node (node 1 2 3 4) (node 1 2 3 4) ≡ true)
    × (same_node (node 1 2 3 4) (node 0 2 3 4) ≡ false)
    × (same_node (node 0 2 3 4) (node 1 2 3 4) ≡ false)
    × (same_node (node 1 2 3 4) (node 1 0 3 4) ≡ false)
    × (same_node (node 1 0 3 4) (node 1 2 3 4) ≡ false)
    × (same_node (node 1 2 3 4) (node 1 2 0 4) ≡ false)
    × (same_node (node 1 2 0 4) (node 1 2 3 4) ≡ false)
    × (same_node (node 1 2 3 4) (node 1 2 3 0) ≡ false)
    × (same_node (node 1 2 3 0) (node 1 2 3 4) ≡ false)
    × (whole 70 (n0 ∷ n1 ∷ n2 ∷ []) all all all ≡ None)
    -- one of its numbers is wrong; a partial last node is no full one
    × (whole 70 (node 1 31 31 31 ∷ n1 ∷ n2 ∷ []) all all all ≡ at 1 0)
    × (whole 70 (node 0 30 31 31 ∷ n1 ∷ n2 ∷ []) all all all ≡ at 1 0)
    × (whole 70 (node 0 31 30 31 ∷ n1 ∷ n2 ∷ []) all all all ≡ at 1 0)
    × (whole 70 (node 0 31 31 30 ∷ n1 ∷ n2 ∷ []) all all all ≡ at 1 0)
    × (whole 70 (node 0 31 31 32 ∷ n1 ∷ n2 ∷ []) all all all ≡ at 1 0)
    × (whole 70 (n0 ∷ n1 ∷ n2 ∷ []) all all (node 0 69 127 68 ∷ []) ≡ at 4 0)
    × (whole 70 (n0 ∷ n1 ∷ node 64 95 31 31 ∷ []) all all all ≡ at 1 2)
    × (whole 70 (n0 ∷ n1 ∷ n2 ∷ []) (node 0 1023 1023 1023 ∷ []) all all ≡ at 2 0)
    -- "the first wrong node .., lowest level first"
    × (whole 70 (n0 ∷ bad ∷ bad ∷ []) all all all ≡ at 1 1)
    × (whole 70 (n0 ∷ n1 ∷ bad ∷ []) (bad ∷ []) (bad ∷ []) (bad ∷ []) ≡ at 1 2)
    × (whole 70 (n0 ∷ n1 ∷ n2 ∷ []) (bad ∷ []) (bad ∷ []) (bad ∷ []) ≡ at 2 0)
    × (whole 70 (n0 ∷ n1 ∷ n2 ∷ []) all (bad ∷ []) (bad ∷ []) ≡ at 3 0)
    × (whole 70 (n0 ∷ n1 ∷ n2 ∷ []) all all (bad ∷ []) ≡ at 4 0)
    -- "of those that cover stored samples": no sample, two whole nodes, and one sample more
    × (whole 0 [] [] [] [] ≡ None)
    × (whole 64 (n0 ∷ n1 ∷ []) (node 0 63 63 63 ∷ []) (node 0 63 63 63 ∷ []) (node 0 63 63 63 ∷ []) ≡ None)
    × (whole 65 (n0 ∷ n1 ∷ []) (node 0 64 127 64 ∷ []) (node 0 64 127 64 ∷ []) (node 0 64 127 64 ∷ []) ≡ at 1 2)
    × (whole 65 (n0 ∷ n1 ∷ node 64 64 0 0 ∷ []) (node 0 64 127 64 ∷ []) (node 0 64 127 64 ∷ []) (node 0 64 127 64 ∷ []) ≡ None)
    -- the second node of level 2
    × (whole_answer (λ i. i) 1025 (λ l j. cond (eqb l 2 && eqb j 1) bad (level_node (λ i. i) 1025 l j)) ≡ at 2 1)
    -- n levels from level l on
    × (first_wrong (λ i. i) 70 (memory (bad ∷ []) (bad ∷ []) all (bad ∷ [])) 2 1 ≡ at 2 0)
    × (first_wrong (λ i. i) 70 (memory (bad ∷ []) (bad ∷ []) all (bad ∷ [])) 3 1 ≡ None)
    × (first_wrong (λ i. i) 70 (memory (bad ∷ []) (bad ∷ []) all (bad ∷ [])) 3 2 ≡ at 4 0)
    × (first_wrong (λ i. i) 70 (memory (bad ∷ []) (bad ∷ []) all (bad ∷ [])) 1 0 ≡ None)
unfolding toggles_of count_of node_of seek first_wrong
wholes = (refl, refl, refl, refl, refl, refl, refl, refl, refl, refl, refl, refl, refl, refl, refl, refl, refl, refl, refl, refl, refl, refl, refl, refl, refl, refl, refl, refl, refl, refl, refl, refl)

-- ---- lines: "A mask within it has no other bit"; "Cutting down takes .. AND that mask"; "A mask is 16 bits"; "Three 16-bit numbers"; "two 16-bit numbers" (02, CR 5)
pub masks :
    Within 5 7
    × Within 5 5
    × Within 0 5
    × Within 0 0
    × (Within 7 5 → ⊥)
    × (Within 8 7 → ⊥)
    × (Within 1 0 → ⊥)
    × (cut_to 5 7 ≡ 5)
    × (cut_to 5 6 ≡ 4)
    × (cut_to 5 10 ≡ 0)
    × (cut_to 65535 40000 ≡ 40000)
    × (all_lines ≡ 65535)
    × (cut_lines 6 s 1 ≡ 2)
    × (cut_lines 6 s 4 ≡ 6)
unfolding sample_of
masks = (refl, refl, refl, refl, λ e. omega (arith, e), λ e. omega (arith, e), λ e. omega (arith, e), refl, refl, refl, refl, refl, refl, refl)

pub words :
    Word 65535
    × (Word 65536 → ⊥)
    × Words (node 65535 65535 65535 4294967295)
    × (Words (node 65536 0 0 0) → ⊥)
    × (Words (node 0 65536 0 0) → ⊥)
    × (Words (node 0 0 65536 0) → ⊥)
    × (Words (node 0 0 0 4294967296) → ⊥)
words = (
  omega arith,
  λ h. omega (arith, h),
  record { first = omega arith; last = omega arith; toggles = omega arith; count = omega arith },
  λ w. omega (arith, w.first),
  λ w. omega (arith, w.last),
  λ w. omega (arith, w.toggles),
  λ w. omega (arith, w.count),
)
