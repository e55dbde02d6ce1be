-- Nodes of ranges of samples, and the levels that they stand in. 01: Records, Node and Store.
-- A capture's samples are a function from places to numbers: the rules say nothing of the memory that holds them.
use Rattle.std.specs.Prelude.{Bool, cond, List, [], ◌∷◌, ℕ, zero, suc, ◌+◌, ◌-◌, ◌*◌, ◌/◌, ◌%◌, ◌^◌, ◌≤◌, min, eqb}
use Rattle.std.specs.Int.Bits.{bit_and, bit_or, bit_xor}
use Rattle.rules.specs.Sample.{mask_bits, Word, cut_to}

-- "Three 16-bit numbers: first, last, toggles." 02, CR 5: "A node gains the number of places inside it at which any line changes"
pub record Node : Type 0 where
  pub first : ℕ
  pub last : ℕ
  pub toggles : ℕ
  pub count : ℕ

-- the most that a count can be: "two 16-bit numbers" (02, CR 5)
abbrev pub most_count : ℕ
most_count = 4294967295

pub record Words (n : Node) : Type 0 where
  pub first : Word n.first
  pub last : Word n.last
  pub toggles : Word n.toggles
  pub count : n.count ≤ most_count

-- the lines that differ between place i and the one before it
abbrev pub changes : (ℕ → ℕ) → ℕ → ℕ
changes s i = bit_xor (s i) (s (i - 1))

-- the OR of the changes at i, for a < i ≤ a + n
unfoldable pub toggles_of : (ℕ → ℕ) → ℕ → ℕ → ℕ
toggles_of s a zero = 0
toggles_of s a (suc n) = bit_or (toggles_of s a n) (changes s (a + suc n))

-- how many values a word has
abbrev pub half : ℕ
half = 2 ^ mask_bits

-- a node's numbers: the count is the last two, "as two 16-bit numbers, low first, so a node is five numbers" (02, CR 5)
abbrev pub numbers_of : Node → List ℕ
numbers_of n = n.first ∷ n.last ∷ n.toggles ∷ n.count % half ∷ n.count / half ∷ []

-- 1 where two samples differ in any line, else 0
abbrev pub differs : ℕ → ℕ → ℕ
differs x y = cond (eqb x y) 0 1

-- at how many i, for a < i ≤ a + n, the sample differs from the one before it
unfoldable pub count_of : (ℕ → ℕ) → ℕ → ℕ → ℕ
count_of s a zero = 0
count_of s a (suc n) = count_of s a n + differs (s (a + suc n)) (s (a + suc n - 1))

-- "the number of changes in [a,b)" (02, CR 5): the places inside, so that one at a itself is not among them
abbrev pub changes_in : (ℕ → ℕ) → ℕ → ℕ → ℕ
changes_in s a b = count_of s a (b - 1 - a)

-- "a sum above 2^32 − 1 counts as that" (02, CR 5)
abbrev pub cap_count : ℕ → ℕ
cap_count n = min n most_count

-- "For a range [a,b), a < b: s[a], s[b−1], and the OR of s[i] XOR s[i−1] for a < i < b."
unfoldable pub node_of : (ℕ → ℕ) → ℕ → ℕ → Node
node_of s a b = record { first = s a; last = s (b - 1); toggles = toggles_of s a (b - 1 - a); count = cap_count (changes_in s a b) }

-- "two nodes join into a third: first of the left, last of the right, toggles = both toggles OR (left last XOR right first)";
-- "Joined nodes add, plus one if left last and right first differ" (02, CR 5)
abbrev pub join : Node → Node → Node
join l r = record {
  first = l.first;
  last = r.last;
  toggles = bit_or (bit_or l.toggles r.toggles) (bit_xor l.last r.first);
  count = cap_count (l.count + r.count + differs l.last r.first);
}

-- the node of one sample
abbrev pub leaf : ℕ → Node
leaf v = record { first = v; last = v; toggles = 0; count = 0 }

-- a node read from its other end
abbrev pub mirror : Node → Node
mirror n = record { first = n.last; last = n.first; toggles = n.toggles; count = n.count }

-- what a node tells of chosen lines; the count is not among it: "it tells of every line" (02, CR 5)
pub record Lines : Type 0 where
  pub first : ℕ
  pub last : ℕ
  pub toggles : ℕ

abbrev pub lines_of : Node → Lines
lines_of n = record { first = n.first; last = n.last; toggles = n.toggles }

-- "Cutting down takes first, last and toggles AND that mask" (01, Lists of pushes)
abbrev pub cut : ℕ → Node → Lines
cut v n = record { first = cut_to v n.first; last = cut_to v n.last; toggles = cut_to v n.toggles }

-- "No masked change against the value before, nor inside" (01, Search)
abbrev pub quiet : Node → ℕ → ℕ → Bool
quiet n before mask = eqb (bit_and (bit_or (bit_xor n.first before) n.toggles) mask) 0

-- ---- levels
-- "levels 1 to 4"; level 0 is the samples
abbrev pub top_level : ℕ
top_level = 4

-- how many samples a whole node of level l covers
abbrev pub span : ℕ → ℕ
span l = 32 ^ l

-- "A chunk is 1,048,576 samples, 32^4."
abbrev pub chunk : ℕ
chunk = 1048576

-- where the stored samples of chunk c end
abbrev pub chunk_end : ℕ → ℕ → ℕ
chunk_end len c = min ((c + 1) * chunk) len

-- "Level l needs ceil(capacity / 32^l) nodes."
abbrev pub nodes_for : ℕ → ℕ → ℕ
nodes_for capacity l = (capacity + (span l - 1)) / span l

-- "Node j of level l covers [j × 32^l, min((j+1) × 32^l, len))."
abbrev pub node_start : ℕ → ℕ → ℕ
node_start l j = j * span l

abbrev pub node_end : ℕ → ℕ → ℕ → ℕ
node_end len l j = min (suc j * span l) len

abbrev pub level_node : (ℕ → ℕ) → ℕ → ℕ → ℕ → Node
level_node s len l j = node_of s (node_start l j) (node_end len l j)
