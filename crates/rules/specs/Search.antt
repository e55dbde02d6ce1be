-- Next, previous and summary, from samples alone. 01: Search.
use Rattle.std.specs.Prelude.{Bool, cond, not, ℕ, zero, suc, ◌+◌, ◌-◌, min, ltb, eqb}
use Rattle.std.specs.Prelude.{Option, None, Some}
use Rattle.std.specs.Int.Bits.{bit_and}
use Rattle.rules.specs.Node.{Node, Lines, changes, changes_in, node_of, cut}

-- "(s[i] XOR s[i−1]) AND mask nonzero"
abbrev pub changed : (ℕ → ℕ) → ℕ → ℕ → Bool
changed s mask i = not (eqb (bit_and (changes s i) mask) 0)

-- the first of n places at which the test holds: p, then step p, and so on
unfoldable pub seek : (ℕ → ℕ) → (ℕ → Bool) → ℕ → ℕ → Option ℕ
seek step test p zero = None
seek step test p (suc n) = cond (test p) (Some p) (seek step test (step p) n)

abbrev pub higher : ℕ → ℕ
higher p = p + 1

abbrev pub lower : ℕ → ℕ
lower p = p - 1

-- the first place after from, and below len, at which a test holds
abbrev pub next_at : (ℕ → Bool) → ℕ → ℕ → Option ℕ
next_at test len from = seek higher test (from + 1) (len - (from + 1))

-- "Next(mask, from): smallest i with from < i < len and .. nonzero"
abbrev pub next : (ℕ → ℕ) → ℕ → ℕ → ℕ → Option ℕ
next s len mask from = next_at (changed s mask) len from

-- "min(from, len−1)": where a search backward starts
abbrev pub start_back : ℕ → ℕ → ℕ
start_back len from = min from (len - 1)

-- the last one up to from, from 1 on and below len
abbrev pub previous_at : (ℕ → Bool) → ℕ → ℕ → Option ℕ
previous_at test len from = seek lower test (start_back len from) (start_back len from)

-- "Previous: largest such i with 1 ≤ i ≤ from", and i < len
abbrev pub previous : (ℕ → ℕ) → ℕ → ℕ → ℕ → Option ℕ
previous s len mask from = previous_at (changed s mask) len from

-- "Summary(a,b) is the node of [a, min(b,len)), or none if empty."
abbrev pub summary : (ℕ → ℕ) → ℕ → ℕ → ℕ → Option Node
summary s len a b = cond (ltb a (min b len)) (Some (node_of s a (min b len))) None

-- "Cutting down takes first, last and toggles AND that mask; none stays none." (01, Lists of pushes)
abbrev pub cut_summary : ℕ → Option Node → Option Lines
cut_summary v None = None
cut_summary v (Some n) = Some (cut v n)

-- the count of a summary, which is 0 where there is none
abbrev pub count_in : Option Node → ℕ
count_in None = 0
count_in (Some n) = n.count

-- "the number of changes in [a,b), cut at len as in summary, 0 if that is empty" (02, CR 5)
abbrev pub density : (ℕ → ℕ) → ℕ → ℕ → ℕ → ℕ
density s len a b = changes_in s a (min b len)
