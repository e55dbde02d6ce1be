-- What writing, reading and the two questions about files refuse and answer. 02: CR 7.
use Rattle.std.specs.Prelude.{Bool, not, ◌||◌, List, [], ◌∷◌, ◌++◌, ℕ, ltb, eqb, length, drop, take}
use Rattle.rules.specs.Answer.{Answer, unless, unrefused}
use Rattle.rules.specs.Refusal.{Store, Lent, Row, most_samples, first_of, store_wrong, lent_short, store_rows}
use Rattle.rules.specs.Shelf.{Heading, heading_of, filed_of, file_of, file_len, heading_in, head_test, file_test}

-- ---- how long a capture's file is
abbrev pub length_refusal : Store → ℕ
length_refusal st = first_of (record { number = 1; holds = store_wrong st } ∷ [])

abbrev pub length_answer : Store → Answer ℕ
length_answer st = unless (length_refusal st) (file_len (heading_of st))

-- ---- what block 0 says
-- 16 where no capture's file begins with the first 512 bytes
abbrev pub says_refusal : List ℕ → ℕ
says_refusal file = first_of (record { number = 16; holds = not (head_test file) } ∷ [])

abbrev pub says_answer : List ℕ → Answer Heading
says_answer file = unless (says_refusal file) (heading_in file)

-- ---- writing
-- "Writing refuses with 15 an output too short, after 2"
abbrev pub output_row : Store → ℕ → Row
output_row st output = record { number = 15; holds = ltb output (file_len (heading_of st)) }

abbrev pub write_refusal : Store → Lent → ℕ → ℕ
write_refusal st lent output = first_of (store_rows st lent (output_row st output ∷ []))

-- "Writing gives the file's length in bytes"
abbrev pub write_answer : Store → Lent → ℕ → Answer ℕ
write_answer st lent output = unless (write_refusal st lent output) (file_len (heading_of st))

-- the output afterwards: the file, none of it where a row refuses, then what stood there
abbrev pub written_to : ℕ → List ℕ → List ℕ → List ℕ
written_to n file output = take n file ++ drop n output

abbrev pub write_output : Store → Lent → List ℕ → List ℕ → List ℕ
write_output st lent samples output =
    written_to (unrefused (write_refusal st lent (length output)) (file_len (heading_of st))) (file_of (filed_of st samples)) output

-- ---- reading
-- 1: the capacity is that of no store
abbrev pub capacity_wrong : ℕ → Bool
capacity_wrong capacity = eqb capacity 0 || ltb most_samples capacity

-- the new store: "Reading is given the new store's capacity"
abbrev pub store_in : ℕ → Heading → Store
store_in capacity h = record { unit = h.unit; capacity = capacity; len = h.len; mark = h.mark }

-- "15, in place of 2, covers memory short for it and a len above it"
abbrev pub store_short : ℕ → Lent → Heading → Bool
store_short capacity lent h = ltb capacity h.len || lent_short (store_in capacity h) lent

-- "with 16 a file that no capture has, ahead of 15"
abbrev pub read_refusal : ℕ → Lent → List ℕ → ℕ
read_refusal capacity lent file = first_of (
    record { number = 1; holds = capacity_wrong capacity }
    ∷ record { number = 16; holds = not (file_test file) }
    ∷ record { number = 15; holds = store_short capacity lent (heading_in file) }
    ∷ [])

abbrev pub read_answer : ℕ → Lent → List ℕ → Answer Store
read_answer capacity lent file = unless (read_refusal capacity lent file) (store_in capacity (heading_in file))

-- how many samples come to be stored: all of them, and none where a row refuses
abbrev pub read_count : ℕ → Lent → List ℕ → ℕ
read_count capacity lent file = unrefused (read_refusal capacity lent file) (heading_in file).len
