-- What get, samples and Raw give of the stored samples. 01: Other calls.
use Rattle.std.specs.Prelude.{Bool, cond, ◌&&◌, List, [], ◌++◌, ℕ, ◌-◌, ◌*◌, ltb, eqb, take, drop}
use Rattle.rules.specs.Sample.{list_from}
use Rattle.rules.specs.Node.{chunk, chunk_end}
use Rattle.rules.specs.Refusal.{Store, Lent, store_refusal, get_refusal, copied, samples_refusal}
use Rattle.rules.specs.Answer.{Answer, unless, unrefused}

-- "Get(i)."
abbrev pub get_answer : Store → Lent → (ℕ → ℕ) → ℕ → Answer ℕ
get_answer st lent s i = unless (get_refusal st lent i) (s i)

-- "Samples(start, count) copies s[start..min(start+count, len))": k samples from place p on;
-- "Output past what is copied or drawn is unchanged."
unfoldable pub copied_to : (ℕ → ℕ) → ℕ → ℕ → List ℕ → List ℕ
copied_to s p k output = list_from s p k ++ drop k output

-- the count copied, none where a row refuses
abbrev pub copy_count : Store → Lent → ℕ → ℕ → ℕ → ℕ
copy_count st lent start n output = unrefused (samples_refusal st lent start n output) (copied st.len start n)

abbrev pub samples_answer : Store → Lent → ℕ → ℕ → ℕ → Answer ℕ
samples_answer st lent start n output = unless (samples_refusal st lent start n output) (copied st.len start n)

-- the bytes of the places [a, b)
unfoldable pub part_of : ℕ → List ℕ → ℕ → ℕ → List ℕ
part_of unit bytes a b = take (b * unit - a * unit) (drop (a * unit) bytes)

-- "Raw(c) returns chunk c's stored bytes as a part of the lent sample memory, empty if c is past the end or 1 or 2 below would apply."
abbrev pub raw_answer : Store → Lent → List ℕ → ℕ → List ℕ
raw_answer st lent bytes c = cond (eqb (store_refusal st lent) 0) (part_of st.unit bytes (c * chunk) (chunk_end st.len c)) []

-- where that part lies: from the chunk's first place up to its end, in bytes; where it is empty, from 0 to 0
abbrev pub raw_shown : Store → Lent → ℕ → Bool
raw_shown st lent c = eqb (store_refusal st lent) 0 && ltb (c * chunk) st.len

abbrev pub raw_from : Store → Lent → ℕ → ℕ
raw_from st lent c = cond (raw_shown st lent c) (c * chunk * st.unit) 0

abbrev pub raw_to : Store → Lent → ℕ → ℕ
raw_to st lent c = cond (raw_shown st lent c) (chunk_end st.len c * st.unit) 0
