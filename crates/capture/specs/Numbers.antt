-- The numbers of a capture's record where it crosses as numbers: which is which, and how each is read. A recorder's begin with them.
use Rattle.std.specs.Prelude.{List, ℕ, get_or}

abbrev pub unit_at : ℕ
unit_at = 0

abbrev pub capacity_at : ℕ
capacity_at = 1

abbrev pub len_at : ℕ
len_at = 2

abbrev pub marked_at : ℕ
marked_at = 3

abbrev pub mark_at : ℕ
mark_at = 4

abbrev pub unit_in : List ℕ → ℕ
unit_in r = get_or r unit_at 0

abbrev pub capacity_in : List ℕ → ℕ
capacity_in r = get_or r capacity_at 0

abbrev pub len_in : List ℕ → ℕ
len_in r = get_or r len_at 0

-- not 0: there is a mark
abbrev pub marked_in : List ℕ → ℕ
marked_in r = get_or r marked_at 0

abbrev pub mark_place_in : List ℕ → ℕ
mark_place_in r = get_or r mark_at 0
