-- Memory that is lent to be read, as a function of the level.
use Rattle.std.specs.Prelude.{List, ℕ}
use Rattle.node.specs.Memory.{level_of}
use Rattle.node.specs.declared.Levels.{Levels}

abbrev pub levels_of : Levels → ℕ → List ℕ
levels_of s = level_of s.l1.now s.l2.now s.l3.now s.l4.now
