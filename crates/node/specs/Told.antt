-- What is asked of a node: its lines, and its count where it is asked for.
use Rattle.std.specs.Prelude.{◌≡◌, Bool, true}
use Rattle.rules.specs.Node.{Node, lines_of}

pub record Told (counted : Bool) (n m : Node) : Type 0 where
  pub lines : lines_of n ≡ lines_of m
  pub count : counted ≡ true → n.count ≡ m.count
