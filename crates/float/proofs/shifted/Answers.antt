-- By what the bits hold.
use Rattle.float.proofs.Patterns.{read}
use Rattle.float.proofs.shifted.Goals as goal

pub float_to_bits-bits : goal.float_to_bits-bits
float_to_bits-bits c = (read c.args.x c.requires).number

pub overflow_sub-result : goal.overflow_sub-result
overflow_sub-result c = (read c.args.x c.requires).exponent_le

pub overflow_shr-result : goal.overflow_shr-result
overflow_shr-result c = (read c.args.x c.requires).shift_small

pub returns : goal.returns
returns c = (read c.args.x c.requires).floor_is
