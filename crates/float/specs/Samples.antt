-- The samples kept before the trigger, as document 01's rule has them. 01: Selection and recorder.
use Rattle.rules.specs.Pretrigger.{Pre}
use Rattle.float.specs.declared.Kept as K

abbrev pub kept_as : K.Kept → Pre
kept_as k = record { samples = k.samples; was_cut = k.cut }
