use Rattle.std.proofs.Common.{arith}
use Rattle.std.proofs.lemmas.Grind.{common_steps}
use Rattle.model.proofs.Places.{zero_array}
use Rattle.model.proofs.segmented.rules.SegmentedRow.blank.Goals as goal

pub returns : goal.returns
returns c = grind (arith, common_steps, zero_array)
