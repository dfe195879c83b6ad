use Rattle.sheet.proofs.Written.{segmented_written, whole_written}
use Rattle.sheet.proofs.laws.good_is_written.Goals as goal

pub returns : goal.returns
returns c = record { segmented = segmented_written; whole = whole_written }
