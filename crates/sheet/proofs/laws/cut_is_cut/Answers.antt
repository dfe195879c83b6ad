use Rattle.sheet.proofs.Cuts.{segmented_cut, whole_cut}
use Rattle.sheet.proofs.laws.cut_is_cut.Goals as goal

pub returns : goal.returns
returns c = record { segmented = segmented_cut; whole = whole_cut }
