use Rattle.sheet.proofs.NinthSegments.{too_many_is_ninth}
use Rattle.sheet.proofs.laws.too_many_is_ninth.Goals as goal

pub returns : goal.returns
returns c = too_many_is_ninth
