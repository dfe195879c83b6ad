use Rattle.model.specs.Runs.{ran}
use Rattle.model.proofs.Marks.{rising, ends_once, ends_by}
use Rattle.model.proofs.Ticks.{counts, one_level, used_adds}
use Rattle.model.proofs.runs.ticks_are_counted.Goals as goal

pub returns : goal.returns
returns c =
    λ ticks.
    record {
      grows = λ i. rising (ran ticks i) (counts ticks i);
      adds = used_adds ticks;
      one_level = one_level ticks;
      ends_once = λ i. ends_once (ran ticks i) (counts ticks i);
      ends_by = λ i. ends_by (ran ticks i) (counts ticks i);
    }
