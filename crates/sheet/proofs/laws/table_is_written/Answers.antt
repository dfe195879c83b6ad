use Rattle.model.specs.SegmentedRows.{segmented_kind}
use Rattle.model.specs.WholeRows.{whole_kind}
use Rattle.sheet.specs.SegmentedSheets.{segmented_grammar}
use Rattle.sheet.specs.SegmentedTasks.{SegmentedTask}
use Rattle.sheet.specs.WholeSheets.{whole_grammar}
use Rattle.sheet.specs.WholeTasks.{WholeTask}
use Rattle.sheet.specs.Writing.{segmented_code, whole_code, SegmentedFits, WholeFits}
use Rattle.sheet.proofs.Writing.{segmented_task, segmented_are, whole_task, whole_are, table_is_written}
use Rattle.sheet.proofs.Written.{segmented_written, whole_written}
use Rattle.sheet.proofs.laws.table_is_written.Goals as goal

pub returns : goal.returns
returns c =
    record {
      segmented = table_is_written segmented_grammar SegmentedTask segmented_kind SegmentedFits segmented_code segmented_written segmented_task segmented_are;
      whole = table_is_written whole_grammar WholeTask whole_kind WholeFits whole_code whole_written (λ x l f. whole_task x) whole_are;
    }
