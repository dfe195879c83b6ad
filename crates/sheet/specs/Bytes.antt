-- The bytes of kinds and commands. Assumes nothing.
use Rattle.std.specs.Prelude.{ℕ}

-- kinds of sheets
abbrev pub segmented_byte : ℕ
segmented_byte = 0x47

abbrev pub whole_byte : ℕ
whole_byte = 0x57

-- between tasks: opens a segmented task, or does so with the deadline at the period, has a whole task, ends the sheet
abbrev pub open_byte : ℕ
open_byte = 0x4E

abbrev pub open_short_byte : ℕ
open_short_byte = 0x49

abbrev pub whole_task_byte : ℕ
whole_task_byte = 0x56

abbrev pub end_byte : ℕ
end_byte = 0x51

-- after an opening or a suspension: a segment
abbrev pub segment_byte : ℕ
segment_byte = 0x43

-- after a segment: a suspension, one with both ends equal, or the task's end
abbrev pub suspension_byte : ℕ
suspension_byte = 0x53

abbrev pub suspension_short_byte : ℕ
suspension_short_byte = 0x46

abbrev pub task_end_byte : ℕ
task_end_byte = 0x45
