-- Worked examples. Assumes nothing.
use Rattle.std.specs.Prelude.{◌≡◌, ℕ, ◌/◌, ◌%◌, List, [], ◌∷◌, ◌++◌, replicate, Some, None, codes}
use Rattle.model.specs.SegmentedRows.{segmented_shape, segmented_kind}
use Rattle.model.specs.WholeRows.{whole_kind}
use Rattle.model.specs.declared.segmented.Segmented.{Segmented}
use Rattle.model.specs.declared.whole.Whole.{Whole}
use Rattle.curves.specs.SegmentCurve.{segment_peak}
use Rattle.planning.specs.Planned.{Planning, test_c, test_a, test_j, test_b}

-- ---- sheets

-- a number of four bytes, high byte first, and an id of two
abbrev pub four : ℕ → List ℕ
four n = n / 16777216 ∷ n / 65536 % 256 ∷ n / 256 % 256 ∷ n % 256 ∷ []

abbrev pub two : ℕ → List ℕ
two n = n / 256 ∷ n % 256 ∷ []

-- a task of one segment, and one of two segments with a suspension of fixed length between them, D = T
abbrev pub one_segment : ℕ → ℕ → ℕ → List ℕ
one_segment id T c = (0x49 ∷ (two id ++ four T)) ++ ((0x43 ∷ four c) ++ 0x45 ∷ [])

abbrev pub two_segments : ℕ → ℕ → ℕ → ℕ → ℕ → List ℕ
two_segments id T c w d = (0x49 ∷ (two id ++ four T)) ++ ((0x43 ∷ four c) ++ ((0x46 ∷ four w) ++ ((0x43 ∷ four d) ++ 0x45 ∷ [])))

-- the same with a deadline
abbrev pub two_segments_by : ℕ → ℕ → ℕ → ℕ → ℕ → ℕ → List ℕ
two_segments_by id T D c w d = (0x4E ∷ (two id ++ (four T ++ four D))) ++ ((0x43 ∷ four c) ++ ((0x46 ∷ four w) ++ ((0x43 ∷ four d) ++ 0x45 ∷ [])))

-- a whole task with D = T
abbrev pub whole_task : ℕ → ℕ → ℕ → ℕ → List ℕ
whole_task id T C S = 0x56 ∷ (two id ++ (four T ++ (four T ++ (four C ++ four S))))

-- sheets of segmented rows under a letter
abbrev pub segmented_sheet : ℕ → List ℕ → List ℕ
segmented_sheet letter tasks = 0x47 ∷ letter ∷ (tasks ++ 0x51 ∷ [])

-- tasks 7 and 9, where the first has this period
abbrev pub pair : ℕ → List ℕ
pair T = segmented_sheet 0x42 (two_segments 7 T 1 6 1 ++ two_segments 9 40 12 4 2)

-- two tasks of 6 ticks in 10
abbrev pub twins : ℕ → List ℕ
twins letter = segmented_sheet letter (one_segment 1 10 6 ++ one_segment 2 10 6)

abbrev pub three_whole : List ℕ
three_whole = 0x57 ∷ 0x4A ∷ ((whole_task 1 10 4 5 ++ (whole_task 2 19 6 1 ++ whole_task 3 35 4 0)) ++ 0x51 ∷ [])

-- segments 1 and 1, 6 ticks apart, in a period of 8, by this deadline
abbrev pub exact_fit : ℕ → List ℕ
exact_fit D = segmented_sheet 0x43 (two_segments_by 1 8 D 1 6 1)

-- a line of a report
abbrev pub line : List ℕ → List ℕ
line text = text ++ 0x0A ∷ []

-- ---- rows

abbrev pub row : ℕ → ℕ → ℕ → ℕ → List ℕ → List ℕ → Segmented
row id T D count costs suspensions = record { id = id; period = T; deadline = D; count = count; costs = costs; least = suspensions; most = suspensions }

-- task 7 of the pair
abbrev pub seven : Segmented
seven = row 7 8 8 2 (1 ∷ 1 ∷ replicate 6 0) (6 ∷ replicate 6 0)

-- one segment of 1 tick in 10
abbrev pub short_task : Segmented
short_task = row 1 10 10 1 (1 ∷ replicate 7 0) (replicate 7 0)

-- segments 1 and 1 with a wait of 50 ticks between them, in 100, by this deadline
abbrev pub long_wait : ℕ → Segmented
long_wait D = row 2 100 D 2 (1 ∷ 1 ∷ replicate 6 0) (50 ∷ replicate 6 0)

abbrev pub whole_row : ℕ → ℕ → ℕ → Whole
whole_row T C S = record { id = 0; period = T; deadline = T; compute = C; suspend = S }

pub record Worked : Type 0 where
  -- the pair, and with a first period of 7 its first row is not lawful
  pub pair_planned : Planning (pair 8) (line (codes "ORDER 2 3") ++ (line (codes "1 7 8 8") ++ line (codes "2 9 24 40")))
  pub pair_refused : Planning (pair 7) (line (codes "REFUSED 6 P 0 S 24"))
  -- the segment curve of task 7
  pub curve_0 : segment_peak segmented_shape seven 0 ≡ (0, 0)
  pub curve_2 : segment_peak segmented_shape seven 2 ≡ (2, 1)
  pub curve_10 : segment_peak segmented_shape seven 10 ≡ (4, 1)
  -- the long wait under the short task, by each test
  pub wait_c : test_c.answer (long_wait 100) (short_task ∷ []) ≡ Some 60
  pub wait_a : test_a.answer (long_wait 100) (short_task ∷ []) ≡ Some 58
  pub wait_j : (test_j segmented_kind).answer (long_wait 100) (short_task ∷ []) ≡ Some 59
  pub wait_b : test_b.answer (long_wait 100) (short_task ∷ []) ≡ Some 58
  -- and with a deadline of 59
  pub tight_c : test_c.answer (long_wait 59) (short_task ∷ []) ≡ None
  pub tight_a : test_a.answer (long_wait 59) (short_task ∷ []) ≡ Some 58
  pub tight_j : (test_j segmented_kind).answer (long_wait 59) (short_task ∷ []) ≡ Some 59
  pub tight_b : test_b.answer (long_wait 59) (short_task ∷ []) ≡ Some 58
  -- the twins are refused under every letter, with two tasks left
  pub twins_c : Planning (twins 0x43) (line (codes "REFUSED 10 A 2"))
  pub twins_a : Planning (twins 0x41) (line (codes "REFUSED 10 A 2"))
  pub twins_j : Planning (twins 0x4A) (line (codes "REFUSED 10 A 2"))
  pub twins_b : Planning (twins 0x42) (line (codes "REFUSED 10 A 2"))
  -- no tasks
  pub none_planned : Planning (segmented_sheet 0x43 []) (line (codes "ORDER 0 0"))
  -- the three whole rows: the second has a bound under the first, and no order is found
  pub second_whole : (test_j whole_kind).answer (whole_row 19 6 1) (whole_row 10 4 5 ∷ []) ≡ Some 19
  pub whole_refused : Planning three_whole (line (codes "REFUSED 10 A 3"))
  -- C + S = D is lawful, and a deadline one less is not
  pub fit_planned : Planning (exact_fit 8) (line (codes "ORDER 1 1") ++ line (codes "1 1 8 8"))
  pub fit_refused : Planning (exact_fit 7) (line (codes "REFUSED 6 P 0 S 28"))
