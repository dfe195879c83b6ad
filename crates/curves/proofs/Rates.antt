-- A curve that keeps its rules gives each task at least C / T of every window. Assumes nothing.
use Rattle.std.proofs.Common.{◌≡◌, ℕ, zero, suc, ◌+◌, ◌*◌, ◌≤◌, true, List, [], ◌∷◌, length, refl, ap, mul_comm, arith}
use Rattle.std.specs.List.{slice_get, AllByRecursion}
use Rattle.model.specs.Patterns.{Pattern, final, step, costs, suspensions}
use Rattle.model.specs.Rows.{Kind, Bounds, limit}
use Rattle.model.specs.Runs.{Job, Task, Run, ran, Ends, start, Spaced, Level}
use Rattle.model.specs.LawfulRuns.{LawfulTask, Lawful, NoLate}
use Rattle.curves.specs.Curves.{Workload, CurveRules}
use Rattle.model.proofs.Marks.{Counts, rising}
use Rattle.model.proofs.Ticks.{counts, higher, higher_up, busy}
use Rattle.model.proofs.Work.{Finished, finished_rest}
use Rattle.model.proofs.Jobs.{all_in_time, whole_in_time}
use Rattle.model.proofs.Exists.{exists}

-- ---- n jobs of one pattern, released every T ticks from x on

abbrev every : ℕ → Pattern → ℕ → ℕ → List Job
every T p x zero = []
every T p x (suc n) = record { release = x; pattern = p } ∷ every T p (x + T) n

every_spaced : (T : ℕ) (p : Pattern) (x n : ℕ) → Spaced T x (every T p x n)
every_spaced T p x zero = tt
every_spaced T p x (suc n) = (omega arith, every_spaced T p (x + T) n)

every_all : (P : Pattern → Type 0) (T : ℕ) (p : Pattern) → P p → (x n : ℕ) → AllByRecursion (λ j. P j.pattern) (every T p x n)
every_all P T p ok x zero = tt
every_all P T p ok x (suc n) = (ok, every_all P T p ok (x + T) n)

module _ (f : ℕ → ℕ) (c : Counts f) where
  -- a pattern that has ended has run all its costs
  ends_costs : (p : Pattern) (s m : ℕ) → Ends f s p m → f s + costs p ≤ f m
  ends_costs (final k) s m d = omega (arith, d.enough)
  ends_costs (step k w p) s m (n, d, e) = omega (arith, d.enough, rising f c n (n + w) (omega arith), ends_costs p (n + w) m e)

  -- so jobs that are all finished in time have run theirs by the end
  all_costs_run : (T C D H : ℕ) (short : D ≤ T) (p : Pattern) → C ≤ costs p → (n x free : ℕ) → free ≤ H → x + n * T ≤ H
      → Finished f c T C D H short free (every T p x n) → f free + n * C ≤ f H
  all_costs_run T C D H short p full zero x free l lasts fin = omega (arith, rising f c free H l)
  all_costs_run T C D H short p full (suc n) x free l lasts fin =
      let j : Job = record { release = x; pattern = p } in
      let (m, ends, before) = fin 0 j refl (omega arith) in
      let from : f free ≤ f (start free j) = rising f c free (start free j) (omega arith) in
      let rest : f m + n * C ≤ f H =
      all_costs_run T C D H short p full n (x + T) m (omega arith) (omega arith) (finished_rest f c T C D H short j (every T p (x + T) n) free m ends fin) in
      omega (arith, ends_costs p (start free j) m ends)

-- q windows of t ticks, one after another
windows : (f : ℕ → ℕ) (t B : ℕ) → ((a : ℕ) → f (a + t) ≤ f a + B) → (q : ℕ) → f (q * t) ≤ f 0 + q * B
windows f t B each zero = let e : 0 * t ≡ 0 = omega arith in omega (arith, ap f e)
windows f t B each (suc q) = let e : suc q * t ≡ q * t + t = omega arith in omega (arith, ap f e, each (q * t), windows f t B each q)

module _ {R : Type 0} (kind : Kind R) (x : R) (lawful : kind.lawful x ≡ true) where
  limits : Bounds (kind.period x) (kind.deadline x) (kind.compute x) (kind.suspend x)
  limits = kind.r1 x lawful

  -- a task on its own is never late
  alone : (run : Run R) → Lawful kind run → (jobs : List Job) → Level run 0 (record { row = x; jobs = jobs })
      → Spaced (kind.period x) 0 jobs → AllByRecursion (λ j. (costs j.pattern ≤ kind.compute x) × (suspensions j.pattern ≤ kind.suspend x)) jobs
      → NoLate kind run 0 (record { row = x; jobs = jobs })
  alone run law jobs at spaced small =
      all_in_time (ran run.ticks 0) (higher run.ticks 0) (λ p. (costs p ≤ kind.compute x) × (suspensions p ≤ kind.suspend x))
      (length run.ticks) (kind.period x) (kind.deadline x) limits.in_period
      (whole_in_time (ran run.ticks 0) (higher run.ticks 0) (counts run.ticks 0) (higher_up run.ticks 0) (length run.ticks)
      (kind.compute x) (kind.suspend x) (kind.deadline x) (λ s lasts. omega (arith, limits.room)))
      jobs 0 0 (omega arith) spaced small (busy kind run law 0 (record { row = x; jobs = jobs }) at)

-- a full job every T ticks, for T windows of t ticks: all of its t jobs run in them
pub rate : {R : Type 0} (kind : Kind R) (w : Workload R) → CurveRules kind w → (x : R) → kind.lawful x ≡ true → (t : ℕ) → t ≤ limit
    → kind.compute x * t ≤ kind.period x * w.ticks x t
rate {R} kind w rules x lawful t l =
    let (p, allowed, full) = kind.r3_compute x lawful in
    let jobs = every (kind.period x) p 0 t in
    let task : Task R = record { row = x; jobs = jobs } in
    let spaced : Spaced (kind.period x) 0 jobs = every_spaced (kind.period x) p 0 t in
    let mine : LawfulTask kind task = record { row_lawful = lawful; spaced = spaced; allowed = every_all (λ q. kind.allows x q ≡ true) (kind.period x) p allowed 0 t } in
    let (run, tasks, lasts, law) = exists kind (task ∷ []) (mine, tt) (t * kind.period x) in
    let at : Level run 0 task = ap (λ (ts : List (Task R)). slice_get ts 0) tasks in
    let small = every_all (λ q. (costs q ≤ kind.compute x) × (suspensions q ≤ kind.suspend x)) (kind.period x) p (kind.r2 x p lawful allowed) 0 t in
    let no_late : NoLate kind run 0 task = alone kind x lawful run law jobs at spaced small in
    let f = ran run.ticks 0 in
    let all_run : f 0 + t * kind.compute x ≤ f (length run.ticks) =
    all_costs_run f (counts run.ticks 0) (kind.period x) (kind.compute x) (kind.deadline x) (length run.ticks) (limits kind x lawful).in_period p
    (omega arith) t 0 0 (omega arith) (omega arith) no_late in
    let few : f (kind.period x * t) ≤ f 0 + kind.period x * w.ticks x t =
    windows f t (w.ticks x t) (λ a. omega (arith, rules.holds run law 0 task at no_late a t l)) (kind.period x) in
    let end : length run.ticks ≡ kind.period x * t = omega (arith, mul_comm t (kind.period x)) in
    omega (arith, ap f end, mul_comm t (kind.compute x))
