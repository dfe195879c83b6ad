-- The run that was worked out by hand is lawful, and one of its jobs is late. Assumes nothing.
use Rattle.std.proofs.Common.{◌≡◌, ℕ, zero, suc, ◌+◌, ◌<◌, ◌≤◌, Some, None, Option, sym, refl, subst, inl, inr, arith}
use Rattle.std.specs.List.{slice_get}
use Rattle.std.proofs.lemmas.Option.{same_Some}
use Rattle.model.specs.Patterns.{final, step}
use Rattle.model.specs.Runs.{Job, Task, ran, Done, Unmet, Waits, JobsWait, JobEnds, Level, Waiting}
use Rattle.model.specs.LawfulRuns.{LawfulTask, NoLate}
use Rattle.model.specs.WholeRows.{whole_kind}
use Rattle.model.specs.RunLaws.{Late}
use Rattle.model.specs.WorkedRun.{upper, lower, worked_run, WorkedRun}
use Rattle.model.specs.declared.whole.Whole.{Whole}
use Rattle.model.proofs.Marks.{Counts, rising, done_once}
use Rattle.model.proofs.Ticks.{counts}
use Rattle.model.proofs.LateJobs.{job_ends_once}

module _ (f : ℕ → ℕ) (c : Counts f) where
  -- a cost that is lacking at m and met one tick later
  done_after : (s k m : ℕ) → s ≤ suc m → f m < f s + k → f (suc m) ≡ f s + k → Done f s k (suc m)
  done_after s k m l lacks met = record { after = l; enough = met; first = λ n x y. omega (arith, rising f c n m (omega arith)) }

  done_at_once : (s : ℕ) → Done f s 0 s
  done_at_once s = record { after = omega arith; enough = omega arith; first = λ n x y. absurd (omega arith) }

  -- a job of two costs does not wait while it suspends itself, nor before or after
  no_wait : (s k w q n t : ℕ) → Done f s k n → (s ≤ t → f s + k ≤ f t) → (n + w ≤ t → f (n + w) + q ≤ f t) → ¬ Waits f s (step k w (final q)) t
  no_wait s k w q n t d met rest (inl u) = omega (arith, met u.after, u.lacks)
  no_wait s k w q n t d met rest (inr (m, e, v)) =
      let u : Unmet f (n + w) q t = subst (λ y. Unmet f (y + w) q t) (done_once f c s k m n e d) v in
      omega (arith, rest u.after, u.lacks)

abbrev upper_ran : ℕ → ℕ
upper_ran = ran worked_run.ticks 0

abbrev lower_ran : ℕ → ℕ
lower_ran = ran worked_run.ticks 1

upper_counts : Counts upper_ran
upper_counts = counts worked_run.ticks 0

lower_counts : Counts lower_ran
lower_counts = counts worked_run.ticks 1

upper_first : Done upper_ran 2 1 3
upper_first = done_after upper_ran upper_counts 2 1 2 (omega arith) (omega arith) refl

upper_second : Done upper_ran 5 1 6
upper_second = done_after upper_ran upper_counts 5 1 5 (omega arith) (omega arith) refl

lower_first : Done lower_ran 0 0 0
lower_first = done_at_once lower_ran lower_counts 0

lower_second : Done lower_ran 1 3 5
lower_second = done_after lower_ran lower_counts 1 3 4 (omega arith) (omega arith) refl

-- ---- who does not wait

upper_quiet : (t : ℕ) → (2 ≤ t → 1 ≤ upper_ran t) → (5 ≤ t → 2 ≤ upper_ran t) → ¬ Waiting worked_run 0 t
upper_quiet t met rest (task, at, w) =
    let mine : JobsWait upper_ran 0 upper.jobs t = subst (λ (y : Task Whole). JobsWait upper_ran 0 y.jobs t) (sym (same_Some upper task at)) w in
    elim mine [ inl v ↦ no_wait upper_ran upper_counts 2 1 2 1 3 t upper_first met rest v | inr (e, ends, none) ↦ none ]

lower_quiet : (t : ℕ) → (1 ≤ t → 3 ≤ lower_ran t) → ¬ Waiting worked_run 1 t
lower_quiet t rest (task, at, w) =
    let mine : JobsWait lower_ran 0 lower.jobs t = subst (λ (y : Task Whole). JobsWait lower_ran 0 y.jobs t) (sym (same_Some lower task at)) w in
    elim mine [ inl v ↦ no_wait lower_ran lower_counts 0 0 1 3 0 t lower_first (λ l. omega arith) rest v | inr (e, ends, none) ↦ none ]

-- ---- tick by tick

abbrev Chosen : ℕ → ℕ → Type 0
Chosen t i = Waiting worked_run i t × ((j : ℕ) → j < i → ¬ Waiting worked_run j t)

upper_runs : (t : ℕ) → Waits upper_ran 2 (step 1 2 (final 1)) t → Chosen t 0
upper_runs t w = ((upper, refl, inl w), λ j l. absurd (omega arith))

lower_runs : (t : ℕ) → 1 ≤ t → lower_ran t < 3 → ¬ Waiting worked_run 0 t → Chosen t 1
lower_runs t l lacks quiet =
    ((lower, refl, inl (inr (0, lower_first, record { after = l; lacks = lacks }))), λ j y. subst (λ k. ¬ Waiting worked_run k t) (let e : 0 ≡ j = omega arith in e) quiet)

level : (k i t : ℕ) → ◌≡◌ {A = Option (Option ℕ)} (Some (Some k)) (Some (Some i)) → Chosen t k → Chosen t i
level k i t e is = let same : k ≡ i = cc in subst (λ j. Chosen t j) same is

runs : (t i : ℕ) → slice_get worked_run.ticks t ≡ Some (Some i) → Chosen t i
runs zero i e = absurd (cc)
runs (suc zero) i e = level 1 i 1 e (lower_runs 1 (omega arith) (omega arith) (upper_quiet 1 (λ l. absurd (omega arith)) (λ l. absurd (omega arith))))
runs (suc (suc zero)) i e = level 0 i 2 e (upper_runs 2 (inl (record { after = omega arith; lacks = omega arith })))
runs (suc (suc (suc zero))) i e = level 1 i 3 e (lower_runs 3 (omega arith) (omega arith) (upper_quiet 3 (λ l. omega arith) (λ l. absurd (omega arith))))
runs (suc (suc (suc (suc zero)))) i e = level 1 i 4 e (lower_runs 4 (omega arith) (omega arith) (upper_quiet 4 (λ l. omega arith) (λ l. absurd (omega arith))))
runs (suc (suc (suc (suc (suc zero))))) i e = level 0 i 5 e (upper_runs 5 (inr (3, upper_first, record { after = omega arith; lacks = omega arith })))
runs (suc (suc (suc (suc (suc (suc zero)))))) i e = absurd (cc)
runs (suc (suc (suc (suc (suc (suc (suc t))))))) i e = absurd (cc)

-- no third level
third : (i t : ℕ) → ¬ Waiting worked_run (suc (suc i)) t
third i t (task, at, w) = cc

idles : (t : ℕ) → slice_get worked_run.ticks t ≡ Some None → (i : ℕ) → ¬ Waiting worked_run i t
idles zero e zero = upper_quiet 0 (λ l. absurd (omega arith)) (λ l. absurd (omega arith))
idles zero e (suc zero) = lower_quiet 0 (λ l. absurd (omega arith))
idles zero e (suc (suc i)) = third i 0
idles (suc zero) e i = absurd (cc)
idles (suc (suc zero)) e i = absurd (cc)
idles (suc (suc (suc zero))) e i = absurd (cc)
idles (suc (suc (suc (suc zero)))) e i = absurd (cc)
idles (suc (suc (suc (suc (suc zero))))) e i = absurd (cc)
idles (suc (suc (suc (suc (suc (suc zero)))))) e zero = upper_quiet 6 (λ l. omega arith) (λ l. omega arith)
idles (suc (suc (suc (suc (suc (suc zero)))))) e (suc zero) = lower_quiet 6 (λ l. omega arith)
idles (suc (suc (suc (suc (suc (suc zero)))))) e (suc (suc i)) = third i 6
idles (suc (suc (suc (suc (suc (suc (suc t))))))) e i = absurd (cc)

tasks : (i : ℕ) (task : Task Whole) → Level worked_run i task → LawfulTask whole_kind task
tasks zero task at = subst (λ y. LawfulTask whole_kind y) (same_Some upper task at) (record { row_lawful = refl; spaced = (omega arith, tt); allowed = (refl, tt) })
tasks (suc zero) task at = subst (λ y. LawfulTask whole_kind y) (same_Some lower task at) (record { row_lawful = refl; spaced = (omega arith, tt); allowed = (refl, tt) })
tasks (suc (suc i)) task at = absurd (cc)

-- ---- the two jobs

upper_ends : JobEnds upper_ran 0 upper.jobs 0 6
upper_ends = (3, upper_first, upper_second)

lower_ends : JobEnds lower_ran 0 lower.jobs 0 5
lower_ends = (0, lower_first, lower_second)

upper_in_time : NoLate whole_kind worked_run 0 upper
upper_in_time zero j at lasts =
    let same : record { release = 2; pattern = step 1 2 (final 1) } ≡ j = same_Some _ j at in
    (6, upper_ends, subst (λ (y : Job). 6 ≤ y.release + 4) same (omega arith))
upper_in_time (suc n) j at lasts = absurd (cc)

lower_late : Late whole_kind worked_run 1 lower 0
lower_late =
    record {
      job = record { release = 0; pattern = step 0 1 (final 3) };
      is = refl;
      lasts = omega arith;
      unfinished = λ m ends. omega (arith, job_ends_once lower_ran lower_counts lower.jobs 0 0 m 5 ends lower_ends);
    }

pub worked_out : WorkedRun
worked_out =
    record {
      lawful = record { tasks = tasks; runs = runs; idles = idles };
      upper_ends = upper_ends;
      lower_ends = lower_ends;
      upper_in_time = upper_in_time;
      lower_late = lower_late;
    }
