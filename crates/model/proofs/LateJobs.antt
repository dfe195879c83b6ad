-- Whether a job has finished by a moment is decided, and no job is late exactly if each is finished in time. Assumes nothing.
use Rattle.std.proofs.Common.{◌≡◌, ℕ, zero, suc, ◌+◌, ◌<◌, ◌≤◌, ◌⊎◌, List, [], ◌∷◌, subst, inl, inr, arith}
use Rattle.model.specs.Runs.{Job, ran, start, JobEnds}
use Rattle.model.specs.LawfulRuns.{NoLate}
use Rattle.model.specs.RunLaws.{Late, LateJobs}
use Rattle.model.proofs.Marks.{Counts, ends_after, ends_once, ends_by}
use Rattle.model.proofs.Ticks.{counts}

module _ (f : ℕ → ℕ) (c : Counts f) where
  job_ends_after : (jobs : List Job) (free n m : ℕ) → JobEnds f free jobs n m → free ≤ m
  job_ends_after [] free n m e = absurd e
  job_ends_after (j ∷ js) free zero m e = omega (arith, ends_after f c j.pattern (start free j) m e)
  job_ends_after (j ∷ js) free (suc n) m (b, e, rest) = omega (arith, ends_after f c j.pattern (start free j) b e, job_ends_after js b n m rest)

  pub job_ends_once : (jobs : List Job) (free n m k : ℕ) → JobEnds f free jobs n m → JobEnds f free jobs n k → m ≡ k
  job_ends_once [] free n m k d e = absurd d
  job_ends_once (j ∷ js) free zero m k d e = ends_once f c j.pattern (start free j) m k d e
  job_ends_once (j ∷ js) free (suc n) m k (a, d, x) (b, e, y) =
      job_ends_once js b n m k (subst (λ z. JobEnds f z js n m) (ends_once f c j.pattern (start free j) a b d e) x) y

  pub job_ends_by : (jobs : List Job) (free n e : ℕ) → ((m : ℕ) × JobEnds f free jobs n m × (m ≤ e)) ⊎ ((m : ℕ) → JobEnds f free jobs n m → e < m)
  job_ends_by [] free n e = inr (λ m x. absurd x)
  job_ends_by (j ∷ js) free zero e = ends_by f c j.pattern (start free j) e
  job_ends_by (j ∷ js) free (suc n) e =
      elim (ends_by f c j.pattern (start free j) e) [
        | inr later ↦ inr (λ m x. let (b, ends, rest) = x in omega (arith, later b ends, job_ends_after js b n m rest))
        | inl (a, ends, l) ↦ elim (job_ends_by js a n e) [
          | inl (m, rest, k) ↦ inl (m, (a, ends, rest), k)
          | inr later ↦ inr (λ m x. let (b, ends', rest) = x in later m (subst (λ z. JobEnds f z js n m) (ends_once f c j.pattern (start free j) b a ends' ends) rest))
        ]
      ]

pub late_jobs : {R : Type 0} → LateJobs R
late_jobs kind run i task = (forth, back)
  where
    f : ℕ → ℕ
    f = ran run.ticks i

    forth : NoLate kind run i task → (n : ℕ) → ¬ Late kind run i task n
    forth kept n late =
        let (m, ends, l) = kept n late.job late.is late.lasts in
        omega (arith, late.unfinished m ends)

    back : ((n : ℕ) → ¬ Late kind run i task n) → NoLate kind run i task
    back none n j at lasts =
        elim (job_ends_by f (counts run.ticks i) task.jobs 0 n (j.release + kind.deadline task.row)) [
          | inl found ↦ found
          | inr later ↦ absurd (none n (record { job = j; is = at; lasts = lasts; unfinished = later }))
        ]
