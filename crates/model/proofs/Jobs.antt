-- Jobs in a row that are not held up by levels below: each is finished one bound after its release. Assumes nothing.
use Rattle.std.proofs.Common.{◌≡◌, ℕ, zero, suc, ◌+◌, ◌<◌, ◌≤◌, List, [], ◌∷◌, Some, ap, inl, inr, arith}
use Rattle.std.specs.List.{slice_get, AllByRecursion}
use Rattle.std.proofs.lemmas.Option.{same_Some}
use Rattle.model.specs.Patterns.{Pattern, costs, suspensions}
use Rattle.model.specs.Runs.{Job, Ends, Waits, start, JobEnds, JobsWait, Spaced}
use Rattle.model.proofs.Marks.{Counts, ended}

pub spaced_from : (T : ℕ) (jobs : List Job) (x n : ℕ) (j : Job) → Spaced T x jobs → slice_get jobs n ≡ Some j → x ≤ j.release
spaced_from T [] x n j s e = absurd (cc)
spaced_from T (i ∷ js) x zero j (l, s) e = omega (arith, ap (λ (y : Job). y.release) (same_Some i j e))
spaced_from T (i ∷ js) x (suc n) j (l, s) e = omega (arith, spaced_from T js (i.release + T) n j s e)

module _ (f h : ℕ → ℕ) where
  -- each tick before H in which something waits is run by the task or by a level above
  abbrev pub Busy : ℕ → (ℕ → Type 0) → Type 0
  Busy H Waiting = (t : ℕ) → t < H → Waiting t → suc (f t + h t) ≤ f (suc t) + h (suc t)

  -- patterns that end b after they start, in a run that lasts to H
  abbrev pub EndIn : (Pattern → Type 0) → ℕ → ℕ → Type 0
  EndIn Ok H b = (p : Pattern) → Ok p → (s : ℕ) → s + b ≤ H → Busy H (Waits f s p) → (m : ℕ) × Ends f s p m × (m ≤ s + b)

  module _ (Ok : Pattern → Type 0) (H T b : ℕ) (in_period : b ≤ T) (end_in : EndIn Ok H b) where
    -- then jobs in a row end b after their releases
    pub all_in_time : (jobs : List Job) (free x : ℕ) → free ≤ x → Spaced T x jobs → AllByRecursion (λ j. Ok j.pattern) jobs → Busy H (JobsWait f free jobs)
        → (n : ℕ) (j : Job) → slice_get jobs n ≡ Some j → j.release + b ≤ H → (m : ℕ) × JobEnds f free jobs n m × (m ≤ j.release + b)
    all_in_time [] free x l s a busy n j e lasts = absurd (cc)
    all_in_time (i ∷ js) free x l s a busy zero j e lasts =
        let same = ap (λ (y : Job). y.release) (same_Some i j e) in
        let (m, ends, before) = end_in i.pattern a.0 (start free i) (omega arith) (λ t y v. busy t y (inl v)) in
        (m, ends, omega arith)
    all_in_time (i ∷ js) free x l s a busy (suc n) j e lasts =
        let later = spaced_from T js (i.release + T) n j s.1 e in
        let (m, ends, before) = end_in i.pattern a.0 (start free i) (omega arith) (λ t y v. busy t y (inl v)) in
        let (m', ends', before') = all_in_time js m (i.release + T) (omega arith) s.1 a.1 (λ t y v. busy t y (inr (m, ends, v))) n j e lasts in
        (m', (m, ends, ends'), before')

  module _ (c : Counts f) (above_up : (t : ℕ) → h t ≤ h (suc t)) (H : ℕ) where
    -- a pattern as a whole
    pub whole_in_time : (C S b : ℕ) → ((s : ℕ) → s + b ≤ H → C + S + h (s + b) ≤ b + h s) → EndIn (λ p. (costs p ≤ C) × (suspensions p ≤ S)) H b
    whole_in_time C S b enough p ok s lasts busy =
        elim (ended f c h above_up p s (s + b) (omega arith) (λ t x y v. busy t (omega arith) v)) [
          | inl r ↦ r
          | inr late ↦ absurd (omega (arith, enough s lasts))
        ]
