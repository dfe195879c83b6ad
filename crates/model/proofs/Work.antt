-- A task that runs only while it waits: how much it runs in a window, by its costs and the spacing of its jobs. Assumes nothing.
use Rattle.std.proofs.Common.{◌≡◌, ℕ, zero, suc, ◌+◌, ◌-◌, ◌*◌, ◌<◌, ◌≤◌, ◌⊎◌, List, [], ◌∷◌, Some, refl, subst, inl, inr, arith}
use Rattle.std.specs.List.{slice_get, AllByRecursion}
use Rattle.std.proofs.lemmas.Bool.{cases_lt}
use Rattle.model.specs.Patterns.{Pattern, final, step, costs}
use Rattle.model.specs.Runs.{Job, Done, Ends, Waits, start, JobEnds, JobsWait, Spaced}
use Rattle.model.proofs.Marks.{Counts, rising, slowly, still, reach, done_once, ends_after, ends_once, waits_after}

module _ (f : ℕ → ℕ) (c : Counts f) where
  -- the pattern waits at t, or has ended by then
  abbrev pub Active : ℕ → Pattern → ℕ → Type 0
  Active s p t = Waits f s p t ⊎ ((m : ℕ) × Ends f s p m × (m ≤ t))

  pub active_after : (p : Pattern) (s t : ℕ) → Active s p t → s ≤ t
  active_after p s t (inl v) = waits_after f c p s t v
  active_after p s t (inr (m, e, l)) = omega (arith, ends_after f c p s m e)

  -- past the end of the first cost, what is active is the rest
  pub active_rest : (k w : ℕ) (p : Pattern) (s m t : ℕ) → Done f s k m → m ≤ t → Active s (step k w p) t → Active (m + w) p t
  active_rest k w p s m t d l (inl (inl u)) = absurd (omega (arith, u.lacks, d.enough, rising f c m t l))
  active_rest k w p s m t d l (inl (inr (n, d', v))) = inl (subst (λ x. Waits f (x + w) p t) (done_once f c s k n m d' d) v)
  active_rest k w p s m t d l (inr (b, (n, d', e), g)) = inr (b, subst (λ x. Ends f (x + w) p b) (done_once f c s k n m d' d) e, g)

  pub waits_before : (p : Pattern) (s m t : ℕ) → Ends f s p m → Waits f s p t → t < m
  waits_before (final k) s m t d u =
      elim (cases_lt t m) [
        | inl l ↦ l
        | inr g ↦ absurd (omega (arith, d.enough, u.lacks, rising f c m t g))
      ]
  waits_before (step k w p) s m t (n, d, e) (inl u) =
      elim (cases_lt t n) [
        | inl l ↦ omega (arith, ends_after f c p (n + w) m e)
        | inr g ↦ absurd (omega (arith, d.enough, u.lacks, rising f c n t g))
      ]
  waits_before (step k w p) s m t (n, d, e) (inr (n', d', v)) =
      waits_before p (n + w) m t e (subst (λ x. Waits f (x + w) p t) (done_once f c s k n' n d' d) v)

  -- a pattern runs no longer than its costs
  pub worked : (p : Pattern) (s e : ℕ) → s ≤ e → ((t : ℕ) → s ≤ t → t < e → f t < f (suc t) → Active s p t)
      → ((m : ℕ) × Ends f s p m × (m ≤ e) × (f m ≤ f s + costs p)) ⊎ (f e ≤ f s + costs p)
  worked (final k) s e l only =
      elim (cases_lt (f e) (f s + k)) [
        | inl short ↦ inr (omega arith)
        | inr enough ↦ let (m, d, b) = reach f c s k e l enough in inl (m, d, b, omega (arith, d.enough))
      ]
  worked (step k w p) s e l only =
      elim (cases_lt (f e) (f s + k)) [
        | inl short ↦ inr (omega arith)
        | inr enough ↦
            let (m, d, b) = reach f c s k e l enough in
            let rest : (t : ℕ) → m ≤ t → t < e → f t < f (suc t) → Active (m + w) p t =
            λ t x y g. active_rest k w p s m t d x (only t (omega (arith, d.after)) y g) in
            elim (cases_lt e (m + w)) [
              | inl early ↦
                  inr (omega (arith, d.enough, still f c m e b (λ t x y g. omega (arith, active_after p (m + w) t (rest t x y g)))))
              | inr late ↦
                  let quiet : f (m + w) ≡ f m = still f c m (m + w) (omega arith) (λ t x y g. omega (arith, active_after p (m + w) t (rest t x (omega arith) g))) in
                  elim (worked p (m + w) e late (λ t x y g. rest t (omega arith) y g)) [
                    | inl (n, ends, before, cost) ↦ inl (n, (m, d, ends), before, omega (arith, d.enough))
                    | inr cost ↦ inr (omega (arith, d.enough))
                  ]
            ]
      ]

  pub jobs_after : (jobs : List Job) (free t : ℕ) → JobsWait f free jobs t → free ≤ t
  jobs_after [] free t w = absurd w
  jobs_after (j ∷ js) free t (inl v) = omega (arith, waits_after f c j.pattern (start free j) t v)
  jobs_after (j ∷ js) free t (inr (e, ends, w)) = omega (arith, ends_after f c j.pattern (start free j) e ends, jobs_after js e t w)

  -- what waits among the jobs is the first, or it has ended
  pub first_active : (j : Job) (js : List Job) (free t : ℕ) → JobsWait f free (j ∷ js) t → Active (start free j) j.pattern t
  first_active j js free t (inl v) = inl v
  first_active j js free t (inr (e, ends, w)) = inr (e, ends, jobs_after js e t w)

  -- past the end of the first job, what waits is the rest
  pub rest_waits : (j : Job) (js : List Job) (free m t : ℕ) → Ends f (start free j) j.pattern m → m ≤ t → JobsWait f free (j ∷ js) t → JobsWait f m js t
  rest_waits j js free m t e l (inl v) = absurd (omega (arith, waits_before j.pattern (start free j) m t e v))
  rest_waits j js free m t e l (inr (n, e', w)) = subst (λ x. JobsWait f x js t) (ends_once f c j.pattern (start free j) n m e' e) w

  -- the task does not run before the first job starts
  pub unstarted : (j : Job) (js : List Job) (free e : ℕ) → free ≤ e → e ≤ start free j
      → ((t : ℕ) → free ≤ t → t < e → f t < f (suc t) → JobsWait f free (j ∷ js) t) → f e ≡ f free
  unstarted j js free e l b only =
      still f c free e l (λ t x y g. omega (arith, active_after j.pattern (start free j) t (first_active j js free t (only t x y g))))

  module _ (T C : ℕ) where
    abbrev pub Costs : List Job → Type 0
    Costs jobs = AllByRecursion (λ j. costs j.pattern ≤ C) jobs

    -- jobs from moment x on run at most C ticks in each T from there, and at most one tick a tick
    pub later : (jobs : List Job) (free x : ℕ) → Spaced T x jobs → Costs jobs → (e : ℕ) → free ≤ e
        → ((t : ℕ) → free ≤ t → t < e → f t < f (suc t) → JobsWait f free jobs t)
        → (q z : ℕ) → e ≤ x + q * T + z → f e ≤ f free + q * C + z
    later [] free x s a e l only q z b = omega (arith, still f c free e l (λ t x y g. only t x y g))
    later (j ∷ js) free x s a e l only zero z b =
        elim (cases_lt e (start free j)) [
          | inl early ↦ omega (arith, unstarted j js free e l (omega arith) only)
          | inr late ↦
              let quiet : f (start free j) ≡ f free = unstarted j js free (start free j) (omega arith) (omega arith) (λ t x y g. only t x (omega arith) g) in
              omega (arith, slowly f c (start free j) e late)
        ]
    later (j ∷ js) free x s a e l only (suc q) z b =
        elim (cases_lt e (start free j)) [
          | inl early ↦ omega (arith, unstarted j js free e l (omega arith) only)
          | inr late ↦
              let quiet : f (start free j) ≡ f free = unstarted j js free (start free j) (omega arith) (omega arith) (λ t x y g. only t x (omega arith) g) in
              elim (worked j.pattern (start free j) e late (λ t x y g. first_active j js free t (only t (omega arith) y g))) [
                | inr cost ↦ omega (arith, a.0)
                | inl (m, ends, before, cost) ↦
                    let from : start free j ≤ m = ends_after f c j.pattern (start free j) m ends in
                    let rest : f e ≤ f m + q * C + z =
                    later js m (j.release + T) s.1 a.1 e before
                    (λ t x y g. rest_waits j js free m t ends x (only t (omega arith) y g)) q z (omega (arith, s.0)) in
                    omega (arith, a.0)
              ]
        ]

    -- a job that ends at m has run no longer than its costs
    job_cost : (j : Job) (js : List Job) (free m : ℕ) → Ends f (start free j) j.pattern m
        → ((t : ℕ) → free ≤ t → t < m → f t < f (suc t) → JobsWait f free (j ∷ js) t) → f m ≤ f free + costs j.pattern
    job_cost j js free m ends only =
        let from : start free j ≤ m = ends_after f c j.pattern (start free j) m ends in
        let quiet : f (start free j) ≡ f free = unstarted j js free (start free j) (omega arith) (omega arith) (λ t x y g. only t x (omega arith) g) in
        elim (worked j.pattern (start free j) m from (λ t x y g. first_active j js free t (only t (omega arith) y g))) [
          | inr cost ↦ omega arith
          | inl (n, ends', before, cost) ↦
              let same : n ≡ m = ends_once f c j.pattern (start free j) n m ends' ends in
              let moved : f m ≤ f (start free j) + costs j.pattern = subst (λ y. f y ≤ f (start free j) + costs j.pattern) same cost in
              omega arith
        ]

    module _ (D H : ℕ) (short : D ≤ T) where
      abbrev pub Finished : ℕ → List Job → Type 0
      Finished free jobs =
          (n : ℕ) (j : Job) → slice_get jobs n ≡ Some j → j.release + D ≤ H → (m : ℕ) × JobEnds f free jobs n m × (m ≤ j.release + D)

      pub finished_rest : (j : Job) (js : List Job) (free m : ℕ) → Ends f (start free j) j.pattern m → Finished free (j ∷ js) → Finished m js
      finished_rest j js free m ends fin n i at lasts =
          let (e, (m', ends', rest), before) = fin (suc n) i at lasts in
          (e, subst (λ x. JobEnds f x js n e) (ends_once f c j.pattern (start free j) m' m ends' ends) rest, before)

      -- a window in which no job is late
      pub window : (jobs : List Job) (free x : ℕ) → Spaced T x jobs → Costs jobs → Finished free jobs
          → ((t : ℕ) → free ≤ t → f t < f (suc t) → JobsWait f free jobs t)
          → (a e : ℕ) → free ≤ a → a ≤ e → e ≤ H → (q : ℕ) → e + D ≤ a + suc q * T + C → f e ≤ f a + suc q * C
      window [] free x s k fin only a e fa ae eH q b = omega (arith, still f c a e ae (λ t x y g. only t (omega arith) g))
      window (j ∷ js) free x s k fin only a e fa ae eH q b =
          elim (cases_lt (j.release + T) e) [
            | inr near ↦
                let one = later (j ∷ js) free j.release (omega arith, s.1) k e (omega arith) (λ t x y g. only t x g) 1 0 (omega arith) in
                omega (arith, rising f c free a fa)
            | inl far ↦
                let (m, ends, before) = fin 0 j refl (omega arith) in
                let from : start free j ≤ m = ends_after f c j.pattern (start free j) m ends in
                elim (cases_lt a m) [
                  | inr past ↦
                      window js m (j.release + T) s.1 k.1 (finished_rest j js free m ends fin)
                      (λ t x g. rest_waits j js free m t ends x (only t (omega arith) g)) a e past ae eH q b
                  | inl pending ↦
                      let own : f m ≤ f free + costs j.pattern = job_cost j js free m ends (λ t x y g. only t x g) in
                      let others : (z : ℕ) → e ≤ j.release + T + q * T + z → f e ≤ f m + q * C + z =
                      λ z. later js m (j.release + T) s.1 k.1 e (omega arith) (λ t x y g. rest_waits j js free m t ends x (only t (omega arith) g)) q z in
                      elim (cases_lt (j.release + D) (a + C)) [
                        | inr wide ↦ omega (arith, others 0 (omega arith), k.0, rising f c free a fa)
                        | inl narrow ↦ omega (arith, others ((a + C) - (j.release + D)) (omega arith), slowly f c a m (omega arith))
                      ]
                ]
          ]
