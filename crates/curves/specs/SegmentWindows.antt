-- What a task with such segments runs in a window, whatever gaps are laid between its jobs, if they are no longer than runs allow. Assumes nothing.
use Rattle.std.specs.Prelude.{◌≡◌, ℕ, zero, suc, ◌+◌, ◌-◌, ◌<◌, ◌≤◌, min, true, false, ◌&&◌, List, [], ◌∷◌, nat_le, refl}
use Rattle.std.proofs.Common.{inl, inr, arith}
use Rattle.std.specs.List.{AllByRecursion}
use Rattle.std.proofs.lemmas.Bool.{cases_lt, leb-true, and_parts}
use Rattle.model.specs.Patterns.{Pattern, final, step}
use Rattle.model.specs.Runs.{Job, Done, Ends, Unmet, start, JobsWait, Spaced}
use Rattle.model.specs.Segments.{Segments, last, more, all_ticks, least_gaps, keeps_ranges}
use Rattle.model.proofs.Marks.{Counts, rising, slowly, still, reach, ends_after, ends_once, ends_by}
use Rattle.model.proofs.Work.{Active, active_after, active_rest, first_active, rest_waits, unstarted, Finished, finished_rest}
use Rattle.curves.specs.Sequences.{worked, jobs_from, Lipschitz, lipschitz_constant, lipschitz_worked, lipschitz_jobs, worked_grows, worked_apart, top, top_here}

-- ---- a pattern of such segments

abbrev pub Fits : Segments → Pattern → Type 0
Fits (last c) (final k) = k ≤ c
Fits (last c) (step k w p) = ⊥
Fits (more c lo hi s) (final k) = ⊥
Fits (more c lo hi s) (step k w p) = (k ≤ c) × (lo ≤ w) × (w ≤ hi) × Fits s p

false_true : {X : Type 0} → false ≡ true → X
false_true e = absurd (cc)

pub kept_fits : (s : Segments) (p : Pattern) → keeps_ranges s p ≡ true → Fits s p
kept_fits (last c) (final k) e = leb-true k c e
kept_fits (last c) (step k w p) e = false_true e
kept_fits (more c lo hi s) (final k) e = false_true e
kept_fits (more c lo hi s) (step k w p) e =
    let (a, e₁) = and_parts (nat_le k c) (nat_le lo w && (nat_le w hi && keeps_ranges s p)) e in
    let (b, e₂) = and_parts (nat_le lo w) (nat_le w hi && keeps_ranges s p) e₁ in
    let (d, e₃) = and_parts (nat_le w hi) (keeps_ranges s p) e₂ in
    (leb-true k c a, leb-true lo w b, leb-true w hi d, kept_fits s p e₃)

pub all_fit : (s : Segments) (jobs : List Job) → AllByRecursion (λ j. keeps_ranges s j.pattern ≡ true) jobs → AllByRecursion (λ j. Fits s j.pattern) jobs
all_fit s [] a = tt
all_fit s (j ∷ js) (a, rest) = (kept_fits s j.pattern a, all_fit s js rest)

module _ (f : ℕ → ℕ) (c : Counts f) where
  -- the task runs in [s, e) only while the pattern is active
  abbrev pub Only : ℕ → Pattern → ℕ → Type 0
  Only s p e = (t : ℕ) → s ≤ t → t < e → f t < f (suc t) → Active f c s p t

  -- once the pattern has ended at m, what the task runs up to e is K of the time after m + g
  abbrev pub Then : ℕ → (ℕ → ℕ) → ℕ → Pattern → ℕ → Type 0
  Then g K s p e = (m : ℕ) → Ends f s p m → m ≤ e → f e ≤ f m + K (e - (m + g))

  pub in_window : (s : Segments) (p : Pattern) → Fits s p → (g : ℕ) (K : ℕ → ℕ) → Lipschitz K → (b e : ℕ) → b ≤ e
      → Only b p e → Then g K b p e → f e ≤ f b + worked s g K (e - b)
  in_window (last q) (final k) fit g K lipschitz b e l only after =
      elim (cases_lt (f e) (f b + k)) [
        | inl short ↦ omega (arith, slowly f c b e l)
        | inr enough ↦
            let (m, d, before) = reach f c b k e l enough in
            omega (arith, d.enough, d.after, slowly f c b m d.after, after m d before, lipschitz.by (e - (m + g)) ((e - b) - (q + g)) (min q (e - b) - k) (omega (arith, d.enough, d.after, slowly f c b m d.after)))
      ]
  in_window (last q) (step k w p) fit g K lipschitz b e l only after = absurd fit
  in_window (more q lo hi s) (final k) fit g K lipschitz b e l only after = absurd fit
  in_window (more q lo hi s) (step k w p) fit g K lipschitz b e l only after =
      elim (cases_lt (f e) (f b + k)) [
        | inl short ↦ omega (arith, slowly f c b e l)
        | inr enough ↦
            let (m, d, before) = reach f c b k e l enough in
            let long : k ≤ m - b = omega (arith, d.enough, d.after, slowly f c b m d.after) in
            let later : (t : ℕ) → m ≤ t → t < e → f t < f (suc t) → Active f c (m + w) p t =
            λ t x y z. active_rest f c k w p b m t d x (only t (omega (arith, d.after)) y z) in
            elim (cases_lt e (m + w)) [
              | inl early ↦
                  omega (arith, d.enough, d.after, still f c m e before (λ t x y z. omega (arith, active_after f c p (m + w) t (later t x y z))))
              | inr late ↦
                  let quiet : f (m + w) ≡ f m = still f c m (m + w) (omega arith) (λ t x y z. omega (arith, active_after f c p (m + w) t (later t x (omega arith) z))) in
                  let go_on : f e ≤ f (m + w) + worked s g K (e - (m + w)) =
                  in_window s p fit.3 g K lipschitz (m + w) e late (λ t x y z. later t (omega arith) y z) (λ n ends x. after n (m, d, ends) x) in
                  let given : worked s g K (e - (m + w)) ≤ worked s g K ((e - b) - (q + lo)) + (min q (e - b) - k) =
                  (lipschitz_worked s g K lipschitz).by _ _ _ (omega (arith, d.after)) in
                  omega (arith, d.enough, d.after)
            ]
      ]

  -- ---- a window that begins inside a pattern

  -- a cost k that is unfinished at a, taken from there
  abbrev left : ℕ → ℕ → ℕ → ℕ
  left b k a = (f b + k) - f a

  done_from : (b k a m : ℕ) → b ≤ a → f a < f b + k → Done f b k m → Done f a (left b k a) m
  done_from b k a m l open_yet d =
      let later : a ≤ m = elim (cases_lt m a) [ inr x ↦ x | inl x ↦ absurd (omega (arith, d.first, d.enough, rising f c m a (omega arith))) ] in
      record { after = later; enough = omega (arith, d.enough); first = λ n x y. omega (arith, d.first n (omega arith) y) }

  done_back : (b k a m : ℕ) → b ≤ a → f a < f b + k → Done f a (left b k a) m → Done f b k m
  done_back b k a m l open_yet d =
      record {
        after = omega (arith, d.after);
        enough = omega (arith, d.enough);
        first = λ n x y. elim (cases_lt n a) [ inl z ↦ omega (arith, rising f c n a (omega arith)) | inr z ↦ omega (arith, d.first n z y) ];
      }

  unmet_from : (b k a t : ℕ) → a ≤ t → f a < f b + k → Unmet f b k t → Unmet f a (left b k a) t
  unmet_from b k a t l open_yet u = record { after = l; lacks = omega (arith, u.lacks) }

  pub carry : (s : Segments) (p : Pattern) → Fits s p → (g : ℕ) (K : ℕ → ℕ) → Lipschitz K → (b a e : ℕ) → b ≤ a → a ≤ e
      → Only b p e → ((m : ℕ) → Ends f b p m → a < m) → Then g K b p e → f e ≤ f a + top s (λ tail. worked tail g K (e - a))
  carry (last q) (final k) fit g K lipschitz b a e l h only open_yet after =
      elim (cases_lt (f a) (f b + k)) [
        | inr enough ↦ let (m, d, before) = reach f c b k a l enough in absurd (omega (arith, open_yet m d))
        | inl short ↦
            in_window (last q) (final (left b k a)) (omega (arith, rising f c b a l)) g K lipschitz a e h
            (λ t x y z. elim (only t (omega arith) y z) [
              | inl u ↦ inl (unmet_from b k a t x short u)
              | inr (m, d, v) ↦ inr (m, done_from b k a m l short d, v)
            ])
            (λ m d v. after m (done_back b k a m l short d) v)
      ]
  carry (last q) (step k w p) fit g K lipschitz b a e l h only open_yet after = absurd fit
  carry (more q lo hi s) (final k) fit g K lipschitz b a e l h only open_yet after = absurd fit
  carry (more q lo hi s) (step k w p) fit g K lipschitz b a e l h only open_yet after =
      elim (cases_lt (f a) (f b + k)) [
        | inl short ↦
            let here = in_window (more q lo hi s) (step (left b k a) w p) (omega (arith, rising f c b a l, fit.0), fit.1, fit.2, fit.3) g K lipschitz a e h
            (λ t x y z. elim (only t (omega arith) y z) [
              | inl (inl u) ↦ inl (inl (unmet_from b k a t x short u))
              | inl (inr (n, d, v)) ↦ inl (inr (n, done_from b k a n l short d, v))
              | inr (m, (n, d, ends), v) ↦ inr (m, (n, done_from b k a n l short d, ends), v)
            ])
            (λ m x v. let (n, d, ends) = x in after m (n, done_back b k a n l short d, ends) v) in
            omega (arith, top_here (more q lo hi s) (λ tail. worked tail g K (e - a)))
        | inr enough ↦
            let (m, d, before) = reach f c b k a l enough in
            let later : (t : ℕ) → m ≤ t → t < e → f t < f (suc t) → Active f c (m + w) p t =
            λ t x y z. active_rest f c k w p b m t d x (only t (omega (arith, d.after)) y z) in
            elim (cases_lt a (m + w)) [
              | inr resumed ↦
                  let inner = carry s p fit.3 g K lipschitz (m + w) a e resumed h (λ t x y z. later t (omega arith) y z)
                  (λ n ends. open_yet n (m, d, ends)) (λ n ends v. after n (m, d, ends) v) in
                  omega arith
              | inl suspended ↦ elim (cases_lt e (m + w)) [
                | inl early ↦ omega (arith, still f c a e h (λ t x y z. omega (arith, active_after f c p (m + w) t (later t (omega arith) y z))))
                | inr late ↦
                    let quiet : f (m + w) ≡ f a = still f c a (m + w) (omega arith) (λ t x y z. omega (arith, active_after f c p (m + w) t (later t (omega arith) (omega arith) z))) in
                    let inner = in_window s p fit.3 g K lipschitz (m + w) e late (λ t x y z. later t (omega arith) y z) (λ n ends v. after n (m, d, ends) v) in
                    let wider = (lipschitz_worked s g K lipschitz).by (e - (m + w)) (e - a) 0 (omega arith) in
                    omega (arith, top_here s (λ tail. worked tail g K (e - a)))
              ]
            ]
      ]

  -- ---- jobs of such patterns

  module _ (s : Segments) (T : ℕ) (gap : ℕ → ℕ) (some : 1 ≤ T) (room : all_ticks s + least_gaps s ≤ T)
      (short_gaps : (q : ℕ) → gap q ≤ T - (all_ticks s + least_gaps s)) where
    abbrev pub AllFit : List Job → Type 0
    AllFit jobs = AllByRecursion (λ j. Fits s j.pattern) jobs

    -- jobs from moment x on run no more than whole jobs one after another from there
    pub later_jobs : (jobs : List Job) (free x : ℕ) → Spaced T x jobs → AllFit jobs → (e : ℕ) → free ≤ e
        → ((t : ℕ) → free ≤ t → t < e → f t < f (suc t) → JobsWait f free jobs t)
        → (q n : ℕ) → e ≤ x + n → f e ≤ f free + jobs_from s gap q n (e - x)
    later_jobs [] free x sp fit e l only q n b = omega (arith, still f c free e l (λ t x y g. only t x y g))
    later_jobs (j ∷ js) free x sp fit e l only q zero b =
        elim (cases_lt e (start free j)) [
          | inl early ↦ omega (arith, unstarted f c j js free e l (omega arith) only)
          | inr late ↦
              let quiet : f (start free j) ≡ f free = unstarted f c j js free (start free j) (omega arith) (omega arith) (λ t x y g. only t x (omega arith) g) in
              omega (arith, rising f c e (start free j) (omega (arith, sp.0)))
        ]
    later_jobs (j ∷ js) free x sp fit e l only q (suc n) b =
        elim (cases_lt e (start free j)) [
          | inl early ↦ omega (arith, unstarted f c j js free e l (omega arith) only)
          | inr late ↦
              let quiet : f (start free j) ≡ f free = unstarted f c j js free (start free j) (omega arith) (omega arith) (λ t x y g. only t x (omega arith) g) in
              let whole = T - (all_ticks s + least_gaps s) in
              let K = jobs_from s gap (suc q) n in
              let rest = K ((e - x) - ((all_ticks s + least_gaps s) + whole)) in
              let after : Then whole (λ u. rest) (start free j) j.pattern e =
              λ m ends before.
              let from : start free j ≤ m = ends_after f c j.pattern (start free j) m ends in
              let others = later_jobs js m (j.release + T) sp.1 fit.1 e before (λ t x y g. rest_waits f c j js free m t ends x (only t (omega arith) y g)) (suc q) n (omega (arith, sp.0)) in
              let earlier : K (e - (j.release + T)) ≤ rest + 0 = (lipschitz_jobs s gap (suc q) n).by _ _ 0 (omega (arith, sp.0)) in
              omega arith in
              let first = in_window s j.pattern fit.0 whole (λ u. rest) (lipschitz_constant rest) (start free j) e late
              (λ t x y g. first_active f c j js free t (only t (omega arith) y g)) after in
              let wider = (lipschitz_worked s whole (λ u. rest) (lipschitz_constant rest)).by (e - start free j) (e - x) 0 (omega (arith, sp.0)) in
              let shorter = worked_grows s whole (gap q) K K (lipschitz_jobs s gap (suc q) n) (short_gaps q) (λ u. omega arith) (e - x) in
              omega (arith, worked_apart s whole rest K (e - x) refl)
        ]

    module _ (D H : ℕ) (short : D ≤ T) (first_gap : gap 0 ≤ T - D) where
      -- a window in which no job is late
      pub segment_window : (jobs : List Job) (free x : ℕ) → Spaced T x jobs → AllFit jobs → Finished f c T 0 D H short free jobs
          → ((t : ℕ) → free ≤ t → f t < f (suc t) → JobsWait f free jobs t)
          → (a e : ℕ) → free ≤ a → a ≤ e → e ≤ H → (n : ℕ) → e ≤ a + n → f e ≤ f a + top s (λ tail. worked tail (gap 0) (jobs_from s gap 1 n) (e - a))
      segment_window [] free x sp fit fin only a e fa ae eH n b = omega (arith, still f c a e ae (λ t x y g. only t (omega arith) g))
      segment_window (j ∷ js) free x sp fit fin only a e fa ae eH n b =
          elim (ends_by f c j.pattern (start free j) a) [
            | inl (m, ends, past) ↦
                segment_window js m (j.release + T) sp.1 fit.1 (finished_rest f c T 0 D H short j js free m ends fin)
                (λ t x g. rest_waits f c j js free m t ends x (only t (omega (arith, ends_after f c j.pattern (start free j) m ends)) g)) a e past ae eH n b
            | inr pending ↦
                let K = jobs_from s gap 1 n in
                let lipschitz : Lipschitz K = lipschitz_jobs s gap 1 n in
                let in_time : (m : ℕ) → Ends f (start free j) j.pattern m → m ≤ e → m ≤ j.release + D =
                λ m ends before. elim (cases_lt H (j.release + D)) [
                  | inl over ↦ omega arith
                  | inr lasts ↦ let (m', ends', l) = fin 0 j refl lasts in omega (arith, ends_once f c j.pattern (start free j) m m' ends ends')
                ] in
                let after : Then (gap 0) K (start free j) j.pattern e =
                λ m ends before.
                let from : start free j ≤ m = ends_after f c j.pattern (start free j) m ends in
                let soon : m ≤ j.release + D = in_time m ends before in
                let others = later_jobs js m (j.release + T) sp.1 fit.1 e before (λ t x y g. rest_waits f c j js free m t ends x (only t (omega arith) g)) 1 n (omega (arith, pending m ends)) in
                let earlier : K (e - (j.release + T)) ≤ K (e - (m + gap 0)) + 0 = lipschitz.by _ _ 0 (omega arith) in
                omega arith in
                elim (cases_lt a (start free j)) [
                  | inr started ↦
                      carry s j.pattern fit.0 (gap 0) K lipschitz (start free j) a e started ae
                      (λ t x y g. first_active f c j js free t (only t (omega arith) g)) pending after
                  | inl waiting ↦ elim (cases_lt e (start free j)) [
                    | inl early ↦ omega (arith, rising f c free a fa, unstarted f c j js free e (omega arith) (omega arith) (λ t x y g. only t x g))
                    | inr late ↦
                        let quiet : f (start free j) ≡ f free = unstarted f c j js free (start free j) (omega arith) (omega arith) (λ t x y g. only t x g) in
                        let first = in_window s j.pattern fit.0 (gap 0) K lipschitz (start free j) e late
                        (λ t x y g. first_active f c j js free t (only t (omega arith) g)) after in
                        let wider = (lipschitz_worked s (gap 0) K lipschitz).by (e - start free j) (e - a) 0 (omega arith) in
                        omega (arith, rising f c free a fa, top_here s (λ tail. worked tail (gap 0) K (e - a)))
                  ]
                ]
          ]
