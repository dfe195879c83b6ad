-- The ticks that levels run: one level's, and those of the first k together. Assumes nothing.
use Rattle.std.proofs.Common.{◌≡◌, ℕ, zero, suc, ◌+◌, ◌-◌, ◌<◌, ◌≤◌, true, false, cond, eqb, List, [], ◌∷◌, map, length, take, Some, None, sum_by, Option, sym, refl, ap, ◌∙◌, subst, inl, inr, add-suc, arith}
use Rattle.std.specs.List.{slice_get}
use Rattle.std.proofs.lemmas.List.Sums.{sum_by-cons}
use Rattle.std.proofs.lemmas.Option.{slice_get_past, same_Some}
use Rattle.std.proofs.lemmas.Bool.{cases_lt, cases_eq, eq-eqb, ne_eqb}
use Rattle.model.specs.Runs.{Task, Run, sum_to, hit, ran, used, JobsWait, Level}
use Rattle.model.specs.Rows.{Kind}
use Rattle.model.specs.LawfulRuns.{Lawful}
use Rattle.model.specs.Runs.{above}
use Rattle.model.proofs.Marks.{Counts, rising, still}

-- ---- lists by place

pub nth_here : {X : Type 0} (xs : List X) (i : ℕ) → i < length xs → (x : X) × (slice_get xs i ≡ Some x)
nth_here [] i h = absurd (omega arith)
nth_here (x ∷ xs) zero h = (x, refl)
nth_here (x ∷ xs) (suc i) h = nth_here xs i (omega arith)

-- ---- one level

hit_small : (i : ℕ) (o : Option (Option ℕ)) → hit i o ≤ 1
hit_small i None = omega arith
hit_small i (Some None) = omega arith
hit_small i (Some (Some j)) = elim (eqb i j) as (λ b. cond b 1 0 ≤ 1) [ true ↦ omega arith | false ↦ omega arith ]

hit_other : (i j : ℕ) → (i ≡ j → ⊥) → hit i (Some (Some j)) ≡ 0
hit_other i j ne = rw (ne_eqb i j ne) refl

hit_own : (i : ℕ) → hit i (Some (Some i)) ≡ 1
hit_own i = rw (eq-eqb i i refl) refl

hit_only : (i : ℕ) (o : Option (Option ℕ)) → 0 < hit i o → o ≡ Some (Some i)
hit_only i None h = absurd (omega arith)
hit_only i (Some None) h = absurd (omega arith)
hit_only i (Some (Some j)) h =
    elim (cases_eq i j) [
      | inl e ↦ ap {B = Option (Option ℕ)} (λ n. Some (Some n)) (sym e)
      | inr ne ↦ absurd (omega (arith, hit_other i j ne))
    ]

module _ (ticks : List (Option ℕ)) where
  pub counts : (i : ℕ) → Counts (ran ticks i)
  counts i = record { up = λ t. omega arith; slow = λ t. omega (arith, hit_small i (slice_get ticks t)) }

  -- a tick in which the count grows is the level's
  pub grown : (i t : ℕ) → ran ticks i t < ran ticks i (suc t) → slice_get ticks t ≡ Some (Some i)
  grown i t h = hit_only i (slice_get ticks t) (omega arith)

  pub grows : (i t : ℕ) → slice_get ticks t ≡ Some (Some i) → ran ticks i (suc t) ≡ suc (ran ticks i t)
  grows i t e = omega (arith, ap (hit i) e ∙ hit_own i)

  -- nobody runs past the end
  pub over : (i t : ℕ) → length ticks ≤ t → ran ticks i (suc t) ≡ ran ticks i t
  over i t h = omega (arith, ap (hit i) (slice_get_past ticks t h))

  -- so a window is bounded by the part of it that lies in the run
  pub clipped : (i a t B : ℕ) → ((e : ℕ) → a ≤ e → e ≤ a + t → e ≤ length ticks → ran ticks i e ≤ ran ticks i a + B) → used ticks i a t ≤ B
  clipped i a t B inside =
      elim (cases_lt (length ticks) (a + t)) [
        | inr in_run ↦ omega (arith, inside (a + t) (omega arith) (omega arith) in_run)
        | inl past ↦ elim (cases_lt (length ticks) a) [
          | inl all_past ↦ omega (arith, still (ran ticks i) (counts i) a (a + t) (omega arith) (λ u x y g. omega (arith, over i u (omega arith))))
          | inr part_past ↦
              omega (
                arith,
                inside (length ticks) part_past (omega arith) (omega arith),
                still (ran ticks i) (counts i) (length ticks) (a + t) (omega arith) (λ u x y g. omega (arith, over i u (omega arith))),
              )
        ]
      ]

-- ---- the first k levels together

pub sum_to_le : (n : ℕ) (u v : ℕ → ℕ) → ((i : ℕ) → u i ≤ v i) → sum_to u n ≤ sum_to v n
sum_to_le zero u v h = omega arith
sum_to_le (suc n) u v h = omega (arith, h 0, sum_to_le n (λ i. u (suc i)) (λ i. v (suc i)) (λ i. h (suc i)))

pub sum_to_lt : (n i : ℕ) (u v : ℕ → ℕ) → ((j : ℕ) → u j ≤ v j) → i < n → u i < v i → sum_to u n < sum_to v n
sum_to_lt zero i u v h l s = absurd (omega arith)
sum_to_lt (suc n) zero u v h l s = omega (arith, sum_to_le n (λ i. u (suc i)) (λ i. v (suc i)) (λ i. h (suc i)))
sum_to_lt (suc n) (suc i) u v h l s = omega (arith, h 0, sum_to_lt n i (λ i. u (suc i)) (λ i. v (suc i)) (λ i. h (suc i)) (omega arith) s)

sum_to_one : (n j : ℕ) (u v : ℕ → ℕ) → ((i : ℕ) → (i ≡ j → ⊥) → v i ≤ u i) → v j ≤ suc (u j) → sum_to v n ≤ suc (sum_to u n)
sum_to_one zero j u v others own = omega arith
sum_to_one (suc n) zero u v others own = omega (arith, sum_to_le n (λ i. v (suc i)) (λ i. u (suc i)) (λ i. others (suc i) (λ e. omega arith)))
sum_to_one (suc n) (suc j) u v others own =
    omega (arith, others 0 (λ e. omega arith), sum_to_one n j (λ i. u (suc i)) (λ i. v (suc i)) (λ i ne. others (suc i) (λ e. ne (omega arith))) own)

pub sum_to_last : (n : ℕ) (u : ℕ → ℕ) → sum_to u (suc n) ≡ sum_to u n + u n
sum_to_last zero u = omega arith
sum_to_last (suc n) u = omega (arith, sum_to_last n (λ i. u (suc i)))

sum_to_apart : (n : ℕ) (u v : ℕ → ℕ) → ((i : ℕ) → u i ≤ v i) → sum_to (λ i. v i - u i) n + sum_to u n ≡ sum_to v n
sum_to_apart zero u v h = refl
sum_to_apart (suc n) u v h = omega (arith, h 0, sum_to_apart n (λ i. u (suc i)) (λ i. v (suc i)) (λ i. h (suc i)))

-- what holds of each level in its row holds of the sums
pub summed : {R : Type 0} (c : R → ℕ) (ts : List (Task R)) (n : ℕ) (u v : ℕ → ℕ) → n ≤ length ts
    → ((i : ℕ) (task : Task R) → i < n → slice_get ts i ≡ Some task → v i ≤ u i + c task.row)
    → sum_to v n ≤ sum_to u n + sum_by c (map (λ task. task.row) (take n ts))
summed c ts zero u v l h = omega arith
summed c [] (suc n) u v l h = absurd (omega arith)
summed c (t ∷ ts) (suc n) u v l h =
    let rest = summed c ts n (λ i. u (suc i)) (λ i. v (suc i)) (omega arith) (λ i task b e. h (suc i) task (omega arith) e) in
    rw (sum_by-cons c t.row (map (λ task. task.row) (take n ts))) (omega (arith, h 0 t (omega arith) refl))

module _ (ticks : List (Option ℕ)) where
  -- how many ticks the levels above k have run by moment t
  abbrev pub higher : ℕ → ℕ → ℕ
  higher k t = sum_to (λ i. ran ticks i t) k

  pub higher_up : (k t : ℕ) → higher k t ≤ higher k (suc t)
  higher_up k t = sum_to_le k (λ i. ran ticks i t) (λ i. ran ticks i (suc t)) (λ i. (counts ticks i).up t)

  pub higher_grows : (k i t : ℕ) → i < k → slice_get ticks t ≡ Some (Some i) → higher k t < higher k (suc t)
  higher_grows k i t l e =
      sum_to_lt k i (λ j. ran ticks j t) (λ j. ran ticks j (suc t)) (λ j. (counts ticks j).up t) l (omega (arith, grows ticks i t e))

  -- at most one level runs in a tick
  pub higher_slow : (k t : ℕ) → higher k (suc t) ≤ suc (higher k t)
  higher_slow k t = go (slice_get ticks t) refl
    where
      quiet : ((i : ℕ) → hit i (slice_get ticks t) ≡ 0) → higher k (suc t) ≤ suc (higher k t)
      quiet h =
          omega (arith, sum_to_le k (λ j. ran ticks j (suc t)) (λ j. ran ticks j t) (λ j. omega (arith, h j)))

      go : (o : Option (Option ℕ)) → slice_get ticks t ≡ o → higher k (suc t) ≤ suc (higher k t)
      go None e = quiet (λ i. ap (hit i) e)
      go (Some None) e = quiet (λ i. ap (hit i) e)
      go (Some (Some j)) e =
          sum_to_one k j (λ i. ran ticks i t) (λ i. ran ticks i (suc t)) (λ i ne. omega (arith, ap (hit i) e ∙ hit_other i j ne)) ((counts ticks j).slow t)

  higher_slowly : (k a n : ℕ) → higher k (a + n) ≤ higher k a + n
  higher_slowly k a zero = omega (arith, ap (higher k) (same a))
    where
      same : (a : ℕ) → a + 0 ≡ a
      same a = omega arith
  higher_slowly k a (suc n) = omega (arith, ap (higher k) (add-suc a n), higher_slow k (a + n), higher_slowly k a n)

  pub higher_between : (k a b : ℕ) → a ≤ b → (higher k a ≤ higher k b) × (higher k b ≤ higher k a + (b - a))
  higher_between k a b l = (
    sum_to_le k (λ i. ran ticks i a) (λ i. ran ticks i b) (λ i. rising (ran ticks i) (counts ticks i) a b l),
    omega (arith, ap (higher k) (whole a b l), higher_slowly k a (b - a)),
  )
    where
      whole : (a b : ℕ) → a ≤ b → b ≡ a + (b - a)
      whole a b l = omega arith

  -- so the levels together run at most n ticks in a window of n
  pub one_level : (k a n : ℕ) → sum_to (λ i. used ticks i a n) k ≤ n
  one_level k a n =
      omega (
        arith,
        higher_slowly k a n,
        sum_to_apart k (λ i. ran ticks i a) (λ i. ran ticks i (a + n)) (λ i. rising (ran ticks i) (counts ticks i) a (a + n) (omega arith)),
      )

  pub used_adds : (i a m n : ℕ) → used ticks i a (m + n) ≡ used ticks i a m + used ticks i (a + m) n
  used_adds i a m n =
      let f = ran ticks i in
      let c = counts ticks i in
      omega (arith, ap f (sums a m n), rising f c a (a + m) (omega arith), rising f c (a + m) ((a + m) + n) (omega arith))
    where
      sums : (a m n : ℕ) → a + (m + n) ≡ (a + m) + n
      sums a m n = omega arith

-- ---- lawful runs

-- while a level waits, each tick is its own or that of a level above
pub busy : {R : Type 0} (kind : Kind R) (run : Run R) → Lawful kind run → (k : ℕ) (task : Task R) → Level run k task
    → (t : ℕ) → t < length run.ticks → JobsWait (ran run.ticks k) 0 task.jobs t
    → suc (ran run.ticks k t + higher run.ticks k t) ≤ ran run.ticks k (suc t) + higher run.ticks k (suc t)
busy {R} kind run law k task at t l waits =
    let (o, e) = nth_here run.ticks t l in go o e
  where
    Goal : Type 0
    Goal = suc (ran run.ticks k t + higher run.ticks k t) ≤ ran run.ticks k (suc t) + higher run.ticks k (suc t)

    go : (o : Option ℕ) → slice_get run.ticks t ≡ Some o → Goal
    go None e = absurd (law.idles t e k (task, at, waits))
    go (Some i) e =
        elim (cases_lt i k) [
          | inl above ↦ omega (arith, higher_grows run.ticks k i t above e, (counts run.ticks k).up t)
          | inr g ↦ elim (cases_lt k i) [
            | inl below ↦ absurd ((law.runs t i e).1 k below (task, at, waits))
            | inr g' ↦
                let own : slice_get run.ticks t ≡ Some (Some k) = subst (λ n. slice_get run.ticks t ≡ Some (Some n)) (omega arith) e in
                omega (arith, higher_up run.ticks k t, grows run.ticks k t own)
          ]
        ]

-- a level runs only while it waits
pub runs_waiting : {R : Type 0} (kind : Kind R) (run : Run R) → Lawful kind run → (k : ℕ) (task : Task R) → Level run k task
    → (t : ℕ) → ran run.ticks k t < ran run.ticks k (suc t) → JobsWait (ran run.ticks k) 0 task.jobs t
runs_waiting {R} kind run law k task at t h =
    let (other, there, waits) = (law.runs t k (grown run.ticks k t h)).0 in
    subst (λ (y : Task R). JobsWait (ran run.ticks k) 0 y.jobs t) (same_Some other task (sym there ∙ at)) waits
