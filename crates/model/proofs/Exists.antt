-- Tasks run in one lawful way: there is a lawful run of each length, and two of one length are the same. Assumes nothing.
use Rattle.std.proofs.Common.{◌≡◌, ℕ, zero, suc, ◌+◌, ◌<◌, ◌≤◌, ◌⊎◌, List, [], ◌∷◌, ◌++◌, length, Some, None, Option, sym, refl, ap, ◌∙◌, subst, inl, inr, arith, length-append}
use Rattle.std.specs.List.{slice_get, AllByRecursion}
use Rattle.std.proofs.lemmas.Bool.{cases_lt}
use Rattle.std.proofs.lemmas.Option.{slice_get_past, none-some, same_Some, slice_get_within}
use Rattle.model.specs.Patterns.{Pattern, final, step}
use Rattle.model.specs.Runs.{Job, Task, Run, hit, ran, Done, Ends, Unmet, Waits, start, JobsWait, Waiting}
use Rattle.model.specs.Rows.{Kind}
use Rattle.model.specs.LawfulRuns.{LawfulTask, Lawful}
use Rattle.model.proofs.Marks.{Counts, done_once, done_by, ends_once, ends_by, ends_after, waits_after}
use Rattle.model.proofs.Ticks.{nth_here, counts}
use Rattle.model.proofs.Work.{jobs_after}

-- ---- whether something waits is decided

abbrev EitherWay : Type 0 → Type 0
EitherWay P = P ⊎ (P → ⊥)

module _ (f : ℕ → ℕ) (c : Counts f) where
  unmet? : (s k t : ℕ) → EitherWay (Unmet f s k t)
  unmet? s k t =
      elim (cases_lt t s) [
        | inl early ↦ inr (λ u. omega (arith, u.after))
        | inr l ↦ elim (cases_lt (f t) (f s + k)) [
          | inl short ↦ inl (record { after = l; lacks = short })
          | inr enough ↦ inr (λ u. omega (arith, u.lacks))
        ]
      ]

  waits? : (p : Pattern) (s t : ℕ) → EitherWay (Waits f s p t)
  waits? (final k) s t = unmet? s k t
  waits? (step k w p) s t =
      elim (unmet? s k t) [
        | inl u ↦ inl (inl u)
        | inr met ↦ elim (done_by f c s k t) [
          | inr late ↦ inr (λ x. elim x [ inl u ↦ met u | inr (n, d, v) ↦ omega (arith, late n d, waits_after f c p (n + w) t v) ])
          | inl (n, d, l) ↦ elim (waits? p (n + w) t) [
            | inl v ↦ inl (inr (n, d, v))
            | inr none ↦ inr (λ x. elim x [
              | inl u ↦ met u
              | inr (n', d', v) ↦ none (subst (λ y. Waits f (y + w) p t) (done_once f c s k n' n d' d) v)
            ])
          ]
        ]
      ]

  jobs_wait? : (jobs : List Job) (free t : ℕ) → EitherWay (JobsWait f free jobs t)
  jobs_wait? [] free t = inr (λ x. x)
  jobs_wait? (j ∷ js) free t =
      elim (waits? j.pattern (start free j) t) [
        | inl v ↦ inl (inl v)
        | inr quiet ↦ elim (ends_by f c j.pattern (start free j) t) [
          | inr late ↦ inr (λ x. elim x [ inl v ↦ quiet v | inr (e, ends, w) ↦ omega (arith, late e ends, jobs_after f c js e t w) ])
          | inl (e, ends, l) ↦ elim (jobs_wait? js e t) [
            | inl w ↦ inl (inr (e, ends, w))
            | inr none ↦ inr (λ x. elim x [
              | inl v ↦ quiet v
              | inr (e', ends', w) ↦ none (subst (λ y. JobsWait f y js t) (ends_once f c j.pattern (start free j) e' e ends' ends) w)
            ])
          ]
        ]
      ]

-- ---- what waits at t depends on the ticks before t alone

module _ (f g : ℕ → ℕ) (c : Counts f) (t : ℕ) (same : (u : ℕ) → u ≤ t → f u ≡ g u) where
  done_alike : (s k m : ℕ) → m ≤ t → Done f s k m → Done g s k m
  done_alike s k m l d =
      let s≤t : s ≤ t = omega (arith, d.after) in
      record {
        after = d.after;
        enough = omega (arith, d.enough, same m l, same s s≤t);
        first = λ n x y. omega (arith, d.first n x y, same n (omega arith), same s s≤t);
      }

  unmet_alike : (s k : ℕ) → Unmet f s k t → Unmet g s k t
  unmet_alike s k u = record { after = u.after; lacks = omega (arith, u.lacks, same t (omega arith), same s u.after) }

  ends_alike : (p : Pattern) (s m : ℕ) → m ≤ t → Ends f s p m → Ends g s p m
  ends_alike (final k) s m l d = done_alike s k m l d
  ends_alike (step k w p) s m l (n, d, e) = (n, done_alike s k n (omega (arith, ends_after f c p (n + w) m e)) d, ends_alike p (n + w) m l e)

  waits_alike : (p : Pattern) (s : ℕ) → Waits f s p t → Waits g s p t
  waits_alike (final k) s u = unmet_alike s k u
  waits_alike (step k w p) s (inl u) = inl (unmet_alike s k u)
  waits_alike (step k w p) s (inr (n, d, v)) = inr (n, done_alike s k n (omega (arith, waits_after f c p (n + w) t v)) d, waits_alike p (n + w) v)

  jobs_alike : (jobs : List Job) (free : ℕ) → JobsWait f free jobs t → JobsWait g free jobs t
  jobs_alike [] free w = w
  jobs_alike (j ∷ js) free (inl v) = inl (waits_alike j.pattern (start free j) v)
  jobs_alike (j ∷ js) free (inr (e, ends, w)) =
      inr (e, ends_alike j.pattern (start free j) e (jobs_after f c js e t w) ends, jobs_alike js e w)

ran_alike : (xs ys : List (Option ℕ)) (t : ℕ) → ((u : ℕ) → u < t → slice_get xs u ≡ slice_get ys u) → (i u : ℕ) → u ≤ t → ran xs i u ≡ ran ys i u
ran_alike xs ys t same i zero l = refl
ran_alike xs ys t same i (suc u) l = omega (arith, ran_alike xs ys t same i u (omega arith), ap (hit i) (same u (omega arith)))

module _ {R : Type 0} (tasks : List (Task R)) where
  abbrev with_ticks : List (Option ℕ) → Run R
  with_ticks xs = record { tasks = tasks; ticks = xs }

  waiting_alike : (xs ys : List (Option ℕ)) (t : ℕ) → ((u : ℕ) → u < t → slice_get xs u ≡ slice_get ys u) → (i : ℕ) → Waiting (with_ticks xs) i t → Waiting (with_ticks ys) i t
  waiting_alike xs ys t same i (task, at, w) =
      (task, at, jobs_alike (ran xs i) (ran ys i) (counts xs i) t (λ u l. ran_alike xs ys t same i u l) task.jobs 0 w)

  waiting? : (xs : List (Option ℕ)) (i t : ℕ) → EitherWay (Waiting (with_ticks xs) i t)
  waiting? xs i t = go (slice_get tasks i) refl
    where
      go : (o : Option (Task R)) → slice_get tasks i ≡ o → EitherWay (Waiting (with_ticks xs) i t)
      go None e = inr (λ x. let (task, at, w) = x in none-some task (sym e ∙ at))
      go (Some task) e =
          elim (jobs_wait? (ran xs i) (counts xs i) task.jobs 0 t) [
            | inl w ↦ inl (task, e, w)
            | inr none ↦ inr (λ x. let (other, at, w) = x in none (subst (λ (y : Task R). JobsWait (ran xs i) 0 y.jobs t) (same_Some other task (sym at ∙ e)) w))
          ]

-- the first number at which something holds
first_of : (W : ℕ → Type 0) → ((i : ℕ) → EitherWay (W i)) → (n : ℕ) → ((i : ℕ) × W i × ((j : ℕ) → j < i → W j → ⊥)) ⊎ ((i : ℕ) → i < n → W i → ⊥)
first_of W dec zero = inr (λ i l w. omega arith)
first_of W dec (suc n) =
    elim (first_of W dec n) [
      | inl found ↦ inl found
      | inr none ↦ elim (dec n) [
        | inl w ↦ inl (n, w, none)
        | inr no_w ↦ inr (λ i l w. elim (cases_lt i n) [ inl l' ↦ none i l' w | inr g ↦ no_w (subst W (omega arith) w) ])
      ]
    ]

-- ---- lists

nth_front : {X : Type 0} (xs ys : List X) (u : ℕ) → u < length xs → slice_get (xs ++ ys) u ≡ slice_get xs u
nth_front [] ys u l = absurd (omega arith)
nth_front (x ∷ xs) ys zero l = refl
nth_front (x ∷ xs) ys (suc u) l = nth_front xs ys u (omega arith)

nth_end : {X : Type 0} (xs : List X) (x : X) → slice_get (xs ++ (x ∷ [])) (length xs) ≡ Some x
nth_end [] x = refl
nth_end (y ∷ ys) x = nth_end ys x

nth_alike : {X : Type 0} (xs ys : List X) → ((t : ℕ) → slice_get xs t ≡ slice_get ys t) → xs ≡ ys
nth_alike [] [] same = refl
nth_alike [] (y ∷ ys) same = absurd (cc (same 0))
nth_alike (x ∷ xs) [] same = absurd (cc (same 0))
nth_alike (x ∷ xs) (y ∷ ys) same =
    let heads = same_Some x y (same 0) in
    let tails = nth_alike xs ys (λ t. same (suc t)) in
    cc

-- ---- the rule of a tick

module _ {R : Type 0} (tasks : List (Task R)) where
  abbrev W : List (Option ℕ) → ℕ → ℕ → Type 0
  W xs i t = Waiting (with_ticks tasks xs) i t

  -- nobody runs and nobody waits, or the highest level that waits runs
  abbrev Rule : List (Option ℕ) → ℕ → Option ℕ → Type 0
  Rule xs t None = (i : ℕ) → W xs i t → ⊥
  Rule xs t (Some i) = W xs i t × ((j : ℕ) → j < i → W xs j t → ⊥)

  abbrev Ruled : List (Option ℕ) → Type 0
  Ruled xs = (t : ℕ) (o : Option ℕ) → slice_get xs t ≡ Some o → Rule xs t o

  rule_alike : (xs ys : List (Option ℕ)) (t : ℕ) → ((u : ℕ) → u < t → slice_get xs u ≡ slice_get ys u) → (o : Option ℕ) → Rule xs t o → Rule ys t o
  rule_alike xs ys t same None r = λ i w. r i (waiting_alike tasks ys xs t (λ u l. sym (same u l)) i w)
  rule_alike xs ys t same (Some i) (w, r) =
      (waiting_alike tasks xs ys t same i w, λ j l v. r j l (waiting_alike tasks ys xs t (λ u l. sym (same u l)) j v))

  rule_once : (xs : List (Option ℕ)) (t : ℕ) (o p : Option ℕ) → Rule xs t o → Rule xs t p → o ≡ p
  rule_once xs t None None r s = refl
  rule_once xs t None (Some i) r s = absurd (r i s.0)
  rule_once xs t (Some i) None r s = absurd (s i r.0)
  rule_once xs t (Some i) (Some j) r s =
      elim (cases_lt i j) [
        | inl l ↦ absurd (s.1 i l r.0)
        | inr g ↦ elim (cases_lt j i) [
          | inl l ↦ absurd (r.1 j l s.0)
          | inr h ↦ ap {B = Option ℕ} (λ n. Some n) (omega arith)
        ]
      ]

  chosen : (xs : List (Option ℕ)) (t : ℕ) → (o : Option ℕ) × Rule xs t o
  chosen xs t =
      elim (first_of (λ i. W xs i t) (λ i. waiting? tasks xs i t) (length tasks)) [
        | inl (i, w, r) ↦ (Some i, (w, r))
        | inr none ↦ (None, λ i x. let (task, at, w) = x in none i (slice_get_within tasks i task at) x)
      ]

  built : (H : ℕ) → (xs : List (Option ℕ)) × (length xs ≡ H) × Ruled xs
  built zero = ([], refl, λ t o e. absurd (cc))
  built (suc H) =
      let (xs, len, rules) = built H in
      let (o, r) = chosen xs H in
      (xs ++ (o ∷ []), rw (length-append xs (o ∷ [])) (omega arith), one_more xs o rules (subst (λ t. Rule xs t o) (sym len) r))
    where
      one_more : (xs : List (Option ℕ)) (o : Option ℕ) → Ruled xs → Rule xs (length xs) o → Ruled (xs ++ (o ∷ []))
      one_more xs o rules r t p e =
          let ys = xs ++ (o ∷ []) in
          elim (cases_lt t (length xs)) [
            | inl l ↦ rule_alike xs ys t (λ u y. sym (nth_front xs (o ∷ []) u (omega arith))) p (rules t p (sym (nth_front xs (o ∷ []) t l) ∙ e))
            | inr g ↦ elim (cases_lt (length xs) t) [
              | inl l ↦ absurd (none-some p (sym (slice_get_past ys t (rw (length-append xs (o ∷ [])) (omega arith))) ∙ e))
              | inr h ↦
                  let here : t ≡ length xs = omega arith in
                  let same : o ≡ p = same_Some o p (sym (nth_end xs o) ∙ ap (slice_get ys) (sym here) ∙ e) in
                  subst (λ q. Rule ys t q) same (subst (λ u. Rule ys u o) (sym here) (rule_alike xs ys (length xs) (λ u y. sym (nth_front xs (o ∷ []) u y)) o r))
            ]
          ]

  below_alike : (xs ys : List (Option ℕ)) → length xs ≡ length ys → Ruled xs → Ruled ys → (t u : ℕ) → u < t → slice_get xs u ≡ slice_get ys u
  below_alike xs ys len r s zero u l = absurd (omega arith)
  below_alike xs ys len r s (suc t) u l =
      let before = below_alike xs ys len r s t in
      elim (cases_lt u t) [
        | inl l' ↦ before u l'
        | inr g ↦ elim (cases_lt u (length xs)) [
          | inr past ↦ slice_get_past xs u past ∙ sym (slice_get_past ys u (omega arith))
          | inl inside ↦
              let (o, e) = nth_here xs u inside in
              let (p, e') = nth_here ys u (omega arith) in
              let same : o ≡ p = rule_once ys u o p (rule_alike xs ys u (λ v y. before v (omega arith)) o (r u o e)) (s u p e') in
              cc
        ]
      ]

ruled : {R : Type 0} (kind : Kind R) (run : Run R) → Lawful kind run → Ruled run.tasks run.ticks
ruled kind run law t None e = law.idles t e
ruled kind run law t (Some i) e = law.runs t i e

all_level : {R : Type 0} (kind : Kind R) (tasks : List (Task R)) → AllByRecursion (λ task. LawfulTask kind task) tasks → (i : ℕ) (task : Task R) → slice_get tasks i ≡ Some task → LawfulTask kind task
all_level kind [] a i task e = absurd (cc)
all_level kind (x ∷ xs) a zero task e = subst (λ y. LawfulTask kind y) (same_Some x task e) a.0
all_level kind (x ∷ xs) a (suc i) task e = all_level kind xs a.1 i task e

pub exists : {R : Type 0} (kind : Kind R) (tasks : List (Task R)) → AllByRecursion (λ task. LawfulTask kind task) tasks → (H : ℕ)
    → (run : Run R) × (run.tasks ≡ tasks) × (length run.ticks ≡ H) × Lawful kind run
exists kind tasks lawful H =
    let (xs, len, rules) = built tasks H in
    (with_ticks tasks xs, refl, len, record { tasks = all_level kind tasks lawful; runs = λ t i e. rules t (Some i) e; idles = λ t e. rules t None e })

pub once : {R : Type 0} (kind : Kind R) (one two : Run R) → Lawful kind one → Lawful kind two → one.tasks ≡ two.tasks → length one.ticks ≡ length two.ticks
    → one.ticks ≡ two.ticks
once kind one two law law' tasks len =
    nth_alike one.ticks two.ticks
    (λ t. below_alike two.tasks one.ticks two.ticks len (subst (λ ts. Ruled ts one.ticks) tasks (ruled kind one law)) (ruled kind two law') (suc t) t (omega arith))
