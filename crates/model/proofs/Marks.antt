-- What `Done`, `Ends` and `Waits` say of a count of ticks that grows by at most one a tick. Assumes nothing.
use Rattle.std.proofs.Common.{◌≡◌, ℕ, zero, suc, ◌+◌, ◌-◌, ◌<◌, ◌≤◌, ◌⊎◌, subst, inl, inr, arith}
use Rattle.std.proofs.lemmas.Bool.{cases_lt}
use Rattle.model.specs.Patterns.{Pattern, final, step, costs, suspensions}
use Rattle.model.specs.Runs.{Done, Ends, Unmet, Waits}

-- a count of ticks: it never falls, and grows by at most one a tick
pub record Counts (f : ℕ → ℕ) : Type 0 where
  pub up : (t : ℕ) → f t ≤ f (suc t)
  pub slow : (t : ℕ) → f (suc t) ≤ suc (f t)

same_at : (f : ℕ → ℕ) (a b : ℕ) → a ≡ b → f a ≡ f b
same_at f a b e = cc

-- a count that never falls from one tick to the next never falls
climbs : (f : ℕ → ℕ) → ((t : ℕ) → f t ≤ f (suc t)) → (a b : ℕ) → a ≤ b → f a ≤ f b
climbs f up a zero h = omega (arith, same_at f a zero (omega arith))
climbs f up a (suc b) h =
    elim (cases_lt a (suc b)) [
      | inl l ↦ omega (arith, climbs f up a b (omega arith), up b)
      | inr g ↦ omega (arith, same_at f a (suc b) (omega arith))
    ]

module _ (f : ℕ → ℕ) (c : Counts f) where
  pub rising : (a b : ℕ) → a ≤ b → f a ≤ f b
  rising a b l = climbs f c.up a b l

  pub slowly : (a b : ℕ) → a ≤ b → f b ≤ f a + (b - a)
  slowly a zero h = omega (arith, same_at f a zero (omega arith))
  slowly a (suc b) h =
      elim (cases_lt a (suc b)) [
        | inl l ↦ omega (arith, slowly a b (omega arith), c.slow b)
        | inr g ↦ omega (arith, same_at f a (suc b) (omega arith))
      ]

  -- a count that does not grow in any tick of a window does not grow over it
  pub still : (a b : ℕ) → a ≤ b → ((t : ℕ) → a ≤ t → t < b → f t < f (suc t) → ⊥) → f b ≡ f a
  still a zero h quiet = same_at f zero a (omega arith)
  still a (suc b) h quiet =
      elim (cases_lt a (suc b)) [
        | inl l ↦
            let before : f b ≡ f a = still a b (omega arith) (λ t g l' s. quiet t g (omega arith) s) in
            elim (cases_lt (f b) (f (suc b))) [
              | inl grows ↦ absurd (quiet b (omega arith) (omega arith) grows)
              | inr g ↦ omega (arith, c.up b)
            ]
        | inr g ↦ same_at f (suc b) a (omega arith)
      ]

  -- a cost is finished at one moment only
  pub done_once : (s k m n : ℕ) → Done f s k m → Done f s k n → m ≡ n
  done_once s k m n d e =
      elim (cases_lt m n) [
        | inl l ↦ omega (arith, d.enough, e.first m d.after l)
        | inr g ↦ elim (cases_lt n m) [
          | inl l ↦ omega (arith, e.enough, d.first n e.after l)
          | inr h ↦ omega arith
        ]
      ]

  pub ends_after : (p : Pattern) (s m : ℕ) → Ends f s p m → s ≤ m
  ends_after (final k) s m d = d.after
  ends_after (step k w p) s m (n, d, e) = omega (arith, d.after, ends_after p (n + w) m e)

  pub waits_after : (p : Pattern) (s t : ℕ) → Waits f s p t → s ≤ t
  waits_after (final k) s t u = u.after
  waits_after (step k w p) s t (inl u) = u.after
  waits_after (step k w p) s t (inr (n, d, v)) = omega (arith, d.after, waits_after p (n + w) t v)

  pub ends_once : (p : Pattern) (s m n : ℕ) → Ends f s p m → Ends f s p n → m ≡ n
  ends_once (final k) s m n d e = done_once s k m n d e
  ends_once (step k w p) s m n (a, d, e) (b, d', e') =
      ends_once p (b + w) m n (subst (λ x. Ends f (x + w) p m) (done_once s k a b d d') e) e'

  -- a cost is finished as soon as the task has run long enough
  pub reach : (s k e : ℕ) → s ≤ e → f s + k ≤ f e → (m : ℕ) × Done f s k m × (m ≤ e)
  reach s k zero h enough =
      let at : s ≡ zero = omega arith in
      let same : f s ≡ f zero = same_at f s zero at in
      (zero, record { after = h; enough = omega arith; first = λ n g l. omega arith }, omega arith)
  reach s k (suc e) h enough =
      elim (cases_lt e s) [
        | inl l ↦
            let same : f s ≡ f (suc e) = same_at f s (suc e) (omega arith) in
            (suc e, record { after = h; enough = omega arith; first = λ n x y. omega arith }, omega arith)
        | inr g ↦ elim (cases_lt (f e) (f s + k)) [
          | inl l ↦
              let exact : f (suc e) ≡ f s + k = omega (arith, c.slow e) in
              (suc e, record { after = h; enough = exact; first = λ n g' l'. omega (arith, rising n e (omega arith)) }, omega arith)
          | inr g' ↦ let (m, d, b) = reach s k e g g' in (m, d, omega arith)
        ]
      ]

  -- whether a cost is finished by moment e, and whether a pattern has ended by then
  pub done_by : (s k e : ℕ) → ((m : ℕ) × Done f s k m × (m ≤ e)) ⊎ ((m : ℕ) → Done f s k m → e < m)
  done_by s k e =
      elim (cases_lt e s) [
        | inl early ↦ inr (λ m d. omega (arith, d.after))
        | inr l ↦ elim (cases_lt (f e) (f s + k)) [
          | inl short ↦ inr (λ m d. elim (cases_lt e m) [ inl x ↦ x | inr x ↦ absurd (omega (arith, d.enough, rising m e x)) ])
          | inr enough ↦ inl (reach s k e l enough)
        ]
      ]

  -- a cost that is not finished by e is unfinished at each moment before
  open_still : (s k e t : ℕ) → ((m : ℕ) → Done f s k m → e < m) → s ≤ t → t < e → Unmet f s k t
  open_still s k e t late x y =
      elim (cases_lt (f t) (f s + k)) [
        | inl short ↦ record { after = x; lacks = short }
        | inr enough ↦ let (m, d, b) = reach s k t x enough in absurd (omega (arith, late m d))
      ]

  pub ends_by : (p : Pattern) (s e : ℕ) → ((m : ℕ) × Ends f s p m × (m ≤ e)) ⊎ ((m : ℕ) → Ends f s p m → e < m)
  ends_by (final k) s e = done_by s k e
  ends_by (step k w p) s e =
      elim (done_by s k e) [
        | inr late ↦ inr (λ m x. let (n, d, ends) = x in omega (arith, late n d, ends_after p (n + w) m ends))
        | inl (n, d, l) ↦ elim (ends_by p (n + w) e) [
          | inl (m, ends, l') ↦ inl (m, (n, d, ends), l')
          | inr late ↦ inr (λ m x. let (n', d', ends) = x in late m (subst (λ y. Ends f (y + w) p m) (done_once s k n' n d' d) ends))
        ]
      ]

  -- ---- a pattern that nobody below holds up: h counts the ticks of the levels above
  module _ (h : ℕ → ℕ) (above_up : (t : ℕ) → h t ≤ h (suc t)) where
    -- over ticks that are each run by the task or by a level above, the two counts grow by one a tick
    pub filled : (a b : ℕ) → a ≤ b → ((t : ℕ) → a ≤ t → t < b → suc (f t + h t) ≤ f (suc t) + h (suc t)) → b + (f a + h a) ≤ a + (f b + h b)
    filled a zero l busy = omega (arith, same_at f a zero (omega arith), same_at h a zero (omega arith))
    filled a (suc b) l busy =
        elim (cases_lt a (suc b)) [
          | inl l' ↦ omega (arith, filled a b (omega arith) (λ t x y. busy t x (omega arith)), busy b (omega arith) (omega arith))
          | inr g ↦ omega (arith, same_at f a (suc b) (omega arith), same_at h a (suc b) (omega arith))
        ]

    above_rising : (a b : ℕ) → a ≤ b → h a ≤ h b
    above_rising a b l = climbs h above_up a b l

    -- a cost that waits only while the task or a level above runs is finished in time
    pub met : (s k e : ℕ) → s ≤ e → ((t : ℕ) → s ≤ t → t < e → Unmet f s k t → suc (f t + h t) ≤ f (suc t) + h (suc t))
        → ((m : ℕ) × Done f s k m × (m ≤ e) × (m + h s ≤ s + k + h m)) ⊎ ((f e < f s + k) × (e + h s < s + k + h e))
    met s k e l busy =
        elim (cases_lt (f e) (f s + k)) [
          | inl short ↦
              inr (short, omega (arith, filled s e l (λ t x y. busy t x y (record { after = x; lacks = omega (arith, rising t e (omega arith)) }))))
          | inr enough ↦
              let (m, d, b) = reach s k e l enough in
              inl (m, d, b, omega (arith, d.enough, filled s m d.after (λ t x y. busy t x (omega arith) (record { after = x; lacks = d.first t x y }))))
        ]

    pub ended : (p : Pattern) (s e : ℕ) → s ≤ e → ((t : ℕ) → s ≤ t → t < e → Waits f s p t → suc (f t + h t) ≤ f (suc t) + h (suc t))
        → ((m : ℕ) × Ends f s p m × (m ≤ e)) ⊎ (e + h s < s + costs p + suspensions p + h e)
    ended (final k) s e l busy =
        elim (met s k e l busy) [
          | inl x ↦ inl (x.0, x.1, x.2)
          | inr x ↦ inr (omega (arith, x.1))
        ]
    ended (step k w p) s e l busy =
        elim (met s k e l (λ t x y u. busy t x y (inl u))) [
          | inr x ↦ inr (omega (arith, x.1))
          | inl x ↦ let (m, d, b, short) = x in
              elim (cases_lt e (m + w)) [
                | inl early ↦ inr (omega (arith, above_rising m e b))
                | inr late ↦
                    elim (ended p (m + w) e late (λ t x y v. busy t (omega (arith, d.after)) y (inr (m, d, v)))) [
                      | inl (n, ends, before) ↦ inl (n, (m, d, ends), before)
                      | inr still_short ↦ inr (omega (arith, above_rising m (m + w) (omega arith)))
                    ]
              ]
        ]

    -- over a pattern that has not ended, all ticks but those of its suspensions are the task's or those of a level above
    pub stretched : (p : Pattern) (s e : ℕ) → s ≤ e → ((t : ℕ) → s ≤ t → t < e → Waits f s p t → suc (f t + h t) ≤ f (suc t) + h (suc t))
        → ((m : ℕ) × Ends f s p m × (m ≤ e)) ⊎ (e + (f s + h s) ≤ s + suspensions p + (f e + h e))
    stretched (final k) s e l busy =
        elim (done_by s k e) [
          | inl done ↦ inl done
          | inr late ↦ inr (omega (arith, filled s e l (λ t x y. busy t x y (open_still s k e t late x y))))
        ]
    stretched (step k w p) s e l busy =
        elim (done_by s k e) [
          | inr late ↦ inr (omega (arith, filled s e l (λ t x y. busy t x y (inl (open_still s k e t late x y)))))
          | inl (m, d, b) ↦
              let first : m + (f s + h s) ≤ s + (f m + h m) = filled s m d.after (λ t x y. busy t x (omega arith) (inl (record { after = x; lacks = d.first t x y }))) in
              elim (cases_lt e (m + w)) [
                | inl early ↦ inr (omega (arith, rising m e b, above_rising m e b))
                | inr late ↦
                    elim (stretched p (m + w) e late (λ t x y v. busy t (omega (arith, d.after)) y (inr (m, d, v)))) [
                      | inl (n, ends, before) ↦ inl (n, (m, d, ends), before)
                      | inr rest ↦ inr (omega (arith, rising m (m + w) (omega arith), above_rising m (m + w) (omega arith)))
                    ]
              ]
        ]
