-- The smallest window into which some ticks of a task fit, with what the tasks above it run there. Assumes nothing.
use Rattle.std.specs.Prelude.{◌≡◌, ℕ, zero, suc, ◌+◌, ◌<◌, ◌≤◌, Bool, true, false, cond, List, Some, None, sum_by, Option, nat_le}

abbrev pub or_else : Option ℕ → Option ℕ → Option ℕ
or_else None o = o
or_else (Some t) o = Some t

-- the smallest t ≤ d that passes
abbrev pub least : (ℕ → Bool) → ℕ → Option ℕ
least p zero = cond (p zero) (Some zero) None
least p (suc d) = or_else (least p d) (cond (p (suc d)) (Some (suc d)) None)

-- t is the smallest number up to d that passes
pub record Found (p : ℕ → Bool) (d t : ℕ) : Type 0 where
  pub within : t ≤ d
  pub passes : p t ≡ true
  pub smallest : (u : ℕ) → u < t → p u ≡ false

-- none up to d passes, or t is the smallest that does
abbrev pub Least : (ℕ → Bool) → ℕ → Option ℕ → Type 0
Least p d None = (u : ℕ) → u ≤ d → p u ≡ false
Least p d (Some t) = Found p d t

-- what the curves of the rows give together at t
abbrev pub demand : {R : Type 0} → (R → ℕ → ℕ) → List R → ℕ → ℕ
demand ticks A t = sum_by (λ y. ticks y t) A

-- whether `own` ticks and the curves of A at t fit into t ticks
abbrev pub fits : {R : Type 0} → (R → ℕ → ℕ) → ℕ → List R → ℕ → Bool
fits ticks own A t = nat_le (own + demand ticks A t) t
