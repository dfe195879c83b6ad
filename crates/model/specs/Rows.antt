-- What a kind of row means, and the rules that every kind keeps. Assumes nothing.
use Rattle.std.specs.Prelude.{◌≡◌, ℕ, ◌+◌, ◌≤◌, Bool, true, ◌&&◌, List, [], ◌∷◌, nat_le}
use Rattle.std.proofs.lemmas.Bool.{and_parts, leb-true}
use Rattle.model.specs.Patterns.{Pattern, costs, suspensions}

-- the longest period, and the longest window that a curve is asked about
abbrev pub limit : ℕ
limit = 1000000

-- The limits of a lawful row. T is 1 to the limit, C is at least 1, and C + S ≤ D ≤ T
pub record Bounds (period deadline compute suspend : ℕ) : Type 0 where
  pub some_period : 1 ≤ period
  pub period_fits : period ≤ limit
  pub some_cost : 1 ≤ compute
  pub room : compute + suspend ≤ deadline
  pub in_period : deadline ≤ period

-- What a kind of row means: its rows' numbers, which rows and which patterns are lawful, the blank row; and the rules that it keeps
pub record Kind (R : Type 0) : Type 0 where
  pub ident : R → ℕ
  pub period : R → ℕ
  pub deadline : R → ℕ
  pub compute : R → ℕ
  pub suspend : R → ℕ
  pub lawful : R → Bool
  pub allows : R → Pattern → Bool
  pub blank : R
  -- a lawful row keeps the limits
  pub r1 : (x : R) → lawful x ≡ true → Bounds (period x) (deadline x) (compute x) (suspend x)
  -- an allowed pattern stays within both totals
  pub r2 : (x : R) (p : Pattern) → lawful x ≡ true → allows x p ≡ true → (costs p ≤ compute x) × (suspensions p ≤ suspend x)
  -- some allowed pattern reaches each total
  pub r3_compute : (x : R) → lawful x ≡ true → (p : Pattern) × (allows x p ≡ true) × (costs p ≡ compute x)
  pub r3_suspend : (x : R) → lawful x ≡ true → (p : Pattern) × (allows x p ≡ true) × (suspensions p ≡ suspend x)

abbrev pub all_lawful : {R : Type 0} → Kind R → List R → Bool
all_lawful kind [] = true
all_lawful kind (x ∷ xs) = kind.lawful x && all_lawful kind xs

-- the limits, as a test
abbrev pub bounded : ℕ → ℕ → ℕ → ℕ → Bool
bounded T D C S = nat_le 1 T && (nat_le T limit && (nat_le 1 C && (nat_le (C + S) D && nat_le D T)))

-- and what a passed test says
pub bounds : (T D C S : ℕ) → bounded T D C S ≡ true → Bounds T D C S
bounds T D C S e =
    let (a, e₁) = and_parts (nat_le 1 T) (nat_le T limit && (nat_le 1 C && (nat_le (C + S) D && nat_le D T))) e in
    let (b, e₂) = and_parts (nat_le T limit) (nat_le 1 C && (nat_le (C + S) D && nat_le D T)) e₁ in
    let (c, e₃) = and_parts (nat_le 1 C) (nat_le (C + S) D && nat_le D T) e₂ in
    let (d, f) = and_parts (nat_le (C + S) D) (nat_le D T) e₃ in
    record {
      some_period = leb-true 1 T a;
      period_fits = leb-true T limit b;
      some_cost = leb-true 1 C c;
      room = leb-true (C + S) D d;
      in_period = leb-true D T f;
    }
