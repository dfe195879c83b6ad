-- Whole rows: only the totals are known, and every pattern within them is lawful. Assumes nothing.
use Rattle.std.specs.Prelude.{ℕ, ◌+◌, Bool, ◌&&◌, nat_le, refl}
use Rattle.std.proofs.Common.{arith}
use Rattle.std.proofs.lemmas.Bool.{and_parts, and_from, leb-true, le-leb}
use Rattle.model.specs.Patterns.{Pattern, final, step, costs, suspensions}
use Rattle.model.specs.Rows.{Kind, bounded, bounds}
use Rattle.model.specs.declared.whole.Whole.{Whole}

-- a pattern within the totals
abbrev pub within_totals : ℕ → ℕ → Pattern → Bool
within_totals C S p = nat_le (costs p) C && nat_le (suspensions p) S

abbrev pub whole_blank : Whole
whole_blank = record { id = 0; period = 0; deadline = 0; compute = 0; suspend = 0 }

abbrev pub whole_kind : Kind Whole
whole_kind = record {
  ident = λ x. x.id;
  period = λ x. x.period;
  deadline = λ x. x.deadline;
  compute = λ x. x.compute;
  suspend = λ x. x.suspend;
  lawful = λ x. bounded x.period x.deadline x.compute x.suspend;
  allows = λ x p. within_totals x.compute x.suspend p;
  blank = whole_blank;
  r1 = λ x l. bounds _ _ _ _ l;
  r2 = λ x p l a. let (c, s) = and_parts (nat_le (costs p) x.compute) (nat_le (suspensions p) x.suspend) a in (leb-true _ _ c, leb-true _ _ s);
  r3_compute = λ x l. (final x.compute, and_from _ _ (le-leb x.compute x.compute (omega arith)) (le-leb 0 x.suspend (omega arith)), refl);
  r3_suspend = λ x l. (step 0 x.suspend (final x.compute), and_from _ _ (le-leb (0 + x.compute) x.compute (omega arith)) (le-leb (x.suspend + 0) x.suspend (omega arith)), omega arith);
}
