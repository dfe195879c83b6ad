-- What an order that names each task once gives at a level. Assumes nothing.
use Rattle.std.proofs.Common.{◌≡◌, ℕ, zero, suc, ◌+◌, ◌<◌, ◌≤◌, true, not, ◌&&◌, ltb, List, [], ◌∷◌, length, get_or, take, None, Some, Option, ap, ◌∙◌, arith}
use Rattle.std.proofs.lemmas.Bool.{and_parts, ltb-true}
use Rattle.std.proofs.lemmas.List.{get_or_default, get_or-take, length-take-le}
use Rattle.std.proofs.lemmas.List.FromFn.{length-enumerate_from, get_or-enumerate_from}
use Rattle.std.proofs.lemmas.Slice.Zip.{length-zip, get_or-zip}
use Rattle.std.proofs.lemmas.Iterator.{YieldsList, YieldsList-from_slice, YieldsList-from_zip, zips}
use Rattle.std.proofs.lemmas.Iterator.Consumers.{YieldsList-from_enumerate, YieldsList-turn, YieldsList-end}
use Rattle.std.proofs.iter.Yields.{fronts}
use Rattle.std.specs.Iterator.{Yields}
use Rattle.std.specs.Iterator.Adapters.{zip_first, zip_second, enumerate_source, enumerate_count, enumerate_steps}
use Rattle.std.specs.List.{zip, enumerate_from}
use Rattle.std.specs.Slice.Iter.{iter_rest}
use Rattle.std.specs.declared.iter.Zip.{Zip}
use Rattle.std.specs.declared.iter.Enumerate.{Enumerate}
use Rattle.std.specs.declared.slice.Iter.{Iter}
use denote.Ref.{Bor}
use Rattle.report.specs.Reports.{occurs, each_once}

-- each entry names a task
pub named : (n tasks i : ℕ) (order : List ℕ) → tasks ≤ length order → i < tasks → each_once n (take tasks order) ≡ true → get_or order i 0 < n
named n zero i order l m e = absurd (omega arith)
named n (suc k) i [] l m e = absurd (omega arith)
named n (suc k) zero (p ∷ ps) l m e = ltb-true p n (and_parts (ltb p n) (not (occurs p (take k ps)) && each_once n (take k ps)) e).0
named n (suc k) (suc i) (p ∷ ps) l m e =
    let rest = (and_parts (ltb p n) (not (occurs p (take k ps)) && each_once n (take k ps)) e).1 in
    named n k i ps (omega arith) (omega arith) (and_parts (not (occurs p (take k ps))) (each_once n (take k ps)) rest).1

-- the places of an order with the bounds beside them, and the index
abbrev levels : ℕ → List ℕ → List ℕ → List (ℕ × (ℕ × ℕ))
levels n order bounds = enumerate_from 0 (zip (take n order) bounds)

length-levels : (n : ℕ) (order bounds : List ℕ) → n ≤ length order → n ≤ length bounds → length (levels n order bounds) ≡ n
length-levels n order bounds long beside = omega (arith, length-enumerate_from 0 (zip (take n order) bounds), length-zip (take n order) bounds, length-take-le n order long)

-- the loop over them, which has yielded xs
module _ (n : ℕ) (order bounds : List ℕ) (s t u : Enumerate (Zip (Iter ℕ) (Iter ℕ))) (xs : List (ℕ × (Bor ℕ × Bor ℕ))) (r : Option (ℕ × (Bor ℕ × Bor ℕ)))
    (long : n ≤ length order) (beside : n ≤ length bounds) (a : iter_rest (zip_first (enumerate_source s)) ≡ take n order) (b : iter_rest (zip_second (enumerate_source s)) ≡ bounds)
    (c : enumerate_count s ≡ 0) (y : Yields (enumerate_steps (zips fronts fronts)) s xs t) (h : enumerate_steps (zips fronts fronts) t r u) where
  chain : YieldsList {B = ℕ × (ℕ × ℕ)} (enumerate_steps (zips fronts fronts)) (λ p. (p.0, (p.1.0.now, p.1.1.now))) s (levels n order bounds)
  chain = YieldsList-from_enumerate (YieldsList-from_zip (YieldsList-from_slice {s = zip_first (enumerate_source s)} (take n order) a) (YieldsList-from_slice {s = zip_second (enumerate_source s)} bounds b)) c

  pub level_turn : (p : ℕ × (Bor ℕ × Bor ℕ)) → r ≡ Some p → each_once n (take n order) ≡ true
      → (p.0 ≡ length xs) × (p.1.0.now < n) × (p.1.0.now ≡ get_or order (length xs) 0) × (p.1.1.now ≡ get_or bounds (length xs) 0)
  level_turn p e once =
      let k = length xs in
      let places = take n order in
      let next = YieldsList-turn chain xs t y r u p e h in
      let here : k < n = omega (arith, next.0, length-levels n order bounds long beside) in
      let first : k < length places = omega (arith, length-take-le n order long) in
      let second : k < length bounds = omega arith in
      let item = next.1 ∙ get_or-enumerate_from 0 (zip places bounds) k (p.0, (p.1.0.now, p.1.1.now)) (omega (arith, length-zip places bounds)) in
      let pair = get_or-zip places bounds k (p.1.0.now, p.1.1.now) first second in
      let index : p.0 ≡ 0 + k = ap (λ (q : ℕ × (ℕ × ℕ)). q.0) item in
      let place : p.1.0.now ≡ get_or places k 0 = ap (λ (q : ℕ × (ℕ × ℕ)). q.1.0) item ∙ ap (λ (q : ℕ × ℕ). q.0) pair ∙ get_or_default places k p.1.0.now 0 first in
      let bound : p.1.1.now ≡ get_or bounds k 0 = ap (λ (q : ℕ × (ℕ × ℕ)). q.1.1) item ∙ ap (λ (q : ℕ × ℕ). q.1) pair ∙ get_or_default bounds k p.1.1.now 0 second in
      let there = place ∙ get_or-take n order k 0 here in
      (omega arith, omega (arith, there, named n n k order long here once), there, bound)

  pub levels_end : r ≡ None → length xs ≡ n
  levels_end e = (YieldsList-end chain xs t y r u e h).1 ∙ length-levels n order bounds long beside
