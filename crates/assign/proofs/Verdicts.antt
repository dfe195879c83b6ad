-- What the search's answers mean, by the laws of a test. Assumes nothing.
use Rattle.std.proofs.Common.{◌≡◌, ℕ, ◌<◌, ◌≤◌, true, false, ◌↔◌, List, length, get_or, take, drop, Ok, Err, sym, refl, ap, ◌∙◌, subst, arith, get_or-take, take_at}
use mathlib.Core.Bool.{false≢true}
use Rattle.model.specs.Rows.{Kind}
use Rattle.feasibility.specs.Tests.{Answers, TestRules}
use Rattle.feasibility.specs.Masks.{row_of}
use Rattle.model.specs.Bags.{◌~◌, Part}
use Rattle.assign.specs.Assignment.{Outcome, Stuck, Fits}
use Rattle.assign.specs.Laws.{all_places, Arranges, NoneFits}
use Rattle.assign.proofs.Bags.{length-~}
use Rattle.assign.proofs.Outcomes.{not_both, unique}
use Rattle.assign.proofs.Optimal.{laws}
use Rattle.assign.specs.Search.{Told, Accepts, Sticks, Fitted, Largest}
use Rattle.assign.specs.declared.order.NoOrder.TheVariants.{Stuck as StuckAt}
use Rattle.assign.specs.declared.order.Left.{Left}
use Rattle.assign.proofs.Steps.{length_places}

module _ {R : Type 0} (kind : Kind R) (test : Answers R) (rows : List R) where
  pub tells_accepted : {order order' bounds bounds' : List ℕ} {questions : ℕ} → Accepts kind test rows order order' bounds bounds' questions → (o : Outcome) → Arranges kind test rows o → Told o (Ok questions)
  tells_accepted {questions = questions} a o d = subst (λ (x : Outcome). Told x (Ok questions)) (sym (unique test.answer (row_of kind rows) a.found d)) refl

  pub tells_stuck : {order order' bounds bounds' : List ℕ} {s : Left} → Sticks kind test rows order order' bounds bounds' s → (o : Outcome) → Arranges kind test rows o → Told o (Err (StuckAt s))
  tells_stuck {s = s} a o d = subst (λ (x : Outcome). Told x (Err (StuckAt s))) (sym (unique test.answer (row_of kind rows) a.found d)) (ap (λ (m : ℕ). Err (StuckAt (record { mask = m; questions = s.questions }))) a.mask_is)

module _ {R : Type 0} (kind : Kind R) (test : Answers R) (rows : List R) (rules : TestRules kind test) where
  pub fitted : {order order' bounds bounds' : List ℕ} {questions : ℕ} → Accepts kind test rows order order' bounds bounds' questions → Fitted kind test rows order' bounds'
  fitted {order} {order'} {bounds} {bounds'} {questions} a =
      let f = (laws kind test rules rows).accepted_fits a.chosen a.answered questions a.found in
      let many : length a.chosen ≡ length rows = length-~ f.0 ∙ length_places (length rows) in
      let many₂ : length a.answered ≡ length rows = f.1.as_many ∙ many in
      let o : take (length rows) order' ≡ a.chosen = ap (take (length rows)) a.order_is ∙ take_at a.chosen (drop (length rows) order) (length rows) many in
      let b : take (length rows) bounds' ≡ a.answered = ap (take (length rows)) a.bounds_is ∙ take_at a.answered (drop (length rows) bounds) (length rows) many₂ in
      record {
        each_once = subst (λ (l : List ℕ). l ~ all_places rows) (sym o) f.0;
        fits = subst (λ (l : List ℕ). Fits test.answer (row_of kind rows) l (take (length rows) bounds')) (sym o) (subst (λ (l : List ℕ). Fits test.answer (row_of kind rows) a.chosen l) (sym b) f.1);
        in_time = λ i h. timely a.chosen a.answered f.1 i (omega arith) (sym (get_or-take (length rows) order' i 0 h) ∙ ap (λ (l : List ℕ). get_or l i 0) o) (sym (get_or-take (length rows) bounds' i 0 h) ∙ ap (λ (l : List ℕ). get_or l i 0) b);
        holds = rw (o, b) ((laws kind test rules rows).accepted_holds a.chosen a.answered questions a.found);
      }
    where
      timely : {p b : ℕ} (chosen answered : List ℕ) → Fits test.answer (row_of kind rows) chosen answered → (i : ℕ) → i < length chosen → p ≡ get_or chosen i 0 → b ≡ get_or answered i 0 → (1 ≤ b) × (b ≤ kind.deadline (row_of kind rows p))
      timely chosen answered f i h ep eb = rw (ep, eb) (rules.in_deadline (row_of kind rows (get_or chosen i 0)) _ (get_or answered i 0) (f.fits i h))

  pub some_fits : {order order' bounds bounds' : List ℕ} {questions : ℕ} → Accepts kind test rows order order' bounds bounds' questions → (false ≡ true) ↔ NoneFits kind test rows
  some_fits {questions = questions} a = (λ e. absurd (false≢true e), λ none. absurd (clash none))
    where
      clash : NoneFits kind test rows → ⊥
      clash none =
          let f = (laws kind test rules rows).accepted_fits a.chosen a.answered questions a.found in
          let u = none a.chosen f.0 in
          not_both u.2 (f.1.fits u.0 u.1)

  pub none_fits : {order order' bounds bounds' : List ℕ} {s : Left} → Sticks kind test rows order order' bounds bounds' s → (true ≡ true) ↔ NoneFits kind test rows
  none_fits {s = s} a = (λ _. (laws kind test rules rows).stuck_exactly.0 (a.left, s.questions, a.found), λ _. refl)

  pub largest : {order order' bounds bounds' : List ℕ} {s : Left} → Sticks kind test rows order order' bounds bounds' s → Largest kind test rows s.mask
  largest {s = s} a = record {
    is_stuck_set = subst (Stuck test.answer (row_of kind rows)) a.left_is ((laws kind test rules rows).left_stuck a.left s.questions a.found).1;
    has_every = λ set p k. subst (Part set) a.left_is ((laws kind test rules rows).left_largest a.left s.questions a.found set p k);
  }
