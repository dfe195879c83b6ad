-- Lists as sets: what the definitions of specs.Bags and `others` give. Assumes nothing.
use Rattle.std.proofs.Common.{◌≡◌, ℕ, suc, ◌≤◌, Bool, true, false, cond, T, eqb, ◌⊎◌, List, [], ◌∷◌, ◌++◌, map, length, sym, refl, ap, ◌∙◌, subst, inl, inr, arith, eqb→eq, length-append}
use mathlib.Core.Bool.{false≢true}
use mathlib.Core.List.Memᴰ
use mathlib.Core.List.{Memᴰ}
use mathlib.Core.List.Permᴰ
use mathlib.Core.List.{Permᴰ}
use lib.Dec.{eqb_refl}
use Rattle.std.proofs.lemmas.List.{map-append}
use Rattle.model.specs.Bags.{◌∈◌, ◌~◌, Part}
use Rattle.assign.specs.Assignment.{others}

-- tests

eqb_true : (p x : ℕ) → eqb p x ≡ true → p ≡ x
eqb_true p x e = eqb→eq p x (subst T (sym e) tt)

t_true : (b : Bool) → T b → b ≡ true
t_true true h = refl
t_true false h = absurd h

pub eqb_same : (p : ℕ) → eqb p p ≡ true
eqb_same p = t_true (eqb p p) (eqb_refl p)

-- any type

module _ {X : Type 0} where
  pub mem-~ : {x : X} {xs ys : List X} → xs ~ ys → x ∈ xs → x ∈ ys
  mem-~ Permᴰ.nil m = m
  mem-~ (Permᴰ.cons e d) (Memᴰ.head f) = Memᴰ.head (f ∙ e)
  mem-~ (Permᴰ.cons e d) (Memᴰ.tail m) = Memᴰ.tail (mem-~ d m)
  mem-~ (Permᴰ.swap e f) (Memᴰ.head g) = Memᴰ.tail (Memᴰ.head (g ∙ e))
  mem-~ (Permᴰ.swap e f) (Memᴰ.tail (Memᴰ.head g)) = Memᴰ.head (g ∙ f)
  mem-~ (Permᴰ.swap e f) (Memᴰ.tail (Memᴰ.tail m)) = Memᴰ.tail (Memᴰ.tail m)
  mem-~ (Permᴰ.trans d f) m = mem-~ f (mem-~ d m)

  pub length-~ : {xs ys : List X} → xs ~ ys → length xs ≡ length ys
  length-~ Permᴰ.nil = refl
  length-~ (Permᴰ.cons e d) = ap suc (length-~ d)
  length-~ (Permᴰ.swap e f) = refl
  length-~ (Permᴰ.trans d f) = length-~ d ∙ length-~ f

  pub map-~ : {Y : Type 0} (f : X → Y) {xs ys : List X} → xs ~ ys → map f xs ~ map f ys
  map-~ f Permᴰ.nil = Permᴰ.nil
  map-~ f (Permᴰ.cons e d) = Permᴰ.cons (ap f e) (map-~ f d)
  map-~ f (Permᴰ.swap e g) = Permᴰ.swap (ap f e) (ap f g)
  map-~ f (Permᴰ.trans d g) = Permᴰ.trans (map-~ f d) (map-~ f g)

  pub snoc-~ : (x : X) (xs : List X) → xs ++ x ∷ [] ~ x ∷ xs
  snoc-~ x xs = Permᴰ.trans (Permᴰ.middle x xs []) (Permᴰ.cons refl (Permᴰ.append-nil xs))

-- places

pub others_first : (p : ℕ) (xs : List ℕ) → others p (p ∷ xs) ≡ xs
others_first p xs = rw (eqb_same p)

pub others-~ : (p : ℕ) {xs ys : List ℕ} → xs ~ ys → others p xs ~ others p ys
others-~ p Permᴰ.nil = Permᴰ.nil
others-~ p (Permᴰ.cons {a = a} {b = b} {l₁ = l} {l₂ = m} e d) =
    let P : ℕ → Type 0 = λ x. cond (eqb p x) l (x ∷ others p l) ~ cond (eqb p b) m (b ∷ others p m) in
    subst P (sym e) (elim (eqb p b) as (λ t. cond t l (b ∷ others p l) ~ cond t m (b ∷ others p m)) [ true ↦ d | false ↦ Permᴰ.cons refl (others-~ p d) ])
others-~ p (Permᴰ.swap {a = a} {b = b} {a' = c} {b' = d} {l = l} e f) =
    rw (e, f) (go (eqb p d) (eqb p c) refl refl)
  where
    go : (s t : Bool) → eqb p d ≡ s → eqb p c ≡ t → cond s (c ∷ l) (d ∷ cond t l (c ∷ others p l)) ~ cond t (d ∷ l) (c ∷ cond s l (d ∷ others p l))
    go true true g h = Permᴰ.cons (sym (eqb_true p c h) ∙ eqb_true p d g) (Permᴰ.refl l)
    go true false g h = Permᴰ.refl (c ∷ l)
    go false true g h = Permᴰ.refl (d ∷ l)
    go false false g h = Permᴰ.swap refl refl
others-~ p (Permᴰ.trans d f) = Permᴰ.trans (others-~ p d) (others-~ p f)

-- taking p out and putting it in front
pub others_front : (p : ℕ) (xs : List ℕ) → p ∈ xs → xs ~ p ∷ others p xs
others_front p [] m = elim m [ ]
others_front p (x ∷ xs) m = go (eqb p x) refl (others_front p xs) (Memᴰ.cases_cons m)
  where
    go : (s : Bool) → eqb p x ≡ s → (p ∈ xs → xs ~ p ∷ others p xs) → (p ≡ x) ⊎ (p ∈ xs) → x ∷ xs ~ p ∷ cond s xs (x ∷ others p xs)
    go true e ih h = Permᴰ.cons (sym (eqb_true p x e)) (Permᴰ.refl xs)
    go false e ih (inl h) = absurd (false≢true (sym e ∙ (ap (λ (y : ℕ). eqb p y) (sym h) ∙ eqb_same p)))
    go false e ih (inr h) = Permᴰ.trans (Permᴰ.cons refl (ih h)) (Permᴰ.swap refl refl)

-- where p stands first, it can be taken out of both
pub front_out : (p : ℕ) {xs ys : List ℕ} → p ∷ xs ~ ys → xs ~ others p ys
front_out p {xs} {ys} d = subst (λ (l : List ℕ). l ~ others p ys) (others_first p xs) (others-~ p d)

pub front_out_both : (p : ℕ) {xs ys : List ℕ} → p ∷ xs ~ p ∷ ys → xs ~ ys
front_out_both p {xs} {ys} d = subst (λ (l : List ℕ). xs ~ l) (others_first p ys) (front_out p d)

-- parts

pub part-~ : {X : Type 0} {part whole other : List X} → Part part whole → whole ~ other → Part part other
part-~ h e = record { rest = h.rest; makes = Permᴰ.trans h.makes e }

pub part_all : {X : Type 0} (xs : List X) → Part xs xs
part_all xs = record { rest = []; makes = Permᴰ.append-nil xs }

pub part_map : {X Y : Type 0} (f : X → Y) {part whole : List X} → Part part whole → Part (map f part) (map f whole)
part_map {Y} f {part} {whole} h = record { rest = map f h.rest; makes = subst (λ (l : List Y). l ~ map f whole) (map-append f part h.rest) (map-~ f h.makes) }

pub part_more : {X : Type 0} (x : X) {part whole : List X} → Part part whole → Part part (x ∷ whole)
part_more x {part} h = record { rest = x ∷ h.rest; makes = Permᴰ.trans (Permᴰ.middle x part h.rest) (Permᴰ.cons refl h.makes) }

pub no_length : {X : Type 0} (xs : List X) → length xs ≡ 0 → xs ≡ []
no_length [] e = refl
no_length (x ∷ xs) e = absurd (omega arith)

pub part_length : {X : Type 0} {part whole : List X} → Part part whole → length part ≤ length whole
part_length {part} h = omega (arith, length-append part h.rest, length-~ h.makes)

pub part_empty : {X : Type 0} {part : List X} → Part part [] → part ≡ []
part_empty {part} h = no_length part (omega (arith, part_length h))

-- two lists that are parts of each other have the same members
pub part_both : {X : Type 0} {xs ys : List X} → Part xs ys → Part ys xs → xs ~ ys
part_both {X} {xs} {ys} h k =
    let none : h.rest ≡ [] = no_length h.rest (omega (arith, length-append xs h.rest, length-~ h.makes, part_length k)) in
    Permᴰ.trans (Permᴰ.symm (Permᴰ.append-nil xs)) (subst (λ (r : List X). xs ++ r ~ ys) none h.makes)

-- a part of p and others has p or not, and what it has besides p is a part of the others
pub part_cases : (p : ℕ) {part whole : List ℕ} → Part part (p ∷ whole) → ((p ∈ part) × Part (others p part) whole) ⊎ Part part whole
part_cases p {part} {whole} h = go (Memᴰ.append_cases part (mem-~ (Permᴰ.symm h.makes) (Memᴰ.head refl)))
  where
    go : (p ∈ part) ⊎ (p ∈ h.rest) → ((p ∈ part) × Part (others p part) whole) ⊎ Part part whole
    go (inl m) = inl (m, record { rest = h.rest; makes = front_out_both p (Permᴰ.trans (Permᴰ.append_right h.rest (Permᴰ.symm (others_front p part m))) h.makes) })
    go (inr m) = inr (record { rest = others p h.rest; makes = front_out_both p (Permᴰ.trans (Permᴰ.symm (Permᴰ.middle p part (others p h.rest))) (Permᴰ.trans (Permᴰ.append_left part (Permᴰ.symm (others_front p h.rest m))) h.makes)) })
