-- Memories of at least 32 entries. Assumes nothing.
use Rattle.std.proofs.Common.{◌≡◌, ℕ, ◌+◌, ◌-◌, ◌≤◌, false, List, ◌++◌, length, take, drop, replicate, sym, ap, ◌∙◌, arith, length-append, length-drop, drop-drop, take_at, drop_at}
use lib.ListN.{length-replicate}
use lib.Seq.{drop-append-add}
use borrow.Rule.Slice.PartMut.{mid_of, post_of, put_mid, mid_len, Post-is}
use Rattle.std.proofs.lemmas.List.{append_assoc, length-take-le}
use Rattle.std.proofs.lemmas.Bool.{ltb-false, le-ltb}
use Rattle.table.specs.Tables.{written}
use Rattle.plan.specs.Calls.{short}

pub long : {X : Type 0} (memory : List X) → short memory ≡ false → 32 ≤ length memory
long memory e = ltb-false (length memory) 32 e

pub not_short : {X : Type 0} (memory : List X) → 32 ≤ length memory → short memory ≡ false
not_short memory l = le-ltb (length memory) 32 l

module _ {X : Type 0} (blank : X) (entries memory : List X) where
  -- memory that is written begins with what was written, is as long as it was, and past 32 entries as it was
  pub written_first : (n : ℕ) → length entries ≡ n → take n (written blank entries memory) ≡ entries
  written_first n e = rw (append_assoc entries (replicate (32 - length entries) blank) (drop 32 memory)) (take_at entries (replicate (32 - length entries) blank ++ drop 32 memory) n e)

  pub written_length : length entries ≤ 32 → 32 ≤ length memory → length (written blank entries memory) ≡ length memory
  written_length few l = simp (length-append, length-replicate, length-drop) (omega arith)

  pub written_past : length entries ≤ 32 → drop 32 (written blank entries memory) ≡ drop 32 memory
  written_past few = drop_at (entries ++ replicate (32 - length entries) blank) (drop 32 memory) 32 (simp (length-append, length-replicate) (omega arith))

-- past what is written in front
pub front_past : {X : Type 0} (front memory : List X) (n m : ℕ) → n ≤ m → length front ≡ n → drop m (front ++ drop n memory) ≡ drop m memory
front_past front memory n m h e =
    let whole : length front + (m - n) ≡ m = omega arith in
    let back : n + (m - n) ≡ m = omega arith in
    ap (λ (k : ℕ). drop k (front ++ drop n memory)) (sym whole) ∙ (drop-append-add front (drop n memory) (m - n) ∙ (drop-drop (m - n) n memory ∙ ap (λ (k : ℕ). drop k memory) back))

pub front_length : {X : Type 0} (front memory : List X) (n : ℕ) → n ≤ length memory → length front ≡ n → length (front ++ drop n memory) ≡ length memory
front_length front memory n l e = simp (length-append, length-drop) (omega arith)

-- 0 written from a place to the 32nd
pub filled_from : (memory part : List ℕ) (n : ℕ) → n ≤ 32 → 32 ≤ length memory → part ≡ replicate (length (mid_of n (32 - n) memory)) 0 → put_mid n (32 - n) memory part ≡ written 0 (take n memory) memory
filled_from memory part n h l e =
    let size : length (mid_of n (32 - n) memory) ≡ 32 - length (take n memory) = mid_len n 32 memory l ∙ ap (λ (k : ℕ). 32 - k) (sym (length-take-le n memory (omega arith))) in
    let zeros : part ≡ replicate (32 - length (take n memory)) 0 = e ∙ ap (λ (k : ℕ). replicate k 0) size in
    ap (λ (ys : List ℕ). take n memory ++ (ys ++ post_of n (32 - n) memory)) zeros
    ∙ (ap (λ (ys : List ℕ). take n memory ++ (replicate (32 - length (take n memory)) 0 ++ ys)) (Post-is n 32 memory h) ∙ sym (append_assoc (take n memory) (replicate (32 - length (take n memory)) 0) (drop 32 memory)))

-- what is written over the first entries of two memories, alike past 32
pub written_same : (entries memory memory' : List ℕ) → drop 32 memory' ≡ drop 32 memory → written 0 entries memory' ≡ written 0 entries memory
written_same entries memory memory' e = ap (λ (ys : List ℕ). entries ++ replicate (32 - length entries) 0 ++ ys) e
