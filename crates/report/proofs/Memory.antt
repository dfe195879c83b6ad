-- Bytes written one after the other. Assumes nothing.
use Rattle.std.proofs.Common.{◌≡◌, ℕ, ◌+◌, ◌≤◌, List, ◌++◌, length, take, drop, ◌∙◌, arith}
use Rattle.std.proofs.lemmas.List.{append_assoc, take_at, length-append, length-take-le}
use Rattle.std.proofs.lemmas.Slice.{drop-append-drop}
use Rattle.report.specs.declared.fields.Writer.{Writer}
use Rattle.report.specs.Memory.{with_bytes, Appends}

put_join : (m : List ℕ) (at : ℕ) (xs ys : List ℕ) → at + length xs ≤ length m → with_bytes (with_bytes m at xs) (at + length xs) ys ≡ with_bytes m at (xs ++ ys)
put_join m at xs ys l =
    let front : length (take at m ++ xs) ≡ at + length xs = omega (arith, length-append (take at m) xs, length-take-le at m (omega arith)) in
    let end : at + length xs + length ys ≡ at + length (xs ++ ys) = omega (arith, length-append xs ys) in
    rw (
      take_at (take at m ++ xs) (drop (at + length xs) m) (at + length xs) front,
      drop-append-drop (at + length xs) m (take at m ++ xs) (at + length xs + length ys) (omega arith) front,
      end,
      append_assoc (take at m) xs ys,
    )

pub appends_join : {a b c : Writer} {xs ys : List ℕ} → Appends a xs b → Appends b ys c → Appends a (xs ++ ys) c
appends_join {a} {xs = xs} {ys = ys} d e =
    record {
      same = cc;
      kept = cc;
      within = e.within;
      puts = record { memory = e.puts.memory ∙ rw (d.puts.memory, d.puts.place) (put_join a.memory.now a.at xs ys (omega arith)); place = omega (arith, length-append xs ys) };
    }
