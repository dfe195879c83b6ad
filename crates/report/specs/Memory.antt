-- Bytes written into a memory at a place. Assumes nothing.
use Rattle.std.specs.Prelude.{◌≡◌, ℕ, ◌+◌, ◌≤◌, List, ◌++◌, length, take, drop}
use Rattle.report.specs.declared.fields.Writer.{Writer}

-- the memory with these bytes from the place on, and all else as it was
abbrev pub with_bytes : List ℕ → ℕ → List ℕ → List ℕ
with_bytes memory at bytes = take at memory ++ bytes ++ drop (at + length bytes) memory

-- these bytes have been written at the place, and nothing else, and `next` is the place after them
pub record Puts (before : List ℕ) (at : ℕ) (bytes after : List ℕ) (next : ℕ) : Type 0 where
  pub memory : after ≡ with_bytes before at bytes
  pub place : next ≡ at + length bytes

-- the writer has written these bytes from its place on, and nothing else, and stands after them in the same memory
pub record Appends (before : Writer) (bytes : List ℕ) (after : Writer) : Type 0 where
  pub same : after.memory.ghost_name ≡ before.memory.ghost_name
  pub kept : length after.memory.now ≡ length before.memory.now
  pub within : after.at ≤ length after.memory.now
  pub puts : Puts before.memory.now before.at bytes after.memory.now after.at
