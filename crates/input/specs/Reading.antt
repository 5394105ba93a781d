-- What is known of the bytes read. Which bytes come, and when a read fails, no contract of the system's calls says.
use Rattle.std.specs.Prelude.{ℕ, ◌<◌, ◌≤◌, ◌≡◌, Bool, true, List, length, take, ◌++◌, codes, decimal, Result, Ok, Err}
use Rattle.input.specs.declared.ReadFailed.{ReadFailed}

-- how many bytes were read, of all or before the read that failed
abbrev pub count_of : Result ℕ ReadFailed → ℕ
count_of (Ok count) = count
count_of (Err e) = e.count

-- what is written of a read that failed
abbrev pub failed_text : ReadFailed → List ℕ
failed_text e = codes "a read failed behind " ++ decimal e.count ++ codes " bytes"

-- what a read that gave this comes to, behind so many bytes: the bytes that came, none at the end, or that it failed
abbrev pub came : {E : Type 0} → ℕ → Result ℕ E → Result ℕ ReadFailed
came count (Ok more) = Ok more
came count (Err e) = Err (record { count = count })

-- `&xs[..n]` is in bounds and has n bytes
abbrev pub IsPrefixLen : ℕ → List ℕ → Type 0
IsPrefixLen n xs = (n ≤ length xs) × (n ≡ length (take n xs))

-- of the count, the mark of a failure and the buffer afterwards
pub record ReadPromised (count : ℕ) (failed : Bool) (bytes : List ℕ) : Type 0 where
  -- the bytes that were read are the first so many of the buffer
  pub counts : IsPrefixLen count bytes
  -- a full buffer was read without a failure
  pub short : failed ≡ true → count < length bytes
