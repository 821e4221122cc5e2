-- What holds of batches, as it is read. Assumes nothing: these are definitions.
use Rattle.std.specs.Prelude.{◌≡◌, ◌⊎◌, ◌↔◌, ◌≢◌, List, [], ◌∷◌, ◌++◌, ℕ, ◌+◌, ◌≤◌, ◌<◌, length, take, get_or, set}
use Rattle.std.proofs.Math.Option.{some}
use Rattle.std.proofs.lemmas.List.Edits.{sets}
use Rattle.words.specs.Bytes.{Bytes, part}
use Rattle.schema.specs.Reading.{judged}
use Rattle.schema.specs.declared.Judged.TheVariants.{Accepted}
use Rattle.layout.specs.Setting.{Setting, becomes}
use Rattle.layout.specs.Entries.{takes}
use Rattle.layout.specs.Entries as E
use Rattle.layout.specs.Demand2.{ListThenWrite}
use Rattle.layout.specs.Demand3.{Proper, refusal_of, SetsWell}
use Rattle.batch.specs.Frames.{framing, Framable, framed}
use Rattle.batch.specs.Entries as B
use Rattle.batch.specs.Entries.{range, rows_of, row_of, start_of, fetch_of, check_of, append_of, appended_of, read_of, set_of}

-- check accepts every row
pub data AllChecked (s : List ℕ) : List (List ℕ) → Type 0 where
  checked_none : AllChecked s []
  checked_row : {row : List ℕ} {rows : List (List ℕ)} → E.check_of s row ≡ E.done → AllChecked s rows → AllChecked s (row ∷ rows)

-- an accepted batch: an accepted schema, and frames whose rows check accepts
pub record Sound (s b : List ℕ) : Type 0 where
  pub schema : judged s ≡ Accepted
  pub rows : List (List ℕ)
  pub is : framed b ≡ some rows
  pub checked : AllChecked s rows

-- rows appended in turn to the batch of `used` bytes in a room, each append accepted, leave a batch of used' bytes in room'
pub data AppendAll (s : List ℕ) : List ℕ → ℕ → List (List ℕ) → List ℕ → ℕ → Type 0 where
  stay : {room : List ℕ} {used : ℕ} → AppendAll s room used [] room used
  next : {room room' : List ℕ} {used n used' : ℕ} {row : List ℕ} {rows : List (List ℕ)} → append_of s room used row ≡ takes n
      → AppendAll s (appended_of s room used row) n rows room' used' → AppendAll s room used (row ∷ rows) room' used'

-- row k fetched: a range of the batch, whose bytes are the k-th row's and which check accepts
pub record Fetches (s b : List ℕ) (k start len : ℕ) : Type 0 where
  pub there : k < length (rows_of b)
  pub within : start + len ≤ length b
  pub row : part b start len ≡ row_of b k
  pub checks : E.check_of s (row_of b k) ≡ E.done

-- a setting in row k: that row becomes what setting it gives and reads so, and no other byte changes
pub record SetsRow (s b : List ℕ) (k : ℕ) (p : List ℕ) (x : Setting) (b' : List ℕ) : Type 0 where
  pub row' : List ℕ
  pub is : E.set_of s (row_of b k) p x ≡ becomes row'
  pub rows : framed b' ≡ some (set (rows_of b) k row')
  pub reads : (q : List ℕ) → read_of s b' k q ≡ E.read_of s row' q
  pub long : length b' ≡ length b
  pub others : (i : ℕ) → (i < start_of b k) ⊎ (start_of b k + length (row_of b k) ≤ i) → get_or b' i 0 ≡ get_or b i 0

-- row j is the same row in both batches, and every path of it reads the same
pub record SameRow (s b b' : List ℕ) (j : ℕ) : Type 0 where
  pub row : row_of b' j ≡ row_of b j
  pub reads : (q : List ℕ) → read_of s b' j q ≡ read_of s b j q

-- Of a batch, x set at p in row j made b₁ and y set at q in row k made b₂. Setting each where the other was set first leaves the same bytes.
pub record Meet (s b₁ b₂ : List ℕ) (j k : ℕ) (p q : List ℕ) (x y : Setting) : Type 0 where
  pub end : List ℕ
  pub j-first : set_of s b₁ k q y ≡ becomes end
  pub k-first : set_of s b₂ j p x ≡ becomes end

-- a row of an accepted batch is accepted, so that all that demands 2 and 3 say of an accepted row is said of it
pub record RowDemands (s row : List ℕ) : Type 0 where
  pub bytes : Bytes row
  pub checks : E.check_of s row ≡ E.done
  pub lists : ListThenWrite s row
  pub sets : SetsWell s row

pub record Batches (s : List ℕ) : Type 0 where
  -- taken apart and framed again, and framed and taken apart again
  pub apart : (b : List ℕ) (rows : List (List ℕ)) → Bytes b → framed b ≡ some rows → framing rows ≡ b
  pub together : (rows : List (List ℕ)) → Framable rows → framed (framing rows) ≡ some rows
  -- check accepts a batch exactly when it accepts every row
  pub accepted : (b : List ℕ) → (check_of s b ≡ B.done) ↔ Sound s b
  -- an accepted batch taken apart, and its rows appended again: the same bytes
  pub again : (b room : List ℕ) → Bytes b → check_of s b ≡ B.done → length b ≤ length room → AppendAll s room 0 (rows_of b) (sets room 0 b) (length b)
  -- after an accepted append the rows are those before and the new one
  pub append : (room : List ℕ) (used n : ℕ) (row : List ℕ) → Bytes room → append_of s room used row ≡ takes n
      → framed (take n (appended_of s room used row)) ≡ some (rows_of (take used room) ++ (row ∷ []))
  pub fetch : (b : List ℕ) (k start len : ℕ) → Bytes b → fetch_of s b k ≡ range start len → Fetches s b k start len
  -- the demands hold of each row
  pub each : (b : List ℕ) (k : ℕ) → Bytes b → check_of s b ≡ B.done → k < length (rows_of b) → RowDemands s (row_of b k)
  -- a setting alters its own row alone
  pub set : (b : List ℕ) (k : ℕ) (p : List ℕ) (x : Setting) (b' : List ℕ) → Bytes b → set_of s b k p x ≡ becomes b' → SetsRow s b k p x b'
  -- an accepted batch stays accepted
  pub still : (b : List ℕ) (k : ℕ) (p : List ℕ) (x : Setting) (b' : List ℕ) → Bytes b → check_of s b ≡ B.done → Proper x → set_of s b k p x ≡ becomes b'
      → check_of s b' ≡ B.done
  -- every path of every other row reads as before
  pub others : (b : List ℕ) (j k : ℕ) (p : List ℕ) (x : Setting) (b' : List ℕ) → Bytes b → j ≢ k → set_of s b k p x ≡ becomes b' → SameRow s b b' j
  -- settings in two rows leave the same bytes in either order
  pub either_order : (b : List ℕ) (j k : ℕ) (p q : List ℕ) (x y : Setting) (b₁ b₂ : List ℕ) → Bytes b → j ≢ k
      → set_of s b j p x ≡ becomes b₁ → set_of s b k q y ≡ becomes b₂ → Meet s b₁ b₂ j k p q x y
  -- and a setting in one row changes no refusal of a setting in another
  pub unmoved : (b : List ℕ) (j k : ℕ) (p q : List ℕ) (x y : Setting) (b' : List ℕ) → Bytes b → j ≢ k → set_of s b j p x ≡ becomes b'
      → refusal_of (set_of s b' k q y) ≡ refusal_of (set_of s b k q y)
