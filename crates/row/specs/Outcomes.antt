-- What `write` answers and leaves in the lent output, both functions of the lent bytes, and what lengths and places answers hold. Assumes
-- nothing: these are definitions.
use Rattle.std.specs.Prelude.{◌≡◌, List, ℕ, ◌≤◌, length}
use Rattle.std.proofs.Math.Option.{Option, none, some}
use Rattle.layout.specs.Refusals.{Refusal, numbered, broken_at}
use Rattle.layout.specs.Entries.{Verdict, done, refused, Sized, takes, refused_with, write_of, written_of}
use Rattle.answers.specs.Meaning.{Length}
use Rattle.answers.specs.Meaning.{length_means}

-- the answer r, and what the output out holds after
pub record WritesTo (s l out : List ℕ) (r : Length) (out' : List ℕ) : Type 0 where
  pub answers : length_means r ≡ write_of s l (length out)
  pub leaves : out' ≡ written_of s l out

-- the length in an answer
abbrev pub length_in : Sized → ℕ
length_in (takes n) = n
length_in (refused_with r k) = k

-- a place in an answer is at most n
abbrev pub Low : ℕ → Refusal → Type 0
Low n (numbered m) = Unit {0}
Low n (broken_at place) = place ≤ n

abbrev pub LowIn : ℕ → Option Refusal → Type 0
LowIn n none = Unit {0}
LowIn n (some r) = Low n r

abbrev pub LowVerdict : ℕ → Verdict → Type 0
LowVerdict n done = Unit {0}
LowVerdict n (refused r) = Low n r

abbrev pub LowSized : ℕ → Sized → Type 0
LowSized n (takes m) = Unit {0}
LowSized n (refused_with r k) = Low n r
