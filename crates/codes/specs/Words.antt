-- An answer in words, behind its code; reading's has four. Assumes nothing: these are definitions.
use Rattle.std.specs.Prelude.{◌≡◌, cond, List, [], ◌∷◌, ℕ, ◌+◌, ◌*◌, ◌^◌, leb, length}
use Rattle.std.proofs.Math.Option.{Option, none, some}
use Rattle.std.proofs.lemmas.List.Edits.{sets}
use Rattle.words.specs.Bits.{digit}
use Rattle.words.specs.Signed.{half_of, of_signed}
use Rattle.layout.specs.Reading as R
use Rattle.layout.specs.Reading.{Answer}
use Rattle.layout.specs.Refusals.{Refusal}
use Rattle.layout.specs.Setting.{refusal_in}
use Rattle.codes.specs.Codes.{refusal_code}

-- the kind; then the bool, the number's 64 bits or the float's bits; or start, length, and a container's count; unused words are 0
abbrev pub words_of : Answer → List ℕ
words_of R.null = 0 ∷ 0 ∷ 0 ∷ 0 ∷ []
words_of (R.bool v) = 1 ∷ digit v ∷ 0 ∷ 0 ∷ []
words_of (R.signed z) = 2 ∷ of_signed (half_of 8) z ∷ 0 ∷ 0 ∷ []
words_of (R.float32 n) = 3 ∷ n ∷ 0 ∷ 0 ∷ []
words_of (R.float64 n) = 4 ∷ n ∷ 0 ∷ 0 ∷ []
words_of (R.bytes o n) = 5 ∷ o ∷ n ∷ 0 ∷ []
words_of (R.container o n k) = 6 ∷ o ∷ n ∷ k ∷ []
words_of (R.refused r) = []

-- fewer than n words are refused last, with 4 and the length n
abbrev pub room_code : ℕ → ℕ → ℕ
room_code n room = cond (leb n room) 0 (4 * 2 ^ 32 + n)

abbrev pub put : ℕ → List ℕ → List ℕ → List ℕ
put n words out = cond (leb n (length out)) (sets out 0 words) out

abbrev pub code_after : Option Refusal → ℕ → ℕ → ℕ
code_after none n room = room_code n room
code_after (some r) n room = refusal_code r

abbrev pub left_after : Option Refusal → ℕ → List ℕ → List ℕ → List ℕ
left_after none n words out = put n words out
left_after (some r) n words out = out

-- an answer that is refused, or told in n words, with the words out lent: its code r, and the words after
pub record Told (n : ℕ) (refusal : Option Refusal) (words out : List ℕ) (r : ℕ) (out' : List ℕ) : Type 0 where
  pub answers : r ≡ code_after refusal n (length out)
  pub leaves : out' ≡ left_after refusal n words out

-- what reading answers as a
abbrev pub Tells : Answer → List ℕ → ℕ → List ℕ → Type 0
Tells a out r out' = Told 4 (refusal_in a) (words_of a) out r out'
