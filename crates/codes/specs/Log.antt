-- What asking for one chord of a log answers a C program: its tick and its keys, in two words lent. Assumes nothing: these are definitions.
use Rattle.std.proofs.Math.Option.{Option, none, some}
use Rattle.std.specs.Prelude.{List, [], ◌∷◌, ℕ}
use Rattle.layout.specs.Refusals.{Refusal}
use Rattle.strokes.specs.Entries.{Reading, is}
use Rattle.strokes.specs.Entries as S

abbrev pub chord_refusal : Reading → Option Refusal
chord_refusal (is c) = none
chord_refusal (S.refused r) = some r

abbrev pub chord_words : Reading → List ℕ
chord_words (is c) = c.tick ∷ c.keys ∷ []
chord_words (S.refused r) = []
