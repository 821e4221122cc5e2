-- The numbers of chords one behind another, and chord n of rows in turn. Assumes nothing.
use Rattle.std.proofs.Common.{◌≡◌, ℕ, ◌+◌, ◌*◌, ◌≤◌, List, [], ◌∷◌, ◌++◌, length, set, refl, ap, ◌∙◌, add-one, arith}
use lib.Seq.{sets}
use Rattle.words.proofs.Runs.{sets_then}
use Rattle.chords.specs.declared.Chord.{Chord}
use Rattle.chords.specs.Chords.{chord_at}
use Rattle.strokes.specs.Log.{chords_in}
use Rattle.strokes.specs.Entries.{numbers_of}
use Rattle.strokes.proofs.Logs.{one-at-least}

pub numbers-append : (cs ds : List Chord) → numbers_of (cs ++ ds) ≡ numbers_of cs ++ numbers_of ds
unfolding numbers_of
numbers-append [] ds = refl
numbers-append (c ∷ cs) ds = ap (λ (l : List ℕ). c.tick ∷ c.keys ∷ l) (numbers-append cs ds)

pub numbers-long : (cs : List Chord) → length (numbers_of cs) ≡ 2 * length cs
unfolding numbers_of
numbers-long [] = refl
numbers-long (c ∷ cs) = omega (arith, numbers-long cs)

pub chord-put : (out : List ℕ) (i : ℕ) (c : Chord) → set (set out i c.tick) (i + 1) c.keys ≡ sets out i (numbers_of (c ∷ []))
unfolding numbers_of
chord-put out i c = rw add-one

pub two-at-least : (row : List ℕ) → 2 ≤ length (numbers_of (chords_in row))
two-at-least row = rw (numbers-long (chords_in row)) (omega (arith, one-at-least row))

pub four-of : (row : List ℕ) → chords_in row ≡ chord_at row 0 ∷ chord_at row 1 ∷ [] → length (numbers_of (chords_in row)) ≡ 4
four-of row e = rw (numbers-long (chords_in row), e)

-- a row's chords, put one after another
pub one-put : (out : List ℕ) (i : ℕ) (row : List ℕ) → {c : Chord} {out' : List ℕ} → chords_in row ≡ chord_at row 0 ∷ [] → c ≡ chord_at row 0
    → out' ≡ sets out i (numbers_of (c ∷ [])) → (i + 2 ≡ i + length (numbers_of (chords_in row))) × (out' ≡ sets out i (numbers_of (chords_in row)))
unfolding numbers_of
one-put out i row e p q = (rw e refl, rw (e, ← p) q)

pub two-put : (out : List ℕ) (i : ℕ) (row : List ℕ) → {c d : Chord} {mid out' : List ℕ} → chords_in row ≡ chord_at row 0 ∷ chord_at row 1 ∷ []
    → c ≡ chord_at row 0 → d ≡ chord_at row 1 → mid ≡ sets out i (numbers_of (c ∷ [])) → out' ≡ sets mid (i + 2) (numbers_of (d ∷ []))
    → (i + 4 ≡ i + length (numbers_of (chords_in row))) × (out' ≡ sets out i (numbers_of (chords_in row)))
unfolding numbers_of
two-put out i row {c} {d} e p r q s = (
  rw e refl,
  rw (e, ← p, ← r) (s ∙ ap (λ (l : List ℕ). sets l (i + 2) (numbers_of (d ∷ []))) q
      ∙ sets_then out i (i + 2) (numbers_of (c ∷ [])) (numbers_of (d ∷ [])) refl),
)
