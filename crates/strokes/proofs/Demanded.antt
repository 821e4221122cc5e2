-- Demand 1 for logs, and one outcome for each input. Assumes nothing.
use Rattle.std.specs.Prelude.{Result, Ok, Err}
use Rattle.std.proofs.Common.{◌≡◌, ℕ, Bool, true, false, ltb, leb, List, [], ◌∷◌, length, get_or, sym, refl, ap, ◌∙◌, arith, leb-true}
use mathlib.Core.Option.{Option, none}
use Rattle.layout.specs.Refusals as N
use Rattle.layout.specs.Setting.{◌or◌}
use Rattle.layout.specs.Entries.{Sized, refused_with, filled}
use Rattle.answers.specs.Meaning.{refusal_means}
use Rattle.answers.proofs.Unique.{number-one, length-one}
use Rattle.row.specs.Demand1.{here, there, number, place}
use Rattle.row.proofs.Among.{not-among}
use Rattle.row.proofs.Demand1.{Among, nothing, one, among-or, unless-among}
use Rattle.batch.specs.Frames.{framed}
use Rattle.batch.specs.Entries.{rows_of, lent_rows}
use Rattle.chords.specs.declared.Chord.{Chord}
use Rattle.answers.specs.declared.Refusal.{Refusal}
use Rattle.chords.specs.Chords.{chord}
use Rattle.strokes.specs.Log.{chords_of, log_bad, window_bad}
use Rattle.strokes.specs.Entries as S
use Rattle.strokes.specs.Entries.{held_after, log_with, add_of, added_of, numbers_in, read_of, read_into, Reading, chord_after, chord_missing, chord_of}
use Rattle.strokes.specs.Meaning.{chord_means}
use Rattle.strokes.specs.Demand1 as D
use Rattle.strokes.specs.Demand1.{Fills, Strikes, filling, Demand1}
use Rattle.strokes.specs.Unique.{Unique}
use Rattle.strokes.proofs.Numbers.{log-among}

held-fills : (m : Option N.Refusal) (need room : ℕ) → Among filling m → Fills filling room (held_after m need room)
held-fills m need room (one q) = D.refuses q
held-fills m need room nothing = go (leb need room) refl
  where
    go : (v : Bool) → leb need room ≡ v → Fills filling room (held_after none need room)
    go true e = rw e (D.fills (leb-true need room e))
    go false e = rw e (D.refuses (number (there (there (there here))) (λ z. omega arith)))

log-fills : (m : Option (List (List ℕ))) → Among filling (log_bad m)
log-fills m = log-among m here (there here) (there (there here))

add-fills : (room : List ℕ) (used : ℕ) (c : Chord) (window : ℕ) → Fills filling (length room) (add_of room used c window)
unfolding add_of
add-fills room used c window =
    held-fills _ (length (log_with room used c window)) (length room)
    (among-or (log_bad (lent_rows room used)) (window_bad window) (log-fills (lent_rows room used))
    (unless-among (leb window 1000) 11 (there (there (there here))) (λ z. omega arith)))

read-fills : (log : List ℕ) (room : ℕ) → Fills filling room (read_of log room)
unfolding read_of
read-fills log room = held-fills (log_bad (framed log)) (length (numbers_in log)) room (log-fills (framed log))

after-strikes : {ns : List ℕ} (m : Option N.Refusal) (c : Chord) → Among ns m → Strikes ns (chord_after m c)
after-strikes m c nothing = D.strikes
after-strikes m c (one q) = D.refuses q

chord-strikes : (log : List ℕ) (n : ℕ) → Strikes (10 ∷ 3 ∷ 7 ∷ 5 ∷ []) (chord_of log n)
unfolding chord_of
chord-strikes log n =
    after-strikes _ (get_or (chords_of (rows_of log)) n (chord 0 0))
    (among-or (log_bad (framed log)) (chord_missing log n) (log-among (framed log) here (there here) (there (there here)))
    (unless-among (ltb n (length (chords_of (rows_of log)))) 5 (there (there (there here))) (λ z. omega arith)))

left : (u out : List ℕ) {z : Sized} {r : N.Refusal} {k : ℕ} → z ≡ refused_with r k → filled z u out ≡ out
left u out e = rw e

pub demand1 : Demand1
unfolding added_of read_into
demand1 = record {
  add = add-fills;
  read = read-fills;
  chord = chord-strikes;
  add-leaves = λ room used c window r k e. left _ _ e;
  read-leaves = λ log out r k e. left _ _ e;
}

-- ---- one outcome

-- no chord is refused with 4, which alone has a length that a number doesn't tell
no-four : (v : Reading) → Strikes (10 ∷ 3 ∷ 7 ∷ 5 ∷ []) v → v ≡ S.refused (N.numbered 4) → ⊥
no-four v D.strikes e = let z : ◌≡◌ {A = ℕ} 0 1 = cc in absurd (omega arith)
no-four v (D.refuses (number {n = n} o _)) e = let z : n ≡ 4 = cc in not-among 4 o refl z
no-four v (D.refuses (place o)) e = let z : ◌≡◌ {A = ℕ} 0 1 = cc in absurd (omega arith)

struck : (r r' : Result Chord Refusal) → chord_means r ≡ chord_means r' → (chord_means r ≡ S.refused (N.numbered 4) → ⊥) → r ≡ r'
struck (Ok c) (Ok d) e h = let z : c ≡ d = cc in ap Ok z
struck (Ok c) (Err s) e h = cc
struck (Err r) (Ok d) e h = cc
struck (Err r) (Err s) e h =
    let n : refusal_means r ≡ refusal_means s = cc in ap Err (number-one r s n (λ q. h (ap S.refused q)))

pub unique : Unique
unique = record {
  add = λ room used c window r r' b b' w w'. record { answer = length-one r r' (w.answers ∙ sym w'.answers); bytes = w.leaves ∙ sym w'.leaves };
  read = λ log out r r' u u' w w'. record { answer = length-one r r' (w.answers ∙ sym w'.answers); bytes = w.leaves ∙ sym w'.leaves };
  chord = λ log n r r' e e'. struck r r' (e ∙ sym e') (λ q. no-four (chord_of log n) (chord-strikes log n) (sym e ∙ q));
}
