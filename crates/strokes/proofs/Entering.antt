-- What the entries answer and leave, by what judging the log came to. Assumes nothing.
use Rattle.std.specs.Prelude.{Result, Ok, Err}
use Rattle.std.proofs.Common.{◌≡◌, ℕ, ◌*◌, ◌<◌, ◌≤◌, List, length, get_or, take, sym, refl, ap, ◌∙◌, subst, arith, le-ltb, lt-ltb, le-leb}
use mathlib.Core.Option.{none, some}
use lib.Seq.{sets}
use borrow.Author.Tests.{lt-leb}
use Rattle.layout.specs.Refusals as N
use Rattle.layout.specs.Setting.{◌or◌}
use Rattle.layout.specs.Entries.{Sized, refused_with, filled}
use Rattle.answers.specs.declared.Refusal.{Refusal}
use Rattle.answers.specs.declared.Refusal.TheVariants as F
use Rattle.answers.specs.Meaning.{Length, refusal_means, length_of, length_means}
use Rattle.batch.specs.Frames.{framing, framed}
use Rattle.batch.specs.Entries.{rows_of}
use Rattle.batch.proofs.Added.{lent_none, lent_is}
use Rattle.chords.specs.declared.Chord.{Chord}
use Rattle.strokes.specs.declared.Judged.{Judged}
use Rattle.chords.specs.Chords.{chord}
use Rattle.strokes.specs.Log.{chords_of, log_bad, added}
use Rattle.strokes.specs.Entries.{held_after, log_with, add_of, added_of, numbers_in, read_of, read_into, chord_of}
use Rattle.strokes.specs.Meaning.{Adds, ReadsAll, chord_means}
use Rattle.strokes.specs.Places.{Sound, InOrder, JudgedAs, is_sound, is_refused, AddsTo}
use Rattle.strokes.proofs.Listed.{numbers-long}

-- ---- what judging came to, by the case of its answer

module _ {log : List ℕ} where
  pub sound-of : {r : Result Judged Refusal} {j : Judged} → r ≡ Ok j → JudgedAs log r → InOrder log j.last j.count
  sound-of {j = j} e (is_sound {j = i} o) = let p : i ≡ j = cc in subst (λ (k : Judged). InOrder log k.last k.count) p o
  sound-of e (is_refused b z) = let o : ◌≡◌ {A = ℕ} 0 1 = cc in absurd (omega arith)

  pub refused-of : {j : Result Judged Refusal} {r : Refusal} → j ≡ Err r → JudgedAs log j → (log_bad (framed log) ≡ some (refusal_means r)) × (length_of r ≡ 0)
  refused-of e (is_sound o) = let z : ◌≡◌ {A = ℕ} 0 1 = cc in absurd (omega arith)
  refused-of {r = r} e (is_refused {r = q} b z) =
      let p : q ≡ r = cc in
      subst (λ (f : Refusal). (log_bad (framed log) ≡ some (refusal_means f)) × (length_of f ≡ 0)) p (b, z)

  sound-fine : Sound log → log_bad (framed log) ≡ none
  sound-fine w = rw w.is w.sound

-- ---- adding

module _ (room : List ℕ) (used : ℕ) (c : Chord) (window : ℕ) where
  adds-as : {r : Length} {room' : List ℕ} → length_means r ≡ add_of room used c window → {z : Sized} → z ≡ add_of room used c window
      → room' ≡ filled z (log_with room used c window) room → Adds room used c window r room'
  unfolding added_of
  adds-as a e l = record { answers = a; leaves = l ∙ ap (λ (z : Sized). filled z (log_with room used c window) room) e }

  pub adds-long : length room < used → Adds room used c window (Err F.Batch) room
  unfolding add_of
  adds-long h =
      let z : refused_with (N.numbered 10) 0 ≡ add_of room used c window = rw (lent_none room used h) in
      adds-as z z refl

  module _ (h : used ≤ length room) where
    pub adds-refused : (r : Refusal) → (log_bad (framed (take used room)) ≡ some (refusal_means r)) × (length_of r ≡ 0)
        → Adds room used c window (Err r) room
    unfolding add_of
    adds-refused r (b, l) =
        let z : refused_with (refusal_means r) (length_of r) ≡ add_of room used c window = rw (lent_is room used h, b, l) in
        adds-as z z refl

    pub adds-wide : Sound (take used room) → 1000 < window → Adds room used c window (Err F.Log) room
    unfolding add_of
    adds-wide w g =
        let z : refused_with (N.numbered 11) 0 ≡ add_of room used c window = rw (lent_is room used h, sound-fine w, lt-leb window 1000 g) in
        adds-as z z refl

    pub adds-done : Sound (take used room) → window ≤ 1000 → {r : Length} {room' : List ℕ} → AddsTo room (rows_of (take used room)) c window r room'
        → Adds room used c window r room'
    unfolding add_of log_with
    adds-done w g p =
        let u : log_with room used c window ≡ framing (added (rows_of (take used room)) c window) = rw (lent_is room used h) in
        let z : held_after none (length (framing (added (rows_of (take used room)) c window))) (length room) ≡ add_of room used c window =
        rw (lent_is room used h, sound-fine w, le-leb window 1000 g) in
        adds-as (p.answers ∙ z) z (p.leaves ∙ ap (λ (l : List ℕ). filled
        (held_after none (length (framing (added (rows_of (take used room)) c window))) (length room)) l room) (sym u))

-- ---- reading all

pub numbers-are : {log : List ℕ} {last count : ℕ} → InOrder log last count → length (numbers_in log) ≡ 2 * count
numbers-are {log} o = numbers-long (chords_of (rows_of log)) ∙ ap (λ (n : ℕ). 2 * n) o.counts

module _ (log out : List ℕ) where
  reads_as : {r : Length} {out' : List ℕ} → length_means r ≡ read_of log (length out) → out' ≡ filled (length_means r) (numbers_in log) out
      → ReadsAll log out r out'
  unfolding read_into
  reads_as a l = record { answers = a; leaves = l ∙ ap (λ (z : Sized). filled z (numbers_in log) out) a }

  pub reads-refused : (r : Refusal) → (log_bad (framed log) ≡ some (refusal_means r)) × (length_of r ≡ 0) → ReadsAll log out (Err r) out
  unfolding read_of
  reads-refused r (b, l) = reads_as (rw (b, l)) refl

  module _ {last count : ℕ} (o : InOrder log last count) where
    pub reads_short : length out < 2 * count → ReadsAll log out (Err F.Log) out
    unfolding read_of
    reads_short h = reads_as (rw (sound-fine o.ends.sound, numbers-are o, lt-leb (2 * count) (length out) h)) refl

    pub reads-done : 2 * count ≤ length out → {out' : List ℕ} → out' ≡ sets out 0 (numbers_in log) → ReadsAll log out (Ok (2 * count)) out'
    unfolding read_of
    reads-done h e = reads_as (rw (sound-fine o.ends.sound, numbers-are o, le-leb (2 * count) (length out) h)) e

-- ---- one chord

module _ (log : List ℕ) (n : ℕ) where
  pub chord-refused : (r : Refusal) → (log_bad (framed log) ≡ some (refusal_means r)) × (length_of r ≡ 0) → chord_means (Err r) ≡ chord_of log n
  unfolding chord_of
  chord-refused r (b, l) = rw b

  module _ {last count : ℕ} (o : InOrder log last count) where
    pub chord-past : count ≤ n → chord_means (Err F.NoPlace) ≡ chord_of log n
    unfolding chord_of
    chord-past h = rw (sound-fine o.ends.sound, o.counts, le-ltb n count h)

    pub chord-there : n < count → {c : Chord} → c ≡ get_or (chords_of (rows_of log)) n (chord 0 0) → chord_means (Ok c) ≡ chord_of log n
    unfolding chord_of
    chord-there h e = rw (sound-fine o.ends.sound, o.counts, lt-ltb n count h, e)

    pub chord-counts : n < count → n < length (chords_of (rows_of log))
    chord-counts h = rw o.counts h
