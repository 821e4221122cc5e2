-- What an entry answers meets what telling it asks, a place within the limit and a number that there is, and is told as the entry's.
-- Assumes nothing.
use mathlib.Core.Path.{◌≡◌, refl, ◌∙◌, subst}
use mathlib.Core.List.{List}
use Prim.Native.Nat.{ℕ}
use lib.ListN.{length}
use Rattle.words.specs.Bytes.{Bytes}
use Rattle.layout.specs.Reading.{Answer}
use Rattle.layout.specs.Setting.{Setting, refusal_in}
use Rattle.layout.specs.Entries.{Verdict, Sized, takes, refused_with, judge_of, check_of, write_of, list_of, read_of, set_of, set_verdict}
use Rattle.answers.specs.declared.Path.{Path}
use Rattle.answers.specs.Meaning.{Length}
use Rattle.answers.specs.Meaning.{length_means, Numbered}
use Rattle.answers.specs.Paths.{path_of}
use Rattle.row.specs.Outcomes.{LowIn, LowVerdict, LowSized}
use Rattle.row.proofs.Low.{judge-low, check-low, write_low, list-low, read_low, set-low}
use Rattle.row.proofs.Numbers.{read-gives}
use Rattle.row.proofs.Sizes.{write-below, list-below}
use Rattle.row.proofs.Unique.{numbered}
use Rattle.batch.specs.Entries as B
use Rattle.batch.specs.Entries.{Fetching, range, Checking, count_of, fetch_of, append_of, appended_of}
use Rattle.batch.specs.Meaning.{Appends}
use Rattle.batch.proofs.Low as P
use Rattle.batch.proofs.Single.{numbered-read}
use Rattle.chords.specs.declared.Chord.{Chord}
use Rattle.strokes.specs.Entries as S
use Rattle.strokes.specs.Entries.{add_of, added_of, read_into, Reading, is, chord_of}
use Rattle.strokes.specs.Meaning.{Adds, ReadsAll}
use Rattle.strokes.proofs.Low as L
use Rattle.codes.specs.Batch.{count_refusal, count_words, fetch_refusal, fetch_words, check_refusal, check_code, check_words}
use Rattle.codes.specs.Batch.{append_code, append_words, Beside, AppendsTo}
use Rattle.codes.specs.Log.{chord_refusal, chord_words}
use Rattle.codes.specs.Codes.{Halved}
use Rattle.codes.specs.Steps.{Taken}
use Rattle.codes.specs.Words.{Told, Tells}
use Rattle.codes.proofs.Codes.{halved}
use Rattle.codes.proofs.Steps.{taken-reads}
use Rattle.codes.proofs.InBatch.{reads_in}

-- ---- the entries of a row

pub judge-known : (s : List ℕ) {v : Verdict} → v ≡ judge_of s → LowVerdict 16384 v
judge-known s e = rw e (judge-low 16384 s)

pub check-known : (s row : List ℕ) {v : Verdict} → v ≡ check_of s row → LowVerdict 16384 v
check-known s row e = rw e (check-low 16384 s row (λ h. h))

pub write_known : (s l : List ℕ) (room : ℕ) {z : Sized} → z ≡ write_of s l room → Halved z
write_known s l room e = halved _ _ e (write-below s l room) (write_low 16384 s l room)

pub list-known : (s row : List ℕ) (room : ℕ) {z : Sized} → Bytes row → z ≡ list_of s row room → Halved z
list-known s row room h e = halved _ _ e (list-below s row room h) (list-low 16384 s row (λ h. h) room)

pub read_known : (s row p : List ℕ) {a : Answer} → a ≡ read_of s row p → Numbered a × LowIn 16384 (refusal_in a)
read_known s row p e = rw e (numbered _ refl refl (read-gives s row p), read_low 16384 s row (λ h. h) p)

pub set_known : (s row p : List ℕ) (x : Setting) {v : Verdict} → v ≡ set_verdict (set_of s row p x) → LowVerdict 16384 v
set_known s row p x e = rw e (set-low 16384 s row (λ h. h) p x)

-- ---- the entries of a batch

pub count-known : (b : List ℕ) {z : Sized} → z ≡ count_of b → LowIn 16384 (count_refusal z)
count-known b {z = takes n} e = tt
count-known b {z = refused_with r k} e = P.count_low b e

pub fetch-known : (s b : List ℕ) (k : ℕ) {z : Fetching} → z ≡ fetch_of s b k → LowIn 16384 (fetch_refusal z)
fetch-known s b k {z = range start len} e = tt
fetch-known s b k {z = B.refused r} e = P.fetch-low s b k e

pub rows-known : (s b : List ℕ) {z : Checking} → z ≡ B.check_of s b → LowIn 16384 (check_refusal z)
rows-known s b {z = B.done} e = tt
rows-known s b {z = B.refused r} e = P.check-low s b e
rows-known s b {z = B.refused_row k r} e = P.check-row-low s b e

pub append-known : (s room : List ℕ) (used : ℕ) (row : List ℕ) {z : Sized} → z ≡ append_of s room used row → LowSized 16384 z
append-known s room used row e = rw e (P.append-low s room used row)

pub read-in-known : (s b : List ℕ) (k : ℕ) (p : List ℕ) {a : Answer} → a ≡ B.read_of s b k p → Numbered a × LowIn 16384 (refusal_in a)
read-in-known s b k p e = rw e (numbered-read s b k p, P.read_low s b k p)

pub set-in-known : (s b : List ℕ) (k : ℕ) (p : List ℕ) (x : Setting) {v : Verdict} → v ≡ set_verdict (B.set_of s b k p x) → LowVerdict 16384 v
set-in-known s b k p x e = rw e (P.set-low s b k p x)

-- ---- the entries of a log

pub add-known : (room : List ℕ) (used : ℕ) (c : Chord) (window : ℕ) {z : Sized} → z ≡ add_of room used c window → LowSized 16384 z
add-known room used c window e = rw e (L.add_low room used c window)

pub all_known : (log : List ℕ) (room : ℕ) {z : Sized} → z ≡ S.read_of log room → LowSized 16384 z
all_known log room e = rw e (L.read_low log room)

pub chord-known : (log : List ℕ) (n : ℕ) {z : Reading} → z ≡ chord_of log n → LowIn 16384 (chord_refusal z)
chord-known log n {z = is c} e = tt
chord-known log n {z = S.refused r} e = L.chord-low log n e

-- ---- told as theirs

module _ {out out' : List ℕ} {r : ℕ} where
  pub count-as : {z z' : Sized} → z ≡ z' → Told 1 (count_refusal z) (count_words z) out r out' → Told 1 (count_refusal z') (count_words z') out r out'
  count-as e t = subst (λ (y : Sized). Told 1 (count_refusal y) (count_words y) out r out') e t

  pub fetch-as : {z z' : Fetching} → z ≡ z' → Told 2 (fetch_refusal z) (fetch_words z) out r out' → Told 2 (fetch_refusal z') (fetch_words z') out r out'
  fetch-as e t = subst (λ (y : Fetching). Told 2 (fetch_refusal y) (fetch_words y) out r out') e t

  pub rows_as : {z z' : Checking} → z ≡ z' → Beside (check_code z) (check_words z) out r out' → Beside (check_code z') (check_words z') out r out'
  rows_as e t = subst (λ (y : Checking). Beside (check_code y) (check_words y) out r out') e t

  sized-as : {z z' : Sized} → z ≡ z' → Beside (append_code z) (append_words z) out r out' → Beside (append_code z') (append_words z') out r out'
  sized-as e t = subst (λ (y : Sized). Beside (append_code y) (append_words y) out r out') e t

  pub append-as : {s room : List ℕ} {used : ℕ} {row : List ℕ} {l : Length} {room' : List ℕ} → Appends s room used row l room'
      → Beside (append_code (length_means l)) (append_words (length_means l)) out r out'
      → AppendsTo (append_of s room used row) (appended_of s room used row) out r room' out'
  append-as a t = record { tells = sized-as a.answers t; leaves = a.leaves }

  pub add-as : {room : List ℕ} {used : ℕ} {c : Chord} {window : ℕ} {l : Length} {room' : List ℕ} → Adds room used c window l room'
      → Beside (append_code (length_means l)) (append_words (length_means l)) out r out'
      → AppendsTo (add_of room used c window) (added_of room used c window) out r room' out'
  add-as a t = record { tells = sized-as a.answers t; leaves = a.leaves }

  pub all-as : {log u : List ℕ} {l : Length} {u' : List ℕ} → ReadsAll log u l u'
      → Beside (append_code (length_means l)) (append_words (length_means l)) out r out'
      → AppendsTo (S.read_of log (length u)) (read_into log u) out r u' out'
  all-as a t = record { tells = sized-as a.answers t; leaves = a.leaves }

  pub chord-as : {z z' : Reading} → z ≡ z' → Told 2 (chord_refusal z) (chord_words z) out r out' → Told 2 (chord_refusal z') (chord_words z') out r out'
  chord-as e t = subst (λ (y : Reading). Told 2 (chord_refusal y) (chord_words y) out r out') e t

  module _ {l : List ℕ} {p : Path} (t : Taken l p) {a : Answer} where
    pub read_as : (s row : List ℕ) → a ≡ read_of s row (path_of p) → Tells a out r out' → Tells (read_of s row l) out r out'
    read_as s row e w = subst (λ (y : Answer). Tells y out r out') (e ∙ taken-reads l p t s row) w

    pub read-in-as : (s b : List ℕ) (k : ℕ) → a ≡ B.read_of s b k (path_of p) → Tells a out r out' → Tells (B.read_of s b k l) out r out'
    read-in-as s b k e w = subst (λ (y : Answer). Tells y out r out') (e ∙ reads_in l p t s b k) w
