-- Row k of a batch: where it lies, what a fetch gives, and what a setting in it changes and leaves. Assumes nothing.
use mathlib.Core.Path.{◌≡◌, refl, sym, ap, ◌∙◌, subst}
use mathlib.Core.Logic.{◌⊎◌, ◌≢◌, ⊎_elim}
use mathlib.Core.Option.{Option, none, some, some-injective}
use mathlib.Core.List.{List, [], ◌++◌}
use Prim.Native.Nat.{ℕ, ◌+◌, ◌≤◌, ◌<◌}
use native.Mathlib.Omega.{arith}
use lib.ListN.{length, take, get_or, set, length-append, length-set}
use lib.Seq.{sets, length-sets, get_or-set_same, get_or-set_other, set_comm}
use Rattle.words.specs.Bytes.{Bytes, part}
use Rattle.words.proofs.Parts.{bytes-part}
use Rattle.words.proofs.Runs.{get_or-sets-lo, get_or-sets-hi}
use Rattle.schema.specs.Reading.{judged}
use Rattle.schema.specs.declared.Judged.TheVariants.{Accepted}
use Rattle.layout.specs.Refusals as N
use Rattle.layout.specs.Setting.{Setting, ◌or◌, Outcome, refuses, becomes}
use Rattle.layout.specs.Demand3.{Proper, refusal_of}
use Rattle.layout.specs.Entries.{verdict, set_after, read_of as row_read, set_of as row_set}
use Rattle.layout.proofs.Demand3.{demand3}
use Rattle.batch.specs.Frames.{be, framing, Framable, framed}
use Rattle.batch.specs.Entries.{or_none, rows_of, row_of, start_of, no_row, row_bad, range, fetch_of, check_of, read_of, within, set_of}
use Rattle.batch.specs.Entries as B
use Rattle.batch.specs.Batches.{Fetches, SetsRow, SameRow, Meet}
use Rattle.batch.proofs.Framing.{framed-back, framed-forth}
use Rattle.layout.proofs.Entered.{or-none}
use Rattle.batch.proofs.Taken.{there-of, check-row-is, fetch-of, set-of, within_of, set_long, row-part, row-sets, before, behind}
use Rattle.batch.proofs.Taken.{before-long, rows_lie, set-lie, framable-set, framable-at}
use Rattle.batch.proofs.Orders.{read-there, set_there}
use Rattle.batch.proofs.Accepting.{sound, done, checked-at, checked-set}

-- a store of u leaves every byte before it and behind it
untouched : (b : List ℕ) (at : ℕ) (u : List ℕ) (n : ℕ) → length u ≡ n → at + n ≤ length b → (i : ℕ) → (i < at) ⊎ (at + n ≤ i)
    → get_or (sets b at u) i 0 ≡ get_or b i 0
untouched b at u n h room i c =
    ⊎_elim (λ (l : i < at). get_or-sets-lo b at u (omega arith) i l) (λ (g : at + n ≤ i). get_or-sets-hi b at u (omega arith) i (omega arith)) c

-- ---- where row k lies

module _ (rows : List (List ℕ)) {b : List ℕ} (w : framing rows ≡ b) (k : ℕ) (l : k < length rows) where
  abbrev row : List ℕ
  row = get_or rows k []

  abbrev start : ℕ
  start = length (framing (take k rows)) + 4

  lies : part b start (length row) ≡ row
  lies =
      ap (λ (t : List ℕ). part t start (length row)) (sym w ∙ rows_lie rows k l)
      ∙ row-part (before rows k row) row (behind rows k row) start (before-long rows k row)

  ends-in : start + length row ≤ length b
  ends-in =
      let whole : length b ≡ length (before rows k row ++ (row ++ behind rows k row)) = ap length (sym w ∙ rows_lie rows k l) in
      let e : length (before rows k row ++ (row ++ behind rows k row)) ≡ length (before rows k row) + length (row ++ behind rows k row) =
      length-append (before rows k row) (row ++ behind rows k row) in
      omega (arith, before-long rows k row, length-append row (behind rows k row))

  changed : (u : List ℕ) → length u ≡ length row → sets b start u ≡ framing (set rows k u)
  changed u h =
      ap (λ (t : List ℕ). sets t start u) (sym w ∙ rows_lie rows k l)
      ∙ row-sets (before rows k row) row (behind rows k row) start (before-long rows k row) u h
      ∙ ap (λ (m : ℕ). (framing (take k rows) ++ be 4 m) ++ (u ++ behind rows k row)) (sym h)
      ∙ sym (set-lie rows k l u)

-- ---- a batch that can be taken apart, of an accepted schema

record Known (s b : List ℕ) : Type 0 where
  pub schema : judged s ≡ Accepted
  pub rows : List (List ℕ)
  pub is : framed b ≡ some rows
  pub fits : Framable rows
  pub whole : framing rows ≡ b

known : {s b : List ℕ} {rows : List (List ℕ)} → Bytes b → judged s ≡ Accepted → framed b ≡ some rows → Known s b
known {rows = rows} h a e = let z = framed-forth h e in record { schema = a; rows = rows; is = e; fits = z.fits; whole = z.whole }

module _ {s b : List ℕ} (h : Known s b) where
  rows_are : rows_of b ≡ h.rows
  rows_are = ap or_none h.is

  module _ (k : ℕ) (l : k < length h.rows) where
    -- a row that a setting gives, in its place
    does : (p : List ℕ) (x : Setting) (u : List ℕ) → row_set s (get_or h.rows k []) p x ≡ becomes u
        → set_of s b k p x ≡ becomes (framing (set h.rows k u))
    does p x u e =
        let same = set_long s (get_or h.rows k []) p x u e in
        let here : row_set s (row_of b k) p x ≡ becomes u = ap (λ (us : List (List ℕ)). row_set s (get_or us k []) p x) rows_are ∙ e in
        let at : start_of b k ≡ length (framing (take k h.rows)) + 4 = ap (λ (us : List (List ℕ)). length (framing (take k us)) + 4) rows_are in
        set_there s b k h.is l p x
        ∙ ap (within b (start_of b k)) here
        ∙ ap (λ (o : ℕ). becomes (sets b o u)) at
        ∙ ap becomes (changed h.rows h.whole k l u same)

-- ---- a setting in row k of it

record Edit {s b : List ℕ} (h : Known s b) (k : ℕ) (p : List ℕ) (x : Setting) (b' : List ℕ) : Type 0 where
  pub counts : k < length h.rows
  pub row : List ℕ
  pub is : row_set s (get_or h.rows k []) p x ≡ becomes row
  pub long : length row ≡ length (get_or h.rows k [])
  pub bytes : b' ≡ sets b (start_of b k) row
  pub new : b' ≡ framing (set h.rows k row)

edit : {s b : List ℕ} (h : Known s b) (k : ℕ) (p : List ℕ) (x : Setting) {b' : List ℕ} → set_of s b k p x ≡ becomes b' → Edit h k p x b'
unfolding set_of
edit {s} {b} h k p x {b'} e =
    let q = set-of (no_row s b k) (within b (start_of b k) (row_set s (row_of b k) p x)) b' e in
    let t = there-of s b k q.0 in
    let w = within_of b (start_of b k) (row_set s (row_of b k) p x) b' q.1 in
    let same : t.rows ≡ h.rows = some-injective _ _ (sym t.is ∙ h.is) in
    let l : k < length h.rows = rw same at t.counts in
    let here : row_set s (get_or h.rows k []) p x ≡ becomes w.row =
    ap (λ (us : List (List ℕ)). row_set s (get_or us k []) p x) (sym (rows_are h)) ∙ w.is in
    let long = set_long s (get_or h.rows k []) p x w.row here in
    let at : start_of b k ≡ length (framing (take k h.rows)) + 4 = ap (λ (us : List (List ℕ)). length (framing (take k us)) + 4) (rows_are h) in
    record {
      counts = l;
      row = w.row;
      is = here;
      long = long;
      bytes = w.bytes;
      new = w.bytes ∙ ap (λ (o : ℕ). sets b o w.row) at ∙ changed h.rows h.whole k l w.row long;
    }

-- the batch after
after : {s b : List ℕ} {h : Known s b} {k : ℕ} {p : List ℕ} {x : Setting} {b' : List ℕ} → Edit h k p x b' → Known s b'
after {h = h} {k = k} z =
    let fits = framable-set k z.row (rw z.long (framable-at k h.fits)) h.fits in
    record { schema = h.schema; rows = set h.rows k z.row; is = ap framed z.new ∙ framed-back fits; fits = fits; whole = sym z.new }

module _ {s b : List ℕ} {h : Known s b} {k : ℕ} {p : List ℕ} {x : Setting} {b' : List ℕ} (z : Edit h k p x b') where
  abbrev rows' : List (List ℕ)
  rows' = set h.rows k z.row

  is' : framed b' ≡ some rows'
  unfolding after
  is' = (after z).is

  row_same : (j : ℕ) → j ≢ k → row_of b' j ≡ row_of b j
  row_same j n = rw (is', h.is) (get_or-set_other h.rows k j z.row [] n)

  missing-same : (j : ℕ) → no_row s b' j ≡ no_row s b j
  missing-same j = rw (is', h.is, length-set)

  edit-others : (j : ℕ) → j ≢ k → SameRow s b b' j
  unfolding read_of
  edit-others j n = record { row = row_same j n; reads = λ q. rw (missing-same j, row_same j n) }

  edit-row : SetsRow s b k p x b'
  unfolding after
  edit-row =
      let here : row_of b k ≡ get_or h.rows k [] = ap (λ (us : List (List ℕ)). get_or us k []) (rows_are h) in
      let l' : k < length rows' = rw length-set z.counts in
      let row : row_of b' k ≡ z.row = rw is' (get_or-set_same h.rows k z.row [] z.counts) in
      let room : start_of b k + length (row_of b k) ≤ length b = rw h.is (ends-in h.rows h.whole k z.counts) in
      record {
        row' = z.row;
        is = ap (λ (u : List ℕ). row_set s u p x) here ∙ z.is;
        rows = is' ∙ ap (λ (us : List (List ℕ)). some (set us k z.row)) (sym (rows_are h));
        reads = λ q. read-there s b' k is' l' q ∙ ap (λ (u : List ℕ). row_read s u q) row;
        long = ap length z.bytes ∙ length-sets b (start_of b k) z.row;
        others = λ i c.
            ap (λ (t : List ℕ). get_or t i 0) z.bytes
            ∙ untouched b (start_of b k) z.row (length (row_of b k)) (z.long ∙ ap length (sym here)) room i c;
      }

  -- another row's setting, after this one
  edit-then : (j : ℕ) (q : List ℕ) (y : Setting) {b'' : List ℕ} → j ≢ k → (w : Edit h j q y b'')
      → set_of s b' j q y ≡ becomes (framing (set rows' j w.row))
  unfolding after
  edit-then j q y n w =
      let same : get_or rows' j [] ≡ get_or h.rows j [] = get_or-set_other h.rows k j z.row [] n in
      let l : j < length rows' = rw length-set w.counts in
      does (after z) j l q y w.row (ap (λ (u : List ℕ). row_set s u q y) same ∙ w.is)

refusal-alike : (m : Option N.Refusal) (o : Outcome) (b b' : List ℕ) (i j : ℕ) → refusal_of (set_after m (within b' j o)) ≡ refusal_of (set_after m (within b i o))
unfolding refusal_of
refusal-alike none (refuses n) b b' i j = refl
refusal-alike none (becomes row) b b' i j = refl
refusal-alike (some m) o b b' i j = refl

-- ---- the laws

-- an accepted setting shows that the batch can be taken apart
known-set : {s b : List ℕ} (k : ℕ) (p : List ℕ) (x : Setting) {b' : List ℕ} → Bytes b → set_of s b k p x ≡ becomes b' → Known s b
unfolding set_of
known-set {s} {b} k p x {b'} hb e =
    let t = there-of s b k (set-of (no_row s b k) (within b (start_of b k) (row_set s (row_of b k) p x)) b' e).0 in
    known hb t.schema t.is

module _ (s : List ℕ) where
  pub fetches : (b : List ℕ) (k start len : ℕ) → Bytes b → fetch_of s b k ≡ range start len → Fetches s b k start len
  unfolding fetch_of
  fetches b k start len hb e =
      let p = fetch-of (no_row s b k or row_bad s (row_of b k)) (start_of b k) (length (row_of b k)) start len e in
      let q = or-none (no_row s b k) (row_bad s (row_of b k)) p.0 in
      let t = there-of s b k q.0 in
      let y : part b (start_of b k) (length (row_of b k)) ≡ row_of b k = rw t.is (lies t.rows (framed-forth hb t.is).whole k t.counts) in
      let w : start_of b k + length (row_of b k) ≤ length b = rw t.is (ends-in t.rows (framed-forth hb t.is).whole k t.counts) in
      record {
        there = rw t.is t.counts;
        within = omega (arith, p.1, p.2);
        row = ap (λ (o : ℕ). part b o len) (sym p.1) ∙ ap (λ (n : ℕ). part b (start_of b k) n) (sym p.2) ∙ y;
        checks = check-row-is s (row_of b k) t.schema ∙ ap verdict q.1;
      }

  pub sets-row : (b : List ℕ) (k : ℕ) (p : List ℕ) (x : Setting) (b' : List ℕ) → Bytes b → set_of s b k p x ≡ becomes b' → SetsRow s b k p x b'
  sets-row b k p x b' hb e = edit-row (edit (known-set k p x hb e) k p x e)

  pub others : (b : List ℕ) (j k : ℕ) (p : List ℕ) (x : Setting) (b' : List ℕ) → Bytes b → j ≢ k → set_of s b k p x ≡ becomes b' → SameRow s b b' j
  others b j k p x b' hb n e = edit-others (edit (known-set k p x hb e) k p x e) j n

  pub unmoved : (b : List ℕ) (j k : ℕ) (p q : List ℕ) (x y : Setting) (b' : List ℕ) → Bytes b → j ≢ k → set_of s b j p x ≡ becomes b'
      → refusal_of (set_of s b' k q y) ≡ refusal_of (set_of s b k q y)
  unfolding set_of
  unmoved b j k p q x y b' hb n e =
      let z = edit (known-set j p x hb e) j p x e in
      let same : row_of b' k ≡ row_of b k = row_same z k (λ i. n (sym i)) in
      rw (missing-same z k, same) (refusal-alike (no_row s b k) (row_set s (row_of b k) q y) b b' (start_of b k) (start_of b' k))

  pub either_order : (b : List ℕ) (j k : ℕ) (p q : List ℕ) (x y : Setting) (b₁ b₂ : List ℕ) → Bytes b → j ≢ k
      → set_of s b j p x ≡ becomes b₁ → set_of s b k q y ≡ becomes b₂ → Meet s b₁ b₂ j k p q x y
  either_order b j k p q x y b₁ b₂ hb n e₁ e₂ =
      let h : Known s b = known-set j p x hb e₁ in
      let z₁ = edit h j p x e₁ in
      let z₂ = edit h k q y e₂ in
      let both : set (set h.rows k z₂.row) j z₁.row ≡ set (set h.rows j z₁.row) k z₂.row =
      sym (set_comm h.rows j k z₁.row z₂.row n) in
      record {
        end = framing (set (set h.rows j z₁.row) k z₂.row);
        j-first = edit-then z₁ k q y (λ i. n (sym i)) z₂;
        k-first = edit-then z₂ j p x n z₁ ∙ ap (λ (us : List (List ℕ)). becomes (framing us)) both;
      }

  -- a row of a batch that check accepts
  pub row-bytes : (b : List ℕ) (rows : List (List ℕ)) (k : ℕ) → Bytes b → framed b ≡ some rows → k < length rows → Bytes (get_or rows k [])
  row-bytes b rows k hb e l =
      subst Bytes (lies rows (framed-forth hb e).whole k l) (bytes-part (length (framing (take k rows)) + 4) (length (get_or rows k [])) hb)

  pub still : (b : List ℕ) (k : ℕ) (p : List ℕ) (x : Setting) (b' : List ℕ) → Bytes b → check_of s b ≡ B.done → Proper x → set_of s b k p x ≡ becomes b'
      → check_of s b' ≡ B.done
  still b k p x b' hb c w e =
      let v = sound s b c in
      let h : Known s b = known hb v.schema v.is in
      let z = edit h k p x e in
      let same : h.rows ≡ v.rows = some-injective _ _ (sym h.is ∙ v.is) in
      let l : k < length v.rows = rw same at z.counts in
      let row = get_or v.rows k [] in
      let is : row_set s row p x ≡ becomes z.row = ap (λ (us : List (List ℕ)). row_set s (get_or us k []) p x) (sym same) ∙ z.is in
      let fine = (demand3 s row (row-bytes b v.rows k hb v.is l) (checked-at s k v.checked l)).still p x z.row w is in
      let all = checked-set s k z.row fine v.checked in
      done s b' (record {
        schema = v.schema;
        rows = set v.rows k z.row;
        is = is' z ∙ ap (λ (us : List (List ℕ)). some (set us k z.row)) same;
        checked = all;
      })
