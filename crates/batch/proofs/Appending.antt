-- Rows appended, one or an accepted batch's in turn. Assumes nothing.
use mathlib.Core.Path.{◌≡◌, refl, sym, ap, ◌∙◌}
use mathlib.Core.Option.{Option, none, some}
use mathlib.Core.List.{List, [], ◌∷◌, ◌++◌}
use Prim.Native.Nat.{ℕ, ◌+◌, ◌^◌, ◌≤◌, ◌<◌}
use native.Mathlib.Omega.{arith}
use lib.ListN.{length, take, length-append}
use lib.Seq.{sets, sets-eq, length-sets, length-take-le, take_at}
use borrow.Author.Tests.{le-leb}
use Rattle.words.specs.Bytes.{Bytes}
use Rattle.words.proofs.Numbers.{bytes_take}
use Rattle.words.proofs.Runs.{sets_then}
use Rattle.schema.specs.Reading.{judged}
use Rattle.schema.specs.declared.Judged.TheVariants.{Accepted}
use Rattle.layout.specs.Setting.{◌or◌}
use Rattle.layout.specs.Entries.{verdict, Sized, takes, schema_bad, check_of as row_check}
use Rattle.layout.specs.Entries as E
use Rattle.batch.specs.Frames.{frame, framing, Framable, no_rows, another, framed}
use Rattle.batch.specs.Entries.{or_none, rows_of, row_bad, batch_bad, check_of, lent_rows, framed_at, append_of, appended_of}
use Rattle.batch.specs.Entries as B
use Rattle.batch.specs.Places.{joined}
use Rattle.batch.specs.Batches.{AllChecked, checked_none, checked_row, AppendAll, stay, next}
use Rattle.batch.proofs.Framing.{framing-append, framing-one, framed-on, framed-back, framed-forth}
use Rattle.layout.proofs.Entered.{or-none}
use Rattle.batch.proofs.Taken.{schema-of, rows-of, check-row-is, from-done, sized_of}
use Rattle.batch.proofs.Added.{row_small, lent_is}
use Rattle.batch.proofs.Accepting.{sound}

module _ (s : List ℕ) where
  -- the room after an accepted append begins with the batch and the new frame
  grown : (room : List ℕ) (used : ℕ) (row : List ℕ) → used + length (frame row) ≤ length room
      → take (used + length (frame row)) (sets room used (frame row)) ≡ take used room ++ frame row
  grown room used row h =
      let n = used + length (frame row) in
      let l : length (take used room ++ frame row) ≡ n =
      length-append (take used room) (frame row) ∙ ap (λ (m : ℕ). m + length (frame row)) (length-take-le used room (omega arith)) in
      ap (take n) (sets-eq (frame row) room used h) ∙ take_at (take used room ++ frame row) _ n l

  -- framed rows with one more behind them
  one_more : (rows : List (List ℕ)) (row : List ℕ) → Framable rows → length row < 256 ^ 4 → framed (framing rows ++ frame row) ≡ some (rows ++ (row ∷ []))
  one_more rows row f l =
      framed-on (frame row) f ∙ ap (joined rows) (ap framed (sym (framing-one row)) ∙ framed-back (another l no_rows))

  pub append-rows : (room : List ℕ) (used n : ℕ) (row : List ℕ) → Bytes room → append_of s room used row ≡ takes n
      → framed (take n (appended_of s room used row)) ≡ some (rows_of (take used room) ++ (row ∷ []))
  unfolding append_of appended_of
  append-rows room used n row hb e =
      let m = schema_bad s or batch_bad (lent_rows room used) or row_bad s row in
      let p = sized_of m (used + length (frame row)) (length room) n e in
      let q = or-none (schema_bad s) (batch_bad (lent_rows room used) or row_bad s row) p.0 in
      let r = or-none (batch_bad (lent_rows room used)) (row_bad s row) q.1 in
      let w = rows-of (lent_rows room used) r.0 in
      let fit : used ≤ length room = omega (arith, p.2) in
      let is : framed (take used room) ≡ some w.rows = sym (lent_is room used fit) ∙ w.is in
      let z = framed-forth (bytes_take used hb) is in
      let small : length row ≤ 16384 = row_small s row (sym (check-row-is s row (schema-of s q.0) ∙ ap verdict r.1)) in
      ap (λ (v : Sized). framed (take n (framed_at v room used row))) e
      ∙ ap (λ (k : ℕ). framed (take k (sets room used (frame row)))) (sym p.1)
      ∙ ap framed (grown room used row p.2 ∙ ap (λ (t : List ℕ). t ++ frame row) (sym z.whole))
      ∙ one_more w.rows row z.fits (omega arith)
      ∙ ap (λ (t : Option (List (List ℕ))). some (or_none t ++ (row ∷ []))) (sym is)

  append-takes : (room : List ℕ) (used : ℕ) (row : List ℕ) (rows : List (List ℕ)) → judged s ≡ Accepted → lent_rows room used ≡ some rows
      → row_check s row ≡ E.done → used + length (frame row) ≤ length room
      → append_of s room used row ≡ takes (used + length (frame row))
  unfolding append_of
  append-takes room used row rows a e c h =
      let z : row_bad s row ≡ none = from-done (row_bad s row) (sym (check-row-is s row a) ∙ c) in
      rw (a, e, z, le-leb (used + length (frame row)) (length room) h)

  append-leaves : (room : List ℕ) (used n : ℕ) (row : List ℕ) → append_of s room used row ≡ takes n → appended_of s room used row ≡ sets room used (frame row)
  unfolding appended_of
  append-leaves room used n row e = ap (λ (v : Sized). framed_at v room used row) e

  framable-snoc : {rows : List (List ℕ)} (row : List ℕ) → length row < 256 ^ 4 → Framable rows → Framable (rows ++ (row ∷ []))
  framable-snoc row l no_rows = another l no_rows
  framable-snoc row l (another h f) = another h (framable-snoc row l f)

  -- rows appended in turn behind those of pre
  again-on : {rows : List (List ℕ)} (pre : List (List ℕ)) (room : List ℕ) (used : ℕ) → judged s ≡ Accepted → Framable pre → AllChecked s rows → Framable rows
      → take used room ≡ framing pre → used ≡ length (framing pre) → used + length (framing rows) ≤ length room
      → (room' : List ℕ) (used' : ℕ) → room' ≡ sets room used (framing rows) → used' ≡ used + length (framing rows) → AppendAll s room used rows room' used'
  unfolding framing
  again-on pre room used a f checked_none g t u h room' used' e k =
      let e' : room' ≡ room = e in
      let k' : used' ≡ used = omega arith in
      rw (e', k') stay
  again-on pre room used a f (checked_row {row = row} {rows = rows} c cs) (another l g) t u h room' used' e k =
      let long : length (frame row ++ framing rows) ≡ length (frame row) + length (framing rows) = length-append (frame row) (framing rows) in
      let fits : used + length (frame row) ≤ length room = omega arith in
      let lent : lent_rows room used ≡ some pre = lent_is room used (omega arith) ∙ ap framed t ∙ framed-back f in
      let takes-it = append-takes room used row pre a lent c fits in
      let more : framing pre ++ frame row ≡ framing (pre ++ (row ∷ [])) =
      sym (framing-append pre (row ∷ []) ∙ ap (λ (v : List ℕ). framing pre ++ v) (framing-one row)) in
      let begin : take (used + length (frame row)) (sets room used (frame row)) ≡ framing (pre ++ (row ∷ [])) =
      grown room used row fits ∙ ap (λ (v : List ℕ). v ++ frame row) t ∙ more in
      let size : used + length (frame row) ≡ length (framing (pre ++ (row ∷ []))) =
      ap (λ (m : ℕ). m + length (frame row)) u ∙ sym (length-append (framing pre) (frame row)) ∙ ap length more in
      let room-is : length (sets room used (frame row)) ≡ length room = length-sets room used (frame row) in
      next {room' = room'} {used' = used'} {rows = rows} takes-it
      (rw (append-leaves room used (used + length (frame row)) row takes-it)
      (again-on (pre ++ (row ∷ [])) (sets room used (frame row)) (used + length (frame row)) a (framable-snoc row l f) cs g begin size (omega arith) room' used'
      (e ∙ sym (sets_then room used (used + length (frame row)) (frame row) (framing rows) refl)) (omega arith)))

  pub again : (b room : List ℕ) → Bytes b → check_of s b ≡ B.done → length b ≤ length room → AppendAll s room 0 (rows_of b) (sets room 0 b) (length b)
  unfolding framing
  again b room hb e h =
      let v = sound s b e in
      let z = framed-forth hb v.is in
      let fits : 0 + length (framing v.rows) ≤ length room = rw z.whole (omega arith) in
      rw v.is (again-on [] room 0 v.schema no_rows v.checked z.fits refl refl fits
      (sets room 0 b) (length b) (ap (sets room 0) (sym z.whole)) (rw z.whole (omega arith)))
