-- A place in an answer of an entry is at most N, where a row that is not too long has at most N bytes; and the range in an answer of reading
-- starts within the row. Assumes nothing.
use mathlib.Core.Path.{◌≡◌, refl}
use mathlib.Core.Bool.{Bool, true, false, cond}
use mathlib.Core.Option.{Option, none, some}
use mathlib.Core.List.{List}
use Prim.Native.Nat.{ℕ, ◌≤◌}
use native.Mathlib.Omega.{arith}
use lib.Dec.{leb}
use borrow.Author.Tests.{leb-true}
use lib.ListN.{length}
use Rattle.schema.specs.Reading.{judged}
use Rattle.schema.specs.Walk.{fields_of}
use Rattle.schema.specs.Types.{Fixed, bo, i1, i2, i4, i8, f4, f8, Ty, fix, text, li, ma, ro}
use Rattle.layout.specs.Refusals.{Refusal, numbered, broken_at}
use Rattle.layout.specs.Layout.{fault_at}
use Rattle.layout.specs.Walk.{Seen, root_seat}
use Rattle.layout.specs.Reading.{Answer, value_of, placed, answer_of, found, read_in}
use Rattle.layout.specs.Places.{start_of}
use Rattle.layout.specs.Setting.{Setting, is_some, or_empty, unless, ◌or◌, refusal_in, suits, keeps, judge_at, Outcome, outcome, set_in}
use Rattle.layout.specs.Entries.{verdict, is_accepted, schema_bad, row_long, broken, layout_bad, listing_bad, judge_of, check_of, read_after, read_of}
use Rattle.layout.specs.Entries.{takes, refused_with, sized_after, image_of, write_of, listing_of, list_of, set_after, set_of, set_verdict}
use Rattle.row.specs.Outcomes.{LowIn, LowVerdict, LowSized}
use Rattle.row.proofs.Close.{check-place, Close, walk-close}

pub read-after : (r : Option Refusal) (a : Answer) → refusal_in (read_after r a) ≡ (r or refusal_in a)
unfolding refusal_in
read-after none a = refl
read-after (some r) a = refl

or-or : (a b c : Option Refusal) → ((a or b) or c) ≡ (a or (b or c))
or-or none b c = refl
or-or (some r) b c = refl

module _ (N : ℕ) where
  -- ---- refusals in their order

  pub low_or : (a b : Option Refusal) → LowIn N a → LowIn N b → LowIn N (a or b)
  low_or none b p q = q
  low_or (some r) b p q = p

  pub low-unless : (v : Bool) (n : ℕ) → LowIn N (unless v n)
  low-unless true n = tt
  low-unless false n = tt

  low-broken : (o : Option ℕ) → ((q : ℕ) → o ≡ some q → q ≤ N) → LowIn N (broken o)
  low-broken none h = tt
  low-broken (some q) h = h q refl

  -- the row's length, and then what is refused of a row that is not too long
  pub low-long : (row : List ℕ) (b : Option Refusal) → (length row ≤ 16384 → LowIn N b) → LowIn N (row_long row or b)
  low-long row b k = go (leb (length row) 16384) refl
    where
      go : (v : Bool) → leb (length row) 16384 ≡ v → LowIn N (unless (leb (length row) 16384) 3 or b)
      go true e = rw e (k (leb-true (length row) 16384 e))
      go false e = rw e tt

  schema-low : (s : List ℕ) → LowIn N (schema_bad s)
  schema-low s = low-unless (is_accepted (judged s)) 1

  -- ---- what an entry makes of them

  verdict-low : (o : Option Refusal) → LowIn N o → LowVerdict N (verdict o)
  verdict-low none p = tt
  verdict-low (some r) p = p

  pub sized-low : (o : Option Refusal) (need room : ℕ) → LowIn N o → LowSized N (sized_after o need room)
  sized-low (some r) need room p = p
  sized-low none need room p = go (leb need room)
    where
      go : (v : Bool) → LowSized N (cond v (takes need) (refused_with (numbered 4) need))
      go true = tt
      go false = tt

  outcome-low : (c : Option ℕ) (r : Option Refusal) (w : List ℕ) → LowIn N (broken c) → LowIn N r → LowVerdict N (set_verdict (outcome c r w))
  unfolding outcome
  outcome-low (some q) r w p l = p
  outcome-low none none w p l = tt
  outcome-low none (some r) w p l = l

  pub after-low : (r : Option Refusal) (o : Outcome) → LowIn N r → LowVerdict N (set_verdict o) → LowVerdict N (set_verdict (set_after r o))
  after-low none o p l = l
  after-low (some r) o p l = p

  value_low : (f : Fixed) (b : List ℕ) → LowIn N (refusal_in (value_of f b))
  unfolding value_of refusal_in
  value_low bo b = tt
  value_low i1 b = tt
  value_low i2 b = tt
  value_low i4 b = tt
  value_low i8 b = tt
  value_low f4 b = tt
  value_low f8 b = tt

  judge-at-low : (t : Option Ty) (a : Answer) (x : Setting) → LowIn N (refusal_in a) → LowIn N (judge_at t a x)
  unfolding judge_at
  judge-at-low none a x h = tt
  judge-at-low (some t) a x h =
      low_or (refusal_in a) _ h
      (low_or (unless (suits t x) 8) (unless (keeps t a x) 9) (low-unless (suits t x) 8) (low-unless (keeps t a x) 9))

  -- ---- a row that has at most N bytes where it is not too long

  module _ (s row : List ℕ) (k : length row ≤ 16384 → length row ≤ N) where
    pub layout-low : length row ≤ 16384 → LowIn N (layout_bad s row)
    layout-low h = low-broken (fault_at (ro (fields_of s)) row) λ q e. omega (arith, k h, check-place (ro (fields_of s)) row q e)

    seen_low : length row ≤ 16384 → (t : Ty) (v : Seen) → Close (length row) v → LowIn N (refusal_in (answer_of t v))
    unfolding answer_of refusal_in
    seen_low h t v (Close.refuses {r = numbered n} q) = tt
    seen_low h t v (Close.refuses {r = broken_at j} q) = omega (arith, k h)
    seen_low h t v Close.absent = tt
    seen_low h (fix f) v (Close.present {b = b} _) = value_low f b
    seen_low h (text t) v (Close.present _) = tt
    seen_low h (li t) v (Close.present _) = tt
    seen_low h (ma a w) v (Close.present _) = tt
    seen_low h (ro ts) v (Close.present _) = tt

    found-low : length row ≤ 16384 → (o : Option Ty) (v : Seen) → Close (length row) v → LowIn N (refusal_in (found o v))
    unfolding found refusal_in
    found-low h none v c = tt
    found-low h (some t) v c = seen_low h t v c

    place-low : length row ≤ 16384 → (p : List ℕ) → LowIn N (refusal_in (read_in (fields_of s) row p))
    unfolding read_in
    place-low h p = found-low h (placed p (ro (fields_of s))) _ (walk-close (length row) p (ro (fields_of s)) root_seat 0 row (omega arith) (omega arith))

    row_low : LowIn N (schema_bad s or row_long row or layout_bad s row)
    row_low = low_or (schema_bad s) (row_long row or layout_bad s row) (schema-low s) (low-long row (layout_bad s row) layout-low)

    pub check-low : LowVerdict N (check_of s row)
    unfolding check_of
    check-low = verdict-low (schema_bad s or row_long row or layout_bad s row) row_low

    pub list-low : (room : ℕ) → LowSized N (list_of s row room)
    unfolding list_of
    list-low room = sized-low (schema_bad s or row_long row or layout_bad s row) (length (or_empty (listing_of s row))) room row_low

    pub read_low : (p : List ℕ) → LowIn N (refusal_in (read_of s row p))
    unfolding read_of
    read_low p =
        let told = refusal_in (read_in (fields_of s) row p) in
        rw (read-after (schema_bad s or row_long row) (read_in (fields_of s) row p), or-or (schema_bad s) (row_long row) told)
        (low_or (schema_bad s) (row_long row or told) (schema-low s) (low-long row told (λ h. place-low h p)))

    pub set-low : (p : List ℕ) (x : Setting) → LowVerdict N (set_verdict (set_of s row p x))
    unfolding set_of set_in
    set-low p x = go (leb (length row) 16384) refl
      where
        go : (v : Bool) → leb (length row) 16384 ≡ v
            → LowVerdict N (set_verdict (set_after (schema_bad s or unless (leb (length row) 16384) 3) (set_in (fields_of s) row p x)))
        go true e =
            let h = leb-true (length row) 16384 e in
            let judged-low = judge-at-low (placed p (ro (fields_of s))) (read_in (fields_of s) row p) x (place-low h p) in
            after-low (schema_bad s or row_long row) _ (low_or (schema_bad s) (row_long row) (schema-low s) (low-unless (leb (length row) 16384) 3))
            (outcome-low (fault_at (ro (fields_of s)) row) _ _ (layout-low h) judged-low)
        go false e = rw e (too_long (is_accepted (judged s)))
          where
            too_long : (v : Bool) → LowVerdict N (set_verdict (set_after (unless v 1 or some (numbered 3)) (set_in (fields_of s) row p x)))
            too_long true = tt
            too_long false = tt

  -- ---- without a row

  pub judge-low : (s : List ℕ) → LowVerdict N (judge_of s)
  unfolding judge_of
  judge-low s = verdict-low (schema_bad s) (schema-low s)

  pub write_low : (s l : List ℕ) (room : ℕ) → LowSized N (write_of s l room)
  unfolding write_of
  write_low s l room =
      sized-low (schema_bad s or listing_bad s l or row_long (or_empty (image_of s l))) (length (or_empty (image_of s l))) room
      (low_or (schema_bad s) (listing_bad s l or row_long (or_empty (image_of s l))) (schema-low s)
      (low_or (listing_bad s l) (row_long (or_empty (image_of s l))) (low-unless (is_some (image_of s l)) 2)
      (low-unless (leb (length (or_empty (image_of s l))) 16384) 3)))

-- ---- where the range in an answer of reading starts

module _ {N : ℕ} where
  value-start : (f : Fixed) (b : List ℕ) → start_of (value_of f b) ≤ N
  unfolding value_of start_of
  value-start bo b = omega arith
  value-start i1 b = omega arith
  value-start i2 b = omega arith
  value-start i4 b = omega arith
  value-start i8 b = omega arith
  value-start f4 b = omega arith
  value-start f8 b = omega arith

  seen_start : (t : Ty) (v : Seen) → Close N v → start_of (answer_of t v) ≤ N
  unfolding answer_of start_of
  seen_start t v (Close.refuses q) = omega arith
  seen_start t v Close.absent = omega arith
  seen_start (fix f) v (Close.present {b = b} q) = value-start f b
  seen_start (text t) v (Close.present q) = q
  seen_start (li t) v (Close.present q) = q
  seen_start (ma a w) v (Close.present q) = q
  seen_start (ro ts) v (Close.present q) = q

  found-start : (o : Option Ty) (v : Seen) → Close N v → start_of (found o v) ≤ N
  unfolding found start_of
  found-start none v c = omega arith
  found-start (some t) v c = seen_start t v c

  after-start : (r : Option Refusal) (a : Answer) → start_of a ≤ N → start_of (read_after r a) ≤ N
  unfolding start_of
  after-start none a h = h
  after-start (some r) a h = omega arith

pub read-start : (s row p : List ℕ) → start_of (read_of s row p) ≤ length row
unfolding read_of read_in
read-start s row p =
    after-start (schema_bad s or row_long row) (read_in (fields_of s) row p)
    (found-start (placed p (ro (fields_of s))) _ (walk-close (length row) p (ro (fields_of s)) root_seat 0 row (omega arith) (omega arith)))
