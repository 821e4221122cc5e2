-- What write and list do, given lent room enough. Assumes nothing.
use mathlib.Core.Path.{◌≡◌, refl, sym, ap, ◌∙◌}
use mathlib.Core.Bool.{Bool, true, false}
use mathlib.Core.Option.{Option, none, some}
use mathlib.Core.List.{List, ◌++◌}
use Prim.Native.Nat.{ℕ, ◌≤◌}
use native.Mathlib.Nat.{zero-add}
use native.Mathlib.Omega.{arith}
use lib.Dec.{leb}
use lib.ListN.{length, take, drop, length-append}
use lib.Seq.{sets, sets-eq, take-append_seam}
use borrow.Author.Tests.{le-leb, leb-true}
use Rattle.schema.specs.Types.{ro}
use Rattle.schema.specs.Reading.{judged}
use Rattle.schema.specs.Walk.{fields_of}
use Rattle.schema.specs.declared.Judged.{Judged}
use Rattle.schema.specs.declared.Judged.TheVariants.{Accepted, Refused}
use Rattle.layout.specs.Cells.{Cell}
use Rattle.layout.specs.Refusals.{Refusal, numbered}
use Rattle.layout.specs.Layout.{codec, decode}
use Rattle.layout.specs.Listing.{listing}
use Rattle.layout.specs.Entries.{takes, refused_with, image_of, write_of, written_of, listing_of, list_of, listed_of}
use Rattle.layout.specs.Demand2.{Writes, Lists}
use Rattle.layout.proofs.Faults.{no-fault}

fills : (u out : List ℕ) → length u ≤ length out → sets out 0 u ≡ u ++ drop (length u) out
fills u out h = rw (sets-eq u out 0 (rw zero-add h), zero-add)

-- ---- what an accepted row's contents, or a listing's, come to

pub lists-as : (s row : List ℕ) (c : Cell) → judged s ≡ Accepted → length row ≤ 16384 → decode (ro (fields_of s)) row ≡ some c
    → Lists s row (listing (ro (fields_of s)) c)
unfolding list_of listed_of listing_of
lists-as s row c a h d =
    let l = listing (ro (fields_of s)) c in
    let sound = no-fault ((codec (ro (fields_of s))).get row) d in
    record {
      done = λ out k. rw (a, le-leb (length row) 16384 h, sound, d, le-leb (length l) (length out) k);
      bytes = λ out k. rw (a, le-leb (length row) 16384 h, sound, d, le-leb (length l) (length out) k) (fills l out k);
    }

pub writes_as : (s l row : List ℕ) → judged s ≡ Accepted → image_of s l ≡ some row → length row ≤ 16384 → Writes s l row
unfolding write_of written_of
writes_as s l row a e h = record {
  done = λ out k. rw (a, e, le-leb (length row) 16384 h, le-leb (length row) (length out) k);
  bytes = λ out k. rw (a, e, le-leb (length row) 16384 h, le-leb (length row) (length out) k) (fills row out k);
}

-- ---- what an accepted write comes from

pub record From (s l : List ℕ) (room n : ℕ) : Type 0 where
  pub schema : judged s ≡ Accepted
  pub row : List ℕ
  pub image : image_of s l ≡ some row
  pub short : length row ≤ 16384
  pub long : length row ≡ n
  pub fits : n ≤ room

clash-takes : (r : Refusal) (k n : ℕ) → refused_with r k ≡ takes n → ⊥
clash-takes r k n e = let z : ◌≡◌ {A = ℕ} 0 1 = cc in omega arith

pub write-from : (s l : List ℕ) (room n : ℕ) → write_of s l room ≡ takes n → From s l room n
unfolding write_of
write-from s l room n e = by-schema (judged s) refl
  where
    by-room : judged s ≡ Accepted → (row : List ℕ) → image_of s l ≡ some row → length row ≤ 16384 → leb (length row) 16384 ≡ true
        → (v : Bool) → leb (length row) room ≡ v → From s l room n
    by-room a row q h t true k =
        let z : takes (length row) ≡ takes n = rw (a, q, t, k) at e in
        let m : length row ≡ n = cc in
        record { schema = a; row = row; image = q; short = h; long = m; fits = omega (arith, leb-true (length row) room k) }
    by-room a row q h t false k = absurd (clash-takes (numbered 4) (length row) n (rw (a, q, t, k) at e))

    by_length : judged s ≡ Accepted → (row : List ℕ) → image_of s l ≡ some row → (v : Bool) → leb (length row) 16384 ≡ v → From s l room n
    by_length a row q true h = by-room a row q (leb-true (length row) 16384 h) h (leb (length row) room) refl
    by_length a row q false h = absurd (clash-takes (numbered 3) 0 n (rw (a, q, h) at e))

    by-image : judged s ≡ Accepted → (o : Option (List ℕ)) → image_of s l ≡ o → From s l room n
    by-image a none q = absurd (clash-takes (numbered 2) 0 n (rw (a, q) at e))
    by-image a (some row) q = by_length a row q (leb (length row) 16384) refl

    by-schema : (j : Judged) → judged s ≡ j → From s l room n
    by-schema Accepted a = by-image a (image_of s l) refl
    by-schema Refused a = absurd (clash-takes (numbered 1) 0 n (rw a at e))

-- ---- one row, and one listing

takes_one : (m n : ℕ) → takes m ≡ takes n → m ≡ n
takes_one m n e = cc

front-one : (u v out : List ℕ) → length u ≡ length v → u ++ drop (length u) out ≡ v ++ drop (length v) out → u ≡ v
front-one u v out n e = sym (take-append_seam u _) ∙ ap (take (length u)) e ∙ ap (λ (k : ℕ). take k (v ++ drop (length v) out)) n ∙ take-append_seam v _

pub list-one : (s row l l' : List ℕ) → Lists s row l → Lists s row l' → l ≡ l'
list-one s row l l' x y =
    let out = l ++ l' in
    let h : length l ≤ length out = rw length-append (omega arith) in
    let h' : length l' ≤ length out = rw length-append (omega arith) in
    front-one l l' out (takes_one (length l) (length l') (sym (x.done out h) ∙ y.done out h')) (sym (x.bytes out h) ∙ y.bytes out h')

write-one : (s l row row' : List ℕ) → Writes s l row → Writes s l row' → row ≡ row'
write-one s l row row' x y =
    let out = row ++ row' in
    let h : length row ≤ length out = rw length-append (omega arith) in
    let h' : length row' ≤ length out = rw length-append (omega arith) in
    front-one row row' out (takes_one (length row) (length row') (sym (x.done out h) ∙ y.done out h')) (sym (x.bytes out h) ∙ y.bytes out h')

-- a listing that is written has its row for an image
pub record Imaged (s l row : List ℕ) : Type 0 where
  pub schema : judged s ≡ Accepted
  pub image : image_of s l ≡ some row
  pub short : length row ≤ 16384

pub imaged : (s l row : List ℕ) → Writes s l row → Imaged s l row
imaged s l row w =
    let f = write-from s l (length row) (length row) (w.done row (omega arith)) in
    let e : f.row ≡ row = write-one s l f.row row (writes_as s l f.row f.schema f.image f.short) w in
    record { schema = f.schema; image = f.image ∙ ap some e; short = omega (arith, f.short, f.long) }
