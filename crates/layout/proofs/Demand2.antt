-- Demand 2 holds. Assumes nothing.
use mathlib.Core.Path.{◌≡◌, refl, sym, ap, ◌∙◌, subst}
use mathlib.Core.Logic.{◌⊎◌, inl, inr}
use mathlib.Core.Option.{Option, none, some, some-injective, none-ne-some}
use mathlib.Core.List.{List, [], ◌++◌}
use Prim.Native.Nat.{ℕ, ◌*◌, ◌≤◌}
use native.Mathlib.Decide.{dec_le}
use native.Mathlib.Omega.{arith}
use lib.ListN.{length, take, drop, get_or}
use lib.Seq.{take-append_seam}
use Rattle.words.specs.Bytes.{Bytes}
use Rattle.words.proofs.Parts.{part-whole}
use Rattle.schema.specs.Types.{Ty, ro, Tys}
use Rattle.schema.specs.Reading.{judged}
use Rattle.schema.specs.Walk.{fields_of}
use Rattle.schema.specs.declared.Judged.TheVariants as J
use Rattle.schema.proofs.Judging.{accepted-root}
use Rattle.layout.specs.Reader.{◌>>=◌}
use Rattle.layout.specs.Cells.{Cell, node, clean}
use Rattle.layout.specs.Layout.{content, Fits, Lays, decode}
use Rattle.layout.specs.Refusals.{numbered}
use Rattle.layout.specs.Listing.{listing, parse}
use Rattle.layout.specs.Orders.{Order, Value, owns, Slots, StructInOrder, InOrder, children}
use Rattle.layout.specs.Walk.{root_seat, walk}
use Rattle.layout.specs.Reading as R
use Rattle.layout.specs.Reading.{placed, found, read_in}
use Rattle.layout.specs.Places.{starts, SamePlaces, UnderNull}
use Rattle.layout.specs.Entries.{done, takes, check_of, image_of, write_of, written_of}
use Rattle.layout.specs.Records.{ReadsAs}
use Rattle.layout.specs.Demand2.{Writes, Lists, Image, ImageInOrder, HasListing, ListThenWrite, WriteThenList, Demand2}
use Rattle.layout.proofs.Reader.{assert-yes}
use Rattle.layout.proofs.Cells.{parts-node}
use Rattle.layout.proofs.Containers.{decode-lays, lays-content, lays-fits, lays-size, decode-content, clean-fits}
use Rattle.layout.proofs.Listed.{parse-listing, listing-parse, listing-clean, root-short, bytes-listing}
use Rattle.layout.proofs.AnyOrder.{any_order, every-order}
use Rattle.layout.proofs.Single.{single}
use Rattle.layout.proofs.Landed.{asserted, placed-type}
use Rattle.layout.proofs.Walked.{walk-finds}
use Rattle.layout.proofs.After.{Accepted, row-lays}
use Rattle.layout.proofs.Recorded.{finds-reads}
use Rattle.layout.proofs.Under.{under-zero, under-or-same}
use Rattle.layout.proofs.Entered.{check-judged, judge-done, checked, checks, read_same, judged-done}
use Rattle.layout.proofs.Rooms.{lists-as, writes_as, write-from, list-one, imaged}

-- ---- a listing's image

pub image-is : (s l : List ℕ) (c : Cell) → length l ≤ 65536 → parse (ro (fields_of s)) l ≡ some c → image_of s l ≡ some (content (ro (fields_of s)) c)
unfolding image_of
image-is s l c h e = rw (assert-yes (dec_le (length l) 65536) h, e)

module _ (s : List ℕ) where
  abbrev ts : Tys
  ts = fields_of s

  -- what an image comes from
  record Parsed (l row : List ℕ) : Type 0 where
    own : Cell
    parses : parse (ro ts) l ≡ some own
    is : content (ro ts) own ≡ row

  parsed : (l row : List ℕ) → image_of s l ≡ some row → Parsed l row
  unfolding image_of
  parsed l row e = tree (parse (ro ts) l) refl (asserted (dec_le (length l) 65536) _ row e)
    where
      tree : (o : Option Cell) → parse (ro ts) l ≡ o → (o >>= λ c. some (content (ro ts) c)) ≡ some row → Parsed l row
      tree none p q = absurd (none-ne-some _ q)
      tree (some c) p q = record { own = c; parses = p; is = some-injective _ _ q }

  -- the root's layout, and its values in some order
  lays-ordered : (c : Cell) (row : List ℕ) → Lays (ro ts) c row → StructInOrder (children ts) c row
  unfolding InOrder
  lays-ordered c row y = (any_order (ro ts) c row).0 y

  ordered-lays : (c : Cell) (row : List ℕ) → StructInOrder (children ts) c row → Lays (ro ts) c row
  unfolding InOrder
  ordered-lays c row y = (any_order (ro ts) c row).1 y

  -- ---- list then write

  module _ (row : List ℕ) (j : judged s ≡ J.Accepted) (a : Accepted ts row) where
    abbrev c : Cell
    c = a.tree

    abbrev lays : Lays (ro ts) c row
    lays = row-lays ts row a

    abbrev fits : Fits (ro ts) c
    fits = lays-fits (ro ts) c row lays

    abbrev l : List ℕ
    l = listing (ro ts) c

    abbrev row₀ : List ℕ
    row₀ = content (ro ts) (clean c)

    long : length (content (ro ts) c) ≡ length row
    long = sym (lays-size (ro ts) c row lays)

    long₀ : length row₀ ≡ length row
    long₀ = (clean-fits (ro ts) c fits).size ∙ long

    pub listing-below : length l ≤ 3 * length row
    listing-below = rw (← long) (root-short ts c (accepted-root s j).low fits)

    reads₀ : decode (ro ts) row₀ ≡ some (clean c)
    reads₀ = decode-content (ro ts) (clean c) (clean-fits (ro ts) c fits).fits (omega (arith, long₀, a.size))

    writes₀ : Writes s l row₀
    writes₀ = writes_as s l row₀ j (image-is s l (clean c) (omega (arith, listing-below, a.size)) (parse-listing (ro ts) c fits
        (omega (arith, listing-below, a.size)))) (omega (arith, long₀, a.size))

    again₀ : Lists s row₀ l
    again₀ = rw (← listing-clean (ro ts) c) (lists-as s row₀ (clean c) j (omega (arith, long₀, a.size)) reads₀)

    -- bytes under nulls
    zeroed : content (ro ts) c ≡ row → (i : ℕ) → UnderNull ts row i → get_or row₀ i 0 ≡ 0
    zeroed e i u = under-zero ts c i fits (omega (arith, long, a.size)) (rw e u)

    other : content (ro ts) c ≡ row → (i : ℕ) → ¬ UnderNull ts row i → get_or row₀ i 0 ≡ get_or row i 0
    other e i n = go (under-or-same ts c i fits (omega (arith, long, a.size)))
      where
        go : UnderNull ts (content (ro ts) c) i ⊎ (get_or row₀ i 0 ≡ get_or (content (ro ts) c) i 0) → get_or row₀ i 0 ≡ get_or row i 0
        go (inl u) = absurd (n (rw e at u))
        go (inr q) = q ∙ ap (λ (b : List ℕ). get_or b i 0) e

    in_place : SamePlaces (ro ts) row (content (ro ts) c) → content (ro ts) c ≡ row
    in_place o = sym (single (ro ts) c row (content (ro ts) c) root_seat 0 lays (lays-content (ro ts) c fits) (omega (arith, a.size)) o)

    relisted : ListThenWrite s row
    relisted = record {
      listed = l;
      lists = lists-as s row c j a.size a.reads;
      short = listing-below;
      row₀ = row₀;
      writes = writes₀;
      long = long₀;
      accepted = checks s row₀ (clean c) j (omega (arith, long₀, a.size)) reads₀;
      again = again₀;
      contents = c;
      stands = lays-ordered c row lays;
      zero = λ o. zeroed (in_place o);
      same = λ o. other (in_place o);
      alone = (in_place, λ e p u k. ap (λ (b : List ℕ). starts u (walk p (ro ts) root_seat 0 b)) (sym e));
    }

    has-listing : HasListing s row
    has-listing = record {
      schema = judge-done s j;
      short = a.size;
      listed = l;
      bytes = bytes-listing (ro ts) c fits;
      image = record { contents = c; stands = lays-ordered c row lays; writes = writes₀ };
    }

    reads_as : (p : List ℕ) (t : Ty) → placed p (ro ts) ≡ some t → ReadsAs row p (ro ts) l (read_in ts row p)
    unfolding read_in found
    reads_as p t e =
        rw e (finds-reads row p (ro ts) c _ t
        (walk-finds row p (ro ts) c root_seat 0 row lays (omega (arith, a.size)) (record { there = part-whole row; room = omega arith }))
        fits (placed-type p (ro ts) t e))

  nowhere : (row p : List ℕ) → placed p (ro ts) ≡ none → read_in ts row p ≡ R.refused (numbered 5)
  unfolding read_in found
  nowhere row p e = rw e

  is-accepted : (row : List ℕ) → HasListing s row → check_of s row ≡ done
  is-accepted row x =
      let c = x.image.contents in
      checks s row c (judged-done s x.schema) x.short
      (decode-lays (ro ts) c row (ordered-lays c row x.image.stands) (omega (arith, x.short)))

  -- ---- write then list

  relists : (l out : List ℕ) (n : ℕ) → Bytes l → write_of s l (length out) ≡ takes n → WriteThenList s l (take n (written_of s l out))
  relists l out n hb e =
      let f = write-from s l (length out) n e in
      let row = f.row in
      let w = writes_as s l row f.schema f.image f.short in
      let x = parsed l row f.image in
      let p = listing-parse (ro ts) l x.own hb x.parses in
      let d : decode (ro ts) row ≡ some x.own = ap (decode (ro ts)) (sym x.is) ∙ decode-content (ro ts) x.own p.fits
      (rw x.is (omega (arith, f.short))) in
      let is : take n (written_of s l out) ≡ row = ap (take n) (w.bytes out (omega (arith, f.long, f.fits)))
      ∙ ap (λ (k : ℕ). take k (row ++ drop (length row) out)) (sym f.long) ∙ take-append_seam row _ in
      rw is (record {
        writes = w;
        accepted = checks s row x.own f.schema f.short d;
        lists = subst (Lists s row) p.lists (lists-as s row x.own f.schema f.short d);
      })

  -- ---- every order has its image, and one

  every-image : (l : List ℕ) (cs : List Cell) (slots : List ℕ) (vs : List Value) → Slots 8 (children ts) cs slots [] vs
      → Writes s l (content (ro ts) (clean (node cs))) → (us : List (List ℕ)) (o : Order (owns vs) us) → ImageInOrder s l o
  every-image l cs slots vs y e us o =
      let r = every-order 0 8 (children ts) cs slots vs y us o in
      let p = parts-node cs in
      let b = r.body in
      record {
        row = r.bytes;
        image = record {
          contents = node cs;
          stands = record {
            plain = rw p;
            body = record {
              slots = b.slots;
              values = b.values;
              order = b.order;
              children = rw p b.children;
              same = b.same;
              placed = b.placed;
              whole = rw p b.whole;
            };
          };
          writes = e;
        };
        values = r.values;
        placed = r.so;
      }

  one-image : (l row row' : List ℕ) (i : Image s l row) (i' : Image s l row') → i.contents ≡ i'.contents → SamePlaces (ro ts) row row' → row ≡ row'
  one-image l row row' i i' e p =
      let c = i.contents in
      let y = ordered-lays c row i.stands in
      let y' = ordered-lays i'.contents row' i'.stands in
      let z : length (content (ro ts) (clean c)) ≡ length row = (clean-fits (ro ts) c (lays-fits (ro ts) c row y)).size ∙ sym (lays-size (ro ts) c row y) in
      single (ro ts) c row row' root_seat 0 y (subst (λ (c : Cell). Lays (ro ts) c row') (sym e) y')
      (omega (arith, z, (imaged s l (content (ro ts) (clean c)) i.writes).short)) p

pub demand2 : Demand2
demand2 = record {
  accepted = λ s row hb. ((λ e. has-listing s row (check-judged s row e) (checked s row hb e)), is-accepted s row);
  every = every-image;
  one = one-image;
  list-write = λ s row hb e. relisted s row (check-judged s row e) (checked s row hb e);
  write-list = relists;
  reads = λ s row l p t hb e x q.
      let j = check-judged s row e in
      let a = checked s row hb e in
      let is = list-one s row l (listing (ro (fields_of s)) a.tree) x (lists-as s row a.tree j a.size a.reads) in
      rw (read_same s row j a.size p, is) (reads_as s row j a p t q);
  nowhere = λ s row p hb e q. read_same s row (check-judged s row e) (checked s row hb e).size p ∙ nowhere s row p q;
}
