-- A whole listing against the schema that a table says. Assumes nothing.
use mathlib.Core.Path.{◌≡◌, refl, sym, ap, ◌∙◌, subst}
use mathlib.Core.Option.{Option, none, some, none-ne-some, some-injective}
use mathlib.Core.List.{List}
use Prim.Native.Nat.{ℕ, ◌+◌, ◌*◌, ◌≤◌, ◌<◌, ◌%◌}
use native.Mathlib.Decide.{dec_le, ℕ_discrete}
use native.Mathlib.Omega.{arith}
use lib.ListN.{length, drop, length-drop}
use Rattle.words.specs.Bytes.{Bytes, num, part, pad}
use Rattle.words.specs.Reads.{Reads}
use Rattle.words.specs.Pairs.{low_in, high_in}
use Rattle.schema.specs.Marks.{types, mark_at}
use Rattle.schema.specs.Types.{Ty, ro, Tys, place, mark}
use Rattle.schema.specs.Walk.{fields_of}
use Rattle.layout.specs.Reader.{◌>>=◌, assert, cut}
use Rattle.layout.specs.Cells.{Cell, node}
use Rattle.layout.specs.Layout.{kid, kid_tail, codec, content, kids}
use Rattle.layout.specs.Listing.{marked, item, run_get, struct_script, script, scripts, parse}
use Rattle.layout.specs.Entries.{image_of}
use Rattle.layout.proofs.Reader.{assert-yes}
use Rattle.layout.proofs.Children.{tails-eight}
use Rattle.layout.proofs.Containers.{kids-lawful}
use Rattle.layout.proofs.Listed.{not-nu}
use Rattle.table.specs.Tables.{Table, schema_of, type_of}
use Rattle.table.proofs.Places.{root_stands, root-whole, root-place}
use Rattle.measuring.specs.Measure.{size, Gives, ChildTold, ChildCan}
use Rattle.measuring.specs.Row.{RowGives}
use Rattle.measuring.proofs.Records.{assert-no, cut_short, cut_at, item-body}
use Rattle.measuring.proofs.Bodies.{tail-varies, ro-none, tail-here, read_here}
use Rattle.measuring.proofs.Totals.{fields_fit, fields-size}

ro-mark : (ts : Tys) → num (mark (ro ts)) ≡ 28530
unfolding mark mark_at types place num
ro-mark ts = refl

-- ---- the row of a listing

image-of : (t : Ty) → Option Cell → Option (List ℕ)
image-of t none = none
image-of t (some c) = some (content t c)

bound : (t : Ty) (o : Option Cell) → ◌>>=◌ {B = List ℕ} o (λ c. some (content t c)) ≡ image-of t o
unfolding image-of
bound t none = refl
bound t (some c) = refl

module _ (s l : List ℕ) where
  image-long : 65536 < length l → image_of s l ≡ none
  unfolding image_of
  image-long h = rw (assert-no (dec_le (length l) 65536) (λ p. omega arith))

  module _ (hl : length l ≤ 65536) where
    abbrev root : Ty
    root = ro (fields_of s)

    whole_is : image_of s l ≡ image-of root (parse root l)
    unfolding image_of
    whole_is = rw (assert-yes (dec_le (length l) 65536) hl) (bound root (parse root l))

    as-parsed : (o : Option Cell) → parse root l ≡ o → image_of s l ≡ image-of root o
    as-parsed o e = whole_is ∙ ap (image-of root) e

    image-short : length l < 2 → image_of s l ≡ none
    unfolding parse image-of
    image-short h = as-parsed none (rw (cut_short 2 l 0 (omega arith)))

    module _ (h : 2 ≤ length l) where
      two : cut 2 l ≡ some (part l 0 2, drop 2 l)
      two = cut_at 2 l 0 (omega arith)

      image-other : (num (part l 0 2) ≡ 28530 → ⊥) → image_of s l ≡ none
      unfolding parse marked image-of
      image-other f = as-parsed none (rw (two, assert-no (ℕ_discrete (num (part l 0 2)) (num (mark root))) (λ e. f (e ∙ ro-mark (fields_of s)))))

      module _ (e : num (part l 0 2) ≡ 28530) where
        root-marked : assert (ℕ_discrete (num (part l 0 2)) (num (mark root))) ≡ some tt
        root-marked = assert-yes (ℕ_discrete (num (part l 0 2)) (num (mark root))) (e ∙ sym (ro-mark (fields_of s)))

        image-bad : (script root).get (drop 2 l) ≡ none → image_of s l ≡ none
        unfolding parse marked image-of
        image-bad b = as-parsed none (rw (two, root-marked, b))

        module _ (c : Cell) (next : ℕ) (b : (script root).get (drop 2 l) ≡ some (c, drop next l)) where
          image-left : next ≤ length l → (next ≡ length l → ⊥) → image_of s l ≡ none
          unfolding parse marked image-of
          image-left i f =
              as-parsed none
              (rw (two, root-marked, b, assert-no (ℕ_discrete (length (drop next l)) 0) (λ z. f (omega (arith, length-drop next l)))))

          image-good : next ≡ length l → image_of s l ≡ some (content root c)
          unfolding parse marked image-of
          image-good f = as-parsed (some c) (rw (two, root-marked, b, assert-yes (ℕ_discrete (length (drop next l)) 0) (omega (arith, length-drop next l))))

-- ---- the root's cells

record Cells (ts : Tys) (b : List ℕ) (c : Cell) (r : List ℕ) : Type 0 where
  pub cells : List Cell
  pub reads : run_get (scripts ts) b ≡ some (cells, r)
  pub is : c ≡ node cells

struct_cells : (ts : Tys) (b : List ℕ) (c : Cell) (r : List ℕ) → (script (ro ts)).get b ≡ some (c, r) → Cells ts b c r
unfolding script struct_script
struct_cells ts b c r e = go (run_get (scripts ts) b) refl e
  where
    go : (o : Option (List Cell × List ℕ)) → run_get (scripts ts) b ≡ o
        → ◌>>=◌ {B = Cell × List ℕ} o (λ (cs, z). some (node cs, z)) ≡ some (c, r) → Cells ts b c r
    go none q z = absurd (none-ne-some _ z)
    go (some (cs, y)) q z =
        let p : ◌≡◌ {A = Cell × List ℕ} (node cs, y) (c, r) = some-injective _ _ z in
        record {
          cells = cs;
          reads = q ∙ ap (λ (x : List ℕ). some (cs, x)) (ap (λ (x : Cell × List ℕ). x.1) p);
          is = sym (ap (λ (x : Cell × List ℕ). x.0) p);
        }

-- a struct is whole words
struct-words : (ts : Tys) (l : List ℕ) (from : ℕ) (cs : List Cell) (r : List ℕ) → Bytes l
    → run_get (scripts ts) (drop from l) ≡ some (cs, r) → size (ro ts) (node cs) % 8 ≡ 0
struct-words ts l from cs r hb e =
    let z = fields-size ts cs (fields_fit ts l from cs r hb e) in
    omega (arith, tails-eight 8 (kids ts) cs (kids-lawful ts))

size_is : (t : Ty) (c : Cell) → size t c ≡ length (content t c)
unfolding size
size_is t c = refl

zero-next : (r : ℕ) → r ≡ 0 → low_in r ≡ 0
unfolding low_in
zero-next r e = rw e

-- ---- in the words of the code

module _ {t : List ℕ} (h : Table t) where
  pub row-long : (l : List ℕ) → 65536 < length l → image_of (schema_of t) l ≡ none
  row-long = image-long (schema_of t)

  module _ (l : List ℕ) (hl : length l ≤ 65536) where
    pub row-short : length l < 2 → image_of (schema_of t) l ≡ none
    row-short = image-short (schema_of t) l hl

    pub row-can : ChildCan t 0 8 l 0
    row-can = record {
      stands = root_stands h;
      holds = omega (arith, root-place h);
      goes = record { inside = omega arith; short = hl };
    }

    module _ (h2 : 2 ≤ length l) {m : ℕ} (em : Reads l 0 2 m) where
      pub row_other : (m ≡ 28530 → ⊥) → image_of (schema_of t) l ≡ none
      row_other f = image-other (schema_of t) l hl h2 (λ e. f (em.is ∙ e))

      -- the fields were measured as r, and the listing goes on at next
      module _ (e : m ≡ 28530) (hb : Bytes l) {r : ℕ} (x : ChildTold (type_of t 0 8) l 0 r) {next : ℕ} (en : next ≡ low_in r) where
        abbrev fs : Tys
        fs = fields_of (schema_of t)

        there : ChildTold (ro fs) l 0 r
        there = subst (λ (u : Ty). ChildTold u l 0 r) (root-whole h) x

        first-mark : num (part l 0 2) ≡ 28530
        first-mark = sym em.is ∙ e

        body : (item 8 (mark (ro fs)) (script (ro fs))).get (drop 0 l) ≡ (script (ro fs)).get (drop 2 l)
        body =
            let own : num (part l 0 2) ≡ num (mark (ro fs)) = first-mark ∙ sym (ro-mark fs) in
            item-body 8 (mark (ro fs)) (script (ro fs)) l 0 (omega arith) (λ q. not-nu (ro fs) (sym own ∙ q)) own

        pub row-left : (next ≡ length l → ⊥) → image_of (schema_of t) l ≡ none
        row-left f = go (ℕ_discrete r 0)
          where
            go : Dec (r ≡ 0) → image_of (schema_of t) l ≡ none
            go (yes z) = image-bad (schema_of t) l hl h2 first-mark (sym body ∙ (there.each 8).refused z)
            go (no ne) =
                let g = (there.each 8).good ne in
                image-left (schema_of t) l hl h2 first-mark g.thing (low_in r) (sym body ∙ g.reads) g.inside (λ q. f (en ∙ q))

        module _ (f : next ≡ length l) where
          some-row : r ≡ 0 → ⊥
          some-row z = omega (arith, zero-next r z)

          abbrev given : Gives ((item 8 (mark (ro fs)) (script (ro fs))).get (drop 0 l)) (λ c. length (kid_tail (kid 8 (codec (ro fs))) c))
              l (16 * 0 + 32) 0 (low_in r) (high_in r)
          given = (there.each 8).good some-row

          parts : Cells fs (drop 2 l) given.thing (drop (low_in r) l)
          parts = struct_cells fs (drop 2 l) given.thing (drop (low_in r) l) (sym body ∙ given.reads)

          even : size (ro fs) (node parts.cells) % 8 ≡ 0
          even = struct-words fs l 2 parts.cells (drop (low_in r) l) hb parts.reads

          row-size : high_in r ≡ size (ro fs) (node parts.cells)
          row-size =
              let here = read_here (ro fs) l 2 given.thing (drop (low_in r) l) hb (sym body ∙ given.reads) in
              let p : high_in r ≡ pad (size (ro fs) (node parts.cells)) =
              given.is ∙ sym (tail-here 8 (ro fs) given.thing here) ∙ tail-varies (ro fs) (ro-none fs) given.thing
              ∙ ap (λ (c : Cell). pad (size (ro fs) c)) parts.is in
              omega (arith, even)

          pub row-good : {n : ℕ} → n ≡ high_in r → RowGives (schema_of t) l n
          row-good q = record {
            cells = parts.cells;
            rest = drop (low_in r) l;
            reads = parts.reads;
            image =
                image-good (schema_of t) l hl h2 first-mark given.thing (low_in r) (sym body ∙ given.reads) (sym en ∙ f)
                ∙ ap (λ (c : Cell). some (content (ro fs) c)) parts.is;
            is = q ∙ row-size ∙ size_is (ro fs) (node parts.cells);
            short = hl;
          }
