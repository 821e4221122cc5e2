-- The whole row: the root of the table's schema is a struct, and its contents fill the room. Assumes nothing.
use mathlib.Core.Path.{◌≡◌, sym, ap, ◌∙◌}
use mathlib.Core.Option.{some}
use mathlib.Core.List.{List}
use Prim.Native.Nat.{ℕ, ◌%◌}
use native.Mathlib.Omega.{arith}
use lib.ListN.{length, drop}
use lib.Seq.{sets}
use Rattle.words.specs.Bytes.{padded}
use Rattle.words.proofs.Runs.{sets-whole}
use Rattle.words.proofs.Numbers.{slice-bytes}
use Rattle.schema.specs.Types.{ro}
use Rattle.schema.specs.Walk.{fields_of}
use Rattle.layout.specs.Cells.{node}
use Rattle.layout.specs.Layout.{kids, content}
use Rattle.layout.specs.Listing.{struct_script, script}
use Rattle.layout.specs.Entries.{image_of}
use Rattle.layout.proofs.Children.{tails-eight}
use Rattle.layout.proofs.Containers.{kids-lawful}
use Rattle.table.specs.Tables.{schema_of, type_of}
use Rattle.table.proofs.Places.{root_stands, root-whole, root-place}
use Rattle.measuring.proofs.Totals.{fields_fit, fields-size}
use Rattle.putting.specs.Put.{Held, PutStruct, PutRow}
use Rattle.putting.proofs.Given.{same-thing}
use Rattle.putting.proofs.Slots.{Octets, padded-whole}
use Rattle.putting.proofs.Paints.{size_is}

module _ {t l : List ℕ} {len : ℕ} (p : PutRow t l len) where
  abbrev s : List ℕ
  s = schema_of t

  abbrev row : List ℕ
  row = content (ro (fields_of s)) (node p.gives.cells)

  reads : (script (ro (fields_of s))).get (drop 2 l) ≡ some (node p.gives.cells, p.gives.rest)
  unfolding script struct_script
  reads = rw p.gives.reads

  pub row-can : PutStruct t 0 8 l 2 0 len
  row-can = record {
    put = record {
      stands = root_stands p.table;
      holds = omega (arith, root-place p.table);
      ready = rw (root-whole p.table) (record {
        thing = node p.gives.cells;
        rest = p.gives.rest;
        reads = reads;
        room = omega (arith, p.gives.is, size_is (ro (fields_of s)) (node p.gives.cells));
      });
      small = p.small;
      short = p.gives.short;
    };
    struct = root-place p.table;
  }

  row-eight : Octets l → length row % 8 ≡ 0
  row-eight o =
      let ts = fields_of s in
      let cs = p.gives.cells in
      let f = fields_fit ts l 2 cs p.gives.rest (slice-bytes o) p.gives.reads in
      omega (arith, size_is (ro ts) (node cs), fields-size ts cs f, tails-eight 8 (kids ts) cs (kids-lawful ts))

  pub row-image : Octets l → {x y : List ℕ} {next stop : ℕ} → length x ≡ len → Held (type_of t 0 8) l 2 0 x y next stop → some y ≡ image_of s l
  row-image o {x} {y} {next} {stop} el w =
      let v : Held (ro (fields_of s)) l 2 0 x y next stop = rw (root-whole p.table) at w in
      let c : node p.gives.cells ≡ v.thing = same-thing reads v.reads in
      let q : content (ro (fields_of s)) v.thing ≡ row = ap (content (ro (fields_of s))) (sym c) in
      let long : length row ≡ length x = omega (arith, p.gives.is) in
      ap some (v.bytes ∙ ap (λ (u : List ℕ). sets x 0 (padded u)) q ∙ ap (sets x 0) (padded-whole row (row-eight o)) ∙ sets-whole x row long)
      ∙ sym p.gives.image
