-- What a schema's own table says at its first place, and how long it is: where comparing starts. Assumes nothing.
use Rattle.std.proofs.Common.{◌≡◌, ℕ, ◌+◌, ◌*◌, ◌≤◌, List, length, get_or, sym, refl, ap, ◌∙◌, arith}
use Rattle.schema.specs.Marks.{mark_at, types}
use Rattle.schema.specs.Types.{ro, Tys, count, mark, place}
use Rattle.schema.specs.House.{schema}
use Rattle.schema.specs.Walk.{size, sizes, fields_of}
use Rattle.schema.proofs.Laws.{size-ro}
use Rattle.schema.proofs.Judging.{accepted-root}
use Rattle.table.specs.Words.{word, line_word, lower}
use Rattle.table.specs.Tables.{many, manys, table_of}
use Rattle.table.proofs.Spots.{entries-many}
use Rattle.table.proofs.Places.{manys-sizes}
use Rattle.table.proofs.Filling.{ro-many, ro-entries}
use Rattle.compare.specs.Lent.{Own}
use Rattle.compare.proofs.Runs.{manys-count}

-- two bytes for each type at least, and one more for the root's fields
pub record OwnRoot (s t : List ℕ) : Type 0 where
  pub short : length s ≤ 1024
  pub bytes : 2 * length t + 1 ≤ length s
  pub some : 1 ≤ get_or s 2 0
  pub few : get_or s 2 0 ≤ 128
  pub types : get_or s 2 0 + 1 ≤ length t
  pub entry : get_or t 0 0 ≡ 17599433830258 + get_or s 2 0 * 68719476736 + length t * 18014398509481984

module _ {s t : List ℕ} (o : Own s t) where
  abbrev ts : Tys
  ts = fields_of s

  third : get_or s 2 0 ≡ count ts
  unfolding schema mark place types mark_at
  third = ap (λ (u : List ℕ). get_or u 2 0) (accepted-root s o.accepted).form

  long : length t ≡ 1 + manys ts
  unfolding table_of
  long = ap length o.given ∙ entries-many (ro ts) 1 0 ∙ ro-many ts ∙ omega arith

  first_word : word 11 1 (count ts) 0 (0 + many (ro ts)) ≡ 17599433830258 + count ts * 68719476736 + length t * 18014398509481984
  unfolding word line_word lower types
  first_word = omega (arith, ro-many ts, long)

  first : get_or t 0 0 ≡ word 11 1 (count ts) 0 (0 + many (ro ts))
  unfolding table_of
  first = ap (λ (u : List ℕ). get_or u 0 0) (o.given ∙ ro-entries ts (count ts) refl 1 0)

  pub own_root : OwnRoot s t
  unfolding size
  own_root =
      let r = accepted-root s o.accepted in
      let y : length (schema (ro ts)) ≡ 3 + sizes ts = size-ro ts in
      let f = ap length r.form in
      record {
        short = r.short;
        bytes = omega (arith, f, y, long, manys-sizes ts);
        some = omega (arith, r.low, third);
        few = omega (arith, r.high, third);
        types = omega (arith, long, third, manys-count ts);
        entry = first ∙ first_word ∙ ap (λ (u : ℕ). 17599433830258 + u * 68719476736 + length t * 18014398509481984) (sym third);
      }
