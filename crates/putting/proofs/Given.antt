-- What a reading that yields says of the listing: there is room for what it reads, and its parts yield too. Assumes nothing.
use mathlib.Core.Path.{◌≡◌, refl, sym, ap, ◌∙◌, subst}
use mathlib.Core.Option.{Option, none, some, none-ne-some, some-injective}
use mathlib.Core.List.{List, [], ◌∷◌}
use Prim.Native.Nat.{ℕ, ◌+◌, ◌-◌, ◌≤◌}
use native.Mathlib.Decide.{ℕ_discrete}
use native.Mathlib.Omega.{arith, by_contra}
use lib.ListN.{length, drop, replicate}
use Rattle.words.specs.Bytes.{num, part}
use Rattle.schema.specs.Types.{Fixed, width, Text, Ty, fix, text, li, ma, ro, Tys}
use Rattle.layout.specs.Reader.{◌>>=◌}
use Rattle.layout.specs.Cells.{Cell, leaf, node}
use Rattle.layout.specs.Layout.{Spells, spells?, limit}
use Rattle.layout.specs.Listing.{nu, Script, item, run_get, struct_script, list_script, map_script, element, script, scripts}
use Rattle.measuring.specs.Measure.{size}
use Rattle.putting.specs.Put.{Ready}
use Rattle.measuring.proofs.Records.{cut_short, cut_at, item-short, item-other, item-body}
use Rattle.measuring.proofs.Records.{number_short, number-high, number-good, text-short, text-cut, text-bad, text-good}
use Rattle.measuring.proofs.Bodies.{map-size}
use Rattle.measuring.proofs.Totals.{join, run_more, run-stop}

not-both : {A : Type 0} {o : Option A} {a : A} → o ≡ none → o ≡ some a → ⊥
not-both {o = o} e f = none-ne-some _ (sym e ∙ f)

pub same-thing : {A : Type 0} {o : Option (A × List ℕ)} {a b : A} {r q : List ℕ} → o ≡ some (a, r) → o ≡ some (b, q) → a ≡ b
same-thing e f = ap (λ p. p.0) (some-injective _ _ (sym e ∙ f))

pub same_rest : {A : Type 0} {o : Option (A × List ℕ)} {a b : A} {r q : List ℕ} → o ≡ some (a, r) → o ≡ some (b, q) → r ≡ q
same_rest e f = ap (λ p. p.1) (some-injective _ _ (sym e ∙ f))

-- ---- a run: its first reading and the others

pub record After (ss : List Script) (c : Cell) (r : List ℕ) (cs : List Cell) (z : List ℕ) : Type 0 where
  pub others : List Cell
  pub rest : run_get ss r ≡ some (others, z)
  pub all : cs ≡ c ∷ others

pub run-after : (s : Script) (ss : List Script) (b : List ℕ) (cs : List Cell) (z : List ℕ) (c : Cell) (r : List ℕ)
    → run_get (s ∷ ss) b ≡ some (cs, z) → s.get b ≡ some (c, r) → After ss c r cs z
run-after s ss b cs z c r e q = go (run_get ss r) refl (sym (run_more s ss b c r q) ∙ e)
  where
    go : (o : Option (List Cell × List ℕ)) → run_get ss r ≡ o → join c o ≡ some (cs, z) → After ss c r cs z
    go none p j = absurd (none-ne-some _ j)
    go (some (ds, y)) p j =
        let i : ◌≡◌ {A = List Cell × List ℕ} (c ∷ ds, y) (cs, z) = some-injective _ _ j in
        record {
          others = ds;
          rest = p ∙ ap (λ (x : List ℕ). some (ds, x)) (ap (λ (x : List Cell × List ℕ). x.1) i);
          all = sym (ap (λ (x : List Cell × List ℕ). x.0) i);
        }

pub record First (s : Script) (b : List ℕ) : Type 0 where
  pub cell : Cell
  pub left : List ℕ
  pub reads : s.get b ≡ some (cell, left)

pub run-first : (s : Script) (ss : List Script) (b : List ℕ) (cs : List Cell) (z : List ℕ) → run_get (s ∷ ss) b ≡ some (cs, z) → First s b
run-first s ss b cs z e = go (s.get b) refl
  where
    go : (o : Option (Cell × List ℕ)) → s.get b ≡ o → First s b
    go none q = absurd (not-both (run-stop s ss b q) e)
    go (some (c, r)) q = record { cell = c; left = r; reads = q }

-- ---- a child

module _ (w : ℕ) (m : List ℕ) (s : Script) (l : List ℕ) (from : ℕ) (c : Cell) (r : List ℕ) (e : (item w m s).get (drop from l) ≡ some (c, r)) where
  pub given-two : 2 ≤ length l - from
  given-two = by_contra _ _ (λ h. not-both (item-short w m s l from h) e)

  pub given-mark : (num (part l from 2) ≡ num nu → ⊥) → num (part l from 2) ≡ num m
  given-mark ne = go (ℕ_discrete (num (part l from 2)) (num m))
    where
      go : Dec (num (part l from 2) ≡ num m) → num (part l from 2) ≡ num m
      go (yes p) = p
      go (no p) = absurd (not-both (item-other w m s l from given-two ne p) e)

  pub given-body : (num (part l from 2) ≡ num nu → ⊥) → s.get (drop (from + 2) l) ≡ some (c, r)
  given-body ne = sym (item-body w m s l from given-two ne (given-mark ne)) ∙ e

-- ---- leaves

module _ (f : Fixed) (l : List ℕ) (at : ℕ) (c : Cell) (r : List ℕ) (e : (script (fix f)).get (drop at l) ≡ some (c, r)) where
  pub given-wide : width f ≤ length l - at
  unfolding script
  given-wide = by_contra _ _ (λ h. not-both (number_short (width f) (limit f) l at h) e)

  pub given-number : (script (fix f)).get (drop at l) ≡ some (leaf (part l at (width f)), drop (at + width f) l)
  unfolding script
  given-number =
      number-good (width f) (limit f) l at given-wide
      (by_contra _ _ (λ h. not-both (number-high (width f) (limit f) l at given-wide (omega arith)) e))

module _ (t : Text) (l : List ℕ) (at : ℕ) (c : Cell) (r : List ℕ) (e : (script (text t)).get (drop at l) ≡ some (c, r)) where
  pub given-four : 4 ≤ length l - at
  unfolding script
  given-four = by_contra _ _ (λ h. not-both (text-short t l at h) e)

  module _ (n : ℕ) (en : n ≡ num (part l at 4)) where
    pub given-long : n ≤ length l - at - 4
    unfolding script
    given-long = by_contra _ _ (λ h. not-both (text-cut t l at given-four n en h) e)

    spelled : Dec (Spells t (part l (at + 4) n)) → Spells t (part l (at + 4) n)
    unfolding script
    spelled (yes s) = s
    spelled (no f) = absurd (not-both (text-bad t l at given-four n en given-long f) e)

    pub given-text : (script (text t)).get (drop at l) ≡ some (leaf (part l (at + 4) n), drop (at + 4 + n) l)
    unfolding script
    given-text = text-good t l at given-four n en given-long (spelled (spells? t (part l (at + 4) n)))

-- ---- containers

boxed : Option (List Cell × List ℕ) → Option (Cell × List ℕ)
boxed none = none
boxed (some (cs, r)) = some (node cs, r)

unbox : (o : Option (List Cell × List ℕ)) (f : Cell → ℕ) (pos len : ℕ) → Ready (boxed o) f pos len → Ready o (λ cs. f (node cs)) pos len
unfolding boxed
unbox none f pos len g = absurd (none-ne-some _ g.reads)
unbox (some (cs, r)) f pos len g = record {
  thing = cs;
  rest = r;
  reads = refl;
  room = subst (λ (x : Cell). pos + f x ≤ len) (sym (same-thing refl g.reads)) g.room;
}

pub given-fields : (ts : Tys) (l : List ℕ) (at pos len : ℕ) → Ready ((script (ro ts)).get (drop at l)) (size (ro ts)) pos len
    → Ready (run_get (scripts ts) (drop at l)) (λ cs. size (ro ts) (node cs)) pos len
unfolding script struct_script boxed
given-fields ts l at pos len g = unbox (run_get (scripts ts) (drop at l)) (size (ro ts)) pos len (as-boxed (run_get (scripts ts) (drop at l)) refl)
  where
    as-boxed : (o : Option (List Cell × List ℕ)) → run_get (scripts ts) (drop at l) ≡ o → Ready (boxed (run_get (scripts ts) (drop at l))) (size (ro ts)) pos len
    as-boxed none q = let z : (script (ro ts)).get (drop at l) ≡ none = rw q in absurd (not-both z g.reads)
    as-boxed (some (cs, r)) q = record { thing = g.thing; rest = g.rest; reads = rw q (rw q at g.reads); room = g.room }

module _ (l : List ℕ) (at pos len : ℕ) where
  module _ (t : Ty) (g : Ready ((script (li t)).get (drop at l)) (size (li t)) pos len) where
    pub list-four : 4 ≤ length l - at
    unfolding script list_script
    list-four = by_contra _ _ (λ h. let z : (script (li t)).get (drop at l) ≡ none = rw (cut_short 4 l at h) in not-both z g.reads)

    abbrev run : ℕ → Option (List Cell × List ℕ)
    run n = run_get (replicate n (element t (script t))) (drop (at + 4) l)

    pub given-list : (n : ℕ) → n ≡ num (part l at 4) → Ready (run n) (λ cs. size (li t) (node cs)) pos len
    unfolding script list_script boxed
    given-list n e = unbox (run n) (size (li t)) pos len (as-boxed (run n) refl (rw (cut_at 4 l at list-four, ← e) at g.reads))
      where
        as-boxed : (o : Option (List Cell × List ℕ)) → run n ≡ o → ◌>>=◌ {B = Cell × List ℕ} o (λ (cs, r). some (node cs, r)) ≡ some (g.thing, g.rest)
            → Ready (boxed (run n)) (size (li t)) pos len
        as-boxed none q z = absurd (none-ne-some _ z)
        as-boxed (some (cs, r)) q z = record { thing = g.thing; rest = g.rest; reads = rw q z; room = g.room }

  pub record Pair (k v : Ty) (n : ℕ) : Type 0 where
    pub ks : List Cell
    pub mid : List ℕ
    pub vs : List Cell
    pub rest : List ℕ
    pub keys : run_get (replicate n (element k (script k))) (drop (at + 4) l) ≡ some (ks, mid)
    pub values : run_get (replicate n (element v (script v))) mid ≡ some (vs, rest)
    pub room : pos + (8 + size (li k) (node ks) + size (li v) (node vs)) ≤ len

  module _ (k v : Ty) (g : Ready ((script (ma k v)).get (drop at l)) (size (ma k v)) pos len) where
    pub map-four : 4 ≤ length l - at
    unfolding script map_script
    map-four = by_contra _ _ (λ h. let z : (script (ma k v)).get (drop at l) ≡ none = rw (cut_short 4 l at h) in not-both z g.reads)

    module _ (n : ℕ) (e : n ≡ num (part l at 4)) where
      pub given-map : Pair k v n
      unfolding script map_script
      given-map = one (run_get (replicate n (element k (script k))) (drop (at + 4) l)) refl (rw (cut_at 4 l at map-four, ← e) at g.reads)
        where
          two : (ks : List Cell) (mid : List ℕ) → run_get (replicate n (element k (script k))) (drop (at + 4) l) ≡ some (ks, mid)
              → (o : Option (List Cell × List ℕ)) → run_get (replicate n (element v (script v))) mid ≡ o
              → ◌>>=◌ {B = Cell × List ℕ} o (λ (vs, r). some (node (node ks ∷ node vs ∷ []), r)) ≡ some (g.thing, g.rest) → Pair k v n
          two ks mid q none p z = absurd (none-ne-some _ z)
          two ks mid q (some (vs, r)) p z = record {
            ks = ks;
            mid = mid;
            vs = vs;
            rest = r;
            keys = q;
            values = p;
            room = rw (map-size k v ks vs) (subst (λ (x : Cell). pos + size (ma k v) x ≤ len) (sym (same-thing refl z)) g.room);
          }

          one : (o : Option (List Cell × List ℕ)) → run_get (replicate n (element k (script k))) (drop (at + 4) l) ≡ o
              → ◌>>=◌ {B = Cell × List ℕ} o (λ (ks, r). ◌>>=◌ {B = Cell × List ℕ} (run_get (replicate n (element v (script v))) r)
              (λ (vs, r'). some (node (node ks ∷ node vs ∷ []), r'))) ≡ some (g.thing, g.rest) → Pair k v n
          one none q z = absurd (none-ne-some _ z)
          one (some (ks, mid)) q z = two ks mid q (run_get (replicate n (element v (script v))) mid) refl z
