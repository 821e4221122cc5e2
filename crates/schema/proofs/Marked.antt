-- A list begins with the mark of a place of the table exactly where its head has that place's kind. Assumes nothing.
use mathlib.Core.Path.{◌≡◌, refl, ap, sym, ◌∙◌, subst}
use mathlib.Core.Bool.{Bool, true, false}
use mathlib.Core.List.{List, [], ◌∷◌, ◌++◌}
use Prim.Native.Nat.{ℕ, ◌+◌, ◌-◌, ◌<◌, ◌≤◌}
use native.Mathlib.Decide.{dec_lt}
use native.Mathlib.Omega.{arith}
use borrow.Author.Tests.{ltb-true, ltb-false}
use lib.Dec.{ltb}
use lib.ListN.{drop}
use Rattle.schema.specs.Marks.{types, line, mark_at}
use Rattle.schema.specs.Kinds.{find, kind_of_place, kind_of, place_of, head_kind, Kind, fixed_kind, text_kind, list_kind, map_kind, struct_kind, no_kind}
use Rattle.schema.proofs.Table.{each, agree}
use Rattle.schema.proofs.Search.{place-marks, placed-out}

-- the place of a kind
abbrev pub place_of_kind : Kind → ℕ
place_of_kind (fixed_kind k) = k
place_of_kind (text_kind k) = k
place_of_kind list_kind = 9
place_of_kind map_kind = 10
place_of_kind struct_kind = 11
place_of_kind no_kind = 12

-- a text's place is 7 or 8
pub record TextPlace (k : ℕ) : Type 0 where
  pub low : 7 ≤ k
  pub high : k < 9

-- a kind that stands in the table, its leaves at their places
abbrev pub Small : Kind → Type 0
Small (fixed_kind k) = k < 7
Small (text_kind k) = TextPlace k
Small list_kind = Unit {0}
Small map_kind = Unit {0}
Small struct_kind = Unit {0}
Small no_kind = ⊥

pub place-kind : (k : ℕ) → k < 12 → place_of_kind (kind_of_place k) ≡ k
unfolding kind_of_place types kind_of
place-kind = agree (λ k. place_of_kind (kind_of_place k)) (λ k. k) 12 refl

pub fixed-placed : (k : ℕ) → k < 7 → kind_of_place k ≡ fixed_kind k
unfolding kind_of_place types kind_of
fixed-placed = agree kind_of_place fixed_kind 7 refl

text-from : (j : ℕ) → j < 2 → kind_of_place (7 + j) ≡ text_kind (7 + j)
unfolding kind_of_place types kind_of
text-from = agree (λ j. kind_of_place (7 + j)) (λ j. text_kind (7 + j)) 2 refl

pub text-placed : (k : ℕ) → 7 ≤ k → k < 9 → kind_of_place k ≡ text_kind k
text-placed k l h =
    let e : 7 + (k - 7) ≡ k = omega arith in
    subst (λ (n : ℕ). kind_of_place n ≡ text_kind n) e (text-from (k - 7) (omega arith))

holder-kind : (j : ℕ) → j < 3 → Small (kind_of_place (9 + j))
unfolding kind_of_place types kind_of
holder-kind = each (λ j. Small (kind_of_place (9 + j))) 3 (tt, (tt, (tt, tt)))

small-kind : (k : ℕ) → k < 12 → Small (kind_of_place k)
small-kind k h = go (dec_lt k 7) (dec_lt k 9)
  where
    go : Dec (k < 7) → Dec (k < 9) → Small (kind_of_place k)
    go (yes p) q = subst Small (sym (fixed-placed k p)) p
    go (no p) (yes q) = subst Small (sym (text-placed k (omega arith) q)) (record { low = omega arith; high = q })
    go (no p) (no q) =
        let e : 9 + (k - 9) ≡ k = omega arith in
        subst (λ (n : ℕ). Small (kind_of_place n)) e (holder-kind (k - 9) (omega arith))

-- the kind of a mark's list is that of its place
pub mark-kind : (r : List ℕ) (k : ℕ) → k < 12 → head_kind (mark_at k ++ r) ≡ kind_of_place k
unfolding head_kind mark_at types find place_of
mark-kind r = agree (λ k. head_kind (mark_at k ++ r)) kind_of_place 12 refl

abbrev pub Real : Kind → Type 0
Real (fixed_kind k) = Unit {0}
Real (text_kind k) = Unit {0}
Real list_kind = Unit {0}
Real map_kind = Unit {0}
Real struct_kind = Unit {0}
Real no_kind = ⊥

-- what a list that has a kind begins with
pub record Headed (s : List ℕ) (κ : Kind) : Type 0 where
  pub begins : s ≡ mark_at (place_of_kind κ) ++ drop 2 s
  pub small : Small κ

two : (a b k : ℕ) (r : List ℕ) → place_of a b ≡ k → k < 12 → a ∷ b ∷ r ≡ mark_at k ++ r
unfolding mark_at
two a b k r e h =
    let m = place-marks a b (rw e h) in
    let p : (line k).first ≡ a = rw (← e) m.first in
    let q : (line k).second ≡ b = rw (← e) m.second in
    rw (p, q)

pub headed : (s : List ℕ) (κ : Kind) → head_kind s ≡ κ → Real κ → Headed s κ
unfolding head_kind
headed [] κ e h = absurd (subst Real (sym e) h)
headed (a ∷ []) κ e h = absurd (subst Real (sym e) h)
headed (a ∷ b ∷ r) κ e h = go (ltb (place_of a b) 12) refl
  where
    go : (t : Bool) → ltb (place_of a b) 12 ≡ t → Headed (a ∷ b ∷ r) κ
    go true p =
        let l = ltb-true _ _ p in
        record {
          begins = two a b (place_of_kind κ) r (sym (place-kind _ l) ∙ ap place_of_kind e) (rw (← e, place-kind _ l) l);
          small = subst Small e
              (small-kind _ l);
        }
    go false p = absurd (subst Real (sym e ∙ placed-out _ (ltb-false _ _ p)) h)
