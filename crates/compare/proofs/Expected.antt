-- What a table says at a place where it is the one that its schema gives: the entry that building lays there. Assumes nothing.
use Rattle.std.proofs.Common.{◌≡◌, ℕ, ◌+◌, ◌-◌, ◌*◌, ◌/◌, ◌%◌, ◌<◌, ◌≤◌, ◌⊎◌, List, length, get_or, take, set, sym, refl, ap, ◌∙◌, inl, inr, arith, length-take-le, get_or-take, get_or-set_same}
use native.Mathlib.Decide.{dec_lt, ℕ_discrete}
use Rattle.table.specs.Words.{line_word, MarkAt, line_for, held_at, behind_at}
use Rattle.table.specs.Tables.{Built, BuiltAt}
use Rattle.table.proofs.Lines.{held_small}
use Rattle.table.proofs.Filling.{Filled, nothing, filled}
use Rattle.table.proofs.Running.{run}
use Rattle.table.proofs.Building.{neither, Ends, Looking, Scanned, Marked, OpenHolder, is-marked, unmarked, is-opened, going-deep}
use Rattle.table.proofs.Building.{going-shut, leaf-run, place_in}
use Rattle.table.proofs.Opening.{open-run}
use Rattle.compare.specs.Lent.{Own}
use Rattle.compare.proofs.Runs.{owed, owed-push, run-bounds, run-low, run-same}
use Rattle.compare.proofs.Opened.{Rising}

-- building does not end without a table
pub unbuilt : {s t U : List ℕ} → Own s t → Built s 0 U → ⊥
unbuilt o b = let x = b.accepted o.accepted in omega (arith, x.some)

-- what is left to lay leads to the table
pub record Lands (s t F : List ℕ) (d at i n : ℕ) (T : List ℕ) : Type 0 where
  pub table : List ℕ
  pub is : run s F d at i n T ≡ filled (length s) (length t) table
  pub same : take (length t) table ≡ t

pub lands : {s t F : List ℕ} {d at i n : ℕ} {T : List ℕ} → Own s t → Ends s (run s F d at i n T) → Lands s t F d at i n T
lands {s} {t} {F} {d} {at} {i} {n} {T} o h = go (run s F d at i n T) refl h
  where
    whole : (a j : ℕ) (U : List ℕ) → run s F d at i n T ≡ filled a j U → a ≡ length s → BuiltAt s j U → Lands s t F d at i n T
    whole a j U e q b =
        let g : take j U ≡ t = b.given ∙ sym o.given in
        let l : j ≡ length t = sym (length-take-le j U b.room) ∙ ap length g in
        record {
          table = U;
          is = e ∙ ap (λ (u : ℕ). filled u j U) q ∙ ap (λ (u : ℕ). filled (length s) u U) l;
          same = ap (λ (u : ℕ). take u U) (sym l) ∙ g;
        }

    go : (x : Filled) → run s F d at i n T ≡ x → Ends s x → Lands s t F d at i n T
    go nothing e z = absurd (neither o.accepted z)
    go (filled a j U) e z = by (ℕ_discrete a (length s))
      where
        by : Dec (a ≡ length s) → Lands s t F d at i n T
        by (yes q) = whole a j U e q ((z.0 q).accepted o.accepted)
        by (no q) = absurd (neither o.accepted (z.1 q))

-- the words of the table are those that are laid
pub landed : {s t F : List ℕ} {d at i n : ℕ} {T : List ℕ} (y : Lands s t F d at i n T) (p : ℕ) → p < length t → get_or t p 0 ≡ get_or y.table p 0
landed {s} {t} y p l = ap (λ (u : List ℕ). get_or u p 0) (sym y.same) ∙ get_or-take (length t) y.table p 0 l

-- ---- the entry of the type at a position

-- of a leaf: its line, place and depth
pub record LeafSays (t : List ℕ) (i base m : ℕ) : Type 0 where
  pub kind : ℕ
  pub small : kind < 9
  pub mark : line_word kind % 65536 ≡ m
  pub is : get_or t i 0 ≡ line_word kind + base

-- of a container: its line, place, depth and children; and how many words and bytes those take at least
pub record HolderSays (s t F : List ℕ) (d at i n base m : ℕ) : Type 0 where
  pub kind : ℕ
  pub low : 9 ≤ kind
  pub high : kind < 12
  pub mark : line_word kind % 65536 ≡ m
  pub shallow : d < 6
  pub count : ℕ
  pub held : count ≡ held_at s (at + 2) kind
  pub some : 0 < count
  pub is : get_or t i 0 % 18014398509481984 ≡ line_word kind + count * 68719476736 + (base - (i + 1) * 18014398509481984)
  pub types : i + n + owed F d + count ≤ length t
  pub bytes : behind_at (at + 2) kind + 2 * length t ≤ length s + 2 * (i + 1)

-- no frame's container stands at i
pub apart : {F : List ℕ} {d i : ℕ} → Rising F d i → (q : ℕ) → q ≤ d → get_or F q 0 / 256 ≡ i → ⊥
apart g q l e = omega (arith, g.below q l)

module _ {s t F T : List ℕ} {d at i n base : ℕ} (o : Own s t) (g : Rising F d i) where
  leaf-says : {w k m : ℕ} → Marked s T F d at i n base w k → k < 9 → w % 65536 ≡ m → LeafSays t i base m
  leaf-says {w} {k} {m} M h e =
      let y = lands o M.looking.going.ends in
      let r = sym (leaf-run M h) ∙ y.is in
      let b = run-bounds _ _ _ _ _ _ _ r in
      let u : get_or y.table i 0 ≡ w + base = run-same _ _ _ _ _ _ _ r i (omega arith) (apart g) ∙ get_or-set_same T i (w + base) 0 (place_in M) in
      let v = landed y i (omega (arith, b.types)) in
      record {
        kind = k;
        small = h;
        mark = ap (λ (z : ℕ). z % 65536) (sym M.line.is) ∙ e;
        is = v ∙ u ∙ ap (λ (z : ℕ). z + base) M.line.is;
      }

  holder-says : {w k c m : ℕ} → OpenHolder s T F d at i n base w k c → w % 65536 ≡ m → HolderSays s t F d at i n base m
  holder-says {w} {k} {c} {m} O e =
      let M = O.marked in
      let y = lands o M.looking.going.ends in
      let r = sym (open-run O {at' = behind_at (at + 2) k} refl) ∙ y.is in
      let b = run-bounds _ _ _ _ _ _ _ r in
      let x = i * 256 + (n - 1) in
      let few : c ≤ 128 = held_small s (at + 2) k c O.held M.line.known in
      let W = w + c * 68719476736 + (base - (i + 1) * 18014398509481984) in
      let z : owed (set F (d + 1) x) (d + 1) ≡ x % 256 + owed F d = owed-push F d x M.looking.going.frames (omega (arith, O.shallow)) in
      let f : x % 256 ≡ n - 1 = omega (arith, M.looking.going.few) in
      let u : get_or y.table i 0 % 18014398509481984 ≡ W % 18014398509481984 = run-low _ _ _ _ _ _ _ r i (omega arith) ∙ ap (λ (v : ℕ). v % 18014398509481984)
      (get_or-set_same T i W 0 (place_in M)) in
      let q : W % 18014398509481984 ≡ W = omega (arith, M.looking.going.made, M.line.small, M.looking.going.half, M.looking.going.within) in
      let v = landed y i (omega (arith, b.types)) in
      record {
        kind = k;
        low = O.holds;
        high = M.line.known;
        mark = ap (λ (z : ℕ). z % 65536) (sym M.line.is) ∙ e;
        shallow = O.shallow;
        count = c;
        held = O.held;
        some = O.some;
        is = ap (λ (v : ℕ). v % 18014398509481984) v ∙ u ∙ q ∙ ap (λ (z : ℕ). z + c * 68719476736 + (base - (i + 1) * 18014398509481984)) M.line.is;
        types = omega (arith, b.types, z, f, M.looking.left);
        bytes = b.bytes;
      }

  module _ {m : ℕ} (x : Scanned s T F d at i n base m (line_for m)) where
    module _ (e : line_for m % 65536 ≡ m) where
      M : Marked s T F d at i n base (line_for m) (line_for m / 268435456)
      M = is-marked x e

      held : 2415919104 ≤ line_for m → Dec (d ≡ 6) → Dec (held_at s (at + 2) (line_for m / 268435456) ≡ 0) → HolderSays s t F d at i n base m
      held h (yes p) q = absurd (unbuilt o (going-deep M h p {U = T}))
      held h (no p) (yes q) = absurd (unbuilt o (going-shut M h refl q {U = T}))
      held h (no p) (no q) = holder-says (is-opened M h refl p q) e

      kinds : Dec (line_for m / 268435456 < 9) → LeafSays t i base m ⊎ HolderSays s t F d at i n base m
      kinds (yes h) = inl (leaf-says M h e)
      kinds (no h) = inr (held (omega arith) (ℕ_discrete d 6) (ℕ_discrete (held_at s (at + 2) (line_for m / 268435456)) 0))

    marks : Dec (line_for m % 65536 ≡ m) → LeafSays t i base m ⊎ HolderSays s t F d at i n base m
    marks (no z) = absurd (unbuilt o (unmarked x z {U = T}))
    marks (yes e) = kinds e (dec_lt (line_for m / 268435456) 9)

  pub says : {m : ℕ} → Looking s T F d at i n base → at + 2 ≤ length s → MarkAt s at m → LeafSays t i base m ⊎ HolderSays s t F d at i n base m
  says {m} l r q = marks (record { looking = l; room = r; mark = q; line = refl }) (ℕ_discrete (line_for m % 65536) m)
