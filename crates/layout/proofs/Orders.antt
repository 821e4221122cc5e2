-- Ranges stand, and take all the room, exactly when in some order they come one after another, with no gap. Assumes nothing.
use mathlib.Core.Path.{◌≡◌, refl, ap, ◌∙◌}
use mathlib.Core.Logic.{inl, inr}
use mathlib.Core.List.{List, [], ◌∷◌}
use Prim.Native.Nat.{ℕ, ◌+◌, ◌%◌, ◌≤◌}
use native.Mathlib.Omega.{arith}
use Rattle.layout.specs.Tiles.{Range, total, Apart, Aparts}
use Rattle.layout.specs.Orders.{Insert, here, there, Order, nothing, put}
use Rattle.layout.proofs.Tiles.{Standing}

-- one after another, with no gap, from at to stop
unfoldable pub Row : ℕ → List Range → ℕ → Type 0
Row at [] stop = at ≡ stop
Row at (q ∷ qs) stop = (q.start ≡ at) × Row (at + q.size) qs stop

-- in some order, one after another
pub record SomeOrder (at : ℕ) (rs : List Range) (stop : ℕ) : Type 0 where
  pub order : List Range
  pub same : Order rs order
  pub row : Row at order stop

-- ---- from ranges that stand to an order

-- one after another, with gaps
unfoldable Chain : ℕ → List Range → ℕ → Type 0
Chain at [] stop = at ≤ stop
Chain at (q ∷ qs) stop = (at ≤ q.start) × Chain (q.start + q.size) qs stop

insert-total : (r : Range) {qs qs' : List Range} → Insert r qs qs' → total qs' ≡ r.size + total qs
unfolding total
insert-total r here = refl
insert-total r (there {y = q} i) = rw (insert-total r i) (omega arith)

order-total : {rs qs : List Range} → Order rs qs → total qs ≡ total rs
unfolding total
order-total nothing = refl
order-total (put {x = r} o i) = insert-total r i ∙ ap (λ (n : ℕ). r.size + n) (order-total o)

insert-aparts : (x r : Range) {qs qs' : List Range} → Insert r qs qs' → Apart x r → Aparts x qs → Aparts x qs'
insert-aparts x r here a bs = (a, bs)
insert-aparts x r (there i) a bs = (bs.0, insert-aparts x r i a bs.1)

order-aparts : (x : Range) {rs qs : List Range} → Order rs qs → Aparts x rs → Aparts x qs
order-aparts x nothing a = tt
order-aparts x (put {x = r} o i) a = insert-aparts x r i a.0 (order-aparts x o a.1)

abbrev Chained : ℕ → Range → List Range → ℕ → Type 0
Chained at r qs stop = (qs' : List Range) × Insert r qs qs' × Chain at qs' stop

-- a range apart from all has its place in the chain
into : (at stop : ℕ) (r : Range) (qs : List Range) → Chain at qs stop → at ≤ r.start → r.start + r.size ≤ stop → Aparts r qs → Chained at r qs stop
unfolding Chain
into at stop r [] c l h a = (r ∷ [], here, (l, h))
into at stop r (q ∷ qs) c l h a = go a.0 λ e. into (q.start + q.size) stop r qs c.1 e h a.1
  where
    go : Apart r q → (q.start + q.size ≤ r.start → Chained (q.start + q.size) r qs stop) → Chained at r (q ∷ qs) stop
    go (inl e) n = (r ∷ q ∷ qs, here, (l, (e, c.1)))
    go (inr e) n = (q ∷ (n e).0, there (n e).1, (c.0, (n e).2))

chain-of : (at stop : ℕ) (rs : List Range) → at ≤ stop → Standing at stop rs → (qs : List Range) × Order rs qs × Chain at qs stop
unfolding Chain
chain-of at stop [] l s = ([], nothing, l)
chain-of at stop (r ∷ rs) l s =
    let c = chain-of at stop rs l s.1 in
    let n = into at stop r c.0 c.2 s.0.low s.0.high (order-aparts r c.1 s.0.clear) in
    (n.0, put c.1 n.1, n.2)

chain-room : (at stop : ℕ) (qs : List Range) → Chain at qs stop → at + total qs ≤ stop
unfolding Chain total
chain-room at stop [] c = omega arith
chain-room at stop (q ∷ qs) c = omega (arith, chain-room (q.start + q.size) stop qs c.1)

-- a chain that takes all the room has no gaps
tight : (at stop : ℕ) (qs : List Range) → Chain at qs stop → at + total qs ≡ stop → Row at qs stop
unfolding Chain Row total
tight at stop [] c e = omega arith
tight at stop (q ∷ qs) c e =
    let h = chain-room (q.start + q.size) stop qs c.1 in
    let p : q.start ≡ at = omega arith in
    (p, rw p at (tight (q.start + q.size) stop qs c.1 (omega arith)))

pub stands-order : (at stop : ℕ) (rs : List Range) → Standing at stop rs → at + total rs ≡ stop → SomeOrder at rs stop
stands-order at stop rs s e =
    let c = chain-of at stop rs (omega arith) s in
    record { order = c.0; same = c.1; row = tight at stop c.0 c.2 (rw (order-total c.1) e) }

-- ---- from an order to ranges that stand

row-chain : (at stop : ℕ) (qs : List Range) → Row at qs stop → Chain at qs stop
unfolding Chain Row
row-chain at stop [] r = omega arith
row-chain at stop (q ∷ qs) r = (omega arith, rw r.0 (row-chain (at + q.size) stop qs r.1))

row-total : (at stop : ℕ) (qs : List Range) → Row at qs stop → at + total qs ≡ stop
unfolding Row total
row-total at stop [] r = omega (arith, r)
row-total at stop (q ∷ qs) r = omega (arith, row-total (at + q.size) stop qs r.1)

-- every range behind a place is apart from what ends there
behind : (at stop : ℕ) (r : Range) (qs : List Range) → Chain at qs stop → r.start + r.size ≤ at → Aparts r qs
unfolding Chain
behind at stop r [] c h = tt
behind at stop r (q ∷ qs) c h = (inl (omega arith), behind (q.start + q.size) stop r qs c.1 (omega arith))

-- one taken out of a chain: it was apart from the others, and they are a chain
out : (r : Range) (at stop : ℕ) {qs qs' : List Range} → Insert r qs qs' → Chain at qs' stop
    → (at ≤ r.start) × (r.start + r.size ≤ stop) × Aparts r qs × Chain at qs stop
unfolding Chain
out r at stop (here {ys = qs}) c = (
  c.0,
  omega (arith, chain-room (r.start + r.size) stop qs c.1),
  behind (r.start + r.size) stop r qs c.1 (omega arith),
  wider at (r.start + r.size) stop qs (omega arith) c.1,
)
  where
    wider : (at at' stop : ℕ) (qs : List Range) → at ≤ at' → Chain at' qs stop → Chain at qs stop
    wider at at' stop [] l c = omega arith
    wider at at' stop (q ∷ qs) l c = (omega arith, c.1)
out r at stop (there {y = q} i) c =
    let o = out r (q.start + q.size) stop i c.1 in
    (omega arith, o.1, (inr o.0, o.2), (c.0, o.3))

abbrev pub Eights : List Range → Type 0
Eights [] = Unit {0}
Eights (r ∷ rs) = (r.size % 8 ≡ 0) × Eights rs

insert-eights : (r : Range) {qs qs' : List Range} → Insert r qs qs' → r.size % 8 ≡ 0 → Eights qs → Eights qs'
insert-eights r here a bs = (a, bs)
insert-eights r (there i) a bs = (bs.0, insert-eights r i a bs.1)

order-eights : {rs qs : List Range} → Order rs qs → Eights rs → Eights qs
order-eights nothing e = tt
order-eights (put {x = r} o i) e = insert-eights r i e.0 (order-eights o e.1)

-- their places are multiples of 8 too
abbrev Even : List Range → Type 0
Even [] = Unit {0}
Even (r ∷ rs) = (r.start % 8 ≡ 0) × Even rs

row-even : (at stop : ℕ) (qs : List Range) → at % 8 ≡ 0 → Eights qs → Row at qs stop → Even qs
unfolding Row
row-even at stop [] e s r = tt
row-even at stop (q ∷ qs) e s r = (omega arith, row-even (at + q.size) stop qs (omega arith) s.1 r.1)

out-even : (r : Range) {qs qs' : List Range} → Insert r qs qs' → Even qs' → (r.start % 8 ≡ 0) × Even qs
out-even r here e = (e.0, e.1)
out-even r (there i) e = let o = out-even r i e.1 in (o.0, (e.0, o.1))

apart_out : (x r : Range) {qs qs' : List Range} → Insert r qs qs' → Aparts x qs' → Apart x r × Aparts x qs
apart_out x r here a = (a.0, a.1)
apart_out x r (there i) a = let o = apart_out x r i a.1 in (o.0, (a.0, o.1))

order-out : (x : Range) {rs qs : List Range} → Order rs qs → Aparts x qs → Aparts x rs
order-out x nothing a = tt
order-out x (put {x = r} o i) a = let p = apart_out x r i a in (p.0, order-out x o p.1)

standing-of : (at stop : ℕ) {rs qs : List Range} → Order rs qs → Chain at qs stop → Even qs → Standing at stop rs
standing-of at stop nothing c e = tt
standing-of at stop (put {x = r} o i) c e =
    let p = out r at stop i c in
    let q = out-even r i e in
    (record { low = p.0; high = p.1; eight = q.0; clear = order-out r o p.2 }, standing-of at stop o p.3 q.1)

pub order-stands : (at stop : ℕ) (rs : List Range) → at % 8 ≡ 0 → Eights rs → SomeOrder at rs stop → Standing at stop rs × (at + total rs ≡ stop)
order-stands at stop rs e s t = (
  standing-of at stop t.same (row-chain at stop t.order t.row) (row-even at stop t.order e (order-eights t.same s) t.row),
  rw (order-total t.same) at (row-total at stop t.order t.row),
)
