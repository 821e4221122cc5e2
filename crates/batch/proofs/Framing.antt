-- Framing and taking apart are each other's inverse, and a batch goes on where another ends. Assumes nothing.
use mathlib.Core.Path.{◌≡◌, refl, sym, ap, ◌∙◌, subst}
use mathlib.Core.Option.{Option, none, some}
use mathlib.Core.List.{List, [], ◌∷◌, ◌++◌, append_assoc, append-nil}
use Prim.Native.Nat.{ℕ, zero, suc, ◌+◌, ◌^◌, ◌≤◌, ◌<◌}
use native.Mathlib.Omega.{arith}
use native.Mathlib.Decide.{dec_le}
use lib.ListN.{length, take, drop, length-append, length-drop}
use Rattle.words.specs.Bytes.{Bytes}
use Rattle.layout.specs.Reader.{◌>>=◌, ◌>>◌, cut}
use Rattle.layout.proofs.Reader.{When, refused, yields, when-bind, when-then, when-map, when-some, when-assert, cut-back, cut-forth}
use Rattle.batch.specs.Frames.{be, big, frame, framing, Framable, no_rows, another, first, frames, frames_in, framed}
use Rattle.batch.specs.Places.{joined}
use Rattle.batch.proofs.Sizes.{length-be, big-be, be-big, big_lt}

pub length-frame : (row : List ℕ) → length (frame row) ≡ 4 + length row
unfolding frame
length-frame row = rw (length-append (be 4 (length row)) row, length-be 4 (length row))

pub framing-append : (us vs : List (List ℕ)) → framing (us ++ vs) ≡ framing us ++ framing vs
unfolding framing
framing-append [] vs = refl
framing-append (u ∷ us) vs = ap (λ (t : List ℕ). frame u ++ t) (framing-append us vs) ∙ sym (append_assoc (frame u) (framing us) (framing vs))

pub framing-one : (row : List ℕ) → framing (row ∷ []) ≡ frame row
unfolding framing
framing-one row = append-nil (frame row)

-- ---- the first frame

first_back : (row rest : List ℕ) → length row < 256 ^ 4 → first (frame row ++ rest) ≡ some (row, rest)
unfolding first frame
first_back row rest h =
    let size = cut-back 4 (be 4 (length row)) (row ++ rest) (length-be 4 (length row)) in
    rw (append_assoc (be 4 (length row)) row rest, size, big-be 4 (length row) h, cut-back (length row) row rest refl)

pub record First (b : List ℕ) (p : List ℕ × List ℕ) : Type 0 where
  pub short : length p.0 < 256 ^ 4
  pub whole : frame p.0 ++ p.1 ≡ b
  pub row : Bytes p.0
  pub rest : Bytes p.1

first-forth : {b : List ℕ} → Bytes b → When (First b) (first b)
unfolding first frame
first-forth {b} h = when-bind (cut-forth 4 h) λ p q. when-map (cut-forth (big p.0) q.rest) λ r z.
    let low : big p.0 < 256 ^ 4 = subst (λ (n : ℕ). big p.0 < 256 ^ n) q.size (big_lt q.front) in
    let head : be 4 (length r.0) ≡ p.0 = rw (z.size, ← q.size) (be-big q.front) in
    record {
      short = rw z.size low;
      whole = rw (head, append_assoc p.0 r.0 r.1, z.whole, q.whole);
      row = z.front;
      rest = z.rest;
    }

-- whatever the bytes are, a frame takes some of them
cut-less : (n : ℕ) (b : List ℕ) → When (λ p. n + length p.1 ≤ length b) (cut n b)
unfolding cut
cut-less n b = when-then (when-assert (dec_le n (length b))) λ _ l. yields {a = (take n b, drop n b)} (rw length-drop (omega arith))

first-less : (b : List ℕ) → When (λ p. length p.1 < length b) (first b)
unfolding first
first-less b = when-bind (cut-less 4 b) λ p q. when-map (cut-less (big p.0) p.1) λ r z. omega arith

-- ---- all frames

module _ (f g : List ℕ → Option (List (List ℕ))) where
  bind-same : {m : Option (List ℕ × List ℕ)} → When (λ p. f p.1 ≡ g p.1) m
      → (m >>= λ p. f p.1 >>= λ rows. some (p.0 ∷ rows)) ≡ (m >>= λ p. g p.1 >>= λ rows. some (p.0 ∷ rows))
  bind-same refused = refl
  bind-same (yields {a = p} e) = ap (λ (t : Option (List (List ℕ))). t >>= λ rows. some (p.0 ∷ rows)) e

  frames-same : (b : List ℕ) → ((r : List ℕ) → length r < length b → f r ≡ g r) → frames f b ≡ frames g b
  unfolding frames
  frames-same [] h = refl
  frames-same (x ∷ b) h = bind-same (when-map (first-less (x ∷ b)) λ p l. h p.1 l)

-- more turns than there are bytes change nothing
enough : (n m : ℕ) (b : List ℕ) → length b < n → length b < m → frames_in n b ≡ frames_in m b
unfolding frames_in
enough zero m b h k = absurd (omega arith)
enough (suc n) zero b h k = absurd (omega arith)
enough (suc n) (suc m) b h k = frames-same (frames_in n) (frames_in m) b (λ r l. enough n m r (omega arith) (omega arith))

pub framed-nil : framed [] ≡ some []
unfolding framed frames_in frames
framed-nil = refl

bind-joined : (row : List ℕ) (m : Option (List (List ℕ))) → (m >>= λ rows. some (row ∷ rows)) ≡ joined (row ∷ []) m
bind-joined row none = refl
bind-joined row (some rows) = refl

pub framed-next : (b row rest : List ℕ) → first b ≡ some (row, rest) → framed b ≡ joined (row ∷ []) (framed rest)
unfolding framed frames_in frames
framed-next [] row rest e = let l : length rest < 0 = when-some (first-less []) e in absurd (omega arith)
framed-next (x ∷ b) row rest e =
    let l : length rest < suc (length b) = when-some (first-less (x ∷ b)) e in
    let same = enough (suc (length b)) (suc (length rest)) rest (omega arith) (omega arith) in
    rw e (ap (λ (m : Option (List (List ℕ))). m >>= λ rows. some (row ∷ rows)) same ∙ bind-joined row (framed rest))

pub framed-broken : (b : List ℕ) → 0 < length b → first b ≡ none → framed b ≡ none
unfolding framed frames_in frames
framed-broken [] h e = absurd (omega arith)
framed-broken (x ∷ b) h e = rw e

pub joined-joined : (us vs : List (List ℕ)) (m : Option (List (List ℕ))) → joined us (joined vs m) ≡ joined (us ++ vs) m
joined-joined us vs none = refl
joined-joined us vs (some ws) = ap some (sym (append_assoc us vs ws))

pub joined-nil : (m : Option (List (List ℕ))) → joined [] m ≡ m
joined-nil none = refl
joined-nil (some us) = refl

-- ---- the inverses

-- frames with a batch behind them
pub framed-on : {rows : List (List ℕ)} (c : List ℕ) → Framable rows → framed (framing rows ++ c) ≡ joined rows (framed c)
unfolding framing
framed-on c no_rows = sym (joined-nil (framed c))
framed-on c (another {u = u} {us = us} l h) =
    ap framed (append_assoc (frame u) (framing us) c)
    ∙ framed-next (frame u ++ (framing us ++ c)) u (framing us ++ c) (first_back u (framing us ++ c) l)
    ∙ ap (joined (u ∷ [])) (framed-on c h)
    ∙ joined-joined (u ∷ []) us (framed c)

-- rows framed, and taken apart again
pub framed-back : {rows : List (List ℕ)} → Framable rows → framed (framing rows) ≡ some rows
framed-back {rows} h =
    ap framed (sym (append-nil (framing rows))) ∙ framed-on [] h ∙ ap (joined rows) framed-nil ∙ ap some (append-nil rows)

pub record Apart (b : List ℕ) (rows : List (List ℕ)) : Type 0 where
  pub fits : Framable rows
  pub whole : framing rows ≡ b

apart-turn : (f : List ℕ → Option (List (List ℕ))) → ((b : List ℕ) → Bytes b → When (Apart b) (f b)) → (b : List ℕ) → Bytes b → When (Apart b) (frames f b)
unfolding frames framing
apart-turn f k [] h = yields (record { fits = no_rows; whole = refl })
apart-turn f k (x ∷ b) h = when-bind (first-forth h) λ p q. when-bind (k p.1 q.rest) λ rows z.
    yields {a = p.0 ∷ rows} (record { fits = another q.short z.fits; whole = rw z.whole q.whole })

apart : (n : ℕ) (b : List ℕ) → Bytes b → When (Apart b) (frames_in n b)
unfolding frames_in
apart zero b h = refused
apart (suc n) b h = apart-turn (frames_in n) (λ r k. apart n r k) b h

-- a batch taken apart, and its rows framed again
pub framed-forth : {b : List ℕ} {rows : List (List ℕ)} → Bytes b → framed b ≡ some rows → Apart b rows
unfolding framed
framed-forth {b} h e = when-some (apart (suc (length b)) b h) e
