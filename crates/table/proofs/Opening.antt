-- Building, where a container is opened: its frame, and its children next. Assumes nothing.
use Rattle.std.proofs.Common.{◌≡◌, ℕ, ◌+◌, ◌-◌, ◌*◌, ◌/◌, ◌<◌, ◌≤◌, Bool, true, false, cond, leb, List, length, get_or, set, sym, refl, ap, ◌∙◌, subst, arith, length-set, get_or-set_other, get_or-set_same, w64, Fits, eq-eqb, ne_eqb, leb-true}
use native.Mathlib.Decide.{dec_lt}
use Rattle.words.proofs.Parts.{byte-room}
use Rattle.schema.specs.Marks.{types}
use Rattle.schema.specs.Kinds.{kind_of_place, kind_of}
use Rattle.table.specs.Words.{word, held_at, behind_at}
use Rattle.table.proofs.Lines.{held_small, behind_more}
use Rattle.table.proofs.Filling.{onward, fill, patch, fill-li, fill-ma, fill-ro}
use Rattle.table.proofs.Running.{run, run-push}
use Rattle.table.proofs.Building.{Ends, Looking, OpenHolder, stand, place_in}

-- how many children a struct's byte says
pub held-byte : {c : ℕ} (n : ℕ) → 0 < c → c ≡ cond (leb n 128) n 0 → (c ≡ n) × (n ≤ 128)
held-byte {c} n z e = by (leb n 128) refl e
  where
    by : (b : Bool) → leb n 128 ≡ b → c ≡ cond b n 0 → (c ≡ n) × (n ≤ 128)
    by true p q = (q, leb-true n 128 p)
    by false p q = absurd (omega arith)

module _ {s T F : List ℕ} {d at i n base w k c : ℕ} (o : OpenHolder s T F d at i n base w k c) where
  abbrev W : ℕ
  W = w + c * 68719476736 + (base - (i + 1) * 18014398509481984)

  few-held : c ≤ 128
  few-held = held_small s (at + 2) k c o.held o.marked.line.known

  pub behind-room : at + 2 ≤ 1024
  behind-room = omega arith

  pub deeper : Fits w64 (d + 1)
  deeper = omega arith

  pub deeper-scaled : Fits w64 ((d + 1) * 8)
  deeper-scaled = omega arith

  pub deeper-in : d + 1 < 8
  deeper-in = omega arith

  pub frame-place : Fits w64 (i * 256)
  frame-place = omega arith

  pub frame-fits : Fits w64 (i * 256 + (n - 1))
  frame-fits = omega arith

  pub held-scaled : Fits w64 (c * 68719476736)
  held-scaled = omega (arith, few-held)

  pub held_fits : Fits w64 (w + c * 68719476736)
  held_fits = omega (arith, few-held)

  pub next-scaled : Fits w64 ((i + 1) * 18014398509481984)
  next-scaled = omega arith

  pub base_more : (i + 1) * 18014398509481984 ≤ base
  base_more = omega arith

  pub open-fits : Fits w64 (w + c * 68719476736 + (base - (i + 1) * 18014398509481984))
  open-fits = omega (arith, few-held)

  pub base-deeper : Fits w64 (base + 18031994990493696)
  base-deeper = omega arith

  pub push_kept : {r : ℕ} → length T ≡ r → length (set T i W) ≡ r
  push_kept e = length-set T i W ∙ e

  module _ {at' : ℕ} (e : at' ≡ behind_at (at + 2) k) where
    pub push-falls : length s - at' < length s - at
    push-falls = omega (arith, o.marked.room, behind_more (at + 2) k at' e)

    open-fill : fill s at i n (7 - d) (d + 2) T
        ≡ onward (fill s at' (i + 1) c (7 - d - 1) (d + 2 + 1) (set T i (word k (d + 2) c i 0)))
        (λ a j U. fill s a j (n - 1) (7 - d) (d + 2) (patch U i j))
    unfolding held_at behind_at kind_of_place types kind_of
    open-fill = go (dec_lt k 10) (dec_lt k 11)
      where
        go : Dec (k < 10) → Dec (k < 11) → fill s at i n (7 - d) (d + 2) T
            ≡ onward (fill s at' (i + 1) c (7 - d - 1) (d + 2 + 1) (set T i (word k (d + 2) c i 0)))
            (λ a j U. fill s a j (n - 1) (7 - d) (d + 2) (patch U i j))
        go (yes p) q =
            let f : k ≡ 9 = omega arith in
            let x : c ≡ 1 = o.held ∙ rw f in
            let a : at' ≡ at + 2 = e ∙ rw f in
            rw (f, x, a) (fill-li s at i n (7 - d) (d + 2) T (stand o.marked.looking) o.marked.looking.left (o.marked.line.kind ∙ ap kind_of_place f))
        go (no p) (yes q) =
            let f : k ≡ 10 = omega arith in
            let x : c ≡ 2 = o.held ∙ rw f in
            let a : at' ≡ at + 2 = e ∙ rw f in
            rw (f, x, a) (fill-ma s at i n (7 - d) (d + 2) T (stand o.marked.looking) o.marked.looking.left (o.marked.line.kind ∙ ap kind_of_place f))
        go (no p) (no q) =
            let f : k ≡ 11 = omega arith in
            let x = held-byte (get_or s (at + 2) 0) o.some (o.held ∙ rw (eq-eqb k 11 f)) in
            let a : at' ≡ at + 3 = e ∙ rw (eq-eqb k 11 f) (omega arith) in
            rw (f, a) (fill-ro s at i n (7 - d) (d + 2) T (stand o.marked.looking) o.marked.looking.left (o.marked.line.kind ∙ ap kind_of_place f) c
            x.0 o.some (omega (arith, x.0, x.1)))

    behind-within : at' ≤ length s
    unfolding held_at behind_at
    behind-within = go (dec_lt k 11)
      where
        go : Dec (k < 11) → at' ≤ length s
        go (yes p) = let a : at' ≡ at + 2 = e ∙ rw (ne_eqb k 11 (λ q. absurd (omega arith))) in omega arith
        go (no p) =
            let f : k ≡ 11 = omega arith in
            let x = held-byte (get_or s (at + 2) 0) o.some (o.held ∙ rw (eq-eqb k 11 f)) in
            let a : at' ≡ at + 2 + 1 = e ∙ rw (eq-eqb k 11 f) in
            let b : at + 2 < length s = byte-room s (at + 2) (omega (arith, x.0)) in
            omega arith

    abbrev x : ℕ
    x = i * 256 + (n - 1)

    open-word : W ≡ word k (d + 2) c i 0
    unfolding word
    open-word = omega arith

    pub open-run : run s F d at i n T ≡ run s (set F (d + 1) x) (d + 1) at' (i + 1) c (set T i W)
    open-run = run-push s F d at i n T k c at' x o.shallow o.marked.looking.going.frames (omega arith) (omega arith) open-fill
        ∙ ap (λ (u : ℕ). run s (set F (d + 1) x) (d + 1) at' (i + 1) c (set T i u)) (sym open-word)

    push-low : (j : ℕ) → j ≤ d + 1 → Dec (j < d + 1)
        → (get_or (set F (d + 1) x) j 0 / 256 < length T) × (get_or (set F (d + 1) x) j 0 / 256 < 1024)
    push-low j q (yes p) = rw (get_or-set_other F (d + 1) j x 0 (λ f. absurd (omega arith))) (o.marked.looking.going.low j (omega arith))
    push-low j q (no p) =
        let f : j ≡ d + 1 = omega arith in
        let z : x / 256 ≡ i = omega arith in
        rw (f, get_or-set_same F (d + 1) x 0 (omega arith), z) (place_in o.marked, omega arith)

    pub going-push : Looking s (set T i (w + c * 68719476736 + (base - (i + 1) * 18014398509481984))) (set F (d + 1) (i * 256 + (n - 1)))
        (d + 1) at' (i + 1) c (base + 18031994990493696)
    going-push = record {
      going = record {
        ends = subst (Ends s) open-run o.marked.looking.going.ends;
        short = o.marked.looking.going.short;
        roomy = rw (length-set T i W) o.marked.looking.going.roomy;
        frames = length-set F (d + 1) x ∙ o.marked.looking.going.frames;
        deep = omega arith;
        half = omega (arith, o.marked.looking.going.half, behind_more (at + 2) k at' e);
        within = behind-within;
        few = omega (arith, few-held);
        low = λ j q. rw (length-set T i W) (push-low j q (dec_lt j (d + 1)));
        made = omega arith;
      };
      left = o.some;
    }
