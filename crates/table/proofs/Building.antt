-- Building, step by step: what holds where a type is looked at, and a law for each way on. Assumes nothing.
use Rattle.std.proofs.Common.{◌≡◌, ℕ, ◌+◌, ◌-◌, ◌*◌, ◌/◌, ◌%◌, ◌<◌, ◌≤◌, Bool, true, false, cond, leb, ◌⊎◌, List, length, get_or, set, sym, refl, ap, ◌∙◌, subst, inl, inr, arith, length-set, w64, Fits, eq-eqb, ne_eqb, leb-false}
use native.Mathlib.Decide.{dec_lt}
use Rattle.schema.specs.Marks.{types}
use Rattle.schema.specs.Kinds.{kind_at, kind_of_place, kind_of, place_at, list_kind, map_kind, struct_kind, no_kind}
use Rattle.schema.specs.Reading.{judged}
use Rattle.schema.specs.declared.Judged.{Judged}
use Rattle.schema.specs.declared.Judged.TheVariants.{Accepted, Refused}
use Rattle.schema.proofs.Marked.{fixed-placed, text-placed}
use Rattle.schema.proofs.Search.{placed-out, kind-past, kind-short, kind-two}
use Rattle.table.specs.Words.{lower, line_word, word, MarkAt, line_for, held_at}
use Rattle.table.specs.Tables.{Built, BuiltAt}
use Rattle.table.proofs.Decode.{lower-small}
use Rattle.table.proofs.Lines.{line-is, line_marked, line_known}
use Rattle.table.proofs.Filling.{Filled, nothing, filled, fill, patch, Stand, fill_none, fill-fixed, fill-text, fill-few, fill_stop}
use Rattle.table.proofs.Running.{run, run_none, run_on, run_end, run-pop}

-- what an end says of the schema
abbrev pub Ends : List ℕ → Filled → Type 0
Ends s nothing = judged s ≡ Refused
Ends s (filled a j U) = (a ≡ length s → Built s j U) × ((a ≡ length s → ⊥) → judged s ≡ Refused)

-- before a type, or behind one: where the next entry goes, what is left, and the word that its place and depth make
pub record Going (s T F : List ℕ) (d at i n base : ℕ) : Type 0 where
  pub ends : Ends s (run s F d at i n T)
  pub short : length s ≤ 1024
  pub roomy : length s ≤ 2 * length T
  pub frames : length F ≡ 8
  pub deep : d ≤ 6
  pub half : 2 * i + 1 ≤ at
  pub within : at ≤ length s
  pub few : n ≤ 255
  pub low : (j : ℕ) → j ≤ d → (get_or F j 0 / 256 < length T) × (get_or F j 0 / 256 < 1024)
  pub made : base ≡ (d + 2) * 4294967296 + (i + 1) * 18031990695526400

-- the line of the mark at a position
pub record Line (s : List ℕ) (at w k : ℕ) : Type 0 where
  pub known : k < 12
  pub is : w ≡ line_word k
  pub kind : kind_at s at ≡ kind_of_place k
  pub place : w / 268435456 ≡ k
  pub small : w < 268435456 * 12

-- before a type
pub record Looking (s T F : List ℕ) (d at i n base : ℕ) : Type 0 where
  pub going : Going s T F d at i n base
  pub left : 0 < n

-- two bytes of it are there, numbered m, and w is the line that they lead to
pub record Scanned (s T F : List ℕ) (d at i n base m w : ℕ) : Type 0 where
  pub looking : Looking s T F d at i n base
  pub room : at + 2 ≤ length s
  pub mark : MarkAt s at m
  pub line : w ≡ line_for m

-- its mark is that of the line w, of kind k
pub record Marked (s T F : List ℕ) (d at i n base w k : ℕ) : Type 0 where
  pub looking : Looking s T F d at i n base
  pub room : at + 2 ≤ length s
  pub line : Line s at w k

-- it is a container with c children, not too deep
pub record OpenHolder (s T F : List ℕ) (d at i n base w k c : ℕ) : Type 0 where
  pub marked : Marked s T F d at i n base w k
  pub holds : 9 ≤ k
  pub held : c ≡ held_at s (at + 2) k
  pub some : 0 < c
  pub shallow : d < 6

pub neither : {j : Judged} → j ≡ Accepted → j ≡ Refused → ⊥
neither e f = let q : ◌≡◌ {A = Judged} Accepted Refused = sym e ∙ f in let z : ◌≡◌ {A = ℕ} 0 1 = cc in omega arith

pub built : {s : List ℕ} {r : ℕ} {T : List ℕ} → judged s ≡ Accepted → BuiltAt s r T → Built s r T
built e b = record { accepted = λ _. b; refused = λ f. absurd (neither e f) }

pub refused : {s T : List ℕ} → judged s ≡ Refused → Built s 0 T
refused e = record { accepted = λ f. absurd (neither f e); refused = λ _. refl }

-- ---- the line of a mark

module _ {s : List ℕ} {at m w : ℕ} (r : at + 2 ≤ length s) (q : MarkAt s at m) (e : w ≡ line_for m) where
  pub line-some : w % 65536 ≡ m → Line s at w (w / 268435456)
  unfolding place_at line_word
  line-some n =
      let h = line_known q (ap (λ (u : ℕ). u % 65536) (sym e) ∙ n) in
      let f : w ≡ lower (place_at s at) + place_at s at * 268435456 = e ∙ line-is q h in
      let b = lower-small (place_at s at) h in
      let k : w / 268435456 ≡ place_at s at = omega arith in
      subst (Line s at w) (sym k) (record { known = h; is = f; kind = kind-two s at (omega arith); place = k; small = omega arith })

  pub line-none : (w % 65536 ≡ m → ⊥) → kind_at s at ≡ no_kind
  unfolding place_at
  line-none n = go (dec_lt (place_at s at) 12)
    where
      go : Dec (place_at s at < 12) → kind_at s at ≡ no_kind
      go (yes h) = absurd (n (ap (λ (u : ℕ). u % 65536) e ∙ line_marked q h))
      go (no h) = kind-two s at (omega arith) ∙ placed-out (place_at s at) (omega arith)

-- what a struct's byte says where it is refused
held_none : (n : ℕ) → 0 ≡ cond (leb n 128) n 0 → (n < 1) ⊎ (128 < n)
held_none n e = by (leb n 128) refl e
  where
    by : (b : Bool) → leb n 128 ≡ b → 0 ≡ cond b n 0 → (n < 1) ⊎ (128 < n)
    by true p q = inl (omega arith)
    by false p q = inr (leb-false n 128 p)

-- ---- the numbers of the code, before a type or behind one

module _ {s T F : List ℕ} {d at i n base : ℕ} (g : Going s T F d at i n base) where
  pub frame-scaled : Fits w64 (d * 8)
  frame-scaled = omega arith

  pub frame-in : d < 8
  frame-in = omega arith

  pub holder_in : get_or F d 0 / 256 < length T
  holder_in = (g.low d (omega arith)).0

  pub holder-scaled : Fits w64 (get_or F d 0 / 256 * 8)
  holder-scaled = omega (arith, (g.low d (omega arith)).1)

  pub after-scaled : Fits w64 (i * 18014398509481984)
  after-scaled = omega arith

  pub base-less : 4294967296 ≤ base
  base-less = omega arith

  to-refused : run s F d at i n T ≡ nothing → {U : List ℕ} → Built s 0 U
  to-refused e = refused (subst (Ends s) e g.ends)

  pub still : (n ≡ 0 → ⊥) → Looking s T F d at i n base
  still h = record { going = g; left = omega arith }

module _ {s T F : List ℕ} {d at i n base : ℕ} (l : Looking s T F d at i n base) where
  pub mark-end : Fits w64 (at + 2)
  mark-end = omega arith

  pub stand : Stand s T at i (7 - d) (d + 2)
  stand = record {
    short = l.going.short;
    room = omega arith;
    half = l.going.half;
    fuel = omega arith;
    depth = omega arith;
  }

  nothing-there : kind_at s at ≡ no_kind → {U : List ℕ} → Built s 0 U
  nothing-there e = to-refused l.going (run_none s F d at i n T (fill_none s at i n (7 - d) (d + 2) T stand l.left e))

  -- at most one byte is left
  pub going-short : length s < at + 2 → {U : List ℕ} → Built s 0 U
  going-short h = nothing-there (go (dec_lt at (length s)))
    where
      go : Dec (at < length s) → kind_at s at ≡ no_kind
      go (yes p) = kind-short s at p (omega arith)
      go (no p) = kind-past s at (omega arith)

module _ {s T F : List ℕ} {d at i n base m w : ℕ} (x : Scanned s T F d at i n base m w) where
  pub unmarked : (w % 65536 ≡ m → ⊥) → {U : List ℕ} → Built s 0 U
  unmarked z = nothing-there x.looking (line-none x.room x.mark x.line z)

  pub is-marked : w % 65536 ≡ m → Marked s T F d at i n base w (w / 268435456)
  is-marked z = record { looking = x.looking; room = x.room; line = line-some x.room x.mark x.line z }

-- ---- a type that has a mark

module _ {s T F : List ℕ} {d at i n base w k : ℕ} (m : Marked s T F d at i n base w k) where
  pub one_less : 1 ≤ n
  one_less = m.looking.left

  pub end_fits : Fits w64 (at + 2)
  end_fits = mark-end m.looking

  pub place_in : i < length T
  place_in = omega arith

  pub place-scaled : Fits w64 (i * 8)
  place-scaled = omega arith

  pub place-next : Fits w64 (i + 1)
  place-next = omega arith

  pub leaf-fits : Fits w64 (w + base)
  leaf-fits = omega arith

  pub base-next : Fits w64 (base + 18031990695526400)
  base-next = omega arith

  -- a leaf
  leaf-fill : k < 9
      → fill s at i n (7 - d) (d + 2) T ≡ fill s (at + 2) (i + 1) (n - 1) (7 - d) (d + 2) (set T i (word k (d + 2) 0 i (i + 1)))
  leaf-fill h = go (dec_lt k 7)
    where
      go : Dec (k < 7)
          → fill s at i n (7 - d) (d + 2) T ≡ fill s (at + 2) (i + 1) (n - 1) (7 - d) (d + 2) (set T i (word k (d + 2) 0 i (i + 1)))
      go (yes p) = fill-fixed s at i n (7 - d) (d + 2) T (stand m.looking) m.looking.left k p (m.line.kind ∙ fixed-placed k p)
      go (no p) = fill-text s at i n (7 - d) (d + 2) T (stand m.looking) m.looking.left k (omega arith) h (m.line.kind ∙ text-placed k (omega arith) h)

  leaf-word : w + base ≡ word k (d + 2) 0 i (i + 1)
  unfolding word
  leaf-word = omega arith

  pub leaf-run : k < 9 → run s F d at i n T ≡ run s F d (at + 2) (i + 1) (n - 1) (set T i (w + base))
  leaf-run h = run_on s F d at i n T (at + 2) (i + 1) (n - 1) (set T i (w + base))
      (leaf-fill h ∙ ap (λ (u : ℕ). fill s (at + 2) (i + 1) (n - 1) (7 - d) (d + 2) (set T i u)) (sym leaf-word))

  pub going-leaf : w < 2415919104 → Going s (set T i (w + base)) F d (at + 2) (i + 1) (n - 1) (base + 18031990695526400)
  going-leaf h = record {
    ends = subst (Ends s) (leaf-run (omega arith)) m.looking.going.ends;
    short = m.looking.going.short;
    roomy = rw (length-set T i (w + base)) m.looking.going.roomy;
    frames = m.looking.going.frames;
    deep = m.looking.going.deep;
    half = omega arith;
    within = m.room;
    few = omega arith;
    low = λ j q. rw (length-set T i (w + base)) (m.looking.going.low j q);
    made = omega arith;
  }

  pub leaf-falls : length s - (at + 2) < length s - at
  leaf-falls = omega arith

  -- the room keeps its length
  pub leaf-kept : {u r : ℕ} → u ≡ length (set T i (w + base)) → length T ≡ r → u ≡ r
  leaf-kept e f = e ∙ length-set T i (w + base) ∙ f

  -- a container
  three : 9 ≤ k → (kind_at s at ≡ list_kind) ⊎ ((kind_at s at ≡ map_kind) ⊎ (kind_at s at ≡ struct_kind))
  unfolding kind_of_place types kind_of
  three h = go (dec_lt k 10) (dec_lt k 11)
    where
      go : Dec (k < 10) → Dec (k < 11) → (kind_at s at ≡ list_kind) ⊎ ((kind_at s at ≡ map_kind) ⊎ (kind_at s at ≡ struct_kind))
      go (yes p) q = let z : k ≡ 9 = omega arith in inl (m.line.kind ∙ ap kind_of_place z)
      go (no p) (yes q) = let z : k ≡ 10 = omega arith in inr (inl (m.line.kind ∙ ap kind_of_place z))
      go (no p) (no q) = let z : k ≡ 11 = omega arith in inr (inr (m.line.kind ∙ ap kind_of_place z))

  module _ (h : 2415919104 ≤ w) where
    pub holding : (9 ≤ k) × (k < 12)
    holding = (omega arith, m.line.known)

    pub going-deep : d ≡ 6 → {U : List ℕ} → Built s 0 U
    going-deep e = to-refused m.looking.going (run_none s F d at i n T
        (fill_stop s at i n (7 - d) (d + 2) T (stand m.looking) m.looking.left (omega arith) (three holding.0)))

    module _ {c : ℕ} (e : c ≡ held_at s (at + 2) k) where
      -- it has no children, or too many
      pub going-shut : c ≡ 0 → {U : List ℕ} → Built s 0 U
      unfolding held_at kind_of_place types kind_of
      going-shut z {U} = go (dec_lt k 11)
        where
          go : Dec (k < 11) → Built s 0 U
          go (yes p) = let x : c ≡ k - 8 = e ∙ rw (ne_eqb k 11 (λ q. absurd (omega arith))) in absurd (omega (arith, holding.0))
          go (no p) =
              let q : k ≡ 11 = omega arith in
              let b = held_none (get_or s (at + 2) 0) (sym z ∙ e ∙ rw (eq-eqb k 11 q)) in
              let f = fill-few s at i n (7 - d) (d + 2) T (stand m.looking) m.looking.left (m.line.kind ∙ ap kind_of_place q) b in
              to-refused m.looking.going (run_none s F d at i n T f)

      pub is-opened : (d ≡ 6 → ⊥) → (c ≡ 0 → ⊥) → OpenHolder s T F d at i n base w k c
      is-opened f z = record { marked = m; holds = holding.0; held = e; some = omega arith; shallow = omega arith }

-- ---- no type is left in a container, and v is its own entry, patched

pub record Leaving (s T F : List ℕ) (d at i n base v : ℕ) : Type 0 where
  pub going : Going s T F d at i n base
  pub none : n ≡ 0
  pub word : v ≡ (get_or T (get_or F d 0 / 256) 0 + i * 18014398509481984) % 18446744073709551616

module _ {s T F : List ℕ} {d at i n base v : ℕ} (x : Leaving s T F d at i n base v) where
  is-patch : set T (get_or F d 0 / 256) v ≡ patch T (get_or F d 0 / 256) i
  unfolding patch
  is-patch = ap (set T (get_or F d 0 / 256)) x.word

  pub pop_kept : {r : ℕ} → length T ≡ r → length (set T (get_or F d 0 / 256) v) ≡ r
  pop_kept e = length-set T (get_or F d 0 / 256) v ∙ e

  pub pop-run : 0 < d → run s F d at i n T ≡ run s F (d - 1) at i (get_or F d 0 % 256) (set T (get_or F d 0 / 256) v)
  pop-run h = run-pop s F d at i n T x.none h ∙ ap (run s F (d - 1) at i (get_or F d 0 % 256)) (sym is-patch)

  pub going-pop : (d ≡ 0 → ⊥) → Going s (set T (get_or F d 0 / 256) v) F (d - 1) at i (get_or F d 0 % 256) (base - 4294967296)
  going-pop h =
      let g = x.going in
      record {
        ends = subst (Ends s) (pop-run (omega arith)) g.ends;
        short = g.short;
        roomy = rw (length-set T (get_or F d 0 / 256) v) g.roomy;
        frames = g.frames;
        deep = omega arith;
        half = g.half;
        within = g.within;
        few = omega arith;
        low = λ j q. rw (length-set T (get_or F d 0 / 256) v) (g.low j (omega arith));
        made = omega arith;
      }

  pub going_less : (d ≡ 0 → ⊥) → 1 ≤ d
  going_less h = omega arith

  pub pop-falls : (d ≡ 0 → ⊥) → d - 1 < d
  pop-falls h = omega arith

  last : d ≡ 0 → Ends s (filled at i (set T (get_or F d 0 / 256) v))
  last e = subst (Ends s) (run_end s F d at i n T x.none e ∙ ap (filled at i) (sym is-patch)) x.going.ends

  pub going_done : d ≡ 0 → at ≡ length s → Built s i (set T (get_or F d 0 / 256) v)
  going_done e q = (last e).0 q

  pub going-over : d ≡ 0 → (at ≡ length s → ⊥) → {U : List ℕ} → Built s 0 U
  going-over e q = refused ((last e).1 q)
