-- Where building starts: the root is a struct, or the schema is refused; and what the whole pass comes to. Assumes nothing.
use Rattle.std.proofs.Common.{◌≡◌, ℕ, ◌+◌, ◌-◌, ◌*◌, ◌/◌, ◌%◌, ◌<◌, ◌≤◌, Bool, true, false, cond, leb, List, [], ◌∷◌, ◌++◌, length, get_or, take, drop, set, sym, refl, ap, ◌∙◌, subst, arith, length-append, length-set, take_at, w64, Fits, le-leb, leb-false, leb-true}
use native.Mathlib.Decide.{ℕ_discrete}
use lib.Seq.{sets, sets-eq}
use Rattle.schema.specs.Marks.{types}
use Rattle.schema.specs.Types.{ro, Tys, count}
use Rattle.schema.specs.House.{schema}
use Rattle.schema.specs.Kinds.{Kind, kind_at, kind_of_place, kind_of, struct_kind, no_kind}
use Rattle.schema.specs.Reading.{none, some, ParsedAll, nones, somes, afters, parse_type, parse_all, parse_ro, judged}
use Rattle.schema.specs.Walk.{size, sizes, type_at, fields_of}
use Rattle.schema.specs.declared.Judged.{Judged}
use Rattle.schema.specs.declared.Judged.TheVariants.{Accepted, Refused}
use Rattle.schema.proofs.Parse.{SoundAll, sound, all_sound}
use Rattle.schema.proofs.Laws.{Left, left, step-ro, step-few, step-many, size-ro}
use Rattle.schema.proofs.Judging.{judged-long, judged-other, judged-none, judged-beyond, judged-whole, accepted-root}
use Rattle.schema.proofs.Marked.{place_of_kind, place-kind}
use Rattle.table.specs.Words.{lower, line_word, word, MarkAt, line_for, lines_of, held_at}
use Rattle.table.specs.Tables.{many, manys, entries, entries_all, table_of, Built}
use Rattle.table.proofs.Decode.{word_after}
use Rattle.table.proofs.Spots.{entries-many}
use Rattle.table.proofs.Places.{many-size}
use Rattle.table.proofs.Filling.{ro-many, nothing, filled, onward, fill, patch, patched, ro-entries}
use Rattle.table.proofs.Running.{cont, run}
use Rattle.table.proofs.Building.{Ends, Line, Looking, built, refused, line-some, line-none}

-- the schema is neither too long nor too short, and m is the number of its first mark
pub record Headed (s T : List ℕ) (m : ℕ) : Type 0 where
  pub short : length s ≤ 1024
  pub three : 3 ≤ length s
  pub roomy : length s ≤ 2 * length T
  pub mark : MarkAt s 0 m

-- that is a struct's, and c is the number of its fields, or 0
pub record Rooted (s T : List ℕ) (m c : ℕ) : Type 0 where
  pub headed : Headed s T m
  pub struct : m ≡ 28530
  pub held : c ≡ held_at s 2 11

line-eleven : line_word 11 % 65536 ≡ 28530
unfolding line_word lower types
line-eleven = refl

line-root : line_for 28530 ≡ 2952818546
unfolding line_for lines_of
line-root = refl

pub refuse-long : {s U : List ℕ} → 1024 < length s → Built s 0 U
refuse-long {s} l = refused (judged-long s l)

pub refuse-short : {s U : List ℕ} → length s < 3 → Built s 0 U
unfolding size
refuse-short {s} l = refused (go (judged s) refl)
  where
    go : (j : Judged) → judged s ≡ j → judged s ≡ Refused
    go Refused e = e
    go Accepted e =
        let r = accepted-root s e in
        let z : length (schema (ro (fields_of s))) ≡ 3 + sizes (fields_of s) = size-ro (fields_of s) in
        absurd (omega (arith, ap length r.form))

-- ---- the whole pass: the root's own entry, patched last, and those of its fields

-- the root's fields were read
record Read (s T : List ℕ) (c : ℕ) (ts : Tys) (r : List ℕ) : Type 0 where
  short : length s ≤ 1024
  roomy : length s ≤ 2 * length T
  parsed : parse_type 8 (drop 0 s) ≡ some (ro ts) r
  many-are : count ts ≡ c
  few : c ≤ 128

module _ {s T : List ℕ} {c : ℕ} {ts : Tys} {r : List ℕ} (f : Read s T c ts r) where
  typed : type_at s 0 8 ≡ ro ts
  unfolding type_at
  typed = rw f.parsed

  fits : 3 + sizes ts ≤ length s
  fits = let q = left s 0 8 in omega (arith, (subst (Left s 0) f.parsed q).room, size-ro ts)

  half : 2 * (1 + manys ts) ≤ 3 + sizes ts
  half = omega (arith, many-size (ro ts), ro-many ts, size-ro ts)

  abbrev E : List ℕ
  E = entries 1 0 (ro ts)

  long : length E ≡ 1 + manys ts
  long = entries-many (ro ts) 1 0 ∙ ro-many ts ∙ omega arith

  -- the table where the last patch is made
  abbrev U : List ℕ
  U = patch (sets (set T 0 (word 11 1 c 0 0)) 1 (entries_all 2 1 ts)) (0 / 256) (1 + manys ts)

  root-patched : U ≡ sets T 0 (word 11 1 c 0 (1 + manys ts) ∷ entries_all 2 1 ts)
  root-patched = patched T (entries_all 2 1 ts) 0 (1 + manys ts) (word 11 1 c 0 0) (word 11 1 c 0 (1 + manys ts))
      (omega (arith, fits, f.roomy))
      (word_after 11 1 c 0 0 (omega arith) (omega arith) (omega (arith, f.few)) (omega arith) (1 + manys ts) (omega (arith, fits, half, f.short)))

  own-entries : E ≡ word 11 1 c 0 (1 + manys ts) ∷ entries_all 2 1 ts
  own-entries = let m : 0 + many (ro ts) ≡ 1 + manys ts = omega (arith, ro-many ts) in
      ro-entries ts c f.many-are 1 0 ∙ ap (λ (u : ℕ). word 11 1 c 0 u ∷ entries_all 2 1 ts) m

  all_laid : U ≡ E ++ drop (0 + length E) T
  all_laid = root-patched ∙ ap (sets T 0) (sym own-entries) ∙ sets-eq E T 0 (omega (arith, long, fits, half, f.roomy))

  fields-are : judged s ≡ Accepted → fields_of s ≡ ts
  unfolding fields_of
  fields-are e = rw (e, typed)

  table_is : judged s ≡ Accepted → E ≡ table_of s
  unfolding table_of
  table_is e = ap (λ (u : Tys). entries 1 0 (ro u)) (sym (fields-are e))

  whole : 3 + sizes ts ≡ length s → Built s (1 + manys ts) U
  whole q =
      let ok : judged s ≡ Accepted = judged-whole s f.short f.parsed (size-ro ts ∙ q) in
      let n : length U ≡ length E + length (drop (0 + length E) T) = ap length all_laid ∙ length-append E (drop (0 + length E) T) in
      built ok (record {
        some = omega arith;
        room = omega (arith, n, long);
        given = ap (take (1 + manys ts)) all_laid ∙ take_at E (drop (0 + length E) T) (1 + manys ts) long ∙ table_is ok;
      })

  ended : Ends s (filled (3 + sizes ts) (1 + manys ts) U)
  ended = (whole, λ n. judged-beyond s f.short f.parsed (λ q. n (sym (size-ro ts) ∙ q)))

-- ---- the start

neither : {k : Kind} → k ≡ no_kind → k ≡ struct_kind → ⊥
neither e f = let z : ◌≡◌ {A = ℕ} 0 1 = cc in omega arith

pub start-other : {s T : List ℕ} {m : ℕ} → Headed s T m → (m ≡ 28530 → ⊥) → {U : List ℕ} → Built s 0 U
start-other {s} {T} {m} h n = refused (judged-other s h.short (go (ℕ_discrete (line_for m % 65536) m)))
  where
    eleven : {w k : ℕ} → Line s 0 w k → kind_at s 0 ≡ struct_kind → k ≡ 11
    eleven {w} {k} y e = sym (place-kind k y.known) ∙ ap place_of_kind (sym y.kind ∙ e)

    other : {k : ℕ} → line_for m % 65536 ≡ m → Line s 0 (line_for m) k → kind_at s 0 ≡ struct_kind → ⊥
    other q y e = n (sym q ∙ ap (λ (u : ℕ). u % 65536) (y.is ∙ ap line_word (eleven y e)) ∙ line-eleven)

    go : Dec (line_for m % 65536 ≡ m) → kind_at s 0 ≡ struct_kind → ⊥
    go (no z) = neither (line-none (omega (arith, h.three)) h.mark refl z)
    go (yes z) = other z (line-some (omega (arith, h.three)) h.mark refl z)

module _ {s T : List ℕ} {m c : ℕ} (r : Rooted s T m c) where
  abbrev h : Headed s T m
  h = r.headed

  abbrev byte : ℕ
  byte = get_or s 2 0

  root-kind : kind_at s 0 ≡ struct_kind
  unfolding kind_of_place types kind_of
  root-kind =
      let e : 2952818546 ≡ line_for m = sym (ap line_for r.struct ∙ line-root) in
      (line-some (omega (arith, h.three)) h.mark e (omega (arith, r.struct))).kind

  pub start-shut : c ≡ 0 → {U : List ℕ} → Built s 0 U
  unfolding held_at
  start-shut z = refused (judged-none s h.short (by (leb byte 128) refl (sym z ∙ r.held)))
    where
      by : (b : Bool) → leb byte 128 ≡ b → 0 ≡ cond b byte 0 → parse_type 8 (drop 0 s) ≡ none
      by true p q = step-few s 0 8 (omega arith) root-kind (omega arith)
      by false p q = step-many s 0 8 (omega arith) root-kind (leb-false byte 128 p)

  few-fields : c ≤ 128
  unfolding held_at
  few-fields = by (leb byte 128) refl r.held
    where
      by : (b : Bool) → leb byte 128 ≡ b → c ≡ cond b byte 0 → c ≤ 128
      by true p q = omega (arith, leb-true byte 128 p)
      by false p q = omega arith

  pub fields-scaled : Fits w64 (c * 68719476736)
  fields-scaled = omega (arith, few-fields)

  pub root-fits : Fits w64 (17599433830258 + c * 68719476736)
  root-fits = omega (arith, few-fields)

  pub root_in : 0 < length T
  root_in = omega (arith, h.three, h.roomy)

  abbrev W : ℕ
  W = 17599433830258 + c * 68719476736

  pub root_kept : {u : ℕ} → u ≡ length (set T 0 (17599433830258 + c * 68719476736)) → u ≡ length T
  root_kept e = e ∙ length-set T 0 W

  module _ (n : c ≡ 0 → ⊥) where
    is_byte : c ≡ byte
    unfolding held_at
    is_byte = by (leb byte 128) r.held
      where
        by : (b : Bool) → c ≡ cond b byte 0 → c ≡ byte
        by true q = q
        by false q = absurd (n q)

    abbrev x : ParsedAll
    x = parse_all (parse_type 7) c (drop 3 s)

    root-parse : parse_type 8 (drop 0 s) ≡ afters x none (λ ts q. some (ro ts) q)
    unfolding parse_ro
    root-parse =
        let p : parse_type 8 (drop 0 s) ≡ parse_ro (parse_type (8 - 1)) byte (drop (0 + 3) s) = step-ro s 0 8 (omega arith) root-kind in
        let a : 1 ≤ byte = omega (arith, is_byte) in
        let b : byte ≤ 128 = omega (arith, is_byte, few-fields) in
        p ∙ rw (le-leb 1 byte a, le-leb byte 128 b, ← is_byte)

    root-read : {y : ParsedAll} → x ≡ y → parse_type 8 (drop 0 s) ≡ afters y none (λ ts q. some (ro ts) q)
    root-read e = root-parse ∙ ap (λ (q : ParsedAll). afters q none (λ ts q. some (ro ts) q)) e

    root-fields : {ts : Tys} {q : List ℕ} → x ≡ somes ts q → count ts ≡ c → Read s T c ts q
    root-fields e m = record {
      short = h.short;
      roomy = h.roomy;
      parsed = root-read e;
      many-are = m;
      few = few-fields;
    }

    start-ends : (F : List ℕ) → get_or F 0 0 ≡ 0 → Ends s (run s F 0 3 1 c (set T 0 (word 11 1 c 0 0)))
    unfolding run cont fill
    start-ends F f = go x refl (all_sound 7 (parse_type 7) (sound 7) c (drop 3 s))
      where
        go : (y : ParsedAll) → x ≡ y → SoundAll 7 c (drop 3 s) y
            → Ends s (onward (afters y nothing
            (λ ts r. filled (3 + sizes ts) (1 + manys ts) (sets (set T 0 (word 11 1 c 0 0)) 1 (entries_all 2 1 ts))))
            (λ a j U. filled a j (patch U (get_or F 0 0 / 256) j)))
        go nones e u = judged-none s h.short (root-read e)
        go (somes ts q) e u = rw f (ended (root-fields e u.many))

    start_word : W ≡ word 11 1 c 0 0
    unfolding word line_word lower types
    start_word = omega arith

    pub start-looking : Looking s (set T 0 (17599433830258 + c * 68719476736)) (0 ∷ 0 ∷ 0 ∷ 0 ∷ 0 ∷ 0 ∷ 0 ∷ 0 ∷ []) 0 3 1 c 36063989980987392
    start-looking = record {
      going = record {
        ends = subst (λ (u : ℕ). Ends s (run s (0 ∷ 0 ∷ 0 ∷ 0 ∷ 0 ∷ 0 ∷ 0 ∷ 0 ∷ []) 0 3 1 c (set T 0 u))) (sym start_word) (start-ends _ refl);
        short = h.short;
        roomy = rw (length-set T 0 W) h.roomy;
        frames = refl;
        deep = omega arith;
        half = omega arith;
        within = h.three;
        few = omega (arith, few-fields);
        low = λ j q. let z : j ≡ 0 = omega arith in rw (length-set T 0 W, z) (root_in, omega arith);
        made = omega arith;
      };
      left = omega arith;
    }
