-- Each place of a table is the start of one type's entries, and the schema that a table says is the type's house form. Assumes nothing.
use Rattle.std.proofs.Common.{◌≡◌, ℕ, suc, ◌+◌, ◌<◌, ◌≤◌, List, [], ◌∷◌, ◌++◌, length, sym, refl, ap, ◌∙◌, subst, append_assoc, append-nil, arith, length-append}
use native.Mathlib.Decide.{dec_lt}
use Rattle.schema.specs.Marks.{mark_at}
use Rattle.schema.specs.Types.{Fixed, Text, Ty, fix, text, li, ma, ro, Tys, end, ◌then◌, count, fixed_place, text_place, mark, place}
use Rattle.schema.specs.House.{schema, schemas, depth, depths, Right, Rights}
use Rattle.schema.proofs.Table.{fixed-high, text-high}
use Rattle.table.specs.Words.{word, bytes_in}
use Rattle.table.specs.Tables.{many, manys, entries, entries_all, schema_of}
use Rattle.table.proofs.Decode.{bytes-other, bytes-struct}

-- a type of depth d at place i stays within what an entry can hold
pub record Small (d i : ℕ) (T : Ty) : Type 0 where
  pub right : Right T
  pub deep : d + depth T ≤ 10
  pub ends : i + many T ≤ 1000

pub record Smalls (d i : ℕ) (ts : Tys) : Type 0 where
  pub right : Rights ts
  pub deep : d + depths ts ≤ 10
  pub ends : i + manys ts ≤ 1000

module _ (d i : ℕ) where
  small-li : (T : Ty) → Small d i (li T) → Small (d + 1) (i + 1) T
  unfolding Right depth many
  small-li T h = record { right = h.right; deep = omega (arith, h.deep); ends = omega (arith, h.ends) }

  small-key : (K U : Ty) → Small d i (ma K U) → Small (d + 1) (i + 1) K
  unfolding Right depth many
  small-key K U h = record { right = h.right.0; deep = omega (arith, h.deep); ends = omega (arith, h.ends) }

  small-value : (K U : Ty) → Small d i (ma K U) → Small (d + 1) (i + 1 + many K) U
  unfolding Right depth many
  small-value K U h = record { right = h.right.1; deep = omega (arith, h.deep); ends = omega (arith, h.ends) }

  small-fields : (ts : Tys) → Small d i (ro ts) → Smalls (d + 1) (i + 1) ts
  unfolding Right depth many
  small-fields ts h = record { right = h.right.1; deep = omega (arith, h.deep); ends = omega (arith, h.ends) }

  pub small_count : (ts : Tys) → Small d i (ro ts) → count ts ≤ 128
  unfolding Right
  small_count ts h = h.right.0.high

  small-first : (T : Ty) (ts : Tys) → Smalls d i (T then ts) → Small d i T
  unfolding Right depth many
  small-first T ts h = record { right = h.right.0; deep = omega (arith, h.deep); ends = omega (arith, h.ends) }

  small-others : (T : Ty) (ts : Tys) → Smalls d i (T then ts) → Smalls d (i + many T) ts
  unfolding Right depth many
  small-others T ts h = record { right = h.right.1; deep = omega (arith, h.deep); ends = omega (arith, h.ends) }

-- every type has an entry
pub many-one : (T : Ty) → 1 ≤ many T
unfolding many
many-one (fix f) = omega arith
many-one (text t) = omega arith
many-one (li T) = omega arith
many-one (ma K U) = omega arith
many-one (ro ts) = omega arith

mutual
  unfolding entries many

  pub entries-many : (T : Ty) (d i : ℕ) → length (entries d i T) ≡ many T
  entries-many (fix f) d i = refl
  entries-many (text t) d i = refl
  entries-many (li T) d i = ap suc (entries-many T (d + 1) (i + 1))
  entries-many (ma K U) d i = ap suc (length-append (entries (d + 1) (i + 1) K) (entries (d + 1) (i + 1 + many K) U) ∙ rw
      (entries-many K (d + 1) (i + 1), entries-many U (d + 1) (i + 1 + many K)))
  entries-many (ro ts) d i = ap suc (entries-manys ts (d + 1) (i + 1))

  entries-manys : (ts : Tys) (d i : ℕ) → length (entries_all d i ts) ≡ manys ts
  entries-manys end d i = refl
  entries-manys (T then ts) d i = length-append (entries d i T) (entries_all d (i + many T) ts) ∙ rw (entries-many T d i, entries-manys ts d (i + many T))

-- the schema that entries say
pub says-append : (a b : List ℕ) → schema_of (a ++ b) ≡ schema_of a ++ schema_of b
unfolding schema_of
says-append [] b = refl
says-append (w ∷ a) b = ap (λ l. bytes_in w ++ l) (says-append a b) ∙ sym (append_assoc (bytes_in w) (schema_of a) (schema_of b))

mutual
  unfolding entries schema schema_of mark place depth many

  pub says : (T : Ty) (d i : ℕ) → Small d i T → schema_of (entries d i T) ≡ schema T
  says (fix f) d i h = append-nil _ ∙ bytes-other (fixed_place f) d 0 i (i + 1) (omega (arith, fixed-high f)) (omega (arith, h.deep)) (omega arith)
      (omega (arith, h.ends)) (λ e. absurd (omega (arith, fixed-high f)))
  says (text t) d i h = append-nil _ ∙ bytes-other (text_place t) d 0 i (i + 1) (omega (arith, text-high t)) (omega (arith, h.deep)) (omega arith)
      (omega (arith, h.ends)) (λ e. absurd (omega (arith, text-high t)))
  says (li T) d i h = rw (
    bytes-other 9 d 1 i (i + suc (many T)) (omega arith) (omega (arith, h.deep)) (omega arith) (omega (arith, h.ends))
        (λ e. absurd (omega arith)),
    says T (d + 1) (i + 1) (small-li d i T h),
  )
  says (ma K U) d i h =
      rw (
        bytes-other 10 d 2 i (i + suc (many K + many U)) (omega arith) (omega (arith, h.deep)) (omega arith) (omega (arith, h.ends))
            (λ e. absurd (omega arith)),
        says-append (entries (d + 1) (i + 1) K) (entries (d + 1) (i + 1 + many K) U),
        says K (d + 1) (i + 1)
            (small-key d i K U h),
        says U (d + 1) (i + 1 + many K) (small-value d i K U h),
      )
  says (ro ts) d i h =
      rw (
        bytes-struct 11 d (count ts) i (i + suc (manys ts)) (omega arith) (omega (arith, h.deep)) (omega (arith, small_count d i ts h))
            (omega (arith, h.ends)) refl,
        says_all ts (d + 1) (i + 1) (small-fields d i ts h),
      ) (append_assoc (mark_at 11) (count ts ∷ []) (schemas ts))

  says_all : (ts : Tys) (d i : ℕ) → Smalls d i ts → schema_of (entries_all d i ts) ≡ schemas ts
  says_all end d i h = refl
  says_all (T then ts) d i h = says-append (entries d i T) (entries_all d (i + many T) ts) ∙ rw
      (says T d i (small-first d i T ts h), says_all ts d (i + many T) (small-others d i T ts h))

-- a place of a table: the type whose entries start there
pub record Spot (t : List ℕ) (c : ℕ) : Type 0 where
  pub front : List ℕ
  pub back : List ℕ
  pub d : ℕ
  pub T : Ty
  pub form : t ≡ front ++ (entries d c T ++ back)
  pub before : length front ≡ c
  pub small : Small d c T

spot-as : (t u : List ℕ) (c : ℕ) → t ≡ u → Spot u c → Spot t c
spot-as t u c e s = subst (λ (l : List ℕ). Spot l c) (sym e) s

-- behind one entry
behind : (P : List ℕ) (w : ℕ) (a R : List ℕ) → P ++ ((w ∷ a) ++ R) ≡ (P ++ (w ∷ [])) ++ (a ++ R)
behind P w a R = sym (append_assoc P (w ∷ []) (a ++ R))

more : (P : List ℕ) (w i : ℕ) → length P ≡ i → length (P ++ (w ∷ [])) ≡ i + 1
more P w i e = length-append P (w ∷ []) ∙ rw e

abbrev Finds : Ty → Type 0
Finds T = (d i : ℕ) (P R : List ℕ) → length P ≡ i → Small d i T → (c : ℕ) → i ≤ c → c < i + many T → Spot (P ++ (entries d i T ++ R)) c

abbrev FindsAll : Tys → Type 0
FindsAll ts = (d i : ℕ) (P R : List ℕ) → length P ≡ i → Smalls d i ts → (c : ℕ) → i ≤ c → c < i + manys ts → Spot (P ++ (entries_all d i ts ++ R)) c

-- at its first place, a type's entries start; what is behind it is left to f
split : (T : Ty) → ((d i : ℕ) (P R : List ℕ) → length P ≡ i → Small d i T → (c : ℕ) → i < c → c < i + many T → Spot (P ++ (entries d i T ++ R)) c) → Finds T
split T f d i P R e h c l m = go (dec_lt i c)
  where
    go : Dec (i < c) → Spot (P ++ (entries d i T ++ R)) c
    go (yes n) = f d i P R e h c n m
    go (no n) =
        let q : i ≡ c = omega arith in
        subst (λ (j : ℕ). Spot (P ++ (entries d i T ++ R)) j) q (record { front = P; back = R; d = d; T = T; form = refl; before = e; small = h })

leaf : (T : Ty) → many T ≡ 1 → Finds T
leaf T o = split T (λ d i P R e h c l m. absurd (omega arith))

list : (T : Ty) → Finds T → Finds (li T)
unfolding entries many
list T f = split (li T) (λ d i P R e h c l m. spot-as _ _ c (behind P (word 9 d 1 i (i + suc (many T))) (entries (d + 1) (i + 1) T) R)
    (f (d + 1) (i + 1) (P ++ (word 9 d 1 i (i + suc (many T)) ∷ [])) R (more P _ i e) (small-li d i T h) c (omega arith) (omega arith)))

map : (K U : Ty) → Finds K → Finds U → Finds (ma K U)
unfolding entries many
map K U f g = split (ma K U) two
  where
    two : (d i : ℕ) (P R : List ℕ) → length P ≡ i → Small d i (ma K U) → (c : ℕ) → i < c → c < i + many (ma K U) → Spot (P ++ (entries d i (ma K U) ++ R)) c
    two d i P R e h c l m = go (dec_lt c (i + 1 + many K))
      where
        w : ℕ
        w = word 10 d 2 i (i + suc (many K + many U))

        a : List ℕ
        a = entries (d + 1) (i + 1) K

        b : List ℕ
        b = entries (d + 1) (i + 1 + many K) U

        go : Dec (c < i + 1 + many K) → Spot (P ++ (entries d i (ma K U) ++ R)) c
        go (yes n) =
            spot-as _ _ c (behind P w (a ++ b) R ∙ ap (λ (z : List ℕ). (P ++ (w ∷ [])) ++ z) (append_assoc a b R))
            (f (d + 1) (i + 1) (P ++ (w ∷ [])) (b ++ R) (more P w i e) (small-key d i K U h) c (omega arith) n)
        go (no n) =
            spot-as _ _ c (behind P w (a ++ b) R ∙ ap (λ (z : List ℕ). (P ++ (w ∷ [])) ++ z) (append_assoc a b R) ∙ sym
            (append_assoc (P ++ (w ∷ [])) a (b ++ R)))
            (g (d + 1) (i + 1 + many K) ((P ++ (w ∷ [])) ++ a) R (length-append (P ++ (w ∷ [])) a ∙ rw (more P w i e, entries-many K (d + 1) (i + 1)))
            (small-value d i K U h) c (omega arith) (omega arith))

struct : (ts : Tys) → FindsAll ts → Finds (ro ts)
unfolding entries many
struct ts f = split (ro ts) (λ d i P R e h c l m. spot-as _ _ c (behind P (word 11 d (count ts) i (i + suc (manys ts))) (entries_all (d + 1) (i + 1) ts) R)
    (f (d + 1) (i + 1) (P ++ (word 11 d (count ts) i (i + suc (manys ts)) ∷ [])) R (more P _ i e) (small-fields d i ts h) c (omega arith) (omega arith)))

none : FindsAll end
unfolding many
none d i P R e h c l m = absurd (omega arith)

one : (T : Ty) (ts : Tys) → Finds T → FindsAll ts → FindsAll (T then ts)
unfolding entries many
one T ts f g d i P R e h c l m = go (dec_lt c (i + many T))
  where
    a : List ℕ
    a = entries d i T

    b : List ℕ
    b = entries_all d (i + many T) ts

    go : Dec (c < i + many T) → Spot (P ++ ((a ++ b) ++ R)) c
    go (yes n) = spot-as _ _ c (ap (λ (z : List ℕ). P ++ z) (append_assoc a b R)) (f d i P (b ++ R) e (small-first d i T ts h) c l n)
    go (no n) =
        spot-as _ _ c (ap (λ (z : List ℕ). P ++ z) (append_assoc a b R) ∙ sym (append_assoc P a (b ++ R)))
        (g d (i + many T) (P ++ a) R (length-append P a ∙ rw (e, entries-many T d i)) (small-others d i T ts h) c (omega arith) (omega arith))

fixed : (f : Fixed) → Finds (fix f)
unfolding many
fixed f = leaf (fix f) refl

string : (t : Text) → Finds (text t)
unfolding many
string t = leaf (text t) refl

mutual
  pub spot : (T : Ty) → Finds T
  spot (fix f) = fixed f
  spot (text t) = string t
  spot (li T) = list T (spot T)
  spot (ma K U) = map K U (spot K) (spot U)
  spot (ro ts) = struct ts (spots ts)

  spots : (ts : Tys) → FindsAll ts
  spots end = none
  spots (T then ts) = one T ts (spot T) (spots ts)
