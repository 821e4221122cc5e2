-- What setting one leaf of an accepted row does, and what it leaves. Assumes nothing.
use mathlib.Core.Path.{◌≡◌, refl, sym, ap, ◌∙◌}
use mathlib.Core.Logic.{◌≢◌}
use mathlib.Core.Option.{Option, none, some, none-ne-some, some-injective}
use mathlib.Core.List.{List, [], ◌∷◌}
use Prim.Native.Nat.{ℕ}
use native.Mathlib.Omega.{arith}
use native.Mathlib.Decide.{ℕ_discrete}
use lib.ListN.{length}
use Rattle.schema.specs.Types.{Ty, ro, Tys}
use Rattle.layout.specs.Cells.{Cell}
use Rattle.layout.specs.Refusals.{Refusal}
use Rattle.layout.specs.Walk.{Seen, root_seat, walk}
use Rattle.layout.specs.Places.{start_of, starts}
use Rattle.layout.specs.Reading.{Answer, type_along, placed, answer_of, found, read_in, held, Alike}
use Rattle.layout.specs.Setting as S
use Rattle.layout.specs.Setting.{Setting, suits, keeps, judge_at, write, becomes, outcome, set_in}
use Rattle.layout.specs.Demand3.{told, Proper, refusal_of}
use Rattle.layout.proofs.Tree.{look, update, Valid, Parted, look-update, update-last}
use Rattle.layout.proofs.Landed.{placed-type, two-leaves}
use Rattle.layout.proofs.Judged.{fine-leaf, slot_at, cell_of, valid-update}
use Rattle.layout.proofs.After.{Accepted, Judged, judged, judged-fine, after, Made, Done, row-lays, row-lands, read_at}
use Rattle.layout.proofs.After.{turned_down, allowed, written, done, accepted-as, row-sound}
use Rattle.layout.proofs.Told.{told-set, told_same}
use Rattle.layout.proofs.Twice.{update-look, update_comm, same_bytes, judge-again}
use Rattle.layout.proofs.Seen.{Like, held-shown}
use Rattle.layout.proofs.Single.{Starting}

-- a path that the schema hasn't reads alike in any two rows
nowhere-alike : (ts : Tys) (row row' q : List ℕ) → placed q (ro ts) ≡ none → Alike row (read_in ts row q) row' (read_in ts row' q)
unfolding read_in found held
nowhere-alike ts row row' q e = record { same = rw e; bytes = rw e }

outcome-refusal : (r : Option Refusal) (row row' : List ℕ) → refusal_of (outcome none r row) ≡ refusal_of (outcome none r row')
unfolding outcome refusal_of
outcome-refusal none row row' = refl
outcome-refusal (some n) row row' = refl

path? : (p q : List ℕ) → Dec (p ≡ q)
path? [] [] = yes refl
path? [] (j ∷ q) = no λ e. omega (arith, ap length e)
path? (i ∷ p) [] = no λ e. omega (arith, ap length e)
path? (i ∷ p) (j ∷ q) = go (ℕ_discrete i j) (path? p q)
  where
    go : Dec (i ≡ j) → Dec (p ≡ q) → Dec ((i ∷ p) ≡ (j ∷ q))
    go (yes d) (yes e) = yes (rw (d, e))
    go (yes d) (no n) = no λ m. n cc
    go (no n) e = no λ m. n cc

-- after a setting every value starts where it did
made-starts : {ts : Tys} {p : List ℕ} {x : Setting} {T : Ty} {c : Cell} {row row' : List ℕ} → type_along p (ro ts) ≡ some T → Made ts p x T c row row'
    → Starting (ro ts) root_seat 0 row' row
made-starts {ts = ts} {p = p} {T = T} {row = row} {row' = row'} e m q U h = go (path? p q)
  where
    go : Dec (p ≡ q) → starts U (walk q (ro ts) root_seat 0 row') ≡ starts U (walk q (ro ts) root_seat 0 row)
    go (no n) = ap start_of (m.others q U h n).answers
    go (yes z) =
        let t : T ≡ U = some-injective _ _ (sym e ∙ ap (λ (p : List ℕ). type_along p (ro ts)) z ∙ h) in
        rw (← t, ← z) m.there

-- two settings, each made where the other was made first, leave the same bytes
pub record Meeting (ts : Tys) (row₁ row₂ p q : List ℕ) (x y : Setting) : Type 0 where
  pub end : List ℕ
  pub p-first : set_in ts row₁ q y ≡ becomes end
  pub q-first : set_in ts row₂ p x ≡ becomes end

module _ (ts : Tys) (row : List ℕ) (a : Accepted ts row) where
  abbrev seen_at : List ℕ → Seen
  seen_at p = walk p (ro ts) root_seat 0 row

  -- ---- after an accepted setting

  module _ (p : List ℕ) (x : Setting) (row' : List ℕ) (b : Proper x) (e : set_in ts row p x ≡ becomes row') where
    abbrev d : Done ts p x a.tree row row'
    d = done ts row a p x row' b e

    abbrev c' : Cell
    c' = after ts p d.type x a.tree

    abbrev pub still : Accepted ts row'
    still = accepted-as ts row a c' row' d.made.bytes d.made.lays d.made.size

    valid' : Valid p c'
    valid' = valid-update p _ a.tree d.made.granted.valid

    look' : look p c' ≡ cell_of (slot_at 0 p (ro ts)) d.type x
    look' = look-update p _ a.tree d.made.granted.valid

    pub reads-as-set : told row' (read_in ts row' p) ≡ some x
    reads-as-set =
        ap (told row') (read_at ts row' still p d.type d.place)
        ∙ told-set row' d.type p c' (walk p (ro ts) root_seat 0 row') x _ (look p a.tree) b d.made.granted.fine
        (row-lands ts row' still p d.type d.place) valid' look'

    -- the same is judged of another setting there
    again : (y : Setting) → judge_at (some d.type) (answer_of d.type (walk p (ro ts) root_seat 0 row')) y ≡ judge_at (some d.type)
        (answer_of d.type (seen_at p)) y
    again y =
        judge-again row row' d.type p a.tree c' (seen_at p) (walk p (ro ts) root_seat 0 row') x y _ d.made.granted.valid valid'
        d.made.granted.fine look' (row-lands ts row a p d.type d.place) (row-lands ts row' still p d.type d.place)

    last-by : (y : Setting) → Proper y → (r : Option Refusal) → judge_at (some d.type) (answer_of d.type (seen_at p)) y ≡ r
        → set_in ts row' p y ≡ set_in ts row p y
    last-by y by none j =
        let T = d.type in
        let q = d.place in
        let j' = again y ∙ j in
        let w = written ts row a p y T by q (judged T (answer_of T (seen_at p)) y j) in
        let w' = written ts row' still p y T by q (judged T (answer_of T (walk p (ro ts) root_seat 0 row')) y j') in
        allowed ts row' still p y T q j'
        ∙ ap becomes (same_bytes (ro ts) (after ts p T y c') (after ts p T y a.tree) (write T y (walk p (ro ts) root_seat 0 row') row')
        (write T y (seen_at p) row) w'.lays w.lays (omega (arith, w'.size, d.made.size, a.size))
        (update-last p _ _ a.tree d.made.granted.valid)
        (λ i U h. made-starts (placed-type p (ro ts) T q) w' i U h ∙ made-starts (placed-type p (ro ts) T q) d.made i U h
        ∙ sym (made-starts (placed-type p (ro ts) T q) w i U h)))
        ∙ sym (allowed ts row a p y T q j)
    last-by y by (some n) j =
        turned_down ts row' still p y n (down row' still (again y ∙ j)) ∙ sym (turned_down ts row a p y n (down row a j))
      where
        down : (row : List ℕ) → Accepted ts row → judge_at (some d.type) (answer_of d.type (walk p (ro ts) root_seat 0 row)) y ≡ some n
            → judge_at (placed p (ro ts)) (read_in ts row p) y ≡ some n
        down row a j = rw (read_at ts row a p d.type d.place, d.place) j

    pub last-alone : (y : Setting) → Proper y → set_in ts row' p y ≡ set_in ts row p y
    last-alone y by = last-by y by _ refl

    -- ---- elsewhere

    like : (q : List ℕ) (U : Ty) → placed q (ro ts) ≡ some U → p ≢ q → Like U (walk q (ro ts) root_seat 0 row') (seen_at q)
    like q U h n = d.made.others q U (placed-type q (ro ts) U h) n

    others_by : (q : List ℕ) → p ≢ q → (m : Option Ty) → placed q (ro ts) ≡ m → Alike row' (read_in ts row' q) row (read_in ts row q)
    others_by q n none h = nowhere-alike ts row' row q h
    others_by q n (some U) h =
        let l = like q U h n in
        let s : read_in ts row' q ≡ read_in ts row q = read_at ts row' still q U h ∙ l.answers ∙ sym (read_at ts row a q U h) in
        record {
          same = s;
          bytes = ap (held row') (read_at ts row' still q U h)
              ∙ held-shown row' U q c' (walk q (ro ts) root_seat 0 row') (row-lands ts row' still q U h)
              ∙ l.shows
              ∙ sym (held-shown row U q a.tree (seen_at q) (row-lands ts row a q U h))
              ∙ sym (ap (held row) (read_at ts row a q U h));
        }

    pub others : (q : List ℕ) → p ≢ q → Alike row' (read_in ts row' q) row (read_in ts row q)
    others q n = others_by q n (placed q (ro ts)) refl

    pub unmoved : (q : List ℕ) (y : Setting) → p ≢ q → refusal_of (set_in ts row' q y) ≡ refusal_of (set_in ts row q y)
    unfolding set_in
    unmoved q y n = rw (row-sound ts row a, row-sound ts row' still, (others q n).same) (outcome-refusal (judge_at (placed q (ro ts)) (read_in ts row q) y) _ _)

    -- the other setting, made after this one
    then-other : (q : List ℕ) (y : Setting) (row₂ : List ℕ) → Proper y → p ≢ q → (f : Done ts q y a.tree row row₂)
        → (set_in ts row' q y ≡ becomes (write f.type y (walk q (ro ts) root_seat 0 row') row')) × Made ts q y f.type c' row'
        (write f.type y (walk q (ro ts) root_seat 0 row') row')
    then-other q y row₂ by n f =
        let U = f.type in
        let j : judge_at (some U) (answer_of U (walk q (ro ts) root_seat 0 row')) y ≡ none = ap (λ (z : Answer). judge_at (some U) z y)
        (like q U f.place n).answers ∙ f.judged in
        (allowed ts row' still q y U f.place j, written ts row' still q y U by f.place (judged U (answer_of U (walk q (ro ts) root_seat 0 row')) y j))

  -- ---- a leaf set to what it reads

  abbrev Told : List ℕ → Setting → Option Ty → Type 0
  Told p x m = told row (found m (seen_at p)) ≡ some x

  no-change-by : (p : List ℕ) (x : Setting) (m : Option Ty) → placed p (ro ts) ≡ m → Told p x m → x ≢ S.null → set_in ts row p x ≡ becomes row
  unfolding found told
  no-change-by p x none q e n = absurd (none-ne-some _ e)
  no-change-by p x (some T) q e n =
      let s = told_same row T p a.tree (seen_at p) x (row-lands ts row a p T q) e n in
      let j : Judged T (answer_of T (seen_at p)) x = record { present = s.1.present; suits = s.1.suits; keeps = s.1.keeps } in
      let w = written ts row a p x T s.1.proper q j in
      let t : after ts p T x a.tree ≡ a.tree = ap (λ (z : Cell). update p z a.tree) (s.1.is _) ∙ update-look p a.tree s.0 in
      allowed ts row a p x T q (judged-fine T (answer_of T (seen_at p)) x j)
      ∙ ap becomes (same_bytes (ro ts) _ a.tree (write T x (seen_at p) row) row w.lays (row-lays ts row a) (omega (arith, w.size, a.size)) t
      (made-starts (placed-type p (ro ts) T q) w))

  pub no_change : (p : List ℕ) (x : Setting) → told row (read_in ts row p) ≡ some x → x ≢ S.null → set_in ts row p x ≡ becomes row
  unfolding read_in
  no_change p x e n = no-change-by p x (placed p (ro ts)) refl e n

  -- ---- settings of two leaves

  -- two different paths at which settings are done are two leaves
  two-places : (p q : List ℕ) (x y : Setting) (row₁ row₂ : List ℕ) → Done ts p x a.tree row row₁ → Done ts q y a.tree row row₂ → p ≢ q → Parted p q
  two-places p q x y row₁ row₂ d₁ d₂ n =
      two-leaves p q (ro ts) d₁.type d₂.type (placed-type p (ro ts) d₁.type d₁.place) (fine-leaf d₁.made.granted.fine)
      (placed-type q (ro ts) d₂.type d₂.place) (fine-leaf d₂.made.granted.fine) n

  pub either_order : (p q : List ℕ) (x y : Setting) (row₁ row₂ : List ℕ) → Proper x → Proper y → p ≢ q → set_in ts row p x ≡ becomes row₁
      → set_in ts row q y ≡ becomes row₂ → Meeting ts row₁ row₂ p q x y
  either_order p q x y row₁ row₂ bx by n e₁ e₂ =
      let d₁ = done ts row a p x row₁ bx e₁ in
      let d₂ = done ts row a q y row₂ by e₂ in
      let T = d₁.type in
      let U = d₂.type in
      let part = two-places p q x y row₁ row₂ d₁ d₂ n in
      let o₁ = then-other p x row₁ bx e₁ q y row₂ by n d₂ in
      let o₂ = then-other q y row₂ by e₂ p x row₁ bx (λ m. n (sym m)) d₁ in
      record {
        end = write U y (walk q (ro ts) root_seat 0 row₁) row₁;
        p-first = o₁.0;
        q-first = o₂.0 ∙ ap becomes (sym (same_bytes (ro ts) _ _ _ _ o₁.1.lays o₂.1.lays (omega (arith, o₁.1.size, d₁.made.size, a.size))
            (update_comm p q _ _ a.tree part d₁.made.granted.valid)
            (λ i A h. made-starts (placed-type q (ro ts) U d₂.place) o₁.1 i A h ∙ made-starts (placed-type p (ro ts) T d₁.place) d₁.made i A h
            ∙ sym (made-starts (placed-type p (ro ts) T d₁.place) o₂.1 i A h ∙ made-starts (placed-type q (ro ts) U d₂.place) d₂.made i A h))));
      }
