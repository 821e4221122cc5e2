-- A listing's records read at a position. Assumes nothing.
use mathlib.Core.Path.{◌≡◌, refl, ◌∙◌}
use mathlib.Core.Logic.{◌≢◌}
use mathlib.Core.Option.{none, some}
use mathlib.Core.List.{List}
use Prim.Native.Nat.{ℕ, ◌+◌, ◌-◌, ◌≤◌, ◌<◌}
use native.Mathlib.Omega.{arith}
use native.Mathlib.Decide.{dec_le, dec_lt, ℕ_discrete}
use lib.ListN.{length, drop, length-drop}
use lib.Seq.{drop-drop}
use Rattle.words.specs.Bytes.{num, part, zeros}
use Rattle.schema.specs.Types.{Text}
use Rattle.layout.specs.Reader.{assert, cut}
use Rattle.layout.specs.Cells.{null, leaf}
use Rattle.layout.specs.Layout.{Spells, spells?}
use Rattle.layout.specs.Listing.{nu, Script, number_script, text_script, marked, item}
use Rattle.layout.proofs.Reader.{assert-yes}
use Rattle.layout.proofs.Items.{null-yes, null-no}

pub assert-no : {P : Type 0} (d : Dec P) → ¬ P → assert d ≡ none
unfolding assert
assert-no (yes p) h = absurd (h p)
assert-no (no n) h = refl

module _ (n : ℕ) (l : List ℕ) (at : ℕ) where
  pub cut_short : length l - at < n → cut n (drop at l) ≡ none
  unfolding cut
  cut_short h = rw (assert-no (dec_le n (length (drop at l))) (λ p. omega (arith, length-drop at l)))

  pub cut_at : n ≤ length l - at → cut n (drop at l) ≡ some (part l at n, drop (at + n) l)
  unfolding cut
  cut_at h = rw (assert-yes (dec_le n (length (drop at l))) (rw length-drop h), drop-drop n at l)

-- ---- a child: nu, or its mark and its contents

module _ (w : ℕ) (m : List ℕ) (s : Script) (l : List ℕ) (at : ℕ) where
  pub item-short : length l - at < 2 → (item w m s).get (drop at l) ≡ none
  unfolding item
  item-short h = rw (cut_short 2 l at h)

  module _ (h : 2 ≤ length l - at) where
    pub item-null : num (part l at 2) ≡ num nu → (item w m s).get (drop at l) ≡ some (null (zeros w), drop (at + 2) l)
    unfolding item
    item-null e = rw (cut_at 2 l at h) (null-yes w (ℕ_discrete (num (part l at 2)) (num nu)) (drop (at + 2) l) (marked m s (part l at 2) (drop (at + 2) l)) e)

    past-null : num (part l at 2) ≢ num nu → (item w m s).get (drop at l) ≡ marked m s (part l at 2) (drop (at + 2) l)
    unfolding item
    past-null e = rw (cut_at 2 l at h) (null-no w (ℕ_discrete (num (part l at 2)) (num nu)) (drop (at + 2) l) (marked m s (part l at 2) (drop (at + 2) l)) e)

    pub item-other : num (part l at 2) ≢ num nu → num (part l at 2) ≢ num m → (item w m s).get (drop at l) ≡ none
    unfolding marked
    item-other e f = past-null e ∙ rw (assert-no (ℕ_discrete (num (part l at 2)) (num m)) f)

    pub item-body : num (part l at 2) ≢ num nu → num (part l at 2) ≡ num m → (item w m s).get (drop at l) ≡ s.get (drop (at + 2) l)
    unfolding marked
    item-body e f = past-null e ∙ rw (assert-yes (ℕ_discrete (num (part l at 2)) (num m)) f)

-- ---- leaves

module _ (w m : ℕ) (l : List ℕ) (at : ℕ) where
  pub number_short : length l - at < w → (number_script w m).get (drop at l) ≡ none
  unfolding number_script
  number_short h = rw (cut_short w l at h)

  module _ (h : w ≤ length l - at) where
    pub number-high : m ≤ num (part l at w) → (number_script w m).get (drop at l) ≡ none
    unfolding number_script
    number-high g = rw (cut_at w l at h, assert-no (dec_lt (num (part l at w)) m) (λ p. omega arith))

    pub number-good : num (part l at w) < m → (number_script w m).get (drop at l) ≡ some (leaf (part l at w), drop (at + w) l)
    unfolding number_script
    number-good g = rw (cut_at w l at h, assert-yes (dec_lt (num (part l at w)) m) g)

module _ (t : Text) (l : List ℕ) (at : ℕ) where
  pub text-short : length l - at < 4 → (text_script t).get (drop at l) ≡ none
  unfolding text_script
  text-short h = rw (cut_short 4 l at h)

  module _ (h : 4 ≤ length l - at) (n : ℕ) (e : n ≡ num (part l at 4)) where
    pub text-cut : length l - at - 4 < n → (text_script t).get (drop at l) ≡ none
    unfolding text_script
    text-cut g = rw (cut_at 4 l at h, ← e, cut_short n l (at + 4) (omega arith))

    module _ (g : n ≤ length l - at - 4) where
      pub text-bad : ¬ Spells t (part l (at + 4) n) → (text_script t).get (drop at l) ≡ none
      unfolding text_script
      text-bad s = rw (cut_at 4 l at h, ← e, cut_at n l (at + 4) (omega arith), assert-no (spells? t (part l (at + 4) n)) s)

      pub text-good : Spells t (part l (at + 4) n) → (text_script t).get (drop at l) ≡ some (leaf (part l (at + 4) n), drop (at + 4 + n) l)
      unfolding text_script
      text-good s = rw (cut_at 4 l at h, ← e, cut_at n l (at + 4) (omega arith), assert-yes (spells? t (part l (at + 4) n)) s)
