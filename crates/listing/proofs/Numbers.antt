-- A number and a text written behind their marks. Assumes nothing.
use mathlib.Core.Path.{◌≡◌, refl, sym, ◌∙◌}
use mathlib.Core.List.{List, ◌++◌}
use Prim.Native.Nat.{ℕ, ◌+◌, ◌≤◌, ◌<◌}
use native.Mathlib.Omega.{arith}
use lib.ListN.{length, get_or, set, length-append}
use lib.Seq.{sets, take-length}
use Rattle.words.specs.Bytes.{Bytes, le, num, part}
use Rattle.words.specs.Reads.{Reads}
use Rattle.words.proofs.Numbers.{le-num}
use Rattle.words.proofs.Parts.{length_part, bytes-part, part-cons}
use Rattle.schema.specs.Marks.{mark_at, types, line}
use Rattle.schema.proofs.Table.{each, mark-two}
use Rattle.table.specs.Words.{place_in, width_in}
use Rattle.listing.specs.Lines.{Written}
use Rattle.listing.specs.Room.{NumberRoom, TextRoom}
use Rattle.listing.proofs.Wrote.{wrote_none, wrote-run, and_then, count-six}

-- bytes are the bytes of their number
le-part : (b : List ℕ) (at k : ℕ) → Bytes b → at + k ≤ length b → le k (num (part b at k)) ≡ part b at k
le-part b at k hb h = rw (length_part b at k h) at (le-num (bytes-part at k hb))

-- of the widths 8, 4, 2 and 1
Narrow : ℕ → Type 0
Narrow w = (w ≡ 8 → ⊥) → (w ≡ 4 → ⊥) → (w ≡ 2 → ⊥) → w ≡ 1

narrow : (k : ℕ) → k < 7 → Narrow (line k).width
unfolding types Narrow
narrow = each (λ k. Narrow (line k).width) 7 (
  λ a b c. refl,
  (
    λ a b c. refl,
    (
      λ a b c. absurd (c refl),
      (λ a b c. absurd (b refl), (λ a b c. absurd (a refl), (λ a b c. absurd (b refl), (λ a b c. absurd (a refl), tt)))),
    ),
  ),
)

module _ {b : List ℕ} {slot w pos : ℕ} (r : NumberRoom b slot w pos) {x : ℕ} (ex : x ≡ width_in w) where
  abbrev k : ℕ
  k = place_in w

  abbrev v : List ℕ
  v = part b slot (line k).width

  wide : x ≡ (line k).width
  wide = ex ∙ r.lined.width

  long : length v ≡ x
  long = length_part b slot (line k).width r.within ∙ sym wide

  pub number-none : (out : List ℕ) → length out < pos + 2 + x → Written out pos (mark_at k ++ v) out (pos + 2 + x)
  number-none out h =
      wrote_none out pos (mark_at k ++ v) (2 + x) (pos + 2 + x) (rw (length-append, mark-two) (omega (arith, long))) (omega arith) h

  module _ {out out₁ : List ℕ} {p : ℕ} (f : Written out pos (mark_at k) out₁ p) where
    number-run : (out₂ : List ℕ) → out₂ ≡ sets out₁ p v → Written out pos (mark_at k ++ v) out₂ (pos + 2 + x)
    number-run out₂ e = and_then f (wrote-run out₁ p v out₂ x (pos + 2 + x) long (omega (arith, f.past, mark-two k)) e)

    pub number_fits : pos + 2 + x ≤ length out → {K : ℕ} → x ≡ K → p + K ≤ length out₁
    number_fits h e = omega (arith, f.past, f.kept, mark-two k)

    pub number-le : (K y : ℕ) (out₂ : List ℕ) → x ≡ K → Reads b slot K y → out₂ ≡ sets out₁ p (le K y)
        → Written out pos (mark_at k ++ v) out₂ (pos + 2 + x)
    number-le K y out₂ eK ry e =
        let q : (line k).width ≡ K = sym wide ∙ eK in
        number-run out₂ (e ∙ rw (ry.is, le-part b slot K r.bytes (rw q at r.within), q))

    module _ (n8 : x ≡ 8 → ⊥) (n4 : x ≡ 4 → ⊥) (n2 : x ≡ 2 → ⊥) where
      number-one : x ≡ 1
      unfolding Narrow
      number-one = wide ∙ narrow k r.fixed (λ q. n8 (wide ∙ q)) (λ q. n4 (wide ∙ q)) (λ q. n2 (wide ∙ q))

      pub number_in : slot < length b
      number_in = omega (arith, r.within, wide, number-one)

      pub number-write : pos + 2 + x ≤ length out → p < length out₁
      number-write h = omega (arith, number_fits h number-one)

      pub number-byte : Written out pos (mark_at k ++ v) (set out₁ p (get_or b slot 0)) (pos + 2 + x)
      number-byte =
          let q : (line k).width ≡ 1 = sym wide ∙ number-one in
          number-run (set out₁ p (get_or b slot 0)) (rw (q, part-cons b slot 0 number_in))

-- ---- a text

module _ {u : List ℕ} {w pos : ℕ} (r : TextRoom u w pos) where
  abbrev record₀ : List ℕ
  record₀ = mark_at (place_in w) ++ le 4 (length u)

  text-long : length (record₀ ++ u) ≡ 6 + length u
  text-long = length-append record₀ u ∙ rw (count-six (place_in w) (length u))

  pub text-none : (out : List ℕ) → length out < pos + 6 + length u → Written out pos (record₀ ++ u) out (pos + 6 + length u)
  text-none out h = wrote_none out pos (record₀ ++ u) (6 + length u) (pos + 6 + length u) text-long (omega arith) h

  module _ {out out₁ : List ℕ} {p : ℕ} (f : Written out pos record₀ out₁ p) where
    pub text-fits : pos + 6 + length u ≤ length out → p + length u ≤ length out₁
    text-fits h = omega (arith, f.past, f.kept, count-six (place_in w) (length u))

    pub text-run : {out₂ : List ℕ} → out₂ ≡ sets out₁ p (part u 0 (length u)) → Written out pos (record₀ ++ u) out₂ (pos + 6 + length u)
    text-run {out₂} e =
        let q : out₂ ≡ sets out₁ p u = e ∙ rw (take-length u) in
        and_then f (wrote-run out₁ p u out₂ (length u) (pos + 6 + length u) refl (omega (arith, f.past, count-six (place_in w) (length u))) q)
