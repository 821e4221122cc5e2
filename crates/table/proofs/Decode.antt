-- What an entry says is what was put into it. Assumes nothing.
use Rattle.std.proofs.Common.{◌≡◌, ℕ, ◌+◌, ◌*◌, ◌/◌, ◌%◌, ◌<◌, ◌≤◌, [], ◌∷◌, ◌++◌, sym, refl, ap, ◌∙◌, arith, le-ltb, lt-ltb, eq-eqb, ne_eqb}
use Rattle.words.specs.Bytes.{num}
use Rattle.schema.specs.Marks.{types, line, mark_at, element_width}
use Rattle.schema.proofs.Table.{agree}
use Rattle.table.specs.Words.{top_bit, lower, line_word, word, mark_in, top_in, width_in, place_in, count_in, after_in, bytes_in, Lined}

-- a line's word below its kind
pub record Below (k : ℕ) : Type 0 where
  pub small : lower k < 67108864
  pub first : lower k % 256 ≡ (line k).first
  pub second : lower k / 256 % 256 ≡ (line k).second
  pub mark : lower k % 65536 ≡ num (mark_at k)
  pub top : lower k / 65536 % 64 ≡ top_bit k
  pub width : lower k / 4194304 ≡ (line k).width

pub below : (k : ℕ) → k < 12 → Below k
unfolding lower types mark_at num
below k h =
    let small : lower k / 67108864 ≡ 0 = agree (λ k. lower k / 67108864) (λ k. 0) 12 refl k h in
    record {
      small = omega arith;
      first = agree (λ k. lower k % 256) (λ k. (line k).first) 12 refl k h;
      second = agree (λ k. lower k / 256 % 256) (λ k. (line k).second) 12 refl k h;
      mark = agree (λ k. lower k % 65536) (λ k. num (mark_at k)) 12 refl k h;
      top = agree (λ k. lower k / 65536 % 64) top_bit 12 refl k h;
      width = agree (λ k. lower k / 4194304) (λ k. (line k).width) 12 refl k h;
    }

pub lower-small : (k : ℕ) → k < 12 → lower k < 67108864
lower-small k h = (below k h).small

module _ (k d n i e : ℕ) (hk : k < 12) (hd : d < 16) (hn : n < 256) (hi : i + 1 < 1024) where
  abbrev whole : ℕ
  whole = lower k + k * 268435456 + d * 4294967296 + n * 68719476736 + (i + 1) * 17592186044416 + e * 18014398509481984

  pub place-word : place_in (word k d n i e) ≡ k
  unfolding place_in word line_word
  place-word = omega (arith, lower-small k hk)

  pub count_word : count_in (word k d n i e) ≡ n
  unfolding count_in word line_word
  count_word = omega (arith, lower-small k hk)

  pub after-word : after_in (word k d n i e) ≡ e
  unfolding after_in word line_word
  after-word = omega (arith, lower-small k hk)

  top-word : top_in (word k d n i e) ≡ top_bit k
  unfolding top_in word line_word
  top-word = let p : whole / 65536 % 64 ≡ lower k / 65536 % 64 = omega (arith, lower-small k hk) in p ∙ (below k hk).top

  width_word : width_in (word k d n i e) ≡ (line k).width
  unfolding width_in word line_word
  width_word = let p : whole / 4194304 % 16 ≡ lower k / 4194304 = omega (arith, lower-small k hk) in p ∙ (below k hk).width

  mark-word : mark_in (word k d n i e) ≡ num (mark_at k)
  unfolding mark_in word line_word
  mark-word = let p : whole % 65536 ≡ lower k % 65536 = omega arith in p ∙ (below k hk).mark

  mark-first : word k d n i e % 256 ≡ (line k).first
  unfolding word line_word
  mark-first = let p : whole % 256 ≡ lower k % 256 = omega arith in p ∙ (below k hk).first

  mark-second : word k d n i e / 256 % 256 ≡ (line k).second
  unfolding word line_word
  mark-second = let p : whole / 256 % 256 ≡ lower k / 256 % 256 = omega arith in p ∙ (below k hk).second

  pub lined-word : Lined (word k d n i e)
  lined-word = record {
    few = rw place-word hk;
    mark = mark-word ∙ ap (λ (j : ℕ). num (mark_at j)) (sym place-word);
    width = width_word ∙ ap (λ (j : ℕ). (line j).width) (sym place-word);
    top = top-word ∙ ap top_bit (sym place-word);
  }

  pub bytes-other : (k ≡ 11 → ⊥) → bytes_in (word k d n i e) ≡ mark_at k
  unfolding bytes_in mark_at
  bytes-other h = rw (place-word, ne_eqb k 11 h, mark-first, mark-second)

  pub bytes-struct : k ≡ 11 → bytes_in (word k d n i e) ≡ mark_at k ++ (n ∷ [])
  unfolding bytes_in mark_at
  bytes-struct h = rw (place-word, eq-eqb k 11 h, mark-first, mark-second, count_word)

  -- the place after the last descendant, put in last
  pub word_after : (j : ℕ) → j < 1024 → (word k d n i 0 + j * 18014398509481984) % 18446744073709551616 ≡ word k d n i j
  unfolding word line_word
  word_after j h = omega (arith, lower-small k hk)

-- the bytes of an element, as its entry says them
pub element-fixed : {w n x : ℕ} → Lined w → n ≡ place_in w → n < 7 → x ≡ width_in w → x ≡ element_width (place_in w)
unfolding element_width
element-fixed {w} {n} l e h q = q ∙ l.width ∙ sym (rw (lt-ltb (place_in w) 7 (omega arith)))

pub element-varies : {w n : ℕ} → Lined w → n ≡ place_in w → 7 ≤ n → 8 ≡ element_width (place_in w)
unfolding element_width
element-varies {w} {n} l e h = sym (rw (le-ltb (place_in w) 7 (omega arith)))
