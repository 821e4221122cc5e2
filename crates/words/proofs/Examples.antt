-- Examples of the layout and of text, by computation. Assumes nothing.
use mathlib.Core.Path.{◌≡◌, refl}
use mathlib.Core.Bool.{true, false}
use mathlib.Core.List.{[], ◌∷◌}
use Prim.Native.Nat.{◌+◌, ◌*◌, ◌^◌}
use lib.IntN.{negsuc}
use lib.Dec.{ltb}
use Rattle.words.specs.Bytes.{le, num, pad, bitmap}
use Rattle.words.specs.Bits.{bit, put_bit}
use Rattle.words.specs.Signed.{half_of, to_signed, of_signed}
use Rattle.words.specs.TextTest.{is_text}
use Rattle.words.proofs.TextComputes.{text-computes}

-- case K: the bitmap and the slots of 64 and of 65 children
sizes : (bitmap 64 + 8 * 64 ≡ 520) × (bitmap 65 + 8 * 65 ≡ 536)
sizes = (refl, refl)

pads : (pad 0 ≡ 0) × (pad 1 ≡ 8) × (pad 8 ≡ 8) × (pad 9 ≡ 16)
pads = (refl, refl, refl, refl)

-- case A: -2 in 4 bytes, and in a slot of 8 with zeros behind it
minus-two : le 4 (of_signed (half_of 4) (negsuc 1)) ≡ 254 ∷ 255 ∷ 255 ∷ 255 ∷ []
unfolding le
minus-two = refl

minus-two-slot : le 8 (of_signed (half_of 4) (negsuc 1)) ≡ 254 ∷ 255 ∷ 255 ∷ 255 ∷ 0 ∷ 0 ∷ 0 ∷ 0 ∷ []
unfolding le
minus-two-slot = refl

minus-two-back : to_signed (half_of 4) (num (254 ∷ 255 ∷ 255 ∷ 255 ∷ [])) ≡ negsuc 1
unfolding num
minus-two-back = refl

-- case B: the bitmap 02 of two children
null-b : (bit (2 ∷ 0 ∷ 0 ∷ 0 ∷ 0 ∷ 0 ∷ 0 ∷ 0 ∷ []) 0 1 ≡ true) × (bit (2 ∷ 0 ∷ 0 ∷ 0 ∷ 0 ∷ 0 ∷ 0 ∷ 0 ∷ []) 0 0 ≡ false)
null-b = (refl, refl)

put_b : put_bit (7 ∷ 0 ∷ 0 ∷ []) 1 1 true ≡ 7 ∷ 2 ∷ 0 ∷ []
put_b = refl

past-b : (ltb (num (2 ∷ 0 ∷ 0 ∷ 0 ∷ 0 ∷ 0 ∷ 0 ∷ 0 ∷ [])) (2 ^ 2) ≡ true) × (ltb (num (4 ∷ 0 ∷ 0 ∷ 0 ∷ 0 ∷ 0 ∷ 0 ∷ 0 ∷ [])) (2 ^ 2) ≡ false)
unfolding num
past-b = (refl, refl)

-- case C: a slot of offset 16 and size 3
slot-c : le 8 (16 * 2 ^ 32 + 3) ≡ 3 ∷ 0 ∷ 0 ∷ 0 ∷ 16 ∷ 0 ∷ 0 ∷ 0 ∷ []
unfolding le
slot-c = refl

-- the examples of RFC 3629, section 7: "A≢Α.", "한국어", "日本語", and a byte order mark before a character of four bytes
rfc-texts : (is_text (0x41 ∷ 0xE2 ∷ 0x89 ∷ 0xA2 ∷ 0xCE ∷ 0x91 ∷ 0x2E ∷ []) ≡ true)
    × (is_text (0xED ∷ 0x95 ∷ 0x9C ∷ 0xEA ∷ 0xB5 ∷ 0xAD ∷ 0xEC ∷ 0x96 ∷ 0xB4 ∷ []) ≡ true)
    × (is_text (0xE6 ∷ 0x97 ∷ 0xA5 ∷ 0xE6 ∷ 0x9C ∷ 0xAC ∷ 0xE8 ∷ 0xAA ∷ 0x9E ∷ []) ≡ true)
    × (is_text (0xEF ∷ 0xBB ∷ 0xBF ∷ 0xF0 ∷ 0xA3 ∷ 0x8E ∷ 0xB4 ∷ []) ≡ true)
unfolding text-computes
rfc-texts = (refl, refl, refl, refl)

-- what its sections 3 and 10 warn of: NUL in two bytes, "/" in two, a surrogate pair, a character above 10FFFF; then a cut one and a tail alone
no-texts : (is_text (0xC0 ∷ 0x80 ∷ []) ≡ false) × (is_text (0xC0 ∷ 0xAF ∷ []) ≡ false)
    × (is_text (0xED ∷ 0xA1 ∷ 0x8C ∷ 0xED ∷ 0xBE ∷ 0xB4 ∷ []) ≡ false) × (is_text (0xF4 ∷ 0x90 ∷ 0x80 ∷ 0x80 ∷ []) ≡ false)
    × (is_text (0x53 ∷ 0xE2 ∷ 0x89 ∷ []) ≡ false) × (is_text (0x53 ∷ 0x80 ∷ []) ≡ false)
unfolding text-computes
no-texts = (refl, refl, refl, refl, refl, refl)

-- NUL, a noncharacter, and no bytes are text
free-texts : (is_text (0x00 ∷ []) ≡ true) × (is_text (0xEF ∷ 0xBF ∷ 0xBF ∷ []) ≡ true) × (is_text [] ≡ true)
unfolding text-computes
free-texts = (refl, refl, refl)
