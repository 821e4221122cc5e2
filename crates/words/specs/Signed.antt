-- Two's complement in w bytes, by half its range. Assumes nothing: these are definitions.
use Rattle.std.specs.Prelude.{Bool, true, false, cond, ℕ, suc, ◌+◌, ◌-◌, ◌*◌, ◌^◌, ℤ, pos, negsuc, ltb}
use Rattle.std.specs.Int.Signed.{mag}

-- half the range of w bytes
abbrev pub half_of : ℕ → ℕ
half_of w = 2 ^ (8 * w - 1)

abbrev pub is_negative : ℤ → Bool
is_negative (pos n) = false
is_negative (negsuc n) = true

-- the number of a sign and a magnitude, which is n for n and n - 1 for -n
abbrev pub of_magnitude : Bool → ℕ → ℤ
of_magnitude true m = negsuc m
of_magnitude false m = pos m

-- the number that the bits n stand for, h half the range
abbrev pub to_signed : ℕ → ℕ → ℤ
to_signed h n = cond (ltb n h) (pos n) (negsuc (h + h - suc n))

-- the bits of a number
abbrev pub of_signed : ℕ → ℤ → ℕ
of_signed h (pos n) = n
of_signed h (negsuc n) = h + h - suc n

-- whether the range holds it
abbrev pub in_range : ℕ → ℤ → Bool
in_range h z = ltb (mag z) h
