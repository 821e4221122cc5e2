-- What a test's answer tells, and what the answer is where the truth is known. Assumes nothing.
use mathlib.Core.Bool.{true, false, true≢false}
use mathlib.Core.Path.{◌≡◌, refl, sym}
use Rattle.words.specs.Tests.{is_yes}

pub yes-is : {P : Type 0} (d : Dec P) → P → is_yes d ≡ true
unfolding is_yes
yes-is (yes p) x = refl
yes-is (no n) x = absurd (n x)

pub no-is : {P : Type 0} (d : Dec P) → ¬ P → is_yes d ≡ false
unfolding is_yes
no-is (yes p) f = absurd (f p)
no-is (no n) f = refl

pub is-yes : {P : Type 0} (d : Dec P) → is_yes d ≡ true → P
unfolding is_yes
is-yes (yes p) e = p
is-yes (no n) e = absurd (true≢false (sym e))

pub is-no : {P : Type 0} (d : Dec P) → is_yes d ≡ false → ¬ P
unfolding is_yes
is-no (yes p) e = absurd (true≢false e)
is-no (no n) e = n
