-- The test of text as it computes, for tables of worked cases. Assumes nothing.
use native.Mathlib.Decide.{dec_le}
use Rattle.words.specs.Tests.{both?, either?, change?, is_yes}
use Rattle.words.specs.TextTest.{in?, one?, two?, three?, four?, first_yes, char_size, chars_from, by_test, well_formed?, is_text}

-- to unfold this is to unfold the test
unfoldable pub text-computes : Unit {0}
unfolding both? either? change? is_yes in? one? two? three? four? first_yes char_size chars_from by_test well_formed? is_text dec_le
text-computes = tt
