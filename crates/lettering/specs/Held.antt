-- Text that is held in the lent bytes, and printed where it grows long. Assumes nothing: these are definitions.
use Rattle.std.specs.Prelude.{◌≡◌, List, ℕ, ◌+◌, ◌≤◌, length}
use Rattle.lettering.specs.Text.{Puts}

-- text of up to 229,000 bytes is held, and printed no sooner
pub record Spilt (used r : ℕ) : Type 0 where
  pub few : r ≤ 229000
  pub held : used ≤ 229000 → r ≡ used

-- Where a text and the used bytes before it are at most 229,000 together, it stands behind them and r is its end. Of a longer one, whose
-- front was printed on the way, it is said only that r lies in out: no statement can speak of what was printed.
pub record Walked (text out : List ℕ) (used r : ℕ) (out' : List ℕ) : Type 0 where
  pub within : r ≤ length out
  pub held : used + length text ≤ 229000 → Puts out used text r out'
