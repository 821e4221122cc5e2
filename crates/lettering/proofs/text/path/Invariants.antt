-- `lettering::text::path` meets its contract: the steps behind the first are put as far as the k-th. Assumes nothing.
use mathlib.Core.Path.{◌≡◌}
use Prim.Native.Nat.{◌+◌, ◌*◌, ◌≤◌}
use lib.ListN.{length, take, drop}
use Rattle.answers.specs.Paths.{path_of}
use Rattle.lettering.specs.Text.{dotted, Puts}
use Rattle.lettering.proofs.text.path.Given as goal

abbrev pub invariant-loop-k : goal.invariant-loop-k
invariant-loop-k l = (length l.out ≡ length l.initial.out) × (l.next + 21 ≤ l.initial.next + 21 * l.k) × Puts l.initial.out l.initial.next
    (dotted (drop 1 (take l.k (path_of l.path)))) l.next l.out
