-- `reading::values::value` meets its contract. Assumes nothing.
use mathlib.Core.Path.{refl}
use Rattle.words.proofs.Numbers.{bytes_of}
use Rattle.reading.proofs.Rules.{leaf-some}
use Rattle.reading.proofs.Shown.{bool-value, signed-size, signed-value, signed-passed, float32-room, float32-value, float64-room, float64-value}
use Rattle.reading.proofs.values.value.Goals as goal

pub bounds-row-at : goal.bounds-row-at
bounds-row-at c = leaf-some c.requires

pub returns-then-k-eq-BOOL : goal.returns-then-k-eq-BOOL
returns-then-k-eq-BOOL c = bool-value _ c.requires c.if-k-eq-BOOL.true refl

pub get_signed-requires : goal.get_signed-requires
get_signed-requires c = signed-size _ c.requires c.if-k-eq-BOOL.false c.if-k-lt-FLOAT32.true

pub returns-then-k-lt-FLOAT32 : goal.returns-then-k-lt-FLOAT32
returns-then-k-lt-FLOAT32 c = let pre = c.requires in
    let if1 = c.if-k-eq-BOOL in
    let if2 = c.if-k-lt-FLOAT32 in
    let shared-slice-known = c.shared_slice_known-1 in
    signed-value _ pre if1.false if2.true
    (signed-passed _ pre if1.false if2.true (bytes_of _ (λ j. (shared-slice-known.given j).fits)) c.get_signed.ensures)

pub get-requires-clause-room : goal.get-requires-clause-room
get-requires-clause-room c = float32-room c.requires c.if-k-eq-FLOAT32.true

pub returns-then-k-eq-FLOAT32 : goal.returns-then-k-eq-FLOAT32
returns-then-k-eq-FLOAT32 c = let pre = c.requires in
    let if3 = c.if-k-eq-FLOAT32 in
    float32-value pre if3.true c.get.ensures.is c.float32_of.result c.float32_of.ensures

pub get-requires-2-clause-room : goal.get-requires-2-clause-room
get-requires-2-clause-room c = float64-room c.requires c.if-k-lt-FLOAT32.false c.if-k-eq-FLOAT32.false

pub returns : goal.returns
returns c = let pre = c.requires in
    let if2 = c.if-k-lt-FLOAT32 in
    let if3 = c.if-k-eq-FLOAT32 in
    float64-value pre if2.false if3.false c.get-2.ensures.is c.float64_of.result c.float64_of.ensures
