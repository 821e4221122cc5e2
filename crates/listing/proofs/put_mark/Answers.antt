-- `listing::put_mark` meets its contract: the mark's two bytes where there is room for both. Assumes nothing.
use mathlib.Core.Path.{refl, ap, ◌∙◌}
use lib.Seq.{sets}
use Rattle.table.specs.Words.{place_in}
use Rattle.listing.proofs.Wrote.{wrote_none, wrote-run, entry-mark}
use Rattle.schema.proofs.Table.{mark-two}
use Rattle.listing.proofs.put_mark.Goals as goal

pub returns-then-out-end : goal.returns-then-out-end
returns-then-out-end c = wrote_none _ _ _ 2 _ (mark-two (place_in c.args.w)) refl c.if-out-end.true

pub returns : goal.returns
returns c = wrote-run _ _ _ _ 2 _ (mark-two (place_in c.args.w)) refl
    (c.put.ensures ∙ ap (sets c.args.out.now c.args.pos) (entry-mark c.requires.0 c.mark.ensures))
