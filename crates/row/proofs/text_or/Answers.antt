-- `row::text_or` meets its contract. Assumes nothing.
use Rattle.std.proofs.Common.{refl, ap, ◌∙◌, Ok}
use Rattle.reading.proofs.Shown.{part_end, text-is}
use Rattle.row.proofs.text_or.Goals as goal

pub returns-in-Ok-Bytes : goal.returns-in-Ok-Bytes
returns-in-Ok-Bytes c = text-is c.args.row c.args.stand_in _ c.look.ensures (c.in-Ok-Bytes.is ∙ ap Ok c.in-Ok-Bytes.field-0-is)
    (record { block = refl; place = refl; bytes = part_end c.args.row.now c.in-Ok-Bytes.start c.in-Ok-Bytes.len })
