-- `chart::walk::present` meets its contract. Assumes nothing.
use native.Mathlib.Omega.{arith}
use Rattle.chart.proofs.Labelling.{place-fixed, place-text, list-room, place-list}
use Rattle.chart.proofs.Labelling.{map-room, place_map, struct-room, place-struct}
use Rattle.chart.proofs.walk.present.Goals as goal

pub returns-in-0-to-6 : goal.returns-in-0-to-6
returns-in-0-to-6 c = place-fixed c.requires (omega arith)

pub returns-in-7 : goal.returns-in-7
returns-in-7 c = place-text c.requires (omega arith) (omega arith) c.text_word.ensures c.byte_lines.ensures

pub list-requires : goal.list-requires
list-requires c = list-room c.requires c.in-9.is c.element_width.ensures

pub returns-in-9 : goal.returns-in-9
returns-in-9 c = place-list c.requires c.in-9.is c.element_width.ensures c.list.ensures

pub claim-requires : goal.claim-requires
claim-requires c = map-room c.requires c.in-10.is

pub returns-in-10 : goal.returns-in-10
returns-in-10 c = place_map c.requires c.in-10.is c.claim.ensures

pub child_lines-requires : goal.child_lines-requires
child_lines-requires c = struct-room c.requires (omega arith) (λ e. omega arith) (λ e. omega arith) c.count-n.ensures

pub returns-in_default : goal.returns-in_default
returns-in_default c = place-struct c.requires (omega arith) (λ e. omega arith) (λ e. omega arith) c.count-n.ensures c.child_lines.ensures
