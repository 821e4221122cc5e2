-- `setting::leaves::leaf_of` meets its contract. Assumes nothing.
use mir.Syntax.{w64}
use borrow.Author.Rules.{rules}
use mir.Val.{SFits}
use mir.ValLaws.{to_z-of_z}
use Rattle.setting.proofs.Fits.{leaf-null, leaf-as, leaf-number, leaf-bytes}
use Rattle.setting.proofs.leaves.leaf_of.Goals as goal

pub returns-in-Null : goal.returns-in-Null
returns-in-Null c = leaf-null c.args.w c.in-Null.is

pub returns-in-Bool : goal.returns-in-Bool
returns-in-Bool c = leaf-as c.args.w c.place.result c.place.ensures c.of_bool.result c.in-Bool.is (λ u. c.of_bool.ensures)

pub returns-in-Number : goal.returns-in-Number
returns-in-Number c = let f : SFits w64 c.in-Number.z = search rules in
    leaf-number c.args.w c.of_number.result c.in-Number.is (to_z-of_z w64 c.in-Number.z f) c.of_number.ensures

pub returns-in-Float32 : goal.returns-in-Float32
returns-in-Float32 c = leaf-as c.args.w c.place-in-Float32.result c.place-in-Float32.ensures c.of_float32.result c.in-Float32.is
    (λ u. c.of_float32.ensures)

pub returns-in-Float64 : goal.returns-in-Float64
returns-in-Float64 c = leaf-as c.args.w c.place-in-Float64.result c.place-in-Float64.ensures c.of_float64.result c.in-Float64.is
    (λ u. c.of_float64.ensures)

pub returns-in-Bytes : goal.returns-in-Bytes
returns-in-Bytes c = leaf-bytes c.args.w c.requires c.in-Bytes.is
