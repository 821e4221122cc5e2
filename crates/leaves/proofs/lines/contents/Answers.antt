-- `leaves::lines::contents` meets its contract: each case in its text. Assumes nothing.
use mathlib.Core.Path.{refl}
use native.Mathlib.Omega.{arith}
use mir.Syntax.{w64}
use mir.ValLaws.{to_z-of_z}
use borrow.Author.Rules.{rules}
use Rattle.leaves.proofs.Told.{bool-byte, bytes-room, told-null, told-bool, told-number, told-float32, told-nan32, told-float64, told-nan64}
use Rattle.leaves.proofs.Told.{told-bytes, told-container}
use Rattle.leaves.proofs.lines.contents.Goals as goal

pub overflow_add-v : goal.overflow_add-v
overflow_add-v c = record { fits = omega (arith, bool-byte c.in-Bool.v) }

pub bytes-requires : goal.bytes-requires
bytes-requires c = bytes-room _ _ _ c.args.x _ _ c.in-Bytes.is c.requires

pub returns-in-Null : goal.returns-in-Null
returns-in-Null c = told-null _ c.args.x c.in-Null.is c.put.ensures

pub returns-in-Bool : goal.returns-in-Bool
returns-in-Bool c = told-bool _ c.args.x _ _ c.in-Bool.is refl c.byte.ensures

pub returns-in-Number : goal.returns-in-Number
returns-in-Number c = told-number _ c.args.x _ _ c.in-Number.is (to_z-of_z w64 c.in-Number.n (search rules)) c.signed.ensures

pub returns-in-Float32 : goal.returns-in-Float32
returns-in-Float32 c = told-float32 _ c.args.x _ _ c.in-Float32.is c.bits32.ensures c.requires.gives c.hex.ensures

pub returns-in-Float32Nan : goal.returns-in-Float32Nan
returns-in-Float32Nan c = told-nan32 _ c.args.x _ c.in-Float32Nan.is c.requires.gives c.hex-in-Float32Nan.ensures

pub returns-in-Float64 : goal.returns-in-Float64
returns-in-Float64 c = told-float64 _ c.args.x _ _ c.in-Float64.is c.bits64.ensures c.requires.gives c.hex-in-Float64.ensures

pub returns-in-Float64Nan : goal.returns-in-Float64Nan
returns-in-Float64Nan c = told-nan64 _ c.args.x _ c.in-Float64Nan.is c.requires.gives c.hex-in-Float64Nan.ensures

pub returns-in-Bytes : goal.returns-in-Bytes
returns-in-Bytes c = told-bytes _ c.args.x _ _ c.in-Bytes.is c.bytes.ensures

pub returns-in-Container : goal.returns-in-Container
returns-in-Container c = told-container _ _ _ c.args.x _ _ _ c.in-Container.is
