-- `answers::settings::given` meets its contract, case by case. Assumes nothing.
use mathlib.Core.Path.{◌≡◌, sym, ap, ◌∙◌, subst}
use mathlib.Core.List.{List}
use Prim.Native.Nat.{ℕ, ◌<◌, ◌^◌}
use borrow.Author.Rules.{rules}
use native.Mathlib.Omega.{arith}
use mir.Syntax.{w64}
use mir.ValLaws.{to_z-of_z}
use Rattle.words.specs.Bytes.{Bytes}
use Rattle.layout.specs.Setting as S
use Rattle.layout.specs.Demand3.{Proper}
use Rattle.answers.specs.declared.Setting.{Setting}
use Rattle.answers.specs.declared.Given.{Given}
use Rattle.answers.specs.declared.Given.TheVariants as G
use Rattle.answers.specs.Meaning.{setting_of, given_means, GivenAs}
use Rattle.answers.proofs.settings.given.Goals as goal

-- what a `Given` stands for is proper where its bits have their width
given-as : (x : Setting) (g : Given) → ((u : List ℕ) → given_means g u ≡ setting_of x u) → ((u : List ℕ) → Bytes u → Proper (given_means g u)) → GivenAs x g
given-as x g m p = record { means = m; proper = λ u h. subst Proper (m u) (p u h) }

pub returns-in-Null : goal.returns-in-Null
returns-in-Null c = given-as _ G.Null (λ u. sym (ap (λ (s : Setting). setting_of s u) c.in-Null.is)) (λ u h. tt)

pub returns-in-Bool : goal.returns-in-Bool
returns-in-Bool c = given-as _ (G.Bool _) (λ u. sym (ap (λ (s : Setting). setting_of s u) c.in-Bool.is)) (λ u h. tt)

pub returns-in-Number : goal.returns-in-Number
returns-in-Number c = given-as _ (G.Number _) (λ u.
    ap S.signed (to_z-of_z w64 _ (search rules))
    ∙ sym (ap (λ (s : Setting). setting_of s u) c.in-Number.is)) (λ u h. tt)

pub returns-in-Float32 : goal.returns-in-Float32
returns-in-Float32 c = given-as _ (G.Float32 _) (λ u. ap S.float32 c.bits32.ensures
    ∙ sym (ap (λ (s : Setting). setting_of s u) c.in-Float32.is)) (λ u h. omega (arith, c.bits32.type_inv))

pub returns-in-Float32Nan : goal.returns-in-Float32Nan
returns-in-Float32Nan c = given-as _ (G.Float32 _) (λ u. sym (ap (λ (s : Setting). setting_of s u) c.in-Float32Nan.is))
    (λ u h. let fits : c.in-Float32Nan.b < 2 ^ 32 = search rules in omega arith)

pub returns-in-Float64 : goal.returns-in-Float64
returns-in-Float64 c = given-as _ (G.Float64 _) (λ u. ap S.float64 c.bits64.ensures
    ∙ sym (ap (λ (s : Setting). setting_of s u) c.in-Float64.is)) (λ u h. omega (arith, c.bits64.type_inv))

pub returns-in-Float64Nan : goal.returns-in-Float64Nan
returns-in-Float64Nan c = given-as _ (G.Float64 _) (λ u. sym (ap (λ (s : Setting). setting_of s u) c.in-Float64Nan.is))
    (λ u h. let fits : c.in-Float64Nan.b < 2 ^ 64 = search rules in omega arith)

pub returns-in-Bytes : goal.returns-in-Bytes
returns-in-Bytes c = given-as _ G.Bytes (λ u. sym (ap (λ (s : Setting). setting_of s u) c.in-Bytes.is)) (λ u h. h)
