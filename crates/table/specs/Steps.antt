-- A step that is handed a table. Assumes nothing: these are definitions.
use Rattle.std.specs.Prelude.{◌≡◌, ℕ, List}
use denote.Ref.{Bor, MutBor}
use Rattle.table.specs.Tables.{TableFor}

-- the step may be called at any table of the schema s
abbrev pub TakesTable : (Bor (List ℕ) → Type 0) → List ℕ → Type 0
TakesTable pre s = (t : Bor (List ℕ)) → TableFor s t.now → pre t

-- it was called at one, and answered r
abbrev pub GivesAt : {R : Type 0} → (Bor (List ℕ) → R → Type 0) → List ℕ → R → Type 0
GivesAt post s r = (t : Bor (List ℕ)) × TableFor s t.now × post t r

-- the same of a step that is lent an output too
abbrev pub TakesOut : {T : Type 0} → (Bor (List ℕ) → MutBor (List T) → Type 0) → List ℕ → List T → Type 0
TakesOut {T} pre s out = (t : Bor (List ℕ)) (o : MutBor (List T)) → TableFor s t.now → o.now ≡ out → pre t o

-- it leaves out' there
abbrev pub LeavesAt : {T R : Type 0} → (Bor (List ℕ) → MutBor (List T) → R → MutBor (List T) → Type 0) → List ℕ → List T → R → List T → Type 0
LeavesAt {T} post s out r out' =
    (t : Bor (List ℕ)) × (o : MutBor (List T)) × (o' : MutBor (List T)) × TableFor s t.now × (o.now ≡ out) × post t o r o' × (o'.now ≡ out')
