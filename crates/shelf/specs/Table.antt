-- Worked catalogues: their bytes, and what bytes hold. Assumes nothing: these are definitions.
use Rattle.std.specs.Prelude.{◌≡◌, true, false, List, [], ◌∷◌, ◌++◌, ℕ}
use Rattle.shelf.specs.Catalogue.{used, start_of, schema_in, schemas_in, number_among, stand}

-- `ro` 1 `st`, and `ro` 2 `i4` `i8`
abbrev string : List ℕ
string = 0x72 ∷ 0x6f ∷ 1 ∷ 0x73 ∷ 0x74 ∷ []

abbrev numbers : List ℕ
numbers = 0x72 ∷ 0x6f ∷ 2 ∷ 0x69 ∷ 0x34 ∷ 0x69 ∷ 0x38 ∷ []

-- a catalogue of both
abbrev both : List ℕ
both = 2 ∷ 5 ∷ 0 ∷ (string ++ (7 ∷ 0 ∷ numbers))

-- the string twice; a schema of no bytes behind it; a length of 256 times 5
abbrev twice : List ℕ
twice = 2 ∷ 5 ∷ 0 ∷ (string ++ (5 ∷ 0 ∷ string))

abbrev nothing : List ℕ
nothing = 2 ∷ 5 ∷ 0 ∷ (string ++ (0 ∷ 0 ∷ []))

abbrev turned : List ℕ
turned = 1 ∷ 0 ∷ 5 ∷ string

pub record Table : Type 0 where
  pub bytes : used (string ∷ numbers ∷ []) ≡ both
  -- what lies behind is not looked at
  pub held : schemas_in (both ++ (9 ∷ 9 ∷ 9 ∷ [])) ≡ string ∷ numbers ∷ []
  pub places : (start_of both 0 ≡ 1) × (start_of both 1 ≡ 8) × (start_of both 2 ≡ 17) × (schema_in both 1 ≡ numbers)
  pub stands : (stand both 2 ≡ true) × (stand twice 1 ≡ true) × (stand twice 2 ≡ false) × (stand nothing 2 ≡ false) × (stand turned 1 ≡ false)
  pub finds : (number_among string (string ∷ numbers ∷ []) ≡ 0) × (number_among numbers (string ∷ numbers ∷ []) ≡ 1)
      × (number_among [] (string ∷ numbers ∷ []) ≡ 2)
