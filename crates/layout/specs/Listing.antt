-- The listing of a row's contents, and its reading. A listing forgets the bytes under nulls: it is read as clean contents.
-- Assumes nothing: these are definitions.
use Rattle.std.proofs.Math.Option.{Option, some}
use Rattle.std.specs.Prelude.{List, [], ◌∷◌, ◌++◌, ℕ, length, replicate}
use Rattle.std.proofs.Math.Decide.{dec_lt, ℕ_discrete}
use Rattle.words.specs.Bytes.{le, num, zeros}
use Rattle.schema.specs.Types.{width, Text, Ty, fix, text, li, ma, ro, Tys, end, ◌then◌, mark}
use Rattle.layout.specs.Reader.{◌>>=◌, ◌>>◌, assert, cut}
use Rattle.layout.specs.Cells.{Cell, null, leaf, node, on_null, bytes, parts, part_of}
use Rattle.layout.specs.Layout.{spells?, slot_of, limit, codec}

-- null's mark
abbrev pub nu : List ℕ
nu = 0x6e ∷ 0x75 ∷ []

-- how contents are listed behind their mark, and read from the front of a listing
pub record Script : Type 0 where
  pub put : Cell → List ℕ
  pub get : List ℕ → Option (Cell × List ℕ)

-- a fixed-width number: its bytes
unfoldable pub number_script : ℕ → ℕ → Script
number_script w m = record {
  put = bytes;
  get = λ b. (do
    (u, r) ← cut w b
    assert (dec_lt (num u) m)
    some (leaf u, r));
}

-- a 4-byte length and the bytes, which are text in a string
unfoldable pub text_script : Text → Script
text_script t = record {
  put = λ c. le 4 (length (bytes c)) ++ bytes c;
  get = λ b. (do
    (h, r) ← cut 4 b
    (u, r') ← cut (num h) r
    assert (spells? t u)
    some (leaf u, r'));
}

-- a mark, and then what it marks
unfoldable pub marked : List ℕ → Script → List ℕ → List ℕ → Option (Cell × List ℕ)
marked m s h r = do
  assert (ℕ_discrete (num h) (num m))
  s.get r

-- a null, for which w zeros are laid down, or else what follows
unfoldable pub null_or : {P : Type 0} → ℕ → Dec P → List ℕ → Option (Cell × List ℕ) → Option (Cell × List ℕ)
null_or w (yes _) r o = some (null (zeros w), r)
null_or w (no _) r o = o

-- a child: nu, or the mark and the contents
unfoldable pub item : ℕ → List ℕ → Script → Script
item w m s = record {
  put = λ c. on_null (λ _. nu) (m ++ s.put c) c;
  get = λ b. (do
    (h, r) ← cut 2 b
    null_or w (ℕ_discrete (num h) (num nu)) r (marked m s h r));
}

-- one after another
unfoldable pub run_put : List Script → List Cell → List ℕ
run_put [] cs = []
run_put (s ∷ ss) [] = []
run_put (s ∷ ss) (c ∷ cs) = s.put c ++ run_put ss cs

unfoldable pub run_get : List Script → List ℕ → Option (List Cell × List ℕ)
run_get [] b = some ([], b)
run_get (s ∷ ss) b = do
  (c, r) ← s.get b
  (cs, r') ← run_get ss r
  some (c ∷ cs, r')

-- the fields
unfoldable pub struct_script : List Script → Script
struct_script ss = record {
  put = λ c. run_put ss (parts c);
  get = λ b. (do
    (cs, r) ← run_get ss b
    some (node cs, r));
}

-- a 4-byte count and the elements
unfoldable pub list_script : Script → Script
list_script s = record {
  put = λ c. le 4 (length (parts c)) ++ run_put (replicate (length (parts c)) s) (parts c);
  get = λ b. (do
    (h, r) ← cut 4 b
    (cs, r') ← run_get (replicate (num h) s) r
    some (node cs, r'));
}

-- a 4-byte count, all keys, then all values
unfoldable pub map_script : Script → Script → Script
map_script k v = record {
  put = λ c. le 4 (length (parts (part_of 0 c))) ++ (run_put (replicate (length (parts (part_of 0 c))) k) (parts (part_of 0 c))
      ++ run_put (replicate (length (parts (part_of 1 c))) v) (parts (part_of 1 c)));
  get = λ b. (do
    (h, r) ← cut 4 b
    (ks, r') ← run_get (replicate (num h) k) r
    (vs, r'') ← run_get (replicate (num h) v) r'
    some (node (node ks ∷ node vs ∷ []), r''));
}

-- the child of an array, whose nulls have zeros of its slot's width
abbrev pub element : Ty → Script → Script
element t s = item (slot_of (codec t).wide) (mark t) s

unfoldable mutual
  pub script : Ty → Script
  script (fix f) = number_script (width f) (limit f)
  script (text t) = text_script t
  script (li t) = list_script (element t (script t))
  script (ma k v) = map_script (element k (script k)) (element v (script v))
  script (ro ts) = struct_script (scripts ts)

  pub scripts : Tys → List Script
  scripts end = []
  scripts (t then ts) = item 8 (mark t) (script t) ∷ scripts ts

-- the records of c, depth first
unfoldable pub listing : Ty → Cell → List ℕ
listing t c = mark t ++ (script t).put c

-- the whole of b is a listing of the type, not null, and nothing is left over
unfoldable pub parse : Ty → List ℕ → Option Cell
unfolding marked
parse t b = do
  (h, r) ← cut 2 b
  (c, r') ← marked (mark t) (script t) h r
  assert (ℕ_discrete (length r') 0)
  some c
