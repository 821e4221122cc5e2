-- What the functions of the chart ask and answer. Assumes nothing: these are definitions.
use Rattle.std.specs.Prelude.{◌≡◌, List, ℕ, ◌+◌, ◌*◌, ◌-◌, ◌/◌, ◌%◌, ◌≤◌, ◌<◌, length}
use Rattle.words.specs.Bytes.{num, part, bitmap, fill}
use Rattle.answers.specs.declared.Path.{Path}
use Rattle.answers.specs.Paths.{path_of}
use Rattle.layout.specs.Layout.{front}
use Rattle.reading.specs.Places.{slot_width, place_ty, PlaceHolds}
use Rattle.table.specs.Tables.{schema_of}
use Rattle.reading.specs.Finding.{Open}
use Rattle.reading.specs.Texts.{count_of}
use Rattle.reading.specs.declared.Place.{Place}
use Rattle.chart.specs.Claims.{claim_all, steps_at}
use Rattle.chart.specs.Labels.{Labels, labelled, followed, drawn_from}

-- a chart has 18 words for each line of the longest row
abbrev pub Long : List ℕ → Type 0
Long m = length m ≡ 36864

-- a path whose numbers past its length are zeros
pub record Neat (p : Path) : Type 0 where
  pub few : p.len ≤ 16
  pub rest : p.steps ≡ fill 16 (path_of p)

pub record LineRoom (m : List ℕ) (line : ℕ) (p : Path) : Type 0 where
  pub long : Long m
  pub within : line < 2048
  pub neat : Neat p

pub record ByteRoom (m : List ℕ) (line size what : ℕ) (p : Path) : Type 0 where
  pub long : Long m
  pub within : line + (size + 7) / 8 ≤ 2048
  pub known : what < 8
  pub neat : Neat p

-- slots of w bytes fill a line
pub record SlotRoom (m : List ℕ) (line w size : ℕ) (p : Path) : Type 0 where
  pub long : Long m
  pub within : line + (size + 7) / 8 ≤ 2048
  pub whole : 8 % w ≡ 0
  pub neat : Neat p
  pub more : p.len < 16

pub record ChildRoom (m : List ℕ) (line w n : ℕ) (p : Path) : Type 0 where
  pub long : Long m
  pub within : line + bitmap n / 8 + (n * w + 7) / 8 ≤ 2048
  pub whole : 8 % w ≡ 0
  pub neat : Neat p
  pub more : p.len < 16

pub record ListRoom (m row : List ℕ) (start v : ℕ) (p : Path) : Type 0 where
  pub long : Long m
  pub short : length row ≤ 16384
  pub within : start + front 8 (slot_width v) (num (part row start 8)) ≤ length row
  pub whole : 8 % slot_width v ≡ 0
  pub neat : Neat p
  pub more : p.len < 16

pub record PlaceRoom (m t row : List ℕ) (y : Place) (p : Path) : Type 0 where
  pub long : Long m
  pub stands : PlaceHolds t row y
  pub neat : Neat p
  pub more : p.len < 16

pub record WalkRoom (m t row : List ℕ) (p : Path) : Type 0 where
  pub long : Long m
  pub opened : Open t row
  pub neat : Neat p

-- the claims are made, and r says how many of the places below may have some
pub record Draws (x : Labels) (m : List ℕ) (r : ℕ) (m' : List ℕ) : Type 0 where
  pub chart : m' ≡ claim_all x.claims m
  pub below : r ≡ x.below
  pub few : r ≤ 131072

-- the claims are made, and r says how many of the places below are visited
pub record Follows (x : Labels) (m : List ℕ) (r : ℕ) (m' : List ℕ) : Type 0 where
  pub chart : m' ≡ claim_all x.claims m
  pub below : r ≡ followed x m
  pub few : r ≤ 131072

-- the labels of a place that is present, at the path p
abbrev pub labels_of : List ℕ → List ℕ → Place → List ℕ → Labels
labels_of t row y p = labelled (place_ty t y) p y.start y.len (count_of row y.opened y.start)

-- the place p and all below it, of the paths that have at most 15 steps
abbrev pub drawn_below : List ℕ → List ℕ → Path → List ℕ → List ℕ
drawn_below t row p m = drawn_from (16 - p.len) (schema_of t) row (path_of p) m

-- the path of a line of the chart
pub record PathAt (m : List ℕ) (line : ℕ) (p : Path) : Type 0 where
  pub few : p.len ≤ 16
  pub is : path_of p ≡ steps_at m line
