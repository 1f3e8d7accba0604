-- The plan of an archive: the address that asks, the neighbour to which all frames go, and the stations; and its text.
use Rattle.std.specs.Prelude.{◌≡◌, ◌≢◌, ◌⊎◌, ⊤, ℕ, ◌+◌, ◌^◌, ◌<◌, ◌≤◌, List, [], ◌∷◌, ◌++◌, length, codes, decimal}
use Rattle.std.specs.List.{All, AllByRecursion, flat_map}
use Rattle.pb_base.specs.Words.{IsNameByte}
use Rattle.pb_archive.specs.declared.plan.StationPlan.{StationPlan}

pub record Plan : Type 0 where
  pub me : ℕ
  pub via : ℕ
  pub stations : List StationPlan

-- ---- which plans there are

-- the highest address of a node that isn't every node's
abbrev pub address_max : ℕ
address_max = 4094

abbrev pub stations_max : ℕ
stations_max = 64

-- the most bytes of a station's name
abbrev pub station_name_max : ℕ
station_name_max = 32

abbrev pub IsAddress : ℕ → Type 0
IsAddress n = (1 ≤ n) × (n ≤ address_max)

abbrev pub IsStationName : List ℕ → Type 0
IsStationName name = (1 ≤ length name) × (length name ≤ station_name_max) × All IsNameByte name

pub record IsStation (me : ℕ) (s : StationPlan) : Type 0 where
  pub addr : IsAddress s.addr
  pub not_me : s.addr ≢ me
  pub code : s.code < 2 ^ 16
  pub name : IsStationName s.name

-- neither the address nor the name is the other's
abbrev pub Differs : StationPlan → StationPlan → Type 0
Differs s t = (t.addr ≢ s.addr) × (t.name ≢ s.name)

-- each differs from those after it
abbrev pub AreDifferent : List StationPlan → Type 0
AreDifferent [] = ⊤
AreDifferent (s ∷ stations) = AllByRecursion (Differs s) stations × AreDifferent stations

-- a plan, or one to which stations are still to be added
pub record IsBegun (p : Plan) : Type 0 where
  pub me : IsAddress p.me
  pub via : IsAddress p.via
  pub few : length p.stations ≤ stations_max
  pub each : AllByRecursion (IsStation p.me) p.stations
  pub different : AreDifferent p.stations

pub record IsPlan (p : Plan) : Type 0 where
  pub begun : IsBegun p
  pub some : 0 < length p.stations

-- with one station more, at the end
abbrev pub with_station : Plan → StationPlan → Plan
with_station p s = record p { stations = p.stations ++ s ∷ [] }

-- ---- the text

abbrev pub space : ℕ
space = 32

abbrev pub line_feed : ℕ
line_feed = 10

-- self ME via NODE
abbrev pub first_line : Plan → List ℕ
first_line p = codes "self " ++ (decimal p.me ++ (codes " via " ++ (decimal p.via ++ line_feed ∷ [])))

-- station ADDR CODE NAME
abbrev pub station_line : StationPlan → List ℕ
station_line s = codes "station " ++ (decimal s.addr ++ (space ∷ decimal s.code ++ (space ∷ s.name ++ line_feed ∷ [])))

abbrev pub plan_text : Plan → List ℕ
plan_text p = first_line p ++ flat_map station_line p.stations

-- the text is this plan
pub record PlanText (p : Plan) (text : List ℕ) : Type 0 where
  pub plan : IsPlan p
  pub same : text ≡ plan_text p

-- ---- the first line that is refused, counted from 1

-- no first line comes first
abbrev pub HasNoSelf : List ℕ → Type 0
HasNoSelf text = (p : Plan) (rest : List ℕ) → IsBegun p → text ≡ first_line p ++ rest → ⊥

-- After the lines of this plan comes none of a further station, and where the text ends there, there is no station.
pub record CannotGoOn (p : Plan) (rest : List ℕ) : Type 0 where
  pub no_station : (s : StationPlan) (more : List ℕ) → rest ≡ station_line s ++ more → IsBegun (with_station p s) → ⊥
  pub no_end : rest ≡ [] → p.stations ≡ []

pub record BreaksAfter (text : List ℕ) (line : ℕ) : Type 0 where
  pub before : Plan
  pub rest : List ℕ
  pub begun : IsBegun before
  pub parts : text ≡ plan_text before ++ rest
  pub breaks : CannotGoOn before rest
  pub place : line ≡ length before.stations + 2

-- The line is refused: the first one, or one after the lines of a plan, or the one that is missing there.
abbrev pub RefusedLine : List ℕ → ℕ → Type 0
RefusedLine text line = ((line ≡ 1) × HasNoSelf text) ⊎ BreaksAfter text line
