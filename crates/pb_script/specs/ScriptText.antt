-- The text of a script: a line after another, each ended by a line feed, with one space between two words.
use Rattle.std.specs.Prelude.{◌≡◌, ◌⊎◌, ℕ, ◌+◌, ◌<◌, List, [], ◌∷◌, ◌++◌, length, codes, decimal}
use Rattle.pb_script.specs.declared.table.Kind.{Kind}
use Rattle.pb_script.specs.declared.table.Kind.TheVariants.{Fp2, Ascii}
use Rattle.pb_script.specs.declared.table.ScriptTable.{ScriptTable}
use Rattle.pb_script.specs.declared.table.Shape.{Shape}
use Rattle.pb_script.specs.Script.{Script, IsAddress, CanBegin, CanDeclare, CanStore, with_table, with_store}

abbrev pub space : ℕ
space = 32

abbrev pub line_feed : ℕ
line_feed = 10

-- ---- one line, and what comes after it

-- self ADDR
abbrev pub self_line : ℕ → List ℕ → List ℕ
self_line me rest = codes "self " ++ (decimal me ++ line_feed ∷ rest)

-- station NAME ADDR CODE
abbrev pub station_line : Script → List ℕ → List ℕ
station_line s rest =
    codes "station " ++ (s.name ++ space ∷ (decimal s.addr ++ space ∷ (decimal s.code ++ line_feed ∷ rest)))

abbrev pub kind_text : Kind → List ℕ
kind_text Fp2 = codes "fp2"
kind_text Ascii = codes "ascii"

-- RING INTERVAL TYPE COUNT
abbrev pub shape_text : Shape → List ℕ → List ℕ
shape_text shape rest =
    decimal shape.size ++ space ∷ (decimal shape.interval ++ space
    ∷ (kind_text shape.kind ++ space ∷ (decimal shape.count ++ line_feed ∷ rest)))

-- table STATION NAME RING INTERVAL TYPE COUNT
abbrev pub table_line : List ℕ → ScriptTable → List ℕ → List ℕ
table_line station t rest = codes "table " ++ (station ++ space ∷ (t.name ++ space ∷ shape_text t.shape rest))

-- store STATION TABLE COUNT
abbrev pub store_line : List ℕ → List ℕ → ℕ → List ℕ → List ℕ
store_line station name n rest =
    codes "store " ++ (station ++ space ∷ (name ++ space ∷ (decimal n ++ line_feed ∷ rest)))

-- ---- the text

-- The first lines of the text, so many, say this script; the rest comes after them.
pub data Says (text : List ℕ) : ℕ → Script → List ℕ → Type 0 where
  Head : {s : Script} {rest : List ℕ} → CanBegin s → text ≡ self_line s.me (station_line s rest) → Says text 2 s rest
  Table : {lines : ℕ} {s : Script} {t : ScriptTable} {rest : List ℕ}
      → Says text lines s (table_line s.name t rest) → CanDeclare s t → Says text (lines + 1) (with_table s t) rest
  Store : {lines : ℕ} {s : Script} {name rest : List ℕ} {place n : ℕ}
      → Says text lines s (store_line s.name name n rest) → CanStore s name place n
      → Says text (lines + 1) (with_store s place n) rest

-- the whole text says this script
abbrev pub ServedText : Script → List ℕ → Type 0
ServedText s text = (lines : ℕ) × Says text lines s []

-- ---- the first line that is refused, counted from 1

-- no first line comes first
abbrev pub HasNoSelf : List ℕ → Type 0
HasNoSelf text = (me : ℕ) (rest : List ℕ) → IsAddress me → text ≡ self_line me rest → ⊥

-- a first line comes first, and no line of a station after it
abbrev pub HasNoStation : List ℕ → Type 0
HasNoStation text =
    (me : ℕ) × (rest : List ℕ) × IsAddress me × (text ≡ self_line me rest)
    × ((s : Script) (more : List ℕ) → CanBegin s → s.me ≡ me → rest ≡ station_line s more → ⊥)

-- After lines that say a script comes something, but no line of a further table or store that the script can take.
pub record BreaksAfter (text : List ℕ) (line : ℕ) : Type 0 where
  pub lines : ℕ
  pub before : Script
  pub rest : List ℕ
  pub says : Says text lines before rest
  pub some : 0 < length rest
  pub no_table : (t : ScriptTable) (more : List ℕ) → CanDeclare before t → rest ≡ table_line before.name t more → ⊥
  pub no_store : (name : List ℕ) (place n : ℕ) (more : List ℕ) → CanStore before name place n
      → rest ≡ store_line before.name name n more → ⊥
  pub place : line ≡ lines + 1

abbrev pub RefusedLine : List ℕ → ℕ → Type 0
RefusedLine text line =
    ((line ≡ 1) × HasNoSelf text) ⊎ (((line ≡ 2) × HasNoStation text) ⊎ BreaksAfter text line)
