-- An input that is read whole.
use Rattle.std.specs.Prelude.{◌≡◌, ⊤, ℕ, ◌<◌, ◌≤◌, List, [], ◌∷◌, length, Option, Result, Ok, Err, codes, decimal}
use Rattle.pb_io.specs.Page.{joined}
use Rattle.pb_tool.specs.declared.status.Status.{Status}
use Rattle.pb_tool.specs.declared.status.Status.TheVariants as status
use Rattle.std.specs.Io.KnownBytes.{Consumes, IsAtEnd}
use Rattle.pb_io.specs.Faults.{Rose}
use Rattle.pb_tool.specs.declared.input.InputFault.{InputFault}
use Rattle.pb_tool.specs.declared.input.InputFault.TheVariants.{ReadFault, PastLimit, Memory}

-- these are all bytes of the input, and not more than so many
pub record ReadsWhole (limit : ℕ) (left_old left_new : Option (List ℕ)) (bytes : List ℕ) : Type 0 where
  pub consumes : Consumes left_old left_new bytes
  pub ended : IsAtEnd left_new
  pub within : length bytes ≤ limit

-- more bytes than so many came
pub record PassesLimit (limit : ℕ) (left_old left_new : Option (List ℕ)) : Type 0 where
  pub bytes : List ℕ
  pub consumes : Consumes left_old left_new bytes
  pub past : limit < length bytes

abbrev pub InputRefuses : ℕ → Option (List ℕ) → Option (List ℕ) → InputFault → Type 0
InputRefuses limit left_old left_new ReadFault = ⊤
InputRefuses limit left_old left_new PastLimit = PassesLimit limit left_old left_new
InputRefuses limit left_old left_new Memory = ⊤

-- The count of failed reads rose where the answer is a read fault, and stays with any other.
abbrev pub CountsReads : {T : Type 0} → Result T InputFault → ℕ → ℕ → Type 0
CountsReads (Ok x) before now = now ≡ before
CountsReads (Err ReadFault) before now = (before ≤ now) × Rose before now
CountsReads (Err PastLimit) before now = now ≡ before
CountsReads (Err Memory) before now = now ≡ before

-- ---- the closing lines

-- `pakbus: format at line N`
unfoldable pub line_text : ℕ → List ℕ
line_text n = joined (codes "pakbus: format at line " ∷ decimal n ∷ codes "\n" ∷ [])

-- `pakbus: format at byte N`, N being the most bytes that are allowed
unfoldable pub byte_text : ℕ → List ℕ
byte_text n = joined (codes "pakbus: format at byte " ∷ decimal n ∷ codes "\n" ∷ [])

unfoldable pub input_fault_text : ℕ → InputFault → List ℕ
input_fault_text limit ReadFault = codes "pakbus: read fault\n"
input_fault_text limit PastLimit = byte_text limit
input_fault_text limit Memory = []

abbrev pub input_status : InputFault → Status
input_status ReadFault = status.ReadFault
input_status PastLimit = status.Format
input_status Memory = status.Memory
