-- Downloads to a station: what they answer, and which files they leave.
use Rattle.std.specs.Prelude.{ℕ, ◌+◌, Bool, not, ◌==◌, ◌&&◌, ◌||◌, nat_lt, nat_le, List, [], ◌∷◌, ◌++◌, length, take, drop, min, slice_get, slice_set, position, Option, Some, None, codes, bytes_eq, if◌then◌else◌}
use Rattle.pb_bmp5.specs.Message.{UploadKeys}
use Rattle.pb_station.specs.State.{DeviceState, File}

-- the name of the table definition file
abbrev pub definitions_name : List ℕ
definitions_name = codes ".TDF"

-- at most so many downloaded files, bytes of a name, bytes of a file, and bytes that one upload gives
abbrev pub files_max : ℕ
files_max = 4

abbrev pub name_max : ℕ
name_max = 32

abbrev pub file_bytes_max : ℕ
file_bytes_max = 8192

abbrev pub part_max : ℕ
part_max = 960

-- response codes: permission denied, no such file, no room
abbrev pub denied : ℕ
denied = 1

abbrev pub no_file : ℕ
no_file = 13

abbrev pub no_room : ℕ
no_room = 14

abbrev pub is_named : List ℕ → File → Bool
is_named name file = bytes_eq file.name name

abbrev pub place_of : List ℕ → List File → Option ℕ
place_of name files = position (is_named name) files

-- a response code, and the files that are there then
pub record Downloaded : Type 0 where
  pub resp : ℕ
  pub files : List File

abbrev pub refused : ℕ → List File → Downloaded
refused resp files = record { resp = resp; files = files }

-- The file with the bytes at its end; at offset 0 it begins anew. None where it would be too long, or goes on elsewhere.
abbrev pub with_part : File → (offset : ℕ) → List ℕ → Option File
with_part file offset bytes =
    let before = if offset == 0 then [] else file.bytes in
    if not (offset == length before) || nat_lt file_bytes_max (length before + length bytes) then None
    else Some (record { name = file.name; bytes = before ++ bytes })

abbrev pub replaced : List File → ℕ → Option File → Downloaded
replaced files place (Some file) = record { resp = 0; files = slice_set files place file }
replaced files place None = refused no_room files

abbrev pub begins : List File → (name : List ℕ) → List ℕ → Downloaded
begins files name bytes =
    if nat_le files_max (length files) || nat_lt file_bytes_max (length bytes) then refused no_room files
    else record { resp = 0; files = files ++ record { name = name; bytes = bytes } ∷ [] }

abbrev pub goes_on : List File → ℕ → Option File → (offset : ℕ) → List ℕ → Downloaded
goes_on files place (Some file) offset bytes = replaced files place (with_part file offset bytes)
goes_on files place None offset bytes = refused no_file files

abbrev pub at_place : List File → Option ℕ → (name : List ℕ) → (offset : ℕ) → List ℕ → Downloaded
at_place files (Some place) name offset bytes = goes_on files place (slice_get files place) offset bytes
at_place files None name offset bytes = if offset == 0 then begins files name bytes else refused no_file files

abbrev pub is_name : List ℕ → Bool
is_name name = nat_lt 0 (length name) && nat_le (length name) name_max

-- the definition file isn't overwritten
abbrev pub download : List File → (name : List ℕ) → (offset : ℕ) → List ℕ → Downloaded
download files name offset bytes =
    if bytes_eq name definitions_name then refused denied files
    else if not (is_name name) then refused no_file files
    else at_place files (place_of name files) name offset bytes

-- ---- uploads

abbrev pub bytes_of : Option File → Option (List ℕ)
bytes_of (Some file) = Some file.bytes
bytes_of None = None

abbrev pub found : List File → Option ℕ → Option (List ℕ)
found files (Some place) = bytes_of (slice_get files place)
found files None = None

-- the bytes of the file of this name
abbrev pub file_of : DeviceState → List ℕ → Option (List ℕ)
file_of device name =
    if bytes_eq name definitions_name then Some device.definitions
    else found device.files (place_of name device.files)

-- what an upload gives of a file
abbrev pub uploaded : List ℕ → UploadKeys → List ℕ
uploaded bytes u = take (min u.swath part_max) (drop u.offset bytes)
