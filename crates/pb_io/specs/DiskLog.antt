-- A disk in memory as the list of all that was done to it, the newest first.
use Rattle.std.specs.Prelude.{◌≡◌, ◌⊎◌, ℕ, ◌+◌, ◌≤◌, Bool, ◌&&◌, nat_le, if◌then◌else◌, List, [], ◌∷◌, ◌++◌, length, take, Some}
use Rattle.pb_base.specs.World.{World}
use Rattle.pb_io.specs.Calls.{Calls, after_call, no_calls}
use Rattle.pb_io.specs.Crash.{max_file_len, overlaid, Torn, Shortened}
use Rattle.pb_io.specs.View.{View}

pub data Change : Type 0 where
  Wrote : (at : ℕ) (bytes : List ℕ) → Change
  Cut : (len : ℕ) → Change
  Synced : Change
  Linked : (events : World) → Change

-- a write begins within the file and ends within the greatest length
abbrev pub fits : List ℕ → ℕ → List ℕ → Bool
fits f at bytes = nat_le at (length f) && nat_le (at + length bytes) max_file_len

-- the file as it reads, from what was there at first
abbrev pub file_of : List ℕ → List Change → List ℕ
file_of first [] = take max_file_len first
file_of first (Wrote at bytes ∷ earlier) =
    if fits (file_of first earlier) at bytes then overlaid (file_of first earlier) at bytes else file_of first earlier
file_of first (Cut len ∷ earlier) = take len (file_of first earlier)
file_of first (change ∷ earlier) = file_of first earlier

-- what a crash may leave: after each write and cut an earlier image after a torn step, after a sync the file
abbrev pub image_of : List ℕ → List Change → List ℕ → Type 0
image_of first [] c = c ≡ file_of first []
image_of first (Wrote at bytes ∷ earlier) c =
    (length c ≤ max_file_len) × ((d : List ℕ) × image_of first earlier d × Torn at (length bytes) d c)
image_of first (Cut len ∷ earlier) c = (d : List ℕ) × image_of first earlier d × Shortened len d c
image_of first (Synced ∷ earlier) c = c ≡ file_of first earlier
image_of first (Linked events ∷ earlier) c = image_of first earlier c

abbrev pub world_of : List Change → World
world_of [] = []
world_of (Linked events ∷ earlier) = world_of earlier ++ events
world_of (change ∷ earlier) = world_of earlier

-- at a moment from t on, which is a number of changes, the world was this one and a crash could leave this file
abbrev pub left_after : List ℕ → List Change → ℕ → World → List ℕ → Type 0
left_after first [] t w c = (t ≤ 0) × (w ≡ []) × image_of first [] c
left_after first (change ∷ earlier) t w c =
    ((t ≤ length (change ∷ earlier)) × (w ≡ world_of (change ∷ earlier)) × image_of first (change ∷ earlier) c)
    ⊎ left_after first earlier t w c

-- what contracts see of a disk in memory
pub record DiskLog : Type 0 where
  pub first : List ℕ
  pub changes : List Change
  pub calls : Calls

-- the file as it reads now
abbrev pub file_now : DiskLog → List ℕ
file_now disk = file_of disk.first disk.changes

-- a disk whose file has these bytes, after all of a world
abbrev pub disk_in : List ℕ → World → List ℕ → DiskLog
disk_in first world fails = record { first = first; changes = Linked world ∷ []; calls = no_calls fails }

-- after a call that changes nothing of the file
abbrev pub after_look : DiskLog → Bool → DiskLog
after_look disk failed = record disk { calls = after_call disk.calls failed }

-- after a call that makes this change, or fails and makes none
abbrev pub after_change : DiskLog → Change → Bool → DiskLog
after_change disk change failed = record {
  first = disk.first;
  changes = if failed then disk.changes else change ∷ disk.changes;
  calls = after_call disk.calls failed;
}

-- what it reports, where these link calls failed and these ticks were quiet
abbrev pub disk_view : DiskLog → ℕ → ℕ → View
disk_view disk link_faults quiets = record {
  file = Some (file_of disk.first disk.changes);
  image = image_of disk.first disk.changes;
  faults = disk.calls.faults;
  link = record { world = Some (world_of disk.changes); faults = link_faults; quiets = quiets };
  moment = length disk.changes;
  may_leave = left_after disk.first disk.changes;
}
