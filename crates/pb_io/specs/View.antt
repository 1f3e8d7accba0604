-- What a disk, and a site over it, report of themselves; one that reports nothing has no file, no world and no images.
use Rattle.std.specs.Prelude.{◌≡◌, ◌⊎◌, ℕ, ◌≤◌, List, length, Option, None, Some}
use Rattle.std.proofs.lemmas.Option.{none-some}
use Rattle.pb_base.specs.World.{World}
use Rattle.pb_io.specs.Crash.{max_file_len}

-- What no call of a disk changes: the world so far, the count of failed link calls, and that of quiet ticks. The world
-- of a disk that is no site is the empty list, or isn't known.
pub record Link : Type 0 where
  pub world : Option World
  pub faults : ℕ
  pub quiets : ℕ

pub record View : Type 1 where
  -- the file as it reads
  pub file : Option (List ℕ)
  -- the files that a crash at this moment may leave
  pub image : List ℕ → Type 0
  -- how often a disk call has failed
  pub faults : ℕ
  pub link : Link
  -- the moment: one clock orders disk calls and link calls
  pub moment : ℕ
  -- at some moment from that one on, the world was this one and a crash could leave this file
  pub may_leave : ℕ → World → List ℕ → Type 0

-- what is so at every moment
pub record IsLawful (d : View) : Type 0 where
  -- the file as it reads is among the images
  pub reads : (f : List ℕ) → d.file ≡ Some f → d.image f
  pub known : (c : List ℕ) → d.image c → (f : List ℕ) × (d.file ≡ Some f)
  pub short : (c : List ℕ) → d.image c → length c ≤ max_file_len
  -- this moment is one of those since an earlier one, and since this moment there is no other
  pub counts_now : (t : ℕ) (w : World) (c : List ℕ) → t ≤ d.moment → d.link.world ≡ Some w → d.image c → d.may_leave t w c
  pub only_now : (w : World) (c : List ℕ) → d.may_leave d.moment w c → (d.link.world ≡ Some w) × d.image c

-- Time goes on by one call: what was left at moments since t is what was left before, or what may be left now.
pub record Elapses (old new : View) : Type 0 where
  pub later : old.moment ≤ new.moment
  pub nothing_else : (t : ℕ) (w : World) (c : List ℕ) → t ≤ old.moment → new.may_leave t w c
      → old.may_leave t w c ⊎ ((new.link.world ≡ Some w) × new.image c)
  pub keeps : (t : ℕ) (w : World) (c : List ℕ) → t ≤ old.moment → old.may_leave t w c → new.may_leave t w c

-- Whatever a crash at a moment from old to new could leave, with the world of that moment, has P.
pub record LeavesOnly (old new : View) (P : World → List ℕ → Type 0) : Type 0 where
  pub later : old.moment ≤ new.moment
  pub each : (w : World) (c : List ℕ) → new.may_leave old.moment w c → P w c
  -- for a run of calls that began earlier
  pub before : (t : ℕ) (w : World) (c : List ℕ) → t ≤ old.moment → new.may_leave t w c → old.may_leave t w c ⊎ P w c

-- one that reports nothing of a file
abbrev pub without_file : ℕ → Link → View
without_file faults link = record {
  file = None;
  image = λ _. ⊥;
  faults = faults;
  link = link;
  moment = 0;
  may_leave = λ _ _ _. ⊥;
}

-- one that reports nothing but its counts
abbrev pub silent : (faults link_faults quiets : ℕ) → View
silent faults link_faults quiets =
    without_file faults (record { world = None; faults = link_faults; quiets = quiets })

pub without_file_is_lawful : (faults : ℕ) (link : Link) → IsLawful (without_file faults link)
without_file_is_lawful faults link = record {
  reads = λ f is. absurd (none-some f is);
  known = λ c none. absurd none;
  short = λ c none. absurd none;
  counts_now = λ t w c le is none. absurd none;
  only_now = λ w c none. absurd none;
}

pub silent_is_lawful : (faults link_faults quiets : ℕ) → IsLawful (silent faults link_faults quiets)
silent_is_lawful faults link_faults quiets =
    without_file_is_lawful faults (record { world = None; faults = link_faults; quiets = quiets })
