-- One table while it is collected: how far it came, what is asked of it, which answers fit, and what they add.
use Rattle.std.specs.Prelude.{◌≡◌, ⊤, ℕ, zero, suc, ◌+◌, ◌-◌, ◌^◌, ◌<◌, ◌≤◌, Bool, true, false, not, ◌==◌, List, [], ◌∷◌, ◌++◌, length, Option, None, Some, if◌then◌else◌}
use Rattle.pb_base.specs.declared.layout.Layout.{Layout}
use Rattle.pb_base.specs.Record.{content_len}
use Rattle.pb_bmp5.specs.declared.message.Mode.{Mode}
use Rattle.pb_bmp5.specs.declared.message.Mode.TheVariants.{All, From, Newest, Range, Times, Part}
use Rattle.pb_bmp5.specs.CollectReply.{SeenFragment, whole, part, SeenReply}
use Rattle.pb_record.specs.Cut.{IsRun}
use Rattle.pb_tdf.specs.Definition.{record_bytes_max}
use Rattle.pb_archive.specs.Archive.{front, record_layout}
use Rattle.pb_archive.specs.Entry.{Advance}
use Rattle.pb_truth.specs.Keeping.{run_advance, gap_advance, content_advance}
use Rattle.pb_truth.specs.Learning.{Known, BeginsFrom, BeginsWithPart}
use Rattle.pb_collect.specs.declared.effect.Effect.{Effect}
use Rattle.pb_collect.specs.declared.effect.Effect.TheVariants.{Gap, Run, Content}
use Rattle.pb_collect.specs.declared.effect.Effects.{Effects}

-- the most bytes of a content: its time and its field bytes
abbrev pub content_max : ℕ
content_max = 8 + record_bytes_max

-- How far a table came in a round, and how many requests it took.
pub record Progress : Type 0 where
  -- how its records are cut
  pub layout : Layout
  -- the next number to keep
  pub front : ℕ
  -- the record of that number is partial: some of its bytes are at hand
  pub is_partial : Bool
  -- the bytes of the record that was joined last, or so far of the one that is partial
  pub joined : List ℕ
  -- how many bytes of a partial record were at hand when it was asked last
  pub had : ℕ
  -- the requests made so far
  pub asked : ℕ

-- the bytes so far of the partial record; none where no record is partial
abbrev pub partial_bytes : Progress → List ℕ
partial_bytes p = if p.is_partial then p.joined else []

-- What is known of a table is as far.
pub record IsAt (p : Progress) (k : Known) : Type 0 where
  pub layout : p.layout ≡ record_layout k.table.definition
  pub front : p.front ≡ front k.table
  pub partial : partial_bytes p ≡ k.partial

-- nothing was asked yet, and no record is partial
abbrev pub begun : Progress → Layout → ℕ → Progress
begun p layout front =
    record p { layout = layout; front = front; is_partial = false; had = 0; asked = 0 }

-- a fragment changes nothing else
abbrev pub taken_to : Progress → ℕ → Bool → List ℕ → Progress
taken_to p front is_partial joined =
    record p { front = front; is_partial = is_partial; joined = joined }

-- ---- what is asked

-- the rest of a partial record, else the records from the front on
abbrev pub question : Progress → Mode
question p = if p.is_partial then Part p.front (length p.joined) else From p.front

-- No records, or first what was asked for: a record of that number or above from its first byte on, or that part.
abbrev pub BeginsAsAsked : Mode → List SeenFragment → Type 0
BeginsAsAsked (From number) fs = BeginsFrom number fs
BeginsAsAsked (Part number offset) fs = BeginsWithPart number offset fs
BeginsAsAsked All fs = ⊥
BeginsAsAsked (Newest count) fs = ⊥
BeginsAsAsked (Range from to) fs = ⊥
BeginsAsAsked (Times from to) fs = ⊥

-- A reply that was read suits the request of this mode. One with a response code other than 0 does.
abbrev pub Suits : Mode → SeenReply → Type 0
Suits mode reply = reply.resp ≡ 0 → BeginsAsAsked mode reply.fragments

-- ---- what can be taken

-- bytes of one content that go on with a partial record, or begin one at the front or above
pub record IsNextPart (p : Progress) (number offset : ℕ) (bytes : List ℕ) : Type 0 where
  pub place : offset ≡ length (partial_bytes p)
  pub low : p.front ≤ number
  pub same : p.is_partial ≡ true → number ≡ p.front
  pub some : 0 < length bytes
  pub within : offset + length bytes ≤ content_len p.layout
  pub numbered : number + 1 ≤ 2 ^ 32 - 1

-- whole records at the front or above, while none is partial
pub record IsNextRun (p : Progress) (first count : ℕ) (bytes : List ℕ) : Type 0 where
  pub closed : p.is_partial ≡ false
  pub low : p.front ≤ first
  pub run : IsRun p.layout first count bytes

-- the fragment can be taken next
abbrev pub CanTake : Progress → SeenFragment → Type 0
CanTake p (whole first zero bytes) = ⊤
CanTake p (whole first (suc n) bytes) = IsNextRun p first (suc n) bytes
CanTake p (part number offset bytes) = IsNextPart p number offset bytes

-- with these bytes of a record so far: all of it, or it is partial
abbrev pub after_bytes : Progress → ℕ → List ℕ → Progress
after_bytes p number bytes =
    let is_whole = length bytes == content_len p.layout in
    taken_to p (if is_whole then number + 1 else number) (not is_whole) bytes

abbrev pub after : Progress → SeenFragment → Progress
after p (whole first zero bytes) = p
after p (whole first (suc n) bytes) = taken_to p (first + suc n) false p.joined
after p (part number offset bytes) = after_bytes p number (partial_bytes p ++ bytes)

-- each fragment can be taken when those before it are
abbrev pub CanTakeAll : Progress → List SeenFragment → Type 0
CanTakeAll p [] = ⊤
CanTakeAll p (f ∷ fs) = CanTake p f × CanTakeAll (after p f) fs

abbrev pub after_all : Progress → List SeenFragment → Progress
after_all p [] = p
after_all p (f ∷ fs) = after_all (after p f) fs

-- ---- what is added

-- the advance of an effect, where these are the bytes that were joined last
abbrev pub advance_of : Layout → List ℕ → Effect → Advance
advance_of layout joined (Gap to) = gap_advance to.0
advance_of layout joined (Run first count bytes) = run_advance layout first.0 count bytes.now
advance_of layout joined (Content number) = content_advance number.0 joined

-- the advance of an effect, if there is one
abbrev pub advance_in : Layout → List ℕ → Option Effect → List Advance
advance_in layout joined None = []
advance_in layout joined (Some effect) = advance_of layout joined effect ∷ []

-- the advances in their order: the gap first
abbrev pub advances_in : Layout → List ℕ → Effects → List Advance
advances_in layout joined effects =
    advance_in layout joined effects.gap ++ advance_in layout joined effects.kept
