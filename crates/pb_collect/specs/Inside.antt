-- What is always true of the fields of a `Progress`, and how its steps go; no promise cites this.
use Rattle.std.specs.Prelude.{◌≡◌, ⊤, ℕ, zero, suc, ◌<◌, ◌≤◌, true, ◌==◌, nat_lt, List, [], ◌∷◌, ◌++◌, length, Option, None, Some, if◌then◌else◌}
use Rattle.std.specs.Borrow.{Bor}
use Rattle.pb_base.specs.declared.numbers.RecNo.{RecNo}
use Rattle.pb_base.specs.Record.{content_len}
use Rattle.pb_bmp5.specs.CollectReply.{SeenFragment, whole, part}
use Rattle.pb_bmp5.specs.declared.fragment.Fragment.{Fragment}
use Rattle.pb_bmp5.specs.declared.fragment.Fragment.TheVariants.{Whole, Part}
use Rattle.pb_collect.specs.declared.effect.Effect.{Effect}
use Rattle.pb_collect.specs.declared.effect.Effect.TheVariants.{Gap, Run, Content}
use Rattle.pb_collect.specs.declared.effect.Effects.{Effects}
use Rattle.pb_collect.specs.declared.progress.Progress.TheInside.{Inside}
use Rattle.pb_collect.specs.Progress.{Progress, content_max, partial_bytes}

-- ---- fields

-- what contracts see
abbrev pub progress_of : Inside → Progress
progress_of p = record {
  layout = p.layout;
  front = p.front;
  is_partial = p.is_partial;
  joined = p.partial.joined.bytes;
  had = p.had;
  asked = p.asked;
}

-- A partial record is the one at the front; some of its bytes are at hand, and some are missing.
pub record IsPartial (p : Inside) : Type 0 where
  pub number : p.partial.joined.number ≡ p.front
  pub size : p.partial.joined.size ≡ content_len p.layout
  pub some : 0 < length p.partial.joined.bytes
  pub missing : length p.partial.joined.bytes < content_len p.layout

pub record IsProgress (p : Inside) : Type 0 where
  pub fits : content_len p.layout ≤ content_max
  pub room : p.partial.room ≡ content_max
  pub partial : p.is_partial ≡ true → IsPartial p

-- ---- steps

-- whole records are kept as they came
abbrev pub run_effects : RecNo → ℕ → Bor (List ℕ) → Effects
run_effects first zero bytes = record { gap = None; kept = None }
run_effects first (suc n) bytes = record { gap = None; kept = Some (Run first (suc n) bytes) }

abbrev pub gap_before : ℕ → RecNo → Option Effect
gap_before front number = if nat_lt front number.0 then Some (Gap number) else None

-- with these bytes of a record so far
abbrev pub part_effects : Progress → RecNo → List ℕ → Effects
part_effects p number bytes = record {
  gap = gap_before p.front number;
  kept = if length bytes == content_len p.layout then Some (Content number) else None;
}

-- what is added for a fragment
abbrev pub effects_of : Progress → Fragment → Effects
effects_of p (Whole first count bytes) = run_effects first count bytes
effects_of p (Part number offset bytes) = part_effects p number (partial_bytes p ++ bytes.now)

-- ---- what an answer begins with

-- the first fragment that has records or a part of one
abbrev pub first_records : List SeenFragment → Option SeenFragment
first_records [] = None
first_records (whole first zero bytes ∷ fs) = first_records fs
first_records (whole first (suc n) bytes ∷ fs) = Some (whole first (suc n) bytes)
first_records (part number offset bytes ∷ fs) = Some (part number offset bytes)

-- there is none, or it begins at this number or above
abbrev pub FirstFrom : ℕ → Option SeenFragment → Type 0
FirstFrom n None = ⊤
FirstFrom n (Some (whole first count bytes)) = n ≤ first
FirstFrom n (Some (part number offset bytes)) = (n ≤ number) × (offset ≡ 0)

-- there is none, or it is this part
abbrev pub FirstIsPart : ℕ → ℕ → Option SeenFragment → Type 0
FirstIsPart n from None = ⊤
FirstIsPart n from (Some (whole first count bytes)) = ⊥
FirstIsPart n from (Some (part number offset bytes)) = (number ≡ n) × (offset ≡ from)
