-- How many requests a table takes while each is answered fully, and where its front is then.
use Rattle.std.specs.Prelude.{◌≡◌, ◌⊎◌, ℕ, zero, suc, ◌+◌, ◌-◌, ◌*◌, ◌/◌, ◌<◌, ◌≤◌, max, Bool, true, false, List, [], ◌∷◌, length, if◌then◌else◌}
use Rattle.pb_base.specs.declared.layout.Layout.{Layout}
use Rattle.pb_base.specs.History.{History}
use Rattle.pb_base.specs.Record.{content_len}
use Rattle.pb_base.specs.Request.{Mode, From, Part}
use Rattle.pb_bmp5.specs.CollectReply.{SeenFragment, whole, part, SeenReply, CollectReads}
use Rattle.pb_bmp5.specs.TrueReply.{Stage, run_of, IsTrueAnswer, AnswersFully, least_part}
use Rattle.pb_archive.specs.Archive.{front}
use Rattle.pb_truth.specs.Learning.{Known, without_partial, learned}

-- ---- the bound

-- the most parts that full answers need for one content
abbrev pub parts_max : Layout → ℕ
parts_max layout = max 1 ((content_len layout + (least_part - 1)) / least_part)

-- The requests of a table with this front, at the beginning of which this was the lowest record held, while so many records
-- come to be stored: one, and for each record that can be answered its parts and one more.
abbrev pub bound : Layout → (front oldest stored : ℕ) → ℕ
bound layout front oldest stored = 1 + (stored - max front oldest) * (parts_max layout + 1)

-- ---- one request

-- what is asked: the rest of a partial record, else the records from the front on
abbrev pub mode_from : ℕ → List ℕ → Mode
mode_from n [] = From n
mode_from n (b ∷ bs) = Part n (length (b ∷ bs))

abbrev pub mode_of : Known → Mode
mode_of k = mode_from (front k.table) k.partial

-- A full answer to what is asked, true of the table at its stage, at which something is held or nothing was stored yet.
pub record FullAnswer (layout : Layout) (h : History) (k : Known) : Type 0 where
  pub table : ℕ
  pub message : List ℕ
  pub reply : SeenReply
  pub reads : CollectReads table layout reply message
  pub complete : reply.resp ≡ 0
  pub answer : IsTrueAnswer layout (mode_of k) h reply
  pub full : AnswersFully layout (run_of (mode_of k) h answer.stage) reply
  pub held : (answer.stage.oldest < answer.stage.next) ⊎ (answer.stage.next ≡ 0)

-- a record or a part of one
abbrev pub has_some : List SeenFragment → Bool
has_some [] = false
has_some (whole first zero bytes ∷ fs) = has_some fs
has_some (whole first (suc n) bytes ∷ fs) = true
has_some (part number offset bytes ∷ fs) = true

-- what is known when the next request is made: a partial record to which an answer adds nothing is given up
abbrev pub next_known : Layout → Known → List SeenFragment → Known
next_known layout k fs =
    let new = learned layout k fs in if has_some fs then new else without_partial new.table

-- an answer says that there is more, or leaves a record partial
abbrev pub GoesOn : Layout → Known → SeenReply → Type 0
GoesOn layout k reply = (reply.more ≡ true) ⊎ (0 < length (learned layout k reply.fragments).partial)

-- it says that there is no more, and no record is partial
pub record Ends (layout : Layout) (k : Known) (reply : SeenReply) : Type 0 where
  pub no_more : reply.more ≡ false
  pub none : (learned layout k reply.fragments).partial ≡ []

-- ---- one after another

pub record IsNotBefore (old new : Stage) : Type 0 where
  pub next : old.next ≤ new.next
  pub oldest : old.oldest ≤ new.oldest

-- So many requests, each answered fully and at no earlier stage than the one before, up to the first after which the table
-- ends: from a stage and what is known, to the last answer's stage and what is known then.
pub data AnswersOf (layout : Layout) (h : History) : Stage → Known → ℕ → Stage → Known → Type 0 where
  Last : (from : Stage) (k : Known) (a : FullAnswer layout h k) → IsNotBefore from a.answer.stage → Ends layout k a.reply
      → AnswersOf layout h from k 1 a.answer.stage (learned layout k a.reply.fragments)
  More : (from : Stage) (k : Known) (a : FullAnswer layout h k) (n : ℕ) (end : Stage) (last : Known)
      → IsNotBefore from a.answer.stage → GoesOn layout k a.reply
      → AnswersOf layout h a.answer.stage (next_known layout k a.reply.fragments) n end last
      → AnswersOf layout h from k (suc n) end last

-- So many requests, each answered fully and at no earlier stage than the one before, after each of which the table goes on:
-- from a stage and what is known, to the last answer's stage and what is known when the next request is made.
pub data GoesThrough (layout : Layout) (h : History) (from : Stage) (k : Known) : ℕ → Stage → Known → Type 0 where
  Unasked : GoesThrough layout h from k 0 from k
  Further : (n : ℕ) (stage : Stage) (now : Known) → GoesThrough layout h from k n stage now → (a : FullAnswer layout h now)
      → IsNotBefore stage a.answer.stage → GoesOn layout now a.reply
      → GoesThrough layout h from k (suc n) a.answer.stage (next_known layout now a.reply.fragments)
