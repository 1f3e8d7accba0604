-- Closing lines.
use Rattle.std.specs.Prelude.{◌≡◌, ℕ, ◌⊎◌, List, Option, true, codes}
use Rattle.std.specs.Io.KnownBytes.{Appends}
use Rattle.pb_io.specs.Page.{Waiting, blank}
use Rattle.pb_io.specs.Sink.{AppendsPrefix}
use Rattle.pb_tool.specs.declared.status.Status.{Status}
use Rattle.pb_tool.specs.declared.status.Status.TheVariants.{Usage, WriteFault}

-- a closing line was written, or a front of it where the answer isn't the status that it stands for
abbrev pub Closes : Status → Status → List ℕ → Option (List ℕ) → Option (List ℕ) → Type 0
Closes status result line written_old written_new =
    ((result ≡ status) × Appends written_old written_new line)
    ⊎ ((result ≡ WriteFault) × AppendsPrefix written_old written_new line)

-- all that was added to a page was written, or the answer says that a write failed
abbrev pub Finished : Status → Status → Waiting → Type 0
Finished status result page = ((result ≡ status) × (page ≡ blank)) ⊎ ((result ≡ WriteFault) × (page.failed ≡ true))

-- words of no listed form: their closing line, or a front of it
abbrev pub Refused : Status → Option (List ℕ) → Option (List ℕ) → Type 0
Refused Usage written_old written_new = Appends written_old written_new (codes "pakbus: usage\n")
Refused WriteFault written_old written_new = AppendsPrefix written_old written_new (codes "pakbus: usage\n")
Refused _ written_old written_new = ⊥
