-- What comes next for a table when a request ended: the table of its ends.
use Rattle.std.specs.Prelude.{◌≡◌, ◌≢◌, ◌⊎◌, ℕ, ◌+◌, ◌<◌, Bool, true, false, ◌&&◌, nat_lt, length, if◌then◌else◌}
use Rattle.pb_ask.specs.declared.question.Conclusion.{Conclusion}
use Rattle.pb_ask.specs.declared.question.Conclusion.TheVariants as conclusion
use Rattle.pb_truth.specs.Learning.{Known, without_partial}
use Rattle.pb_collect.specs.Progress.{Progress, question}
use Rattle.pb_collect.specs.declared.answer.Said.{Said}
use Rattle.pb_collect.specs.declared.ending.End.{End}
use Rattle.pb_collect.specs.declared.ending.End.TheVariants.{Done, NoAnswer, Flooded, Undelivered, Refused, Redefined, Budget}
use Rattle.pb_collect.specs.declared.ending.Next.{Next}
use Rattle.pb_collect.specs.declared.ending.Next.TheVariants.{Ask, Stop, Ends}

-- ---- whether a table goes on

-- the answer brought a part of a record that isn't whole yet
abbrev pub has_part : Progress → Bool
has_part p = p.is_partial && nat_lt p.had (length p.joined)

-- An answer that fits said that there is more, or a record is partial.
abbrev pub GoesOn : Progress → Bool → Type 0
GoesOn p more = (more ≡ true) ⊎ (p.is_partial ≡ true)

-- an answer that fits had response code 0 and this flag
abbrev pub WasAnswered : Conclusion Said → Bool → Type 0
WasAnswered o more = o ≡ conclusion.Answer (record { resp = 0; more = more })

-- an answer that fits had this response code
abbrev pub WasRefused : Conclusion Said → ℕ → Type 0
WasRefused o code = (more : Bool) × (o ≡ conclusion.Answer (record { resp = code; more = more }))

-- ---- the next request

-- A record of which nothing came is given up: it is asked for again from its first byte on.
abbrev pub kept_partial : Progress → Progress
kept_partial p = if has_part p then p else record p { is_partial = false }

-- one request more, for what is asked next
abbrev pub asked_once_more : Progress → Progress
asked_once_more p =
    record p { had = if p.is_partial then length p.joined else 0; asked = p.asked + 1 }

-- what is known when the next request is made
abbrev pub known_after : Progress → Known → Known
known_after p k = if has_part p then k else without_partial k.table

-- ---- the ends, each with its cause

-- the response code under which a station says that the table has another signature
abbrev pub redefined : ℕ
redefined = 7

module _ (budget : ℕ) (p : Progress) (o : Conclusion Said) where
  abbrev pub EndsAs : End → Type 0
  EndsAs (Refused code) = WasRefused o code × (code ≢ 0) × (code ≢ redefined)
  EndsAs (Undelivered code) = o ≡ conclusion.Undelivered code
  EndsAs Flooded = o ≡ conclusion.Flooded
  EndsAs NoAnswer = o ≡ conclusion.NoAnswer
  EndsAs Done = WasAnswered o false × (p.is_partial ≡ false)
  EndsAs Budget = (more : Bool) × WasAnswered o more × GoesOn p more × (p.asked ≡ budget)
  -- such a table is stopped first
  EndsAs (Redefined old told) = ⊥

  -- What comes next, and what is kept then.
  abbrev pub Comes : Next → Progress → Type 0
  Comes (Ask mode) new =
      (more : Bool) × WasAnswered o more × GoesOn p more × (p.asked < budget)
      × (new ≡ asked_once_more (kept_partial p)) × (mode ≡ question new)
  Comes Stop new = WasRefused o redefined × (new ≡ p)
  Comes (Ends end) new = EndsAs end × (new ≡ p)
