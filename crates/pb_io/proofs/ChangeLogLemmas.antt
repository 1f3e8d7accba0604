-- What the log of a disk in memory holds, and of the link over it.
use Rattle.std.proofs.Common.{◌≡◌, ℕ, zero, suc, ◌+◌, ◌-◌, ◌<◌, ◌≤◌, List, [], ◌∷◌, ◌++◌, length, take, drop, get_or, slice_get, Vec, refl, sym, ◌∙◌, ap, arith, add-one, append_assoc, append-nil, length-append, length-drop}
use Rattle.std.proofs.Math.Seq.{drop-cons}
use Rattle.std.proofs.lemmas.Grind.{flat_map-append}
use Rattle.std.proofs.lemmas.List.{take_all, take-append-drop}
use Rattle.std.specs.declared.alloc.Global.{Global}
use Rattle.pb_base.specs.World.{frame_in, sent}
use Rattle.pb_io.specs.DiskLog.{Change, Linked, world_of}
use Rattle.pb_io.specs.ChangeLog.{change_of, event_count, event_counts, changes_after}
use Rattle.pb_io.specs.Events.{events_of, world_in}
use Rattle.pb_io.specs.declared.change_log.Entry.{Entry}
use Rattle.pb_io.specs.declared.change_log.Entry.TheVariants as entry
use Rattle.pb_io.specs.declared.event.Event.{Event}
use Rattle.pb_io.specs.declared.event.Event.TheVariants.{Begin, Sent, Heard, Quiet, Defined, Stored, Oldest}
use Rattle.pb_io.proofs.WorldLemmas.{sent-heard}

first_apart : (events : List Event) (i : ℕ) (e : Event) → i < length events → e ≡ get_or events i e → drop i events ≡ e ∷ drop (i + 1) events
first_apart events i e within is =
    let next : drop (suc i) events ≡ drop (i + 1) events = rw add-one refl in
    drop-cons events i e within ∙ ap (λ x. x ∷ drop (suc i) events) (sym is) ∙ ap (λ (l : List Event). e ∷ l) next

sent-first : (e : Event) (rest : List Event) → sent (world_in (e ∷ rest)) ≡ sent (events_of e) ++ sent (world_in rest)
sent-first e rest = flat_map-append frame_in (events_of e) (world_in rest)

sent-other : (e : Event) → ((f : Vec ℕ Global) → e ≡ Sent f → ⊥) → sent (events_of e) ≡ []
sent-other (Sent f) not_sent = absurd (not_sent f refl)
sent-other (Heard bytes) not_sent = sent-heard bytes.items
sent-other Begin not_sent = refl
sent-other Quiet not_sent = refl
sent-other (Defined station number bytes signature layout) not_sent = refl
sent-other (Stored station number time bytes) not_sent = refl
sent-other (Oldest station number n) not_sent = refl

get-later : (f : List ℕ) (xs : List (List ℕ)) (k : ℕ) → (k ≡ 0 → ⊥) → slice_get xs (k - 1) ≡ slice_get (f ∷ xs) k
get-later f xs zero some = absurd (some refl)
get-later f xs (suc k) some = let is : suc k - 1 ≡ k = omega arith in ap (slice_get xs) is

-- an event that sends nothing is passed over
pub nth-other : (events : List Event) (i k : ℕ) (e : Event) → i < length events → e ≡ get_or events i e → ((f : Vec ℕ Global) → e ≡ Sent f → ⊥)
    → slice_get (sent (world_in (drop (i + 1) events))) k ≡ slice_get (sent (world_in (drop i events))) k
nth-other events i k e within is not_sent =
    let rest = drop (i + 1) events in
    let whole : sent (world_in (drop i events)) ≡ sent (world_in rest) =
    ap (λ l. sent (world_in l)) (first_apart events i e within is) ∙ sent-first e rest ∙ ap (λ (l : List (List ℕ)). l ++ sent (world_in rest)) (sent-other e not_sent) in
    ap (λ (l : List (List ℕ)). slice_get l k) (sym whole)

-- a frame is counted
pub nth-sent : (events : List Event) (i k : ℕ) (e : Event) (f : Vec ℕ Global) → i < length events → e ≡ get_or events i e → e ≡ Sent f → (k ≡ 0 → ⊥)
    → slice_get (sent (world_in (drop (i + 1) events))) (k - 1) ≡ slice_get (sent (world_in (drop i events))) k
nth-sent events i k e f within is sent_is some =
    let rest = drop (i + 1) events in
    let whole : sent (world_in (drop i events)) ≡ f.items ∷ sent (world_in rest) =
    ap (λ l. sent (world_in l)) (first_apart events i e within is) ∙ sent-first e rest ∙ ap (λ x. sent (events_of x) ++ sent (world_in rest)) sent_is in
    get-later f.items (sent (world_in rest)) k some ∙ ap (λ (l : List (List ℕ)). slice_get l k) (sym whole)

-- a new entry is the newest change
pub pushed : (earlier : List Change) (events : List Event) (entries : List Entry) (e : Entry) → event_count e ≡ 0
    → changes_after earlier events (entries ++ e ∷ []) ≡ change_of e [] ∷ changes_after earlier events entries
pushed earlier events [] e none = ap (λ n. change_of e (world_in (take n events)) ∷ earlier) none
pushed earlier events (entry ∷ rest) e none = pushed _ (drop (event_count entry) events) rest e none

counts-append : (entries more : List Entry) → event_counts (entries ++ more) ≡ event_counts entries + event_counts more
counts-append [] more = omega arith
counts-append (entry ∷ rest) more = omega (arith, counts-append rest more)

pub counts_pushed : (entries : List Entry) (e : Entry) (n : ℕ) → event_count e ≡ 0 → event_counts entries ≡ n → event_counts (entries ++ e ∷ []) ≡ n
counts_pushed entries e n none is = omega (arith, counts-append entries (e ∷ []), none, is)

pub counts_linked : (entries : List Entry) (events more : List Event) (count : ℕ) → event_counts entries ≡ length events → count ≡ length more
    → event_counts (entries ++ entry.Linked count ∷ []) ≡ length (events ++ more)
counts_linked entries events more count is long = omega (arith, counts-append entries (entry.Linked count ∷ []), length-append events more, is, long)

take-early : (n : ℕ) (events more : List Event) → n ≤ length events → take n (events ++ more) ≡ take n events
take-early zero events more le = refl
take-early (suc n) [] more le = absurd (omega (arith, le))
take-early (suc n) (e ∷ rest) more le = ap (λ (l : List Event). e ∷ l) (take-early n rest more (omega (arith, le)))

drop-early : (n : ℕ) (events more : List Event) → n ≤ length events → drop n (events ++ more) ≡ drop n events ++ more
drop-early zero events more le = refl
drop-early (suc n) [] more le = absurd (omega (arith, le))
drop-early (suc n) (e ∷ rest) more le = drop-early n rest more (omega (arith, le))

no_events : (events : List Event) → 0 ≡ length events → events ≡ []
no_events [] is = refl
no_events (e ∷ rest) is = absurd (omega (arith, is))

-- new events after all others are one change more
pub linked : (earlier : List Change) (events more : List Event) (entries : List Entry) (count : ℕ) → event_counts entries ≡ length events → count ≡ length more
    → changes_after earlier (events ++ more) (entries ++ entry.Linked count ∷ []) ≡ change_of (entry.Linked count) (world_in more) ∷ changes_after earlier events entries
linked earlier events more [] count is long =
    let all : take count (events ++ more) ≡ more = ap (λ (l : List Event). take count (l ++ more)) (no_events events is) ∙ take_all count more (omega (arith, long)) in
    ap (λ (l : List Event). change_of (entry.Linked count) (world_in l) ∷ earlier) all
linked earlier events more (e ∷ rest) count is long =
    let n = event_count e in
    let le : n ≤ length events = omega (arith, is) in
    let left : event_counts rest ≡ length (drop n events) = omega (arith, is, length-drop n events) in
    ap (λ (l : List Event). changes_after (change_of e (world_in l) ∷ earlier) (drop n (events ++ more)) (rest ++ entry.Linked count ∷ [])) (take-early n events more le)
    ∙ ap (λ (l : List Event). changes_after (change_of e (world_in (take n events)) ∷ earlier) l (rest ++ entry.Linked count ∷ [])) (drop-early n events more le)
    ∙ linked (change_of e (world_in (take n events)) ∷ earlier) (drop n events) more rest count left long

world-change : (e : Entry) (events : List Event) (earlier : List Change) → world_of (change_of e (world_in (take (event_count e) events)) ∷ earlier) ≡ world_of earlier ++ world_in (take (event_count e) events)
world-change (entry.Linked count) events earlier = refl
world-change (entry.Wrote at bytes) events earlier = sym (append-nil (world_of earlier))
world-change (entry.Cut len) events earlier = sym (append-nil (world_of earlier))
world-change entry.Synced events earlier = sym (append-nil (world_of earlier))

world-after : (earlier : List Change) (events : List Event) (entries : List Entry) → event_counts entries ≡ length events → world_of (changes_after earlier events entries) ≡ world_of earlier ++ world_in events
world-after earlier events [] is = sym (append-nil (world_of earlier)) ∙ ap (λ (l : List Event). world_of earlier ++ world_in l) (sym (no_events events is))
world-after earlier events (e ∷ rest) is =
    let n = event_count e in
    let left : event_counts rest ≡ length (drop n events) = omega (arith, is, length-drop n events) in
    world-after (change_of e (world_in (take n events)) ∷ earlier) (drop n events) rest left
    ∙ ap (λ l. l ++ world_in (drop n events)) (world-change e events earlier)
    ∙ append_assoc (world_of earlier) (world_in (take n events)) (world_in (drop n events))
    ∙ ap (λ l. world_of earlier ++ l) (sym (flat_map-append events_of (take n events) (drop n events)))
    ∙ ap (λ (l : List Event). world_of earlier ++ world_in l) (take-append-drop n events)

-- the world of a log is what its events are
pub world_kept : (events : List Event) (entries : List Entry) → event_counts entries ≡ length events → world_of (changes_after [] events entries) ≡ world_in events
world_kept events entries is = world-after [] events entries is

-- one event more
pub happened : (events : List Event) (entries : List Entry) (e : Event) → event_counts entries ≡ length events
    → changes_after [] (events ++ e ∷ []) (entries ++ entry.Linked 1 ∷ []) ≡ Linked (events_of e) ∷ changes_after [] events entries
happened events entries e is =
    linked [] events (e ∷ []) entries 1 is refl ∙ ap (λ w. Linked w ∷ changes_after [] events entries) (append-nil (events_of e))
