-- What events heard.
use Rattle.std.proofs.Common.{◌≡◌, ℕ, ◌+◌, List, [], ◌∷◌, ◌++◌, filter, length, refl, sym, ap, ◌∙◌, append_assoc, length-append}
use Rattle.std.proofs.lemmas.List.{append-nil}
use Rattle.std.proofs.lemmas.Grind.{flat_map-append}
use Rattle.std.proofs.lemmas.List.Elements.{filter-append}
use Rattle.pb_base.specs.World.{World, Begin, Sent, Heard, Quiet, Defined, Stored, Oldest, all_heard, byte_in, bytes_heard, is_quiet, quiet_ticks, sent, heard_from}
use Rattle.pb_io.specs.ChangeLog.{arrival}
use Rattle.pb_ask.specs.Events.{HearsOnly}

pub bytes_heard-append : (a b : World) → bytes_heard (a ++ b) ≡ bytes_heard a ++ bytes_heard b
unfolding bytes_heard
bytes_heard-append a b = flat_map-append byte_in a b

pub quiet_ticks-append : (a b : World) → quiet_ticks (a ++ b) ≡ quiet_ticks a + quiet_ticks b
unfolding quiet_ticks
quiet_ticks-append a b = ap length (filter-append is_quiet a b) ∙ length-append (filter is_quiet a) (filter is_quiet b)

pub sent-append : (a b : World) → sent (a ++ b) ≡ sent a ++ sent b
sent-append a b = flat_map-append _ a b

pub bytes_heard-nil : bytes_heard [] ≡ []
unfolding bytes_heard
bytes_heard-nil = refl

pub quiet_ticks-nil : quiet_ticks [] ≡ 0
unfolding quiet_ticks
quiet_ticks-nil = refl

pub bytes_heard-sent : (frame : List ℕ) (rest : World) → bytes_heard (Sent frame ∷ rest) ≡ bytes_heard rest
unfolding bytes_heard
bytes_heard-sent frame rest = refl

pub heard-all : (bytes : List ℕ) → bytes_heard (all_heard bytes) ≡ bytes
unfolding bytes_heard
heard-all [] = refl
heard-all (byte ∷ bytes) = ap (λ l. byte ∷ l) (heard-all bytes)

-- ---- what comes of one call

pub bytes_heard-arrival : (bytes : List ℕ) → bytes_heard (arrival bytes) ≡ bytes
unfolding bytes_heard
bytes_heard-arrival [] = refl
bytes_heard-arrival (byte ∷ bytes) = ap (λ l. byte ∷ l) (heard-all bytes)

pub quiet_ticks-quiet : quiet_ticks (arrival []) ≡ 1
unfolding quiet_ticks
quiet_ticks-quiet = refl

pub ticks-all : (bytes : List ℕ) → quiet_ticks (all_heard bytes) ≡ 0
unfolding quiet_ticks
ticks-all [] = refl
ticks-all (byte ∷ bytes) = ticks-all bytes

pub quiet_ticks-bytes : (byte : ℕ) (bytes : List ℕ) → quiet_ticks (arrival (byte ∷ bytes)) ≡ 0
quiet_ticks-bytes byte bytes = ticks-all (byte ∷ bytes)

pub quiet_ticks-sent : (frame : List ℕ) (rest : World) → quiet_ticks (Sent frame ∷ rest) ≡ quiet_ticks rest
unfolding quiet_ticks
quiet_ticks-sent frame rest = refl

pub only-all : (bytes : List ℕ) → HearsOnly (all_heard bytes)
only-all [] = tt
only-all (byte ∷ bytes) = only-all bytes

pub HearsOnly-arrival : (bytes : List ℕ) → HearsOnly (arrival bytes)
HearsOnly-arrival [] = tt
HearsOnly-arrival (byte ∷ bytes) = only-all bytes

-- ---- events that hear only

pub HearsOnly-append : (a b : World) → HearsOnly a → HearsOnly b → HearsOnly (a ++ b)
HearsOnly-append [] b p q = q
HearsOnly-append (Heard byte ∷ a) b p q = HearsOnly-append a b p q
HearsOnly-append (Quiet ∷ a) b p q = HearsOnly-append a b p q
HearsOnly-append (Begin ∷ a) b p q = absurd p
HearsOnly-append (Sent frame ∷ a) b p q = absurd p
HearsOnly-append (Defined s n d ∷ a) b p q = absurd p
HearsOnly-append (Stored s n r ∷ a) b p q = absurd p
HearsOnly-append (Oldest s n k ∷ a) b p q = absurd p

pub HearsOnly-sent : (a : World) → HearsOnly a → sent a ≡ []
HearsOnly-sent [] p = refl
HearsOnly-sent (Heard byte ∷ a) p = HearsOnly-sent a p
HearsOnly-sent (Quiet ∷ a) p = HearsOnly-sent a p
HearsOnly-sent (Begin ∷ a) p = absurd p
HearsOnly-sent (Sent frame ∷ a) p = absurd p
HearsOnly-sent (Defined s n d ∷ a) p = absurd p
HearsOnly-sent (Stored s n r ∷ a) p = absurd p
HearsOnly-sent (Oldest s n k ∷ a) p = absurd p

-- what was heard since the stream began grows by what they heard
pub HearsOnly-heard : (had : List ℕ) (a : World) → HearsOnly a → heard_from had a ≡ had ++ bytes_heard a
unfolding bytes_heard
HearsOnly-heard had [] p = sym (append-nil had)
HearsOnly-heard had (Heard byte ∷ a) p = HearsOnly-heard (had ++ byte ∷ []) a p ∙ append_assoc had (byte ∷ []) (bytes_heard a)
HearsOnly-heard had (Quiet ∷ a) p = HearsOnly-heard had a p
HearsOnly-heard had (Begin ∷ a) p = absurd p
HearsOnly-heard had (Sent frame ∷ a) p = absurd p
HearsOnly-heard had (Defined s n d ∷ a) p = absurd p
HearsOnly-heard had (Stored s n r ∷ a) p = absurd p
HearsOnly-heard had (Oldest s n k ∷ a) p = absurd p

pub quiet_ticks-one : quiet_ticks (Quiet ∷ []) ≡ 1
unfolding quiet_ticks
quiet_ticks-one = refl
