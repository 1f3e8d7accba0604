-- How worlds grow, and with them their histories.
use Rattle.std.proofs.Common.{◌≡◌, ℕ, zero, suc, ◌<◌, ◌≤◌, Bool, false, ◌&&◌, if◌then◌else◌, List, [], ◌∷◌, ◌++◌, take, Option, Some, refl, sym, ◌∙◌, ap, subst, arith, append_assoc, append-nil}
use Rattle.std.proofs.lemmas.Grind.{flat_map-append}
use Rattle.std.proofs.lemmas.List.Elements.{filter-append}
use Rattle.std.proofs.lemmas.Option.{same_Some}
use Rattle.std.specs.List.{flat_map}
use Rattle.pb_base.specs.History.{TableKey, Later, is_about, stands_after, events_under, definition_in, record_in, greatest_oldest, history}
use Rattle.pb_base.specs.World.{Begin, Sent, Heard, Quiet, Defined, Stored, Oldest, World, is_of_stream, stream_events, all_heard, sent}
use Rattle.pb_io.specs.Site.{GrowsBy}

-- whether the signature stands after all these events
abbrev stands_at_end : TableKey → Bool → World → Bool
stands_at_end key before [] = before
stands_at_end key before (event ∷ rest) = stands_at_end key (stands_after key before event) rest

events_under-append : (key : TableKey) (before : Bool) (w more : World) → events_under key before (w ++ more) ≡ events_under key before w ++ events_under key (stands_at_end key before w) more
events_under-append key before [] more = refl
events_under-append key before (event ∷ rest) more =
    ap (λ l. (if is_about key event && stands_after key before event then event ∷ [] else []) ++ l) (events_under-append key (stands_after key before event) rest more)
    ∙ sym (append_assoc (if is_about key event && stands_after key before event then event ∷ [] else []) (events_under key (stands_after key before event) rest) (events_under key (stands_at_end key (stands_after key before event) rest) more))

greatest-append : (a b : World) → greatest_oldest a ≤ greatest_oldest (a ++ b)
greatest-append [] b = omega arith
greatest-append (event ∷ rest) b = omega (arith, greatest-append rest b)

-- a prefix of a world has an earlier history
pub history-later : (w more : World) → Later (history w) (history (w ++ more))
history-later w more key =
    let before = events_under key false w in
    let added = events_under key (stands_at_end key false w) more in
    let split = events_under-append key false w more in
    record {
      definitions = (flat_map definition_in added, ap (flat_map definition_in) split ∙ flat_map-append definition_in before added);
      records = (flat_map record_in added, ap (flat_map record_in) split ∙ flat_map-append record_in before added);
      oldest = subst (λ l. greatest_oldest before ≤ greatest_oldest l) (sym split) (greatest-append before added);
    }

-- the stations' events send nothing
pub sent-stream : (w : World) → sent (stream_events w) ≡ sent w
sent-stream [] = refl
sent-stream (Begin ∷ rest) = sent-stream rest
sent-stream (Sent frame ∷ rest) = ap (λ l. frame ∷ l) (sent-stream rest)
sent-stream (Heard byte ∷ rest) = sent-stream rest
sent-stream (Quiet ∷ rest) = sent-stream rest
sent-stream (Defined station number definition ∷ rest) = sent-stream rest
sent-stream (Stored station number stored ∷ rest) = sent-stream rest
sent-stream (Oldest station number n ∷ rest) = sent-stream rest

pub sent-heard : (bytes : List ℕ) → sent (all_heard bytes) ≡ []
sent-heard [] = refl
sent-heard (byte ∷ bytes) = sent-heard bytes

-- the events of a stream alone stay as they are
pub stream-heard : (bytes : List ℕ) → stream_events (all_heard bytes) ≡ all_heard bytes
stream-heard [] = refl
stream-heard (byte ∷ bytes) = ap (λ l. Heard byte ∷ l) (stream-heard bytes)

pub GrowsBy-nil : (a : Option World) → GrowsBy a a []
GrowsBy-nil a = record {
  on = λ w is. ([], is ∙ ap (λ l. Some l) (sym (append-nil w)), refl);
  back = λ v is. (v, [], is, sym (append-nil v), refl);
}

pub GrowsBy-trans : (a b c : Option World) (first second : World) → GrowsBy a b first → GrowsBy b c second → GrowsBy a c (first ++ second)
GrowsBy-trans a b c first second p q = record {
  on = λ w is.
      let x = p.on w is in
      let y = q.on (w ++ x.0) x.1 in
      (x.0 ++ y.0, y.1 ∙ ap (λ l. Some l) (append_assoc w x.0 y.0), filter-append is_of_stream x.0 y.0 ∙ ap (λ l. l ++ stream_events y.0) x.2 ∙ ap (λ l. first ++ l) y.2);
  back = λ v is.
      let y = q.back v is in
      let x = p.back y.0 y.2 in
      (x.0, x.1 ++ y.1, x.2, y.3 ∙ ap (λ l. l ++ y.1) x.3 ∙ append_assoc x.0 x.1 y.1, filter-append is_of_stream x.1 y.1 ∙ ap (λ l. l ++ stream_events y.1) x.4 ∙ ap (λ l. first ++ l) y.4);
}

-- a known world after link calls is the one before with the frames sent that these sent
pub sent-grown : (a b : Option World) (events v : World) → GrowsBy a b events → b ≡ Some v → (w more : World) × (a ≡ Some w) × (v ≡ w ++ more) × (sent more ≡ sent events)
sent-grown a b events v grows is =
    let x = grows.back v is in
    (x.0, x.1, x.2, x.3, sym (sent-stream x.1) ∙ ap sent x.4)

-- a receive that goes well sends nothing
pub received : (old new : Option World) (given : List ℕ) (n : ℕ) → (0 < n → GrowsBy old new (all_heard (take n given))) × (n ≡ 0 → GrowsBy old new (Quiet ∷ [])) → (events : World) × GrowsBy old new events × (sent events ≡ [])
received old new given zero heard = (Quiet ∷ [], heard.1 refl, refl)
received old new given (suc n) heard = (all_heard (take (suc n) given), heard.0 (omega arith), sent-heard (take (suc n) given))

-- a known world with events of the stream after it
pub GrowsBy-known : (w v events : World) → v ≡ w ++ events → stream_events events ≡ events → GrowsBy (Some w) (Some v) events
GrowsBy-known w v events is stream = record {
  on = λ u was. (events, ap (λ l. Some l) (is ∙ ap (λ l. l ++ events) (same_Some w u was)), stream);
  back = λ u now. (w, events, refl, sym (same_Some v u now) ∙ is, stream);
}
