-- What entries spell can be read in one way.
use Rattle.std.proofs.Common.{◌≡◌, ℕ, ◌+◌, ◌<◌, ◌^◌, ◌/◌, ◌%◌, List, [], ◌∷◌, ◌++◌, length, Ok, Err, Result, refl, sym, ap, subst, ◌∙◌, arith, append_assoc, length-append}
use Rattle.std.specs.Prelude.{take, drop}
use Rattle.std.specs.Int.{w16, w32, from_be_bytes}
use Rattle.std.proofs.lemmas.Nat.{from_be_bytes-to_be_bytes_4}
use Rattle.pb_base.proofs.FieldLaws.{ok_is, wide16, number-takes, Takes-then}
use Rattle.std.specs.List.{All, AllByRecursion, flat_map}
use Rattle.pb_base.specs.declared.fields.FieldFault.{FieldFault}
use Rattle.pb_base.specs.Fields.{Unread, unread, IsBytes, number_at, text_at}
use Rattle.pb_base.specs.Words.{IsNameByte}
use Rattle.pb_base.proofs.TextLaws.{text-again, text-takes}
use Rattle.pb_archive.specs.declared.plan.StationPlan.{StationPlan}
use Rattle.pb_archive.specs.Plan.{Plan, IsStation, IsBegun, with_station}
use Rattle.pb_archive.proofs.PlanLemmas.{Each-right, begun_before}
use Rattle.pb_archive.specs.Entry.{half, word, station_bytes}
use Rattle.pb_archive.specs.Inside.{IsSpelledStation, ReadsStation, ReadsSome}

-- ---- numbers

half_is : (n m : ℕ) → n < 2 ^ 16 → m < 2 ^ 16 → (n / 256) % 256 ≡ (m / 256) % 256 → n % 256 ≡ m % 256 → n ≡ m
half_is n m ln lm high low = omega arith

pub half_next : (n m : ℕ) (xs ys : List ℕ) → n < 2 ^ 16 → m < 2 ^ 16 → half n ++ xs ≡ half m ++ ys → (n ≡ m) × (xs ≡ ys)
half_next n m xs ys ln lm is =
    let high : (n / 256) % 256 ≡ (m / 256) % 256 = cc in
    let low : n % 256 ≡ m % 256 = cc in
    let rest : xs ≡ ys = cc in
    (half_is n m ln lm high low, rest)

pub word_next : (n m : ℕ) (xs ys : List ℕ) → n < 2 ^ 32 → m < 2 ^ 32 → word n ++ xs ≡ word m ++ ys → (n ≡ m) × (xs ≡ ys)
word_next n m xs ys ln lm is =
    (sym (from_be_bytes-to_be_bytes_4 n ln) ∙ ap (λ (l : List ℕ). from_be_bytes w32 (take 4 l)) is ∙ from_be_bytes-to_be_bytes_4 m lm, ap (drop 4) is)

-- ---- texts

pub text_next : (s t xs ys : List ℕ) → All (λ byte. 0 < byte) s → All (λ byte. 0 < byte) t → (s ++ 0 ∷ []) ++ xs ≡ (t ++ 0 ∷ []) ++ ys → (s ≡ t) × (xs ≡ ys)
text_next s t xs ys ps pt is =
    let both = sym (text-again 0 s xs ps) ∙ ap (λ (l : List ℕ). text_at (unread 0 l)) is ∙ text-again 0 t ys pt in
    let same = ok_is _ _ both in
    (ap (λ (p : List ℕ × Unread). p.0) same, ap (λ (p : List ℕ × Unread). p.1.rest) same)

-- ---- stations

station_split : (s : StationPlan) (rest : List ℕ) → station_bytes s ++ rest ≡ half s.addr ++ (half s.code ++ ((s.name ++ 0 ∷ []) ++ rest))
station_split s rest = refl

pub station_next : (s t : StationPlan) (xs ys : List ℕ) → IsSpelledStation s → IsSpelledStation t → station_bytes s ++ xs ≡ station_bytes t ++ ys → (s ≡ t) × (xs ≡ ys)
station_next s t xs ys ss st is =
    let addr = half_next s.addr t.addr _ _ ss.addr st.addr is in
    let code = half_next s.code t.code _ _ ss.code st.code addr.1 in
    let name = text_next s.name t.name xs ys ss.name st.name code.1 in
    let same : s ≡ t = (λ j. record { addr = addr.0 j; code = code.0 j; name = name.0 j }) in
    (same, name.1)

-- a name has no zero byte
name_byte : (byte : ℕ) → IsNameByte byte → 0 < byte
name_byte byte is = grind arith

pub station_spelled : (me : ℕ) (s : StationPlan) → IsStation me s → IsSpelledStation s
station_spelled me s is = record { addr = omega (arith, is.addr); code = is.code; name = λ k d lt. name_byte _ (is.name.2 k d lt) }

-- ---- reading a station

pub station_read : (u v w x : Unread) (s : StationPlan) → IsBytes u.rest → number_at w16 u ≡ Ok (s.addr, v) → number_at w16 v ≡ Ok (s.code, w) → text_at w ≡ Ok (s.name, x) → ReadsStation u s x
station_read u v w x s fits one two three =
    let a = number-takes w16 (2 ^ 16) wide16 u s.addr v fits one in
    let b = number-takes w16 (2 ^ 16) wide16 v s.code w a.0.rest two in
    let c = text-takes w s.name x b.0.rest three in
    record {
      bytes = (Takes-then u v x (half s.addr) (half s.code ++ (s.name ++ 0 ∷ [])) a.0 (Takes-then v w x (half s.code) (s.name ++ 0 ∷ []) b.0 c.0)).bytes;
      spelled = record { addr = a.1; code = b.1; name = c.1 };
      rest = c.0.rest;
    }

-- no text ends where a station's would
pub station_unread : (u v w : Unread) (addr code : ℕ) (fault : FieldFault) → IsBytes u.rest → number_at w16 u ≡ Ok (addr, v) → number_at w16 v ≡ Ok (code, w) → text_at w ≡ Err fault
    → (s : StationPlan) (rest : List ℕ) → IsSpelledStation s → u.rest ≡ station_bytes s ++ rest → ⊥
station_unread u v w addr code fault fits one two none s rest spelled bytes =
    let a = number-takes w16 (2 ^ 16) wide16 u addr v fits one in
    let b = number-takes w16 (2 ^ 16) wide16 v code w a.0.rest two in
    let first = half_next addr s.addr v.rest _ a.1 spelled.addr (sym a.0.bytes ∙ bytes) in
    let second = half_next code s.code w.rest _ b.1 spelled.code (sym b.0.bytes ∙ first.1) in
    let text : text_at (unread w.at w.rest) ≡ Ok (s.name, unread (w.at + (length s.name + 1)) rest) = ap (λ (l : List ℕ). text_at (unread w.at l)) second.1 ∙ text-again w.at s.name rest spelled.name in
    not_both _ _ (sym none ∙ text)
  where
    not_both : (f : FieldFault) (p : List ℕ × Unread) → (let r : Result (List ℕ × Unread) FieldFault = Err f in r) ≡ Ok p → ⊥
    not_both f p is = absurd (cc)

-- ---- reading stations

pub some_start : (old : Plan) (from : List ℕ) → IsBegun old → old.stations ≡ [] → IsBytes from → ReadsSome old from old from
some_start old from begun none fits = record {
  me = refl;
  via = refl;
  begun = begun;
  fits = fits;
  bytes = ap (λ (l : List StationPlan). flat_map station_bytes l ++ from) (sym none);
  only = λ q is me via bytes. (q.stations, ap (λ (l : List StationPlan). l ++ q.stations) (sym none), bytes);
}

flat_map-push : (xs : List StationPlan) (s : StationPlan) (rest : List ℕ) → flat_map station_bytes (xs ++ s ∷ []) ++ rest ≡ flat_map station_bytes xs ++ (station_bytes s ++ rest)
flat_map-push [] s rest = append_assoc (station_bytes s) [] rest
flat_map-push (x ∷ xs) s rest =
    append_assoc (station_bytes x) (flat_map station_bytes (xs ++ s ∷ [])) rest
    ∙ ap (λ (l : List ℕ). station_bytes x ++ l) (flat_map-push xs s rest)
    ∙ sym (append_assoc (station_bytes x) (flat_map station_bytes xs) (station_bytes s ++ rest))

-- what comes after the stations that were read is a further one's bytes, where there is one more
next_of : (me : ℕ) (s : StationPlan) (rest : List ℕ) (before more : List StationPlan) → AllByRecursion (IsStation me) (before ++ more) → IsSpelledStation s
    → station_bytes s ++ rest ≡ flat_map station_bytes more → (others : List StationPlan) × (more ≡ s ∷ others) × (rest ≡ flat_map station_bytes others)
next_of me s rest before [] each spelled bytes = absurd (cc bytes)
next_of me s rest before (t ∷ others) each spelled bytes =
    let is = (Each-right (IsStation me) before (t ∷ others) each).0 in
    let same = station_next s t rest (flat_map station_bytes others) spelled (station_spelled me t is) bytes in
    (others, ap (λ (x : StationPlan). x ∷ others) (sym same.0), same.1)

pub some_more : (old draft next : Plan) (from rest : List ℕ) (u v : Unread) (s : StationPlan) → rest ≡ u.rest → ReadsSome old from draft rest → ReadsStation u s v → next ≡ with_station draft s → IsBegun next
    → ReadsSome old from next v.rest
some_more old draft next from rest u v s at some read is begun = record {
  me = ap (λ (p : Plan). p.me) is ∙ some.me;
  via = ap (λ (p : Plan). p.via) is ∙ some.via;
  begun = begun;
  fits = read.rest;
  bytes = some.bytes
      ∙ ap (λ (l : List ℕ). flat_map station_bytes draft.stations ++ l) (at ∙ read.bytes)
      ∙ sym (flat_map-push draft.stations s v.rest)
      ∙ ap (λ (p : Plan). flat_map station_bytes p.stations ++ v.rest) (sym is);
  only = λ q begins me via bytes.
      let o = some.only q begins me via bytes in
      let n = next_of q.me s v.rest draft.stations o.0 (subst (AllByRecursion (IsStation q.me)) o.1 begins.each) read.spelled (sym (at ∙ read.bytes) ∙ o.2) in (
        n.0,
        o.1 ∙ ap (λ (l : List StationPlan). draft.stations ++ l) n.1 ∙ sym (append_assoc draft.stations (s ∷ []) n.0) ∙ ap (λ (p : Plan). p.stations ++ n.0) (sym is),
        n.2,
      );
}

-- a plan that the bytes could be has a further station, where fewer were read than it has
pub one_more : (old draft q : Plan) (from rest : List ℕ) → ReadsSome old from draft rest → IsBegun q → q.me ≡ old.me → q.via ≡ old.via → from ≡ flat_map station_bytes q.stations → length draft.stations < length q.stations
    → (s : StationPlan) × (others : List StationPlan) × (rest ≡ station_bytes s ++ flat_map station_bytes others) × IsBegun (with_station draft s)
one_more old draft q from rest some begins me via bytes fewer =
    let o = some.only q begins me via bytes in
    by o.0 o.1 o.2
  where
    by : (more : List StationPlan) → q.stations ≡ draft.stations ++ more → rest ≡ flat_map station_bytes more
        → (s : StationPlan) × (others : List StationPlan) × (rest ≡ station_bytes s ++ flat_map station_bytes others) × IsBegun (with_station draft s)
    by [] is at = absurd (omega (arith, ap length is, length-append draft.stations []))
    by (s ∷ others) is at = (s, others, at, begun_before q draft s others begins (me ∙ sym some.me) (via ∙ sym some.via) is)

-- it has no bytes after its stations
pub none_after : (old draft q : Plan) (from rest : List ℕ) → ReadsSome old from draft rest → IsBegun q → q.me ≡ old.me → q.via ≡ old.via → from ≡ flat_map station_bytes q.stations → length draft.stations ≡ length q.stations → rest ≡ []
none_after old draft q from rest some begins me via bytes same =
    let o = some.only q begins me via bytes in
    by o.0 o.1 o.2
  where
    by : (more : List StationPlan) → q.stations ≡ draft.stations ++ more → rest ≡ flat_map station_bytes more → rest ≡ []
    by [] is at = at
    by (s ∷ others) is at = absurd (omega (arith, ap length is, length-append draft.stations (s ∷ others)))
