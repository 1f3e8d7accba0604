-- Reading the next entry of a file.
use Rattle.std.proofs.Common.{◌≡◌, ℕ, ◌+◌, ◌-◌, ◌<◌, ◌≤◌, List, [], ◌∷◌, ◌++◌, length, take, drop, None, Some, refl, sym, ◌∙◌, ap, subst, arith, length-append, length-drop, append_assoc, take-append-drop, length-take-le}
use Rattle.std.specs.Prelude.{Option, true}
use Rattle.std.proofs.Math.Seq.{take-add}
use Rattle.std.proofs.lemmas.List.{take_at, drop_at, drop-drop}
use Rattle.pb_journal.specs.Entries.{max_body_len, open_gate, block, blocks, IsClosed}
use Rattle.pb_journal.specs.Inside.{IsEntry, part, GateIs, NextIs}
use Rattle.pb_journal.specs.Reading.{Ahead, Read}
use Rattle.pb_journal.specs.Refusals.{IsBroken}
use Rattle.pb_journal.specs.declared.walk.Gate.{Gate}
use Rattle.pb_journal.specs.declared.walk.Gate.TheVariants.{Closed, Broken, Open}
use Rattle.pb_journal.specs.Window.{Chunk, Shows, Covers}
use Rattle.pb_journal.proofs.LawLemmas.{same_prefix, closed_open, broken_entry}
use Rattle.pb_journal.proofs.WindowLemmas.{shown_bytes}

-- a file that isn't known
pub none_known : (view : Option (List ℕ)) → ((f : List ℕ) → view ≡ Some f → ⊥) → view ≡ None
none_known None never = refl
none_known (Some f) never = absurd (never f refl)

pub none_ahead : (f : List ℕ) (place gate : ℕ) (bodies : List (List ℕ)) → Ahead f place gate bodies → gate ≤ place → bodies ≡ []
none_ahead f place gate [] ahead le = refl
none_ahead f place gate (b ∷ rest) ahead le = absurd (omega (arith, ahead.end, length-append (open_gate ∷ block b) (blocks rest)))

module _ (f : List ℕ) (place gate : ℕ) (b : List ℕ) (rest : List (List ℕ)) (ahead : Ahead f place gate (b ∷ rest)) where
  abbrev n : ℕ
  n = length (blocks (b ∷ rest))

  abbrev after : List ℕ
  after = drop n (drop place f)

  -- all from here on
  here : drop place f ≡ open_gate ∷ block b ++ (blocks rest ++ after)
  here = sym (take-append-drop n (drop place f)) ∙ ap (λ (l : List ℕ). l ++ after) ahead.bytes ∙ append_assoc (open_gate ∷ block b) (blocks rest) after

  long : n ≡ 5 + length b + length (blocks rest)
  long = omega (arith, length-append (open_gate ∷ block b) (blocks rest))

  -- and up to the gate's byte
  abbrev last : List ℕ
  last = take 1 after

  up_to_gate : part f place (gate + 1) ≡ open_gate ∷ block b ++ (blocks rest ++ last)
  up_to_gate =
      let size : gate + 1 - place ≡ n + 1 = omega (arith, ahead.end) in
      ap (λ (k : ℕ). take k (drop place f)) size ∙ take-add n 1 (drop place f) ∙ ap (λ (l : List ℕ). l ++ last) ahead.bytes ∙ append_assoc (open_gate ∷ block b) (blocks rest) last

  last_some : length last ≡ 1
  last_some = length-take-le 1 after (omega (arith, ahead.end, ahead.within, length-drop n (drop place f), length-drop place f))

  pub not_closed : IsClosed (part f place (gate + 1)) → ⊥
  not_closed closed = closed_open (part f place (gate + 1)) _ _ up_to_gate closed

  pub not_broken : IsBroken (part f place (gate + 1)) → ⊥
  not_broken broken =
      broken_entry b (blocks rest ++ last) (part f place (gate + 1)) ahead.fit.0 (omega (arith, length-append (blocks rest) last, last_some)) up_to_gate broken

  size_is : (size : ℕ) → IsEntry (part f place (gate + 1)) size → length b ≡ size
  size_is size entry = let same = same_prefix entry.body entry.rest b (blocks rest ++ last) (sym entry.bytes ∙ up_to_gate) in ap length (sym same.bodies) ∙ entry.length_is

  pub size_small : (size : ℕ) → IsEntry (part f place (gate + 1)) size → size ≤ max_body_len
  size_small size entry = omega (arith, size_is size entry, ahead.fit.0.1)

  pub next_is : (size : ℕ) → IsEntry (part f place (gate + 1)) size → NextIs f place gate (b ∷ rest) (Some size)
  next_is size entry =
      let same = size_is size entry in
      let body_on : drop (place + 5) f ≡ b ++ (blocks rest ++ after) = sym (drop-drop 5 place f) ∙ ap (λ (l : List ℕ). drop 5 l) here in
      let rest_on : drop (place + 5 + size) f ≡ blocks rest ++ after = sym (drop-drop size (place + 5) f) ∙ ap (λ (l : List ℕ). drop size l) body_on ∙ drop_at b (blocks rest ++ after) size same in (
        b,
        (
          rest,
          refl,
          ap (λ (l : List ℕ). take size l) body_on ∙ take_at b (blocks rest ++ after) size same,
          record {
            bytes = ap (λ (l : List ℕ). take (length (blocks rest)) l) rest_on ∙ take_at (blocks rest) after (length (blocks rest)) refl;
            fit = ahead.fit.1;
            end = omega (arith, ahead.end, long, same);
            within = ahead.within;
          },
        ),
      )

module _ (f : List ℕ) (place gate : ℕ) (lt : place < gate) where
  nothing_ahead : Ahead f place gate [] → ⊥
  nothing_ahead ahead = omega (arith, ahead.end, lt)

  -- only an entry can be there
  pub only_open : (bodies : List (List ℕ)) → Ahead f place gate bodies → (k : Gate) → GateIs (part f place (gate + 1)) k → (size : ℕ) × (k ≡ Open size) × (size ≤ max_body_len)
  only_open [] ahead k is = absurd (nothing_ahead ahead)
  only_open (b ∷ rest) ahead Closed is = absurd (not_closed f place gate b rest ahead is)
  only_open (b ∷ rest) ahead Broken is = absurd (not_broken f place gate b rest ahead is)
  only_open (b ∷ rest) ahead (Open size) is = (size, refl, size_small f place gate b rest ahead size is)

  pub next_entry : (bodies : List (List ℕ)) → Ahead f place gate bodies → (size : ℕ) → IsEntry (part f place (gate + 1)) size → NextIs f place gate bodies (Some size)
  next_entry [] ahead size is = absurd (nothing_ahead ahead)
  next_entry (b ∷ rest) ahead size is = next_is f place gate b rest ahead size is

-- the body that is in the window now
pub read_entry : (f : List ℕ) (place gate : ℕ) (bodies : List (List ℕ)) (size : ℕ) (chunk : Chunk) → NextIs f place gate bodies (Some size) → Covers chunk (place + 5) size → Shows chunk f
    → Read (record { place = place + (5 + size); body = take size (drop (place + (5 + size) - size - chunk.at) chunk.bytes); chunk = chunk }) gate f bodies true
read_entry f place gate bodies size chunk next covers shows =
    let at : place + (5 + size) - size ≡ place + 5 = omega arith in
    let body : take size (drop (place + (5 + size) - size - chunk.at) chunk.bytes) ≡ next.0 =
    ap (λ (n : ℕ). take size (drop (n - chunk.at) chunk.bytes)) at ∙ shown_bytes chunk (place + 5) size f covers shows ∙ next.1.2 in
    let here : place + 5 + size ≡ place + (5 + size) = omega arith in
    (next.1.0, next.1.1 ∙ ap (λ (b : List ℕ). b ∷ next.1.0) (sym body), record { ahead = subst (λ n. Ahead f n gate next.1.0) here next.1.3; shows = shows })
