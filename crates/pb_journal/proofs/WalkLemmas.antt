-- The walk over a file's entries to the gate that ends them.
use Rattle.std.proofs.Common.{◌≡◌, ℕ, ◌+◌, ◌-◌, List, [], ◌∷◌, ◌++◌, length, take, drop, get_or, refl, sym, ◌∙◌, ap, subst, arith, length-append, append_assoc, take-append-drop}
use Rattle.std.proofs.lemmas.List.{take_all, drop_at, drop-drop, nil_from_length}
use Rattle.std.proofs.Common.{length-drop}
use Rattle.pb_journal.specs.Entries.{open_gate, header, block, blocks, IsClosed}
use Rattle.pb_journal.specs.Inside.{IsEntry, part, Walked, HasHeader, EndsAt}
use Rattle.pb_journal.specs.Opened.{RestsAt}
use Rattle.pb_journal.specs.Refusals.{IsBroken, BreaksAt}
use Rattle.pb_journal.proofs.EntryLemmas.{blocks-push, AreBodies-push, gate_place-push}

pub walked_start : (len : ℕ) (f : List ℕ) → HasHeader len f → Walked f 8
walked_start len f is = record { bodies = []; fit = tt; bytes = sym (take-append-drop 8 f) ∙ ap (λ (l : List ℕ). l ++ drop 8 f) is.header_is; here = refl }

-- all that is left of a file
part_all : (f : List ℕ) (place len : ℕ) → len ≡ length f → part f place len ≡ drop place f
part_all f place len is = take_all (len - place) (drop place f) (omega (arith, length-drop place f))

module _ (f : List ℕ) (place len : ℕ) (is : len ≡ length f) (walked : Walked f place) where
  pub walked_on : (size : ℕ) → IsEntry (part f place len) size → Walked f (place + (5 + size))
  walked_on size entry =
      let body = entry.body in
      let here : drop place f ≡ open_gate ∷ block body ++ entry.rest = sym (part_all f place len is) ∙ entry.bytes in
      let prefix : length (open_gate ∷ block body) ≡ 5 + size = omega (arith, entry.length_is) in
      let after : drop (place + (5 + size)) f ≡ entry.rest = sym (drop-drop (5 + size) place f) ∙ ap (λ (l : List ℕ). drop (5 + size) l) here ∙ drop_at (open_gate ∷ block body) entry.rest (5 + size) prefix in
      record {
        bodies = walked.bodies ++ body ∷ [];
        fit = AreBodies-push walked.bodies body walked.fit entry.fit;
        bytes = walked.bytes ∙ ap (λ (l : List ℕ). header ++ l) (ap (λ (l : List ℕ). blocks walked.bodies ++ l) (here ∙ ap (λ (l : List ℕ). open_gate ∷ block body ++ l) (sym after)) ∙ sym (blocks-push walked.bodies body (drop (place + (5 + size)) f)));
        here = omega (arith, walked.here, entry.length_is, gate_place-push walked.bodies body);
      }

  pub walked_to_end : IsClosed (part f place len) → EndsAt place f
  walked_to_end closed = record {
    bodies = walked.bodies;
    entries = record { tail = drop place f; bytes = walked.bytes; fit = walked.fit; closed = subst IsClosed (part_all f place len is) closed };
    place = walked.here;
  }

  pub walked_to_break : IsBroken (part f place len) → BreaksAt f (place + 1)
  walked_to_break broken = record {
    bodies = walked.bodies;
    tail = drop place f;
    bytes = walked.bytes;
    fit = walked.fit;
    broken = subst IsBroken (part_all f place len is) broken;
    place = ap (λ n. n + 1) walked.here;
  }

-- a gate of 00 that is the last byte
pub at_end : (gate : ℕ) (f prefix : List ℕ) → EndsAt gate f → gate + 1 ≡ length f → prefix ≡ take 1 (drop gate f) → get_or prefix 0 0 ≡ 0 → (bodies : List (List ℕ)) × RestsAt gate bodies f
at_end gate f prefix ends last is zero_gate =
    let e = ends.entries in
    let g = e.closed.gate in
    let start = header ++ blocks ends.bodies in
    let size : length start ≡ gate = omega (arith, ends.place, length-append header (blocks ends.bodies)) in
    let whole : f ≡ start ++ g ∷ e.closed.more = e.bytes ∙ sym (append_assoc header (blocks ends.bodies) e.tail) ∙ ap (λ (l : List ℕ). start ++ l) e.closed.bytes in
    let none : e.closed.more ≡ [] = nil_from_length e.closed.more (omega (arith, ap length whole, length-append start (g ∷ e.closed.more))) in
    let after : drop gate f ≡ g ∷ e.closed.more = ap (λ (l : List ℕ). drop gate l) whole ∙ drop_at start (g ∷ e.closed.more) gate size in
    let first : g ≡ 0 = sym (ap (λ (l : List ℕ). get_or l 0 0) (is ∙ ap (λ (l : List ℕ). take 1 l) after)) ∙ zero_gate in (
      ends.bodies,
      record {
        bytes = e.bytes ∙ ap (λ (l : List ℕ). header ++ (blocks ends.bodies ++ l)) (e.closed.bytes ∙ (λ i. first i ∷ none i));
        fit = e.fit;
        place = ends.place;
      },
    )
