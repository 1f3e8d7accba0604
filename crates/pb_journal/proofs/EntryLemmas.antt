-- What files of whole entries stand for.
use Rattle.std.proofs.Common.{◌≡◌, ◌≢◌, ◌⊎◌, inr, ℕ, ◌+◌, ◌<◌, List, [], ◌∷◌, ◌++◌, length, take, drop, get_or, refl, sym, ◌∙◌, ap, arith, length-append, append_assoc, take-append-drop, add-one}
use Rattle.std.proofs.Math.Seq.{drop-cons}
use Rattle.std.proofs.lemmas.List.{take_at, drop_at}
use Rattle.pb_io.specs.Crash.{Torn, overlaid}
use Rattle.pb_journal.specs.Entries.{open_gate, header, IsBody, AreBodies, block, blocks, Entries, gate_place, at_rest}
use Rattle.pb_journal.specs.Opened.{RestsAt}

pub blocks-push : (bodies : List (List ℕ)) (body tail : List ℕ) → blocks (bodies ++ body ∷ []) ++ tail ≡ blocks bodies ++ (open_gate ∷ block body ++ tail)
blocks-push [] body tail = append_assoc (open_gate ∷ block body) [] tail
blocks-push (b ∷ bodies) body tail =
    append_assoc (open_gate ∷ block b) (blocks (bodies ++ body ∷ [])) tail
    ∙ ap (λ (l : List ℕ). open_gate ∷ block b ++ l) (blocks-push bodies body tail) ∙ sym (append_assoc (open_gate ∷ block b) (blocks bodies) (open_gate ∷ block body ++ tail))

pub AreBodies-push : (bodies : List (List ℕ)) (body : List ℕ) → AreBodies bodies → IsBody body → AreBodies (bodies ++ body ∷ [])
AreBodies-push [] body fit is = (is, tt)
AreBodies-push (b ∷ bodies) body fit is = (fit.0, AreBodies-push bodies body fit.1 is)

pub gate_place-push : (bodies : List (List ℕ)) (body : List ℕ) → gate_place (bodies ++ body ∷ []) ≡ gate_place bodies + (5 + length body)
gate_place-push bodies body =
    omega (arith, ap length (blocks-push bodies body []), length-append (blocks (bodies ++ body ∷ [])) [], length-append (blocks bodies) (open_gate ∷ block body ++ []), length-append (open_gate ∷ block body) [])

-- a closed gate ends the entries, whatever comes after it
pub entries_closed : (file : List ℕ) (bodies : List (List ℕ)) (gate : ℕ) (more : List ℕ) → AreBodies bodies → (gate ≢ open_gate) ⊎ (more ≡ []) → file ≡ header ++ (blocks bodies ++ gate ∷ more) → Entries file bodies
entries_closed file bodies gate more fit closed bytes =
    record { tail = gate ∷ more; bytes = bytes; fit = fit; closed = record { gate = gate; more = more; bytes = refl; closed = closed } }

pub rests_entries : (gate : ℕ) (bodies : List (List ℕ)) (file : List ℕ) → RestsAt gate bodies file → Entries file bodies
rests_entries gate bodies file rests = entries_closed file bodies 0 [] rests.fit (inr refl) rests.bytes

pub length-at_rest : (bodies : List (List ℕ)) → length (at_rest bodies) ≡ gate_place bodies + 1
length-at_rest bodies = omega (arith, length-append (blocks bodies) (0 ∷ []))

-- a byte that was to be written may be any
pub torn_one : (prefix tail : List ℕ) (b at : ℕ) (c : List ℕ) → at ≡ length prefix → Torn at 1 (prefix ++ b ∷ tail) c → c ≡ prefix ++ get_or c at 0 ∷ tail
torn_one prefix tail b at c is torn =
    let before : take at c ≡ prefix = torn.before ∙ take_at prefix (b ∷ tail) at (sym is) in
    let old_end : drop (at + 1) (prefix ++ b ∷ tail) ≡ tail =
    ap (λ (l : List ℕ). drop (at + 1) l) (sym (append_assoc prefix (b ∷ []) tail)) ∙ drop_at (prefix ++ b ∷ []) tail (at + 1) (omega (arith, is, length-append prefix (b ∷ []))) in
    let within : at < length c = omega (arith, torn.no_shorter, length-append prefix (b ∷ tail), is) in
    let here : drop at c ≡ get_or c at 0 ∷ drop (at + 1) c = rw add-one (drop-cons c at 0 within) in
    sym (take-append-drop at c) ∙ (λ i. before i ++ here i) ∙ ap (λ (l : List ℕ). prefix ++ get_or c at 0 ∷ l) (torn.after ∙ old_end)

pub overlaid_one : (prefix tail : List ℕ) (b g at : ℕ) → at ≡ length prefix → overlaid (prefix ++ b ∷ tail) at (g ∷ []) ≡ prefix ++ g ∷ tail
overlaid_one prefix tail b g at is =
    let old_end : drop (at + 1) (prefix ++ b ∷ tail) ≡ tail =
    ap (λ (l : List ℕ). drop (at + 1) l) (sym (append_assoc prefix (b ∷ []) tail)) ∙ drop_at (prefix ++ b ∷ []) tail (at + 1) (omega (arith, is, length-append prefix (b ∷ []))) in
    (λ i. take_at prefix (b ∷ tail) at (sym is) i ++ (g ∷ [] ++ old_end i))
