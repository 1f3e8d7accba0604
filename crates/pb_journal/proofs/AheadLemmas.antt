-- Where the entries of a list are in its file.
use Rattle.std.proofs.Common.{◌≡◌, ℕ, ◌+◌, List, [], ◌∷◌, ◌++◌, length, take, drop, refl, sym, ◌∙◌, ap, arith, length-append, append_assoc}
use Rattle.std.proofs.lemmas.List.{take_at, drop_at}
use Rattle.pb_journal.specs.Entries.{open_gate, header, AreBodies, block, blocks, Entries, gate_place}
use Rattle.pb_journal.specs.Reading.{Ahead}

pub blocks-append : (some more : List (List ℕ)) → blocks (some ++ more) ≡ blocks some ++ blocks more
blocks-append [] more = refl
blocks-append (b ∷ some) more = ap (λ (l : List ℕ). open_gate ∷ block b ++ l) (blocks-append some more) ∙ sym (append_assoc (open_gate ∷ block b) (blocks some) (blocks more))

fit_after : (some more : List (List ℕ)) → AreBodies (some ++ more) → AreBodies more
fit_after [] more fit = fit
fit_after (b ∷ some) more fit = fit_after some more fit.1

fit_before : (some more : List (List ℕ)) → AreBodies (some ++ more) → AreBodies some
fit_before [] more fit = tt
fit_before (b ∷ some) more fit = (fit.0, fit_before some more fit.1)

pub lie_ahead : (file : List ℕ) (before bodies more : List (List ℕ)) → Entries file (before ++ (bodies ++ more)) → Ahead file (gate_place before) (gate_place (before ++ bodies)) bodies
lie_ahead file before bodies more entries =
    let after = blocks more ++ entries.tail in
    let start = header ++ blocks before in
    let split : blocks (before ++ (bodies ++ more)) ++ entries.tail ≡ blocks before ++ (blocks bodies ++ after) =
    ap (λ (l : List ℕ). l ++ entries.tail) (blocks-append before (bodies ++ more) ∙ ap (λ (l : List ℕ). blocks before ++ l) (blocks-append bodies more)) ∙ simp append_assoc in
    let whole : file ≡ start ++ (blocks bodies ++ after) = entries.bytes ∙ ap (λ (l : List ℕ). header ++ l) split ∙ sym (append_assoc header (blocks before) (blocks bodies ++ after)) in
    let size : length start ≡ gate_place before = length-append header (blocks before) in
    let here : drop (gate_place before) file ≡ blocks bodies ++ after = ap (λ (l : List ℕ). drop (gate_place before) l) whole ∙ drop_at start (blocks bodies ++ after) (gate_place before) size in
    let both : length (blocks (before ++ bodies)) ≡ length (blocks before) + length (blocks bodies) = ap length (blocks-append before bodies) ∙ length-append (blocks before) (blocks bodies) in
    record {
      bytes = ap (λ (l : List ℕ). take (length (blocks bodies)) l) here ∙ take_at (blocks bodies) after (length (blocks bodies)) refl;
      fit = fit_before bodies more (fit_after before (bodies ++ more) entries.fit);
      end = omega (arith, both);
      within = omega (arith, both, ap length whole, size, length-append start (blocks bodies ++ after), length-append (blocks bodies) after, length-append (blocks more) entries.tail, ap length entries.closed.bytes);
    }
