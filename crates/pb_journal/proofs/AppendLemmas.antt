-- What a crash leaves while an entry is added.
use Rattle.std.proofs.Common.{◌≡◌, inl, inr, ℕ, ◌+◌, ◌≤◌, ◌<◌, List, [], ◌∷◌, ◌++◌, length, take, drop, get_or, Some, refl, sym, ◌∙◌, ap, subst, arith, length-append, append_assoc, take-append-drop}
use Rattle.pb_io.proofs.RunLemmas.{world_before}
use Rattle.std.specs.Option.{ForSome, option_map}
use Rattle.std.specs.Prelude.{Option}
use Rattle.std.proofs.lemmas.Bool.{cases_eq}
use Rattle.std.proofs.lemmas.List.{take_all}
use Rattle.pb_base.specs.World.{World}
use Rattle.pb_io.specs.Crash.{Torn, overlaid, Changes}
use Rattle.pb_io.specs.Settled.{LeftBy, Runs}
use Rattle.pb_io.specs.View.{View, IsLawful, LeavesOnly}
use Rattle.pb_io.proofs.CrashLemmas.{known_before, Changes-mapped, Changes-trans, Changes-weaker}
use Rattle.pb_io.proofs.Moments.{LeavesOnly-trans, LeavesOnly-weaker}
use Rattle.pb_journal.specs.Changes.{SameEntries, Gains, KeepsOrGains}
use Rattle.pb_journal.specs.Entries.{max_body_len, open_gate, header, IsBody, AreBodies, block, blocks, at_rest}
use Rattle.pb_journal.specs.Inside.{KeepsBefore, staged}
use Rattle.pb_journal.specs.Opened.{Rests, RestsAt, IsOpened}
use Rattle.pb_journal.proofs.EntryLemmas.{blocks-push, AreBodies-push, gate_place-push, entries_closed, rests_entries, length-at_rest, torn_one, overlaid_one}

pub joined_body : (head rest : List ℕ) → 0 < length head → length head + length rest ≤ max_body_len → IsBody (head ++ rest)
joined_body head rest some few = (omega (arith, length-append head rest), omega (arith, length-append head rest))

module _ (gate : ℕ) (bodies : List (List ℕ)) (file : List ℕ) (rests : RestsAt gate bodies file) where
  abbrev prefix : List ℕ
  prefix = header ++ blocks bodies

  prefix_end : gate ≡ length prefix
  prefix_end = omega (arith, rests.place, length-append header (blocks bodies))

  -- after the closed gate anything may come
  pub after_same : (c : List ℕ) → KeepsBefore (gate + 1) file c → SameEntries file c
  after_same c same =
      let size : length file ≡ gate + 1 = ap length rests.bytes ∙ length-at_rest bodies ∙ ap (λ n. n + 1) (sym rests.place) in
      let start : take (gate + 1) c ≡ at_rest bodies = same ∙ take_all (gate + 1) file (omega (arith, size)) ∙ rests.bytes in
      let more = drop (gate + 1) c in
      let whole : c ≡ header ++ (blocks bodies ++ 0 ∷ more) = sym (take-append-drop (gate + 1) c) ∙ ap (λ (l : List ℕ). l ++ more) start ∙ ap (λ (l : List ℕ). header ++ l) (append_assoc (blocks bodies) (0 ∷ []) more) in
      (bodies, rests_entries gate bodies file rests, entries_closed c bodies 0 more rests.fit (inl (λ no. cc)) whole)

  module _ (body : List ℕ) (is : IsBody body) where
    staged_bytes : staged body file ≡ prefix ++ 0 ∷ (block body ++ 0 ∷ [])
    staged_bytes = ap (λ (l : List ℕ). l ++ (block body ++ 0 ∷ [])) rests.bytes ∙ simp append_assoc

    -- the entry with this gate
    gated : (g : ℕ) → prefix ++ g ∷ (block body ++ 0 ∷ []) ≡ header ++ (blocks bodies ++ g ∷ (block body ++ 0 ∷ []))
    gated g = append_assoc header (blocks bodies) (g ∷ (block body ++ 0 ∷ []))

    with_entry : prefix ++ open_gate ∷ (block body ++ 0 ∷ []) ≡ at_rest (bodies ++ body ∷ [])
    with_entry = gated open_gate ∙ ap (λ (l : List ℕ). header ++ l) (sym (blocks-push bodies body (0 ∷ [])))

    fit_now : AreBodies (bodies ++ body ∷ [])
    fit_now = AreBodies-push bodies body rests.fit is

    -- the gate may be torn
    pub torn_gate : (c : List ℕ) → Torn gate 1 (staged body file) c → KeepsOrGains body file c
    torn_gate c torn =
        let g = get_or c gate 0 in
        let whole : c ≡ prefix ++ g ∷ (block body ++ 0 ∷ []) = torn_one prefix (block body ++ 0 ∷ []) 0 gate c prefix_end (subst (λ l. Torn gate 1 l c) staged_bytes torn) in
        let old = rests_entries gate bodies file rests in
        elim (cases_eq g open_gate) [
          | inl opened ↦ inr (bodies, old, rests_entries _ (bodies ++ body ∷ []) c (record { bytes = whole ∙ ap (λ (k : ℕ). prefix ++ k ∷ (block body ++ 0 ∷ [])) opened ∙ with_entry; fit = fit_now; place = refl }))
          | inr shut ↦ inl (inr (bodies, old, entries_closed c bodies g (block body ++ 0 ∷ []) rests.fit (inl shut) (whole ∙ gated g)))
        ]

    pub gate_written : RestsAt (gate + (5 + length body)) (bodies ++ body ∷ []) (overlaid (staged body file) gate (open_gate ∷ []))
    gate_written = record {
      bytes = ap (λ (l : List ℕ). overlaid l gate (open_gate ∷ [])) staged_bytes ∙ overlaid_one prefix (block body ++ 0 ∷ []) 0 open_gate gate prefix_end ∙ with_entry;
      fit = fit_now;
      place = omega (arith, rests.place, gate_place-push bodies body);
    }

-- the file as it reads after each of the two calls, also where they fail
module _ (gate : ℕ) (body : List ℕ) (is : IsBody body) (a : Option (List ℕ)) (rests : ForSome a (Rests gate)) where
  pub staged_file : (b : Option (List ℕ)) → Changes (KeepsBefore (gate + 1)) a b → Changes (KeepsOrGains body) a b
  staged_file b =
      Changes-weaker (KeepsBefore (gate + 1)) (KeepsOrGains body) a b
      (λ f c known same. let r = rests f known in inl (inr (after_same gate r.0 f r.1 c same)))

  pub gated_file : (b c : Option (List ℕ)) → b ≡ option_map (staged body) a → Changes (Torn gate 1) b c → Changes (KeepsOrGains body) a c
  gated_file b c written =
      Changes-trans (λ f m. m ≡ staged body f) (Torn gate 1) (KeepsOrGains body) a b c
      (λ f m g known now at torn. let r = rests f known in torn_gate gate r.0 f r.1 body is g (subst (λ l. Torn gate 1 l g) at torn))
      (Changes-mapped (staged body) a b written)

module _ (gate : ℕ) (body : List ℕ) (is : IsBody body) (old mid : View) (lawful : IsLawful old) (opened : IsOpened gate old) where
  rests_of : (c : List ℕ) → old.image c → (bodies : List (List ℕ)) × RestsAt gate bodies c
  rests_of c image = opened.rests c (opened.settled c image)

  abbrev P : World → List ℕ → Type 0
  P = LeftBy (KeepsOrGains body) old

  before_gate : (w : World) (c : List ℕ) → LeftBy (KeepsBefore (gate + 1)) old w c → P w c
  before_gate w c p =
      let rests = rests_of p.1.0 p.1.1 in
      (p.0, (p.1.0, p.1.1, inl (inr (after_same gate rests.0 p.1.0 rests.1 c p.1.2))))

  pub staging_leaves : Runs (KeepsBefore (gate + 1)) old mid → LeavesOnly old mid P
  staging_leaves run = LeavesOnly-weaker old mid (LeftBy (KeepsBefore (gate + 1)) old) P run.leaves before_gate

  module _ (new : View) (run : Runs (KeepsBefore (gate + 1)) old mid) (written : mid.file ≡ option_map (staged body) old.file) where
    pub gate_leaves : ((c : List ℕ) → mid.image c → mid.file ≡ Some c) → LeavesOnly mid new (LeftBy (Torn gate 1) mid) → LeavesOnly old new P
    gate_leaves settled leaves =
        LeavesOnly-trans old mid new (LeftBy (KeepsBefore (gate + 1)) old) (LeftBy (Torn gate 1) mid) P run.leaves leaves before_gate
        (λ w c p.
        let was = known_before (staged body) old.file p.1.0 (sym written ∙ settled p.1.0 p.1.1) in
        let rests = opened.rests was.0 was.1 in
        (world_before old mid w run.link p.0, (was.0, lawful.reads was.0 was.1, torn_gate gate rests.0 was.0 rests.1 body is c (subst (λ l. Torn gate 1 l c) was.2 p.1.2))))

    module _ (opening : new.file ≡ option_map (λ f. overlaid f gate (open_gate ∷ [])) mid.file) where
      -- the file at entry, and what has become of it
      known_then : (g : List ℕ) → new.file ≡ Some g → (f : List ℕ) × (old.file ≡ Some f) × (g ≡ overlaid (staged body f) gate (open_gate ∷ []))
      known_then g now =
          let m = known_before (λ f. overlaid f gate (open_gate ∷ [])) mid.file g (sym opening ∙ now) in
          let f = known_before (staged body) old.file m.0 (sym written ∙ m.1) in
          (f.0, f.1, m.2 ∙ ap (λ (l : List ℕ). overlaid l gate (open_gate ∷ [])) f.2)

      known_now : (f : List ℕ) → old.file ≡ Some f → new.file ≡ Some (overlaid (staged body f) gate (open_gate ∷ []))
      known_now f was = opening ∙ ap (option_map (λ l. overlaid l gate (open_gate ∷ []))) (written ∙ ap (option_map (staged body)) was)

      gains : (f : List ℕ) → old.file ≡ Some f → Gains body f (overlaid (staged body f) gate (open_gate ∷ []))
      gains f was =
          let rests = opened.rests f was in
          (rests.0, rests_entries gate rests.0 f rests.1, rests_entries _ _ _ (gate_written gate rests.0 f rests.1 body is))

      pub file_gains : Changes (Gains body) old.file new.file
      file_gains = record {
        on = λ f was. (overlaid (staged body f) gate (open_gate ∷ []), known_now f was, gains f was);
        back = λ g now. let f = known_then g now in (f.0, f.1, subst (Gains body f.0) (sym f.2) (gains f.0 f.1));
      }

      pub opened_again : (end : ℕ) → end ≡ gate + (5 + length body) → ((c : List ℕ) → new.image c → new.file ≡ Some c) → IsOpened end new
      opened_again end is_end settled = record {
        rests = λ g now.
            let f = known_then g now in
            let rests = opened.rests f.0 f.1 in
            (rests.0 ++ body ∷ [], subst (λ l. RestsAt end (rests.0 ++ body ∷ []) l) (sym f.2) (subst (λ n. RestsAt n (rests.0 ++ body ∷ []) (overlaid (staged body f.0) gate (open_gate ∷ []))) (sym is_end) (gate_written gate rests.0 f.0 rests.1 body is)));
        settled = settled;
      }
