-- What a crash leaves while a file's end is closed.
use Rattle.std.proofs.Common.{◌≡◌, inl, inr, ⊎_elim, ℕ, ◌+◌, ◌≤◌, List, [], ◌∷◌, ◌++◌, length, take, drop, get_or, Some, refl, sym, ◌∙◌, ap, subst, arith, length-append, append_assoc, take-append-drop}
use Rattle.std.specs.Prelude.{Option}
use Rattle.pb_io.specs.Settled.{Runs}
use Rattle.pb_io.proofs.RunLemmas.{Runs-trans, Runs-weaker}
use Rattle.std.specs.Option.{ForSome, option_map}
use Rattle.std.proofs.lemmas.List.{take_at, drop_all}
use Rattle.pb_io.specs.Crash.{Torn, Shortened, overlaid, Changes}
use Rattle.pb_io.specs.View.{View}
use Rattle.pb_io.proofs.CrashLemmas.{known_before, Changes-mapped, Changes-trans, Changes-weaker}
use Rattle.pb_journal.specs.Changes.{SameEntries, Keeps}
use Rattle.pb_journal.specs.Entries.{header, blocks, Entries}
use Rattle.pb_journal.specs.Inside.{EndsAt}
use Rattle.pb_journal.specs.Opened.{RestsAt, IsOpened}
use Rattle.pb_journal.proofs.EntryLemmas.{entries_closed, rests_entries, torn_one, overlaid_one}
use Rattle.pb_journal.proofs.LawLemmas.{Keeps-trans, SameEntries-trans}

module _ (gate : ℕ) (f : List ℕ) (ends : EndsAt gate f) where
  abbrev bodies : List (List ℕ)
  bodies = ends.bodies

  abbrev prefix : List ℕ
  prefix = header ++ blocks bodies

  abbrev g : ℕ
  g = ends.entries.closed.gate

  abbrev more : List ℕ
  more = ends.entries.closed.more

  prefix_end : gate ≡ length prefix
  prefix_end = omega (arith, ends.place, length-append header (blocks bodies))

  whole : f ≡ prefix ++ g ∷ more
  whole = ends.entries.bytes ∙ sym (append_assoc header (blocks bodies) ends.entries.tail) ∙ ap (λ (l : List ℕ). prefix ++ l) ends.entries.closed.bytes

  long : length f ≡ gate + 1 + length more
  long = omega (arith, ap length whole, length-append prefix (g ∷ more), prefix_end)

  pub within_end : gate + 1 ≤ length f
  within_end = omega (arith, long)

  cut_bytes : take (gate + 1) f ≡ prefix ++ g ∷ []
  cut_bytes =
      ap (λ (l : List ℕ). take (gate + 1) l) (whole ∙ sym (append_assoc prefix (g ∷ []) more))
      ∙ take_at (prefix ++ g ∷ []) more (gate + 1) (omega (arith, length-append prefix (g ∷ []), prefix_end))

  grouped : (b : ℕ) (rest : List ℕ) → prefix ++ b ∷ rest ≡ header ++ (blocks bodies ++ b ∷ rest)
  grouped b rest = append_assoc header (blocks bodies) (b ∷ rest)

  last : (b : ℕ) (c : List ℕ) → c ≡ prefix ++ b ∷ [] → Entries c bodies
  last b c is = entries_closed c bodies b [] ends.entries.fit (inr refl) (is ∙ grouped b [])

  -- a cut that may have stopped anywhere
  pub cut_same : (c : List ℕ) → Shortened (gate + 1) f c → SameEntries f c
  cut_same c cut =
      let rest = drop (gate + 1) c in
      let is : c ≡ prefix ++ g ∷ rest = sym (take-append-drop (gate + 1) c) ∙ ap (λ (l : List ℕ). l ++ rest) (cut.before ∙ cut_bytes) ∙ append_assoc prefix (g ∷ []) rest in (
        bodies,
        ends.entries,
        entries_closed c bodies g rest ends.entries.fit
            (⊎_elim (λ other. inl other) (λ none. inr (drop_all (gate + 1) c (omega (arith, cut.no_longer, long, ap length none)))) ends.entries.closed.closed) (is ∙ grouped g rest),
      )

  -- the file that is cut, and one in which its gate is torn
  pub shut_same : SameEntries f (take (gate + 1) f)
  shut_same = (bodies, ends.entries, last g (take (gate + 1) f) cut_bytes)

  pub torn_same : (c : List ℕ) → Torn gate 1 (take (gate + 1) f) c → SameEntries (take (gate + 1) f) c
  torn_same c torn =
      (bodies, last g (take (gate + 1) f) cut_bytes, last (get_or c gate 0) c (torn_one prefix [] g gate c prefix_end (subst (λ l. Torn gate 1 l c) cut_bytes torn)))

  pub closed_rests : RestsAt gate bodies (overlaid (take (gate + 1) f) gate (0 ∷ []))
  closed_rests = record {
    bytes = ap (λ (l : List ℕ). overlaid l gate (0 ∷ [])) cut_bytes ∙ overlaid_one prefix [] g 0 gate prefix_end ∙ grouped 0 [];
    fit = ends.entries.fit;
    place = ends.place;
  }

-- the file as it reads after each of the two calls, also where they fail
module _ (gate : ℕ) (a : Option (List ℕ)) (ends : ForSome a (EndsAt gate)) where
  pub cut_file : (b : Option (List ℕ)) → Changes (Shortened (gate + 1)) a b → Changes Keeps a b
  cut_file b = Changes-weaker (Shortened (gate + 1)) Keeps a b (λ f g is cut. inr (cut_same gate f (ends f is) g cut))

  pub shut_file : (b c : Option (List ℕ)) → b ≡ option_map (take (gate + 1)) a → Changes (Torn gate 1) b c → Changes Keeps a c
  shut_file b c cut =
      Changes-trans (λ f m. m ≡ take (gate + 1) f) (Torn gate 1) Keeps a b c
      (λ f m g is known at torn.
      let e = ends f is in
      inr (SameEntries-trans f (take (gate + 1) f) g (shut_same gate f e) (torn_same gate f e g (subst (λ l. Torn gate 1 l g) at torn))))
      (Changes-mapped (take (gate + 1)) a b cut)

module _ (gate : ℕ) (old one : View) (ends : ForSome old.file (EndsAt gate)) (settled : (c : List ℕ) → old.image c → old.file ≡ Some c) where
  pub cut_run : Runs (Shortened (gate + 1)) old one → Runs Keeps old one
  cut_run run = Runs-weaker (Shortened (gate + 1)) Keeps old one (λ d c image step. inr (cut_same gate d (ends d (settled d image)) c step)) run

  module _ (new : View) (cut : one.file ≡ option_map (take (gate + 1)) old.file) (settled_one : (c : List ℕ) → one.image c → one.file ≡ Some c) where
    pub shut_run : Runs (Shortened (gate + 1)) old one → Runs (Torn gate 1) one new → Runs Keeps old new
    shut_run first second =
        Runs-trans Keeps Keeps-trans old one new (cut_run first)
        (Runs-weaker (Torn gate 1) Keeps one new
        (λ d c image torn.
        let was = known_before (take (gate + 1)) old.file d (sym cut ∙ settled_one d image) in
        inr (subst (λ l. SameEntries l c) (sym was.2) (torn_same gate was.0 (ends was.0 was.1) c (subst (λ l. Torn gate 1 l c) was.2 torn))))
        second)

    module _ (wrote : new.file ≡ option_map (λ f. overlaid f gate (0 ∷ [])) one.file) where
      known_now : (f : List ℕ) → old.file ≡ Some f → new.file ≡ Some (overlaid (take (gate + 1) f) gate (0 ∷ []))
      known_now f was = wrote ∙ ap (option_map (λ l. overlaid l gate (0 ∷ []))) (cut ∙ ap (option_map (take (gate + 1))) was)

      known_then : (x : List ℕ) → new.file ≡ Some x → (f : List ℕ) × (old.file ≡ Some f) × (x ≡ overlaid (take (gate + 1) f) gate (0 ∷ []))
      known_then x now =
          let m = known_before (λ f. overlaid f gate (0 ∷ [])) one.file x (sym wrote ∙ now) in
          let f = known_before (take (gate + 1)) old.file m.0 (sym cut ∙ m.1) in
          (f.0, f.1, m.2 ∙ ap (λ (l : List ℕ). overlaid l gate (0 ∷ [])) f.2)

      same_then : (f : List ℕ) → old.file ≡ Some f → SameEntries f (overlaid (take (gate + 1) f) gate (0 ∷ []))
      same_then f was = let e = ends f was in (e.bodies, e.entries, rests_entries gate e.bodies _ (closed_rests gate f e))

      pub file_same : Changes SameEntries old.file new.file
      file_same = record {
        on = λ f was. (overlaid (take (gate + 1) f) gate (0 ∷ []), known_now f was, same_then f was);
        back = λ x now. let f = known_then x now in (f.0, f.1, subst (SameEntries f.0) (sym f.2) (same_then f.0 f.1));
      }

      pub opened : ((c : List ℕ) → new.image c → new.file ≡ Some c) → IsOpened gate new
      opened settled_new = record {
        rests = λ x now. let f = known_then x now in let e = ends f.0 f.1 in (e.bodies, subst (RestsAt gate e.bodies) (sym f.2) (closed_rests gate f.0 e));
        settled = settled_new;
      }
