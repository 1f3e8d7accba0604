-- What a crash leaves while a journal is made.
use Rattle.std.proofs.Common.{◌≡◌, ◌⊎◌, inl, inr, ⊎_elim, ℕ, ◌≤◌, List, [], ◌∷◌, length, get_or, Some, refl, sym, ◌∙◌, ap, subst, arith}
use Rattle.pb_io.proofs.RunLemmas.{Runs-trans, Runs-weaker, world_before}
use Rattle.std.specs.Option.{ForSome, option_map}
use Rattle.std.specs.Prelude.{Option}
use Rattle.std.proofs.lemmas.Bool.{cases_eq, cases_lt}
use Rattle.std.proofs.lemmas.List.{drop_all, get_or-take}
use Rattle.pb_base.specs.World.{World}
use Rattle.pb_io.specs.Crash.{Torn, overlaid, overlaid_twice, Changes}
use Rattle.pb_io.specs.Settled.{InOrder, LeftBy, Runs, TornInOrder}
use Rattle.pb_io.specs.View.{View, IsLawful, LeavesOnly}
use Rattle.pb_io.proofs.CrashLemmas.{known_before, Torn-no_longer, Changes-mapped, Changes-trans}
use Rattle.pb_io.proofs.Moments.{LeavesOnly-trans, LeavesOnly-weaker}
use Rattle.pb_journal.specs.Changes.{KeepsOrBegins, Same}
use Rattle.pb_journal.specs.Entries.{first_byte, Entries}
use Rattle.pb_journal.specs.Inside.{Peeks, StaysVacant}
use Rattle.pb_journal.specs.Refusals.{IsVacant}
use Rattle.pb_journal.proofs.EntryLemmas.{entries_closed, torn_one}

-- PBKARC1 and a gate of 00
abbrev pub after_first : List ℕ
after_first = 80 ∷ 66 ∷ 75 ∷ 65 ∷ 82 ∷ 67 ∷ 49 ∷ 0 ∷ []

pub StaysVacant-trans : (x y z : List ℕ) → StaysVacant x y → StaysVacant y z → StaysVacant x z
StaysVacant-trans x y z (inl one) two = subst (λ l. StaysVacant l z) one two
StaysVacant-trans x y z (inr one) (inl two) = inr (one.0, subst IsVacant (sym two) one.1)
StaysVacant-trans x y z (inr one) (inr two) = inr (one.0, two.1)

blank_bytes : (f : List ℕ) → length f ≤ 1 → overlaid f 0 (0 ∷ []) ≡ 0 ∷ []
blank_bytes f short = ap (λ (l : List ℕ). 0 ∷ l) (drop_all 1 f short)

torn_first : (d c : List ℕ) → length d ≤ 1 → Torn 0 1 d c → IsVacant c
torn_first d c short torn = inl (omega (arith, Torn-no_longer 0 1 d c torn, short))

torn_second : (c : List ℕ) → Torn 1 8 (0 ∷ []) c → IsVacant c
torn_second c torn =
    let long = Torn-no_longer 1 8 (0 ∷ []) c torn in
    let first : get_or c 0 0 ≡ 0 = sym (get_or-take 1 c 0 0 (omega arith)) ∙ ap (λ (l : List ℕ). get_or l 0 0) torn.before in
    ⊎_elim (λ lt. inl lt) (λ le. inr (omega (arith, le, long), λ is. omega (arith, is, first))) (cases_lt (length c) 9)

torn_last : (c : List ℕ) → Torn 0 1 (0 ∷ after_first) c → IsVacant c ⊎ Entries c []
torn_last c torn =
    let g = get_or c 0 0 in
    let whole : c ≡ g ∷ after_first = torn_one [] after_first 0 0 c refl torn in
    ⊎_elim (λ is. inr (entries_closed c [] 0 [] tt (inr refl) (whole ∙ ap (λ (k : ℕ). k ∷ after_first) is))) (λ other. inl (inr (ap length whole, other))) (cases_eq g first_byte)

-- the file as it reads after each of the last two calls, also where they fail
module _ (a b c : Option (List ℕ)) (vacant : ForSome a IsVacant) (looked : b ≡ a) (cut : Changes (λ f g. length g ≤ 1) b c) where
  cut_first : Changes (λ f g. length g ≤ 1) a c
  cut_first = subst (λ (o : Option (List ℕ)). Changes (λ f g. length g ≤ 1) o c) looked cut

  torn_both : (m g : List ℕ) → length m ≤ 1 → TornInOrder 0 (0 ∷ []) 1 8 m g → IsVacant g
  torn_both m g short (inl torn) = torn_first m g short torn
  torn_both m g short (inr torn) = torn_second g (subst (λ l. Torn 1 8 l g) (blank_bytes m short) torn)

  pub written_file : (d : Option (List ℕ)) → Changes (TornInOrder 0 (0 ∷ []) 1 8) c d → Changes KeepsOrBegins a d
  written_file d =
      Changes-trans (λ f g. length g ≤ 1) (TornInOrder 0 (0 ∷ []) 1 8) KeepsOrBegins a c d
      (λ f m g is now short torn. inr (vacant f is, inl (torn_both m g short torn))) cut_first

  pub begun_file : (d e : Option (List ℕ)) → d ≡ option_map (overlaid_twice 0 (0 ∷ []) 1 after_first) c → Changes (Torn 0 1) d e → Changes KeepsOrBegins a e
  begun_file d e written =
      Changes-trans (λ f m. m ≡ 0 ∷ after_first) (Torn 0 1) KeepsOrBegins a d e
      (λ f m g is now at torn. inr (vacant f is, torn_last g (subst (λ l. Torn 0 1 l g) at torn)))
      (Changes-trans (λ f g. length g ≤ 1) (λ m g. g ≡ overlaid_twice 0 (0 ∷ []) 1 after_first m) (λ f m. m ≡ 0 ∷ after_first) a c d
      (λ f m g is now short at. at ∙ ap (λ (l : List ℕ). overlaid l 1 after_first) (blank_bytes m short)) cut_first
      (Changes-mapped (overlaid_twice 0 (0 ∷ []) 1 after_first) c d written))

module _ (old looked short : View) (lawful : IsLawful old) (vacant : ForSome old.file IsVacant) (peeks : Peeks old looked) (run : Runs StaysVacant looked short) where
  abbrev P : World → List ℕ → Type 0
  P = LeftBy KeepsOrBegins old

  both : Runs StaysVacant old short
  both = Runs-trans StaysVacant StaysVacant-trans old looked short (Runs-weaker Same StaysVacant old looked (λ d c image same. inl same) peeks.run) run

  first_leaves : (w : World) (c : List ℕ) → LeftBy StaysVacant old w c → P w c
  first_leaves w c p = (p.0, (p.1.0, p.1.1, ⊎_elim (λ same. inl same) (λ (was, is). inr (was, inl is)) p.1.2))

  pub shorten_leaves : LeavesOnly old short P
  shorten_leaves = LeavesOnly-weaker old short (LeftBy StaysVacant old) P both.leaves first_leaves

  module _ (made : View) (cut : Changes (λ f g. length g ≤ 1) looked.file short.file) (settled : (c : List ℕ) → short.image c → short.file ≡ Some c)
      (writing : LeavesOnly short made (InOrder 0 (0 ∷ []) 1 8 short)) where
    -- what stands for no journal, or for one without entries, where the file was vacant
    then : (w : World) (d c : List ℕ) → short.link.world ≡ Some w → short.file ≡ Some d → IsVacant c ⊎ Entries c [] → P w c
    then w d c world view is =
        let was = cut.back d view in
        let known_old : old.file ≡ Some was.0 = sym peeks.disk.file ∙ was.1 in
        (world_before old short w both.link world, (was.0, lawful.reads was.0 known_old, inr (vacant was.0 known_old, is)))

    size_of : (d : List ℕ) → short.file ≡ Some d → length d ≤ 1
    size_of d view = (cut.back d view).2

    second_leaves : (w : World) (c : List ℕ) → InOrder 0 (0 ∷ []) 1 8 short w c → P w c
    second_leaves w c (inl p) =
        let view = settled p.1.0 p.1.1 in
        then w p.1.0 c p.0 view (inl (torn_first p.1.0 c (size_of p.1.0 view) p.1.2))
    second_leaves w c (inr p) =
        then w p.1.0 c p.0 p.1.1 (inl (torn_second c (subst (λ l. Torn 1 8 l c) (blank_bytes p.1.0 (size_of p.1.0 p.1.1)) p.1.2)))

    pub writing_leaves : LeavesOnly old made P
    writing_leaves = LeavesOnly-trans old short made (LeftBy StaysVacant old) (InOrder 0 (0 ∷ []) 1 8 short) P both.leaves writing first_leaves second_leaves

    pub opening_leaves : (new : View) → made.file ≡ option_map (overlaid_twice 0 (0 ∷ []) 1 after_first) short.file → made.link ≡ short.link → ((c : List ℕ) → made.image c → made.file ≡ Some c)
        → LeavesOnly made new (LeftBy (Torn 0 1) made) → LeavesOnly old new P
    opening_leaves new written link settled_made leaves =
        LeavesOnly-trans old made new P (LeftBy (Torn 0 1) made) P writing_leaves leaves (λ w c p. p)
        (λ w c p.
        let was = known_before (overlaid_twice 0 (0 ∷ []) 1 after_first) short.file p.1.0 (sym written ∙ settled_made p.1.0 p.1.1) in
        let bytes : p.1.0 ≡ 0 ∷ after_first = was.2 ∙ ap (λ (l : List ℕ). overlaid l 1 after_first) (blank_bytes was.0 (size_of was.0 was.1)) in
        then w was.0 c (world_before short made w link p.0) was.1 (torn_last c (subst (λ l. Torn 0 1 l c) bytes p.1.2)))
