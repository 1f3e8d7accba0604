-- What the calls of a disk in memory do to what it reports.
use Rattle.std.proofs.Common.{◌≡◌, inl, inr, ⊎_elim, ℕ, ◌+◌, ◌≤◌, List, [], ◌∷◌, length, Some, refl, sym, ◌∙◌, ap, subst, arith}
use Rattle.std.proofs.lemmas.Option.{same_Some}
use Rattle.pb_io.specs.Crash.{max_file_len, Torn, Shortened, AriseBy, Changes}
use Rattle.pb_io.specs.Disk.{ReadsOnly}
use Rattle.pb_io.specs.DiskLaws.{overlaid-torn, take-shortened, file_wrote, file-image, first_whole}
use Rattle.pb_io.specs.DiskLog.{Change, Wrote, Cut, Synced, Linked, file_of, image_of, DiskLog, disk_view}
use Rattle.pb_io.specs.View.{Elapses}

-- a value that differs only in what was logged and counted
logged : (new : DiskLog) (first : List ℕ) (changes : List Change) (P : DiskLog → Type 0) → new.first ≡ first → new.changes ≡ changes → P (record { first = first; changes = changes; calls = new.calls }) → P new
logged new first changes P is_first is_changes p =
    subst (λ f. P (record { first = f; changes = new.changes; calls = new.calls })) (sym is_first) (subst (λ l. P (record { first = first; changes = l; calls = new.calls })) (sym is_changes) p)

-- nothing was logged
pub still : (old new : DiskLog) (a b m n : ℕ) → new.first ≡ old.first → new.changes ≡ old.changes → Elapses (disk_view old a b) (disk_view new m n)
still old new a b m n first changes =
    logged new old.first old.changes (λ d. Elapses (disk_view old a b) (disk_view d m n)) first changes (record { later = omega arith; nothing_else = λ t w c le left. inl left; keeps = λ t w c le left. left })

pub looks : (old new : DiskLog) (a b m n : ℕ) → new.first ≡ old.first → new.changes ≡ old.changes → ReadsOnly (disk_view old a b) (disk_view new m n)
looks old new a b m n first changes =
    logged new old.first old.changes (λ d. ReadsOnly (disk_view old a b) (disk_view d m n)) first changes (record { file = refl; fewer = λ c is. is; more = λ c is. is })

-- one change was logged
pub moves : (old new : DiskLog) (change : Change) (a b m n : ℕ) → new.first ≡ old.first → new.changes ≡ change ∷ old.changes → Elapses (disk_view old a b) (disk_view new m n)
moves old new change a b m n first changes =
    logged new old.first (change ∷ old.changes) (λ d. Elapses (disk_view old a b) (disk_view d m n)) first changes (record {
      later = omega arith;
      nothing_else = λ t w c le left. ⊎_elim (λ now. inr (ap (λ x. Some x) (sym now.1), now.2)) inl left;
      keeps = λ t w c le left. inr left;
    })

pub looks-linked : (old new : DiskLog) (events : List _) (a b m n : ℕ) → new.first ≡ old.first → new.changes ≡ Linked events ∷ old.changes → ReadsOnly (disk_view old a b) (disk_view new m n)
looks-linked old new events a b m n first changes =
    logged new old.first (Linked events ∷ old.changes) (λ d. ReadsOnly (disk_view old a b) (disk_view d m n)) first changes (record { file = refl; fewer = λ c is. is; more = λ c is. is })

-- a known file makes a step
changes_step : (step : List ℕ → List ℕ → Type 0) (f g : List ℕ) → step f g → Changes step (Some f) (Some g)
changes_step step f g made = record {
  on = λ h is. (g, refl, subst (λ x. step x g) (same_Some f h is) made);
  back = λ h is. (f, refl, subst (step f) (same_Some g h is) made);
}

pub kept-torn : (old new : DiskLog) (at size a b m n : ℕ) → new.first ≡ old.first → new.changes ≡ old.changes → Changes (Torn at size) (disk_view old a b).file (disk_view new m n).file
kept-torn old new at size a b m n first changes =
    logged new old.first old.changes (λ d. Changes (Torn at size) (disk_view old a b).file (disk_view d m n).file) first changes (changes_step (Torn at size) _ _ (record { before = refl; after = refl; no_shorter = omega arith }))

pub kept-images-torn : (old new : DiskLog) (at size a b m n : ℕ) → new.first ≡ old.first → new.changes ≡ old.changes → AriseBy (Torn at size) (disk_view old a b).image (disk_view new m n).image
kept-images-torn old new at size a b m n first changes =
    logged new old.first old.changes (λ d. AriseBy (Torn at size) (disk_view old a b).image (disk_view d m n).image) first changes (λ c is. (c, is, record { before = refl; after = refl; no_shorter = omega arith }))

pub kept-shortened : (old new : DiskLog) (len a b m n : ℕ) → new.first ≡ old.first → new.changes ≡ old.changes → Changes (Shortened len) (disk_view old a b).file (disk_view new m n).file
kept-shortened old new len a b m n first changes =
    logged new old.first old.changes (λ d. Changes (Shortened len) (disk_view old a b).file (disk_view d m n).file) first changes (changes_step (Shortened len) _ _ (record { before = refl; no_longer = omega arith }))

pub kept-images-shortened : (old new : DiskLog) (len a b m n : ℕ) → new.first ≡ old.first → new.changes ≡ old.changes → AriseBy (Shortened len) (disk_view old a b).image (disk_view new m n).image
kept-images-shortened old new len a b m n first changes =
    logged new old.first old.changes (λ d. AriseBy (Shortened len) (disk_view old a b).image (disk_view d m n).image) first changes (λ c is. (c, is, record { before = refl; no_longer = omega arith }))

pub wrote-file : (old new : DiskLog) (at : ℕ) (bytes : List ℕ) (a b m n : ℕ) → new.first ≡ old.first → new.changes ≡ Wrote at bytes ∷ old.changes → at ≤ length (file_of old.first old.changes) → at + length bytes ≤ max_file_len
    → Changes (Torn at (length bytes)) (disk_view old a b).file (disk_view new m n).file
wrote-file old new at bytes a b m n first changes within short =
    logged new old.first (Wrote at bytes ∷ old.changes) (λ d. Changes (Torn at (length bytes)) (disk_view old a b).file (disk_view d m n).file) first changes
    (changes_step (Torn at (length bytes)) _ _ (subst (Torn at (length bytes) (file_of old.first old.changes)) (sym (file_wrote old.first old.changes at bytes within short)) (overlaid-torn (file_of old.first old.changes) at bytes within)))

pub wrote-images : (old new : DiskLog) (at : ℕ) (bytes : List ℕ) (a b m n : ℕ) → new.first ≡ old.first → new.changes ≡ Wrote at bytes ∷ old.changes → AriseBy (Torn at (length bytes)) (disk_view old a b).image (disk_view new m n).image
wrote-images old new at bytes a b m n first changes =
    logged new old.first (Wrote at bytes ∷ old.changes) (λ d. AriseBy (Torn at (length bytes)) (disk_view old a b).image (disk_view d m n).image) first changes (λ c is. is.1)

pub cut-file : (old new : DiskLog) (len a b m n : ℕ) → new.first ≡ old.first → new.changes ≡ Cut len ∷ old.changes → Changes (Shortened len) (disk_view old a b).file (disk_view new m n).file
cut-file old new len a b m n first changes =
    logged new old.first (Cut len ∷ old.changes) (λ d. Changes (Shortened len) (disk_view old a b).file (disk_view d m n).file) first changes (changes_step (Shortened len) _ _ (take-shortened (file_of old.first old.changes) len))

pub cut-images : (old new : DiskLog) (len a b m n : ℕ) → new.first ≡ old.first → new.changes ≡ Cut len ∷ old.changes → AriseBy (Shortened len) (disk_view old a b).image (disk_view new m n).image
cut-images old new len a b m n first changes =
    logged new old.first (Cut len ∷ old.changes) (λ d. AriseBy (Shortened len) (disk_view old a b).image (disk_view d m n).image) first changes (λ c is. is)

-- the same of the file alone
pub wrote_file : (old : DiskLog) (first : List ℕ) (changes : List Change) (at : ℕ) (bytes : List ℕ) → first ≡ old.first → changes ≡ Wrote at bytes ∷ old.changes → at ≤ length (file_of old.first old.changes) → at + length bytes ≤ max_file_len
    → Changes (Torn at (length bytes)) (Some (file_of old.first old.changes)) (Some (file_of first changes))
wrote_file old first changes at bytes is_first is_changes within short =
    wrote-file old (record { first = first; changes = changes; calls = old.calls }) at bytes 0 0 0 0 is_first is_changes within short

-- a sync leaves one of the images that there were
pub synced_images : (old : DiskLog) (first : List ℕ) (changes : List Change) → first ≡ old.first → changes ≡ Synced ∷ old.changes → (c : List ℕ) → image_of first changes c → image_of old.first old.changes c
synced_images old first changes is_first is_changes c image =
    let now : image_of old.first (Synced ∷ old.changes) c = subst (λ l. image_of old.first l c) is_changes (subst (λ f. image_of f changes c) is_first image) in
    subst (image_of old.first old.changes) (sym now) (file-image old.first old.changes)

pub first_kept : (given bytes first : List ℕ) (changes : List Change) → bytes ≡ given → first ≡ given → changes ≡ [] → length given ≤ max_file_len → bytes ≡ file_of first changes
first_kept given bytes first changes is_bytes is_first none le =
    first_whole given bytes is_bytes le ∙ ap (λ f. file_of f []) (sym is_first) ∙ ap (file_of first) (sym none)
