-- Images that a crash leaves stay good.
use Rattle.std.proofs.Common.{◌≡◌, ⊎_elim, List, ℕ, ◌++◌, sym, subst}
use Rattle.pb_base.specs.World.{World}
use Rattle.pb_base.specs.History.{history}
use Rattle.pb_base.specs.Request.{Request}
use Rattle.pb_archive.specs.Archive.{Archive, Extends}
use Rattle.pb_archive.specs.Entry.{Change, IsAllowed, IsArchive, archive_after}
use Rattle.pb_archive.specs.Held.{HasArchive, SameArchive, Makes, KeepsOrMakes}
use Rattle.pb_archive.specs.Truth.{Sound}
use Rattle.pb_journal.specs.Entries.{Entries}
use Rattle.pb_truth.specs.Asked.{WasAsked, Allows, IsOwn, AskedBelow}
use Rattle.pb_truth.specs.Image.{StaysTrue, Good}
use Rattle.pb_truth.proofs.AskedLemmas.{asked_more, asked_extends}
use Rattle.pb_truth.proofs.GrowthLemmas.{sound_grown_world}
use Rattle.pb_truth.proofs.TableLemmas.{sound_after}

pub good_asked : (w more : World) (image : List ℕ) → Good w image
    → ((a : Archive) (r : Request) → HasArchive image a → WasAsked more r → IsOwn a r.me → Allows a r) → Good (w ++ more) image
good_asked w more image good allowed = record {
  archive = good.archive;
  has = good.has;
  sound = sound_grown_world w more good.archive good.sound;
  asked = asked_more w more good.archive good.asked (λ r is own. allowed good.archive r good.has is own);
}

abbrev pub OneList : Type 0
OneList = (file : List ℕ) (one other : List (List ℕ)) → Entries file one → Entries file other → one ≡ other

abbrev pub OneArchive : Type 0
OneArchive = (bodies : List (List ℕ)) (a b : Archive) → IsArchive bodies a → IsArchive bodies b → a ≡ b

abbrev pub TakesNothingBack : Type 0
TakesNothingBack = (a : Archive) (change : Change) → IsAllowed a change → Extends a (archive_after a change)

one_of_file : OneList → OneArchive → (file : List ℕ) (a b : Archive) → HasArchive file a → HasArchive file b → a ≡ b
one_of_file one_list one_archive file a b x y =
    one_archive y.bodies a b (subst (λ bodies. IsArchive bodies a) (one_list file x.bodies y.bodies x.entries y.entries) x.archive) y.archive

-- what is so of the archive of a good image
pub good_of : OneList → OneArchive → (w : World) (image : List ℕ) (a : Archive) → Good w image → HasArchive image a → Sound a (history w) × AskedBelow w a
good_of one_list one_archive w image a good has =
    let same = one_of_file one_list one_archive image good.archive a good.has has in
    (subst (λ x. Sound x (history w)) same good.sound, subst (λ x. AskedBelow w x) same good.asked)

pub good_changed : OneList → OneArchive → TakesNothingBack → (w : World) (old new : List ℕ) (change : Change) → Good w old
    → ((a : Archive) → HasArchive old a → StaysTrue w a change) → KeepsOrMakes change old new → Good w new
good_changed one_list one_archive extends w old new change good stays left =
    ⊎_elim (λ same. subst (λ x. Good w x) (sym same) good)
    (λ changed. ⊎_elim (λ kept. keeps kept) (λ made. makes made) changed) left
  where
    keeps : SameArchive old new → Good w new
    keeps kept =
        let of = good_of one_list one_archive w old kept.0 good kept.1 in
        record { archive = kept.0; has = kept.2; sound = of.0; asked = of.1 }

    makes : Makes change old new → Good w new
    makes made =
        let a = made.archive in
        let of = good_of one_list one_archive w old a good made.before in
        record {
          archive = archive_after a change;
          has = made.after;
          sound = sound_after w a change of.0 (stays a made.before);
          asked = asked_extends w a (archive_after a change) (extends a change made.allowed) of.1;
        }
