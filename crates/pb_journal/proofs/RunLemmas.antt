-- How disk calls that only read follow one another, and what stays before a place.
use Rattle.std.proofs.Common.{◌≡◌, ℕ, ◌≤◌, List, take, refl, sym, ◌∙◌, ap}
use Rattle.std.proofs.lemmas.List.{take-take}
use Rattle.pb_io.specs.Disk.{ReadsOnly}
use Rattle.pb_io.specs.View.{View, IsLawful, Elapses}
use Rattle.pb_io.proofs.RunLemmas.{Runs-none, Runs-sync, Runs-trans}
use Rattle.pb_journal.specs.Changes.{Same}
use Rattle.pb_journal.specs.Inside.{KeepsBefore, Peeks}

-- what is before a smaller place stays, too
pub KeepsBefore-lower : (at floor : ℕ) (old new : List ℕ) → floor ≤ at → KeepsBefore at old new → KeepsBefore floor old new
KeepsBefore-lower at floor old new le same =
    sym (take-take floor at new le) ∙ ap (λ (l : List ℕ). take floor l) same ∙ take-take floor at old le

pub KeepsBefore-trans : (at : ℕ) (x y z : List ℕ) → KeepsBefore at x y → KeepsBefore at y z → KeepsBefore at x z
KeepsBefore-trans at x y z one two = two ∙ one

pub Same-trans : (x y z : List ℕ) → Same x y → Same y z → Same x z
Same-trans x y z one two = two ∙ one

-- a call that looks
pub Peeks-one : (old new : View) → IsLawful old → ReadsOnly old new → new.link ≡ old.link → Elapses old new → old.faults ≤ new.faults → Peeks old new
Peeks-one old new lawful looks link time later = record { disk = looks; run = Runs-sync Same old new lawful (λ c. refl) looks.fewer link time later }

pub Peeks-none : (d : View) → IsLawful d → Peeks d d
Peeks-none d lawful = record { disk = record { file = refl; fewer = λ c is. is; more = λ c is. is }; run = Runs-none Same d lawful (λ c. refl) }

pub Peeks-trans : (old mid new : View) → Peeks old mid → Peeks mid new → Peeks old new
Peeks-trans old mid new first second = record {
  disk = record {
    file = second.disk.file ∙ first.disk.file;
    fewer = λ c is. first.disk.fewer c (second.disk.fewer c is);
    more = λ c is. second.disk.more c (first.disk.more c is);
  };
  run = Runs-trans Same Same-trans old mid new first.run second.run;
}
