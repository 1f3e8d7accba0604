-- Worlds that grow.
use Rattle.std.proofs.Common.{ℕ, ◌≤◌, List, ◌∷◌, ◌++◌, length, sym, ◌∙◌, ap, subst, arith, append_assoc, length-append}
use Rattle.std.specs.List.{Contains}
use Rattle.std.proofs.lemmas.List.Elements.{Contains-append_left}
use Rattle.pb_base.specs.World.{World, Heard}
use Rattle.pb_base.specs.declared.layout.Layout.{Layout}
use Rattle.pb_base.specs.History.{TableKey, History, IsFront, GoesOn, history}
use Rattle.pb_io.proofs.WorldLemmas.{history-later}
use Rattle.pb_archive.specs.Archive.{Archive, Extends, front, record_layout, told_definition}
use Rattle.pb_archive.specs.Truth.{Sound}
use Rattle.pb_archive.proofs.ListLemmas.{slice_get-IsFront}
use Rattle.pb_archive.proofs.TruthLemmas.{sound_table_later, sound_later}
use Rattle.pb_truth.specs.Asked.{AsksNothing}
use Rattle.pb_truth.specs.Honest.{Honest}
use Rattle.pb_truth.specs.Image.{Good}
use Rattle.pb_truth.specs.Learning.{Known, BeginsContent, SoundKnown}
use Rattle.pb_truth.proofs.AskedLemmas.{asked_quietly}

pub sound_grown_world : (w more : World) (a : Archive) → Sound a (history w) → Sound a (history (w ++ more))
sound_grown_world w more a sound = sound_later a (history w) (history (w ++ more)) (history-later w more) sound

pub good_quietly : (w more : World) (image : List ℕ) → Good w image → AsksNothing more → Good (w ++ more) image
good_quietly w more image good none = record {
  archive = good.archive;
  has = good.has;
  sound = sound_grown_world w more good.archive good.sound;
  asked = asked_quietly w more good.archive good.asked none;
}

Contains-IsFront : {A : Type 0} (x : A) (xs ys : List A) → IsFront xs ys → Contains xs x → Contains ys x
Contains-IsFront x xs ys (more, same) has = subst (λ l. Contains l x) (sym same) (Contains-append_left xs more x has)

length-IsFront : {A : Type 0} (xs ys : List A) → IsFront xs ys → length xs ≤ length ys
length-IsFront xs ys (more, same) = omega (arith, ap length same, length-append xs more)

pub honest_prefix : (w more : World) (a : Archive) → Honest (w ++ more) a → Honest w a
honest_prefix w more a honest = record {
  answers = λ before after byte m split hears is own.
      honest.answers before (after ++ more) byte m (ap (λ l. l ++ more) split ∙ append_assoc before (Heard byte ∷ after) more) hears is own;
  defined = λ id t d is has.
      honest.defined id t d is
      (Contains-IsFront d (history w t.key).definitions (history (w ++ more) t.key).definitions (history-later w more t.key).definitions has);
  few = λ key.
      omega (arith, honest.few key, length-IsFront (history w key).records (history (w ++ more) key).records (history-later w more key).records);
}

-- an archive with fewer tables or lower fronts
pub honest_fewer : (w : World) (a b : Archive) → Extends a b → Honest w b → Honest w a
honest_fewer w a b extends honest = record {
  answers = λ before after byte m split hears is own. honest.answers before after byte m split hears is (own ∙ sym (ap (λ p. p.me) extends.plan));
  defined = λ id t d is has.
      let e = extends.tables id t is in
      honest.defined id e.0 d e.1 (subst (λ (k : TableKey). Contains (history w k).definitions d) (sym e.2.key) has) ∙ ap told_definition e.2.definition;
  few = honest.few;
}

begins_later : (layout : Layout) (old new : History) (number : ℕ) (bytes : List ℕ) → GoesOn old new → BeginsContent layout old number bytes → BeginsContent layout new number bytes
begins_later layout old new number bytes later b = record {
  stored = b.stored;
  is = slice_get-IsFront old.records new.records number b.stored later.records b.is;
  sized = b.sized;
  after = b.after;
  parts = b.parts;
}

pub known_later : (w more : World) (k : Known) → SoundKnown k (history w k.table.key) → SoundKnown k (history (w ++ more) k.table.key)
known_later w more k sound =
    let later = history-later w more k.table.key in
    record {
      table = sound_table_later k.table (history w k.table.key) (history (w ++ more) k.table.key) later sound.table;
      partial = λ some. begins_later (record_layout k.table.definition) (history w k.table.key) (history (w ++ more) k.table.key) (front k.table) k.partial later (sound.partial some);
    }
