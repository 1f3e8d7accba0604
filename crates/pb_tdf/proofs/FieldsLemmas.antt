-- Fields one after another, and their places.
use Rattle.std.proofs.Common.{◌≡◌, ℕ, ◌+◌, ◌-◌, List, [], ◌∷◌, ◌++◌, length, Some, None, Ok, Err, refl, ap, subst, ◌∙◌, arith}
use Rattle.std.specs.List.{flat_map}
use Rattle.std.proofs.lemmas.List.{length-append}
use Rattle.std.proofs.lemmas.List.Concat.{flat_map-cons}
use Rattle.pb_tdf.specs.declared.fault.TdfFault.{TdfFault}
use Rattle.pb_tdf.specs.declared.fault.TdfFault.TheVariants.{BadVersion, Short, NoEnd, BadType, TooMany, Memory}
use Rattle.pb_tdf.specs.declared.place.FieldPlace.{FieldPlace}
use Rattle.pb_tdf.specs.declared.totals.Totals.{Totals}
use Rattle.pb_tdf.specs.Definition.{Definition, FieldDefinition, field_bytes}
use Rattle.pb_tdf.specs.Inside.Items.{Limited}
use Rattle.pb_tdf.specs.Order.{Kind, at_item, Here}
use Rattle.pb_tdf.specs.Inside.Progress.{HasRead, header}
use Rattle.pb_tdf.specs.Inside.Kept.{IsPlace, ArePlaces}
use Rattle.pb_tdf.specs.Inside.Passing.{PassesFieldOrEnd, PassesSome, PassesFields, IsTotals, IsStopped}
use Rattle.pb_tdf.specs.Refusal.{HasCause}
use Rattle.pb_tdf.proofs.PrefixLemmas.{HasRead-reaches}
use Rattle.pb_tdf.proofs.PassLemmas.{passes-then, comes-then}

pub has_cause : (cause : TdfFault → Type 0) (fault : TdfFault) → cause fault → HasCause cause fault
has_cause cause BadVersion h = h
has_cause cause (Short at) h = h
has_cause cause (NoEnd at) h = h
has_cause cause (BadType at) h = h
has_cause cause (TooMany at) h = h
has_cause cause Memory h = tt

pub HasCause-weaker : (p q : TdfFault → Type 0) (fault : TdfFault) → ((f : TdfFault) → p f → q f) → HasCause p fault → HasCause q fault
HasCause-weaker p q BadVersion f h = f BadVersion h
HasCause-weaker p q (Short at) f h = f (Short at) h
HasCause-weaker p q (NoEnd at) f h = f (NoEnd at) h
HasCause-weaker p q (BadType at) f h = f (BadType at) h
HasCause-weaker p q (TooMany at) f h = f (TooMany at) h
HasCause-weaker p q Memory f h = tt

ArePlaces-last : (at : ℕ) (fields : List FieldDefinition) (places : List FieldPlace) (f : FieldDefinition) (place : FieldPlace) → ArePlaces at fields places
    → IsPlace (at + length (flat_map field_bytes fields)) f place → ArePlaces at (fields ++ f ∷ []) (places ++ place ∷ [])
ArePlaces-last at [] [] f place are is = (subst (λ (x : ℕ). IsPlace x f place) (omega arith) is, tt)
ArePlaces-last at [] (p ∷ places) f place are is = absurd are
ArePlaces-last at (g ∷ fields) [] f place are is = absurd are
ArePlaces-last at (g ∷ fields) (p ∷ places) f place are is =
    let len : length (flat_map field_bytes (g ∷ fields)) ≡ length (field_bytes g) + length (flat_map field_bytes fields) = ap length (flat_map-cons field_bytes g fields) ∙ length-append (field_bytes g) (flat_map field_bytes fields) in
    (are.0, ArePlaces-last (at + length (field_bytes g)) fields places f place are.1 (subst (λ (x : ℕ). IsPlace x f place) (omega (arith, len)) is))

pub passes-no-field : (old : Limited) (start : ℕ) (d : Definition) (f0 : FieldDefinition) (totals : Totals) → IsTotals [] totals → d.fields ≡ [] → PassesSome old old start d f0 [] totals
passes-no-field old start d f0 totals is none =
    record {
      fields = [];
      last = f0;
      passes = record { items = Here _ _ (ap (λ (x : List FieldDefinition). at_item Kind (record d { fields = x }) f0 old.left) none); same_limit = refl };
      sums = is;
      located = λ bytes st. tt;
    }

pub passes-one-more : (old mid new : Limited) (start : ℕ) (d : Definition) (f0 : FieldDefinition) (places : List FieldPlace) (totals with : Totals) (place : FieldPlace) → PassesSome old mid start d f0 places totals
    → PassesFieldOrEnd mid new start totals (Ok (Some (place, with))) → PassesSome old new start d f0 (places ++ place ∷ []) with
passes-one-more old mid new start d f0 places totals with place k more =
    let e : Definition = record d { fields = k.fields } in
    let h = more e k.last k.sums in
    record {
      fields = k.fields ++ h.field ∷ [];
      last = h.field;
      passes = passes-then _ _ _ _ _ _ k.passes h.passes;
      sums = h.sums;
      located = λ bytes st.
          let there = HasRead-reaches bytes start old.limit _ (at_item Kind e k.last mid.left) st k.passes.items in
          let len = length-append (header d) (flat_map field_bytes k.fields) in
          let at : mid.left.at - start ≡ length (header d) + length (flat_map field_bytes k.fields) = omega (arith, there.at, len) in
          ArePlaces-last (length (header d)) k.fields places h.field place (k.located bytes st) (subst (λ (x : ℕ). IsPlace x h.field place) at h.located);
    }

pub passes-all : (old mid new : Limited) (start : ℕ) (d : Definition) (f0 : FieldDefinition) (places : List FieldPlace) (totals : Totals) (bytes : List ℕ) → PassesSome old mid start d f0 places totals
    → PassesFieldOrEnd mid new start totals (Ok None) → HasRead bytes start (at_item Kind d f0 old.left) → PassesFields old new d f0 places totals
passes-all old mid new start d f0 places totals bytes k ends st =
    record { fields = k.fields; ends = comes-then _ _ _ _ _ k.passes (ends (record d { fields = k.fields }) k.last k.sums); sums = k.sums; located = k.located bytes st }

pub passes-stop : (old mid new : Limited) (start : ℕ) (d : Definition) (f0 : FieldDefinition) (places : List FieldPlace) (totals : Totals) (fault : TdfFault) → PassesSome old mid start d f0 places totals
    → PassesFieldOrEnd mid new start totals (Err fault) → IsStopped old (at_item Kind d f0 old.left) fault
passes-stop old mid new start d f0 places totals fault k stopped = comes-then _ _ _ _ _ k.passes (stopped (record d { fields = k.fields }) k.last k.sums)
