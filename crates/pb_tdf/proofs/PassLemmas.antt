-- Calls that pass items, one after another.
use Rattle.std.proofs.Common.{◌≡◌, ℕ, Result, Err, refl, ap, subst, ◌∙◌}
use Rattle.pb_base.specs.Fields.{Unread}
use Rattle.pb_tdf.specs.declared.fault.TdfFault.{TdfFault}
use Rattle.pb_tdf.specs.Definition.{Definition}
use Rattle.pb_tdf.specs.Inside.Items.{Limited, ReadsItem}
use Rattle.pb_tdf.specs.Order.{Point, Step, On, Done, leads, step, Reaches, Here, Later, ComesTo}
use Rattle.pb_tdf.specs.Inside.Passing.{Passes, IsStopped}
use Rattle.pb_tdf.proofs.ItemLemmas.{Reaches-then, ComesTo-then}

pub passes-none : (old : Limited) (s : Point) → Passes old old s s
passes-none old s = record { items = Here s s refl; same_limit = refl }

pub passes-then : (old mid new : Limited) (s t u : Point) → Passes old mid s t → Passes mid new t u → Passes old new s u
passes-then old mid new s t u p q =
    record {
      items = Reaches-then old.limit s t u p.items (subst (λ l. Reaches l t u) p.same_limit q.items);
      same_limit = q.same_limit ∙ p.same_limit;
    }

pub comes-then : (old mid : Limited) (s t : Point) (o : Result (Definition × Unread) TdfFault) → Passes old mid s t → ComesTo mid.limit t o → ComesTo old.limit s o
comes-then old mid s t o p c = ComesTo-then old.limit s t o p.items (subst (λ l. ComesTo l t o) p.same_limit c)

pub passes-one : {A : Type 0} (what : ℕ → Unread → Result (A × Unread) TdfFault) (old new : Limited) (s t : Point) (value : A) (on : A → Unread → Step) → ReadsItem what old new value
    → step old.limit s ≡ leads (what old.limit old.left) on → on value new.left ≡ On t → Passes old new s t
passes-one what old new s t value on r here next =
    record { items = Later s t t (here ∙ ap (λ x. leads x on) r.read ∙ next) (Here t t refl); same_limit = r.same_limit }

pub stops-one : {A : Type 0} (what : ℕ → Unread → Result (A × Unread) TdfFault) (old : Limited) (s : Point) (fault : TdfFault) (on : A → Unread → Step) → what old.limit old.left ≡ Err fault
    → step old.limit s ≡ leads (what old.limit old.left) on → IsStopped old s fault
stops-one what old s fault on is here = record { last = s; items = Here s s refl; ends = here ∙ ap (λ x. leads x on) is }

pub ends-one : {A : Type 0} (what : ℕ → Unread → Result (A × Unread) TdfFault) (old new : Limited) (s : Point) (value : A) (on : A → Unread → Step) (o : Result (Definition × Unread) TdfFault) → ReadsItem what old new value
    → step old.limit s ≡ leads (what old.limit old.left) on → on value new.left ≡ Done o → ComesTo old.limit s o
ends-one what old new s value on o r here next = record { last = s; items = Here s s refl; ends = here ∙ ap (λ x. leads x on) r.read ∙ next }
