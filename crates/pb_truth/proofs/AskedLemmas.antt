-- What was asked in a world, as it grows.
use Rattle.std.proofs.Common.{◌≡◌, ◌⊎◌, inl, inr, ⊎_elim, ℕ, ◌≤◌, [], ◌++◌, length, sym, ◌∙◌, ap, subst, arith, length-append}
use Rattle.std.specs.List.{Contains}
use Rattle.std.proofs.lemmas.Grind.{flat_map-append}
use Rattle.std.proofs.lemmas.List.Elements.{Contains-append_left, Contains-append_cases}
use Rattle.pb_base.specs.World.{World, frame_in, sent}
use Rattle.pb_base.specs.History.{IsFront}
use Rattle.pb_base.specs.Request as asked
use Rattle.pb_base.specs.Request.{Request, Mode}
use Rattle.pb_archive.specs.Archive.{Table, Archive, front, Extends}
use Rattle.pb_truth.specs.Asked.{WasAsked, AsksNothing, AsksFromAtMost, Allows, IsOwn, AskedBelow}

sent-append : (w more : World) → sent (w ++ more) ≡ sent w ++ sent more
sent-append w more = flat_map-append frame_in w more

-- nothing that was asked is forgotten
pub asked_before : (w more : World) (r : Request) → WasAsked w r → WasAsked (w ++ more) r
asked_before w more r asked = (
  asked.0,
  subst (λ l. Contains l asked.0) (sym (sent-append w more)) (Contains-append_left (sent w) (sent more) asked.0 asked.1),
  asked.2,
)

asked_cases : (w more : World) (r : Request) → WasAsked (w ++ more) r → WasAsked w r ⊎ WasAsked more r
asked_cases w more r asked =
    ⊎_elim (λ has. inl (asked.0, has, asked.2)) (λ has. inr (asked.0, has, asked.2))
    (Contains-append_cases (sent w) (sent more) asked.0 (subst (λ l. Contains l asked.0) (sent-append w more) asked.1))

pub sent_nothing : (more : World) → sent more ≡ [] → AsksNothing more
sent_nothing more none r asked = let has = subst (λ l. Contains l asked.0) none asked.1 in omega (arith, has.1)

-- what was asked earlier was allowed, and so is what is asked now
pub asked_more : (w more : World) (a : Archive) → AskedBelow w a → ((r : Request) → WasAsked more r → IsOwn a r.me → Allows a r) → AskedBelow (w ++ more) a
asked_more w more a asked new r is own = ⊎_elim (λ old. asked r old own) (λ now. new r now own) (asked_cases w more r is)

pub asked_quietly : (w more : World) (a : Archive) → AskedBelow w a → AsksNothing more → AskedBelow (w ++ more) a
asked_quietly w more a asked none = asked_more w more a asked (λ r is own. absurd (none r is))

pub asked_prefix : (w more : World) (a : Archive) → AskedBelow (w ++ more) a → AskedBelow w a
asked_prefix w more a asked r is own = asked r (asked_before w more r is) own

at_most-rises : (m n : ℕ) (mode : Mode) → m ≤ n → AsksFromAtMost m mode → AsksFromAtMost n mode
at_most-rises m n asked.All rises below = below
at_most-rises m n (asked.From number) rises below = omega (arith, rises, below)
at_most-rises m n (asked.Newest count) rises below = below
at_most-rises m n (asked.Range from to) rises below = below
at_most-rises m n (asked.Times from to) rises below = below
at_most-rises m n (asked.Part number offset) rises below = omega (arith, rises, below)

front-rises : (t u : Table) → IsFront t.rows u.rows → front t ≤ front u
front-rises t u (more, same) = omega (arith, ap length same, length-append t.rows more)

-- fronts only rise
pub allowed_still : (a b : Archive) (r : Request) → Extends a b → Allows a r → Allows b r
allowed_still a b r extends allows =
    let e = extends.tables allows.id allows.table allows.there in
    record {
      id = allows.id;
      table = e.0;
      there = e.1;
      me = allows.me ∙ sym e.2.me;
      key = allows.key ∙ sym e.2.key;
      below = at_most-rises (front allows.table) (front e.0) r.mode (front-rises allows.table e.0 e.2.rows) allows.below;
    }

pub asked_extends : (w : World) (a b : Archive) → Extends a b → AskedBelow w a → AskedBelow w b
asked_extends w a b extends asked r is own =
    allowed_still a b r extends (asked r is (own ∙ ap (λ p. p.me) extends.plan))
