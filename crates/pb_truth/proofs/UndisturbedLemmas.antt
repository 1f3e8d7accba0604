-- Undisturbed worlds, from the sending of one frame to that of the next.
use Rattle.std.proofs.Common.{◌≡◌, ℕ, ◌≤◌, List, [], ◌∷◌, ◌++◌, length, refl, sym, ◌∙◌, ap, subst, append_assoc, append-nil, length-append, arith}
use Rattle.std.specs.Prelude.{⊤}
use Rattle.std.specs.List.{AllByRecursion}
use Rattle.std.proofs.lemmas.Grind.{flat_map-append}
use Rattle.pb_base.specs.World.{World, Event, Begin, Sent, Heard, Quiet, Defined, Stored, Oldest, bytes_heard, byte_in}
use Rattle.pb_truth.specs.Undisturbed.{IsCalm, IsExchange, Undisturbed, Calm, Exchanges}

-- ---- lists

heads : {A : Type 0} {x y : A} {xs ys : List A} → x ∷ xs ≡ y ∷ ys → x ≡ y
heads is = cc is

tails : {A : Type 0} {x y : A} {xs ys : List A} → x ∷ xs ≡ y ∷ ys → xs ≡ ys
tails is = cc is

pub same_end : {A : Type 0} (w a b : List A) → w ++ a ≡ w ++ b → a ≡ b
same_end [] a b is = is
same_end (x ∷ w) a b is = same_end w a b (tails is)

-- where an item stands in a list of two parts
pub data Place {A : Type 0} (a b c d : List A) (x : A) : Type 0 where
  Behind : (m : List A) → c ≡ a ++ m → b ≡ m ++ x ∷ d → Place a b c d x
  Before : (m : List A) → a ≡ c ++ x ∷ m → d ≡ m ++ b → Place a b c d x

pub place_of : {A : Type 0} (a b c d : List A) (x : A) → a ++ b ≡ c ++ x ∷ d → Place a b c d x
place_of [] b c d x is = Behind c refl is
place_of (y ∷ a) b [] d x is = Before a (ap (λ z. z ∷ a) (heads is)) (sym (tails is))
place_of (y ∷ a) b (z ∷ c) d x is = further (place_of a b c d x (tails is))
  where
    further : Place a b c d x → Place (y ∷ a) b (z ∷ c) d x
    further (Behind m same rest) = Behind m (ap (λ k. k ∷ c) (sym (heads is)) ∙ ap (λ l. y ∷ l) same) rest
    further (Before m same rest) = Before m (ap (λ k. k ∷ a) (heads is) ∙ ap (λ l. z ∷ l) same) rest

-- ---- events

-- no frame is sent
abbrev pub IsUnsent : Event → Type 0
IsUnsent (Sent bytes) = ⊥
IsUnsent event = ⊤

-- no stream begins and no tick is quiet
abbrev pub IsSteady : Event → Type 0
IsSteady Begin = ⊥
IsSteady Quiet = ⊥
IsSteady event = ⊤

-- a frame is sent first, if there is anything
abbrev pub BeginsWithSending : World → Type 0
BeginsWithSending [] = ⊤
BeginsWithSending (Sent bytes ∷ rest) = ⊤
BeginsWithSending (event ∷ rest) = ⊥

unsent_none : (m d : World) (f : List ℕ) → AllByRecursion IsUnsent (m ++ Sent f ∷ d) → ⊥
unsent_none [] d f all = all.0
unsent_none (e ∷ m) d f all = unsent_none m d f all.1

calm_unsent : (w : World) → AllByRecursion IsCalm w → AllByRecursion IsUnsent w
calm_unsent [] calm = tt
calm_unsent (Begin ∷ w) calm = absurd calm.0
calm_unsent (Sent bytes ∷ w) calm = absurd calm.0
calm_unsent (Quiet ∷ w) calm = absurd calm.0
calm_unsent (Heard byte ∷ w) calm = (tt, calm_unsent w calm.1)
calm_unsent (Defined s n d ∷ w) calm = (tt, calm_unsent w calm.1)
calm_unsent (Stored s n r ∷ w) calm = (tt, calm_unsent w calm.1)
calm_unsent (Oldest s n k ∷ w) calm = (tt, calm_unsent w calm.1)

calm_steady : (w : World) → AllByRecursion IsCalm w → AllByRecursion IsSteady w
calm_steady [] calm = tt
calm_steady (Begin ∷ w) calm = absurd calm.0
calm_steady (Sent bytes ∷ w) calm = absurd calm.0
calm_steady (Quiet ∷ w) calm = absurd calm.0
calm_steady (Heard byte ∷ w) calm = (tt, calm_steady w calm.1)
calm_steady (Defined s n d ∷ w) calm = (tt, calm_steady w calm.1)
calm_steady (Stored s n r ∷ w) calm = (tt, calm_steady w calm.1)
calm_steady (Oldest s n k ∷ w) calm = (tt, calm_steady w calm.1)

begins_on : (a b : World) → BeginsWithSending a → BeginsWithSending b → BeginsWithSending (a ++ b)
begins_on [] b first second = second
begins_on (Sent bytes ∷ a) b first second = tt
begins_on (Begin ∷ a) b first second = absurd first
begins_on (Heard byte ∷ a) b first second = absurd first
begins_on (Quiet ∷ a) b first second = absurd first
begins_on (Defined s n d ∷ a) b first second = absurd first
begins_on (Stored s n r ∷ a) b first second = absurd first
begins_on (Oldest s n k ∷ a) b first second = absurd first

steady_append : (a b : World) → AllByRecursion IsSteady a → AllByRecursion IsSteady b → AllByRecursion IsSteady (a ++ b)
steady_append [] b p q = q
steady_append (e ∷ a) b p q = (p.0, steady_append a b p.1 q)

pub steady_front : (a b : World) → AllByRecursion IsSteady (a ++ b) → AllByRecursion IsSteady a
steady_front [] b p = tt
steady_front (e ∷ a) b p = (p.0, steady_front a b p.1)

pub steady_back : (a b : World) → AllByRecursion IsSteady (a ++ b) → AllByRecursion IsSteady b
steady_back [] b p = p
steady_back (e ∷ a) b p = steady_back a b p.1

pub unsent_back : (a b : World) → AllByRecursion IsUnsent (a ++ b) → AllByRecursion IsUnsent b
unsent_back [] b p = p
unsent_back (e ∷ a) b p = unsent_back a b p.1

pub bytes_heard-append : (a b : World) → bytes_heard (a ++ b) ≡ bytes_heard a ++ bytes_heard b
unfolding bytes_heard
bytes_heard-append a b = flat_map-append byte_in a b

-- Events in which nothing is sent, before one that is or before the end, are a front of those up to it.
pub unsent_front : (p e u a : World) → p ++ e ≡ u ++ a → AllByRecursion IsUnsent p → BeginsWithSending a → (m : World) × (u ≡ p ++ m) × (e ≡ m ++ a)
unsent_front [] e u a is none begins = (u, refl, is)
unsent_front (x ∷ p) e [] a is none begins = absurd (first x (p ++ e) a (sym is) none.0 begins)
  where
    first : (x : Event) (xs a : World) → a ≡ x ∷ xs → IsUnsent x → BeginsWithSending a → ⊥
    first x xs a same none begins = by x none (subst BeginsWithSending same begins)
      where
        by : (y : Event) → IsUnsent y → BeginsWithSending (y ∷ xs) → ⊥
        by (Sent bytes) none begins = none
        by Begin none begins = begins
        by (Heard byte) none begins = begins
        by Quiet none begins = begins
        by (Defined s n d) none begins = begins
        by (Stored s n r) none begins = begins
        by (Oldest s n k) none begins = begins
unsent_front (x ∷ p) e (y ∷ u) a is none begins =
    let rest = unsent_front p e u a (tails is) none.1 begins in
    (rest.0, ap (λ z. z ∷ u) (sym (heads is)) ∙ ap (λ l. x ∷ l) rest.1, rest.2)

-- Two parts in which nothing is sent, each before a sending, are the same.
pub unsent_same : (m a p r : World) (f : List ℕ) → m ++ a ≡ p ++ Sent f ∷ r → AllByRecursion IsUnsent m → AllByRecursion IsUnsent p → BeginsWithSending a
    → m ≡ p
unsent_same [] a [] r f is none nothing begins = refl
unsent_same [] a (y ∷ p) r f is none nothing begins = absurd (first y (p ++ Sent f ∷ r) nothing.0 (subst BeginsWithSending is begins))
  where
    first : (y : Event) (xs : World) → IsUnsent y → BeginsWithSending (y ∷ xs) → ⊥
    first (Sent bytes) xs none begins = none
    first Begin xs none begins = begins
    first (Heard byte) xs none begins = begins
    first Quiet xs none begins = begins
    first (Defined s n d) xs none begins = begins
    first (Stored s n k) xs none begins = begins
    first (Oldest s n k) xs none begins = begins
unsent_same (x ∷ m) a [] r f is none nothing begins = absurd (subst IsUnsent (heads is) none.0)
unsent_same (x ∷ m) a (y ∷ p) r f is none nothing begins =
    ap (λ z. z ∷ m) (heads is) ∙ ap (λ l. y ∷ l) (unsent_same m a p r f (tails is) none.1 nothing.1 begins)

-- ---- undisturbed worlds

-- what comes after a frame was sent: its exchange, up to the next sending
pub record Followed (before : World) (f : List ℕ) (rest : World) : Type 0 where
  pub until : World
  pub after : World
  pub is : rest ≡ until ++ after
  pub exchange : IsExchange before (Sent f ∷ until)
  pub next : BeginsWithSending after
  pub unsent : AllByRecursion IsUnsent until

pub each_sent : (w' v' : World) → Undisturbed w' v' → (v rest : World) (f : List ℕ) → v' ≡ v ++ Sent f ∷ rest → length w' ≤ length v → Followed v f rest
each_sent w' v' (Calm w events calm none) v rest f is later = by (place_of w events v rest (Sent f) is)
  where
    by : Place w events v rest (Sent f) → Followed v f rest
    by (Behind m same here) = absurd (unsent_none m rest f (subst (λ (l : World). AllByRecursion IsUnsent l) here (calm_unsent events calm)))
    by (Before m same here) = absurd (omega (arith, later, ap (λ (l : World). length l) same, length-append v (Sent f ∷ m)))
each_sent w' v' (Exchanges w u events un x) v rest f is later = by (λ m same. each_sent w u un v m f same later) (place_of u events v rest (Sent f) is)
  where
    here : (m : World) → v ≡ u ++ m → Sent x.sent ∷ x.rest ≡ m ++ Sent f ∷ rest → Followed v f rest
    here [] same at =
        let v_is : u ≡ v = sym (same ∙ append-nil u) in
        let events_are : events ≡ Sent f ∷ rest = x.is ∙ at in
        record {
          until = rest;
          after = [];
          is = sym (append-nil rest);
          exchange = subst (λ (l : World). IsExchange v l) events_are (subst (λ (l : World). IsExchange l events) v_is x);
          next = tt;
          unsent = subst (λ (l : World). AllByRecursion IsUnsent l) (tails at) (calm_unsent x.rest x.calm);
        }
    here (e ∷ m) same at = absurd (unsent_none m rest f (subst (λ (l : World). AllByRecursion IsUnsent l) (tails at) (calm_unsent x.rest x.calm)))

    by : ((m : World) → u ≡ v ++ Sent f ∷ m → Followed v f m) → Place u events v rest (Sent f) → Followed v f rest
    by earlier (Behind m same at) = here m same (sym x.is ∙ at)
    by earlier (Before m same at) =
        let so = earlier m same in
        record {
          until = so.until;
          after = so.after ++ events;
          is = at ∙ ap (λ (l : World). l ++ events) so.is ∙ append_assoc so.until so.after events;
          exchange = so.exchange;
          next = begins_on so.after events so.next (subst BeginsWithSending (sym x.is) tt);
          unsent = so.unsent;
        }

-- an undisturbed world goes on from the one before, without quiet ticks
pub record Grown (w v : World) : Type 0 where
  pub more : World
  pub is : v ≡ w ++ more
  pub steady : AllByRecursion IsSteady more

pub undisturbed_grown : (w' v' : World) → Undisturbed w' v' → Grown w' v'
undisturbed_grown w' v' (Calm w events calm none) = record { more = events; is = refl; steady = calm_steady events calm }
undisturbed_grown w' v' (Exchanges w u events un x) =
    let so = undisturbed_grown w u un in
    record {
      more = so.more ++ events;
      is = ap (λ (l : World). l ++ events) so.is ∙ append_assoc w so.more events;
      steady = steady_append so.more events so.steady (subst (λ (l : World). AllByRecursion IsSteady l) (sym x.is) (tt, calm_steady x.rest x.calm));
    }
