use Rattle.std.proofs.Common.{◌≡◌, ℕ, None, List, [], ◌∷◌, false, get_or, refl, sym, ap, arith, inl, inr}
use Rattle.std.specs.List.{AllByRecursion, Contains}
use Rattle.std.proofs.lemmas.List.Elements.{Contains-push_cases}
use Rattle.pb_base.specs.World.{TableDefinition, StoredRecord}
use Rattle.pb_bmp5.specs.CollectReply.{whole, SeenReply, Begins, CollectReads}
use Rattle.pb_bmp5.specs.TrueReply.{Stage, Holds}
use Rattle.pb_bmp5.specs.WorkedReply.{worked_definition, worked_history, worked_request, worked_forgery}
use Rattle.pb_bmp5.proofs.TrueLemmas.{truth-read}
use Rattle.pb_bmp5.proofs.true_reply.another_record_is_not_sent.Goals as goal

bytes : List ℕ
bytes = 0 ∷ 0 ∷ 0 ∷ 7 ∷ 0 ∷ 0 ∷ 0 ∷ 0 ∷ 0xAA ∷ 0xBC ∷ []

reply : SeenReply
reply = record { tran = 1; resp = 0; more = false; fragments = whole 0 1 bytes ∷ [] }

reads : CollectReads 1 worked_definition.layout reply worked_forgery.message
unfolding bytes reply
reads = record { body = _; parts = refl; has = (0, (0 ∷ [], begins, refl), refl) }
  where
    begins : Begins 1 worked_definition.layout None (whole 0 1 bytes) (0 ∷ 1 ∷ 0 ∷ 0 ∷ 0 ∷ 0 ∷ 0 ∷ 1 ∷ 0 ∷ 0 ∷ 0 ∷ 7 ∷ 0 ∷ 0 ∷ 0 ∷ 0 ∷ 0xAA ∷ 0xBC ∷ 0 ∷ []) (0 ∷ [])
    begins = record {
      after = 0 ∷ [];
      leads = record { parts = refl; number = omega arith; fits = (omega arith, omega arith); its_bytes = refl; some = omega arith };
      ends = tt;
      formed = record { goes_on = tt; of_layout = λ interval k lt. absurd cc; numbered = omega arith };
      goes = refl;
    }

-- the table has one definition
only : (d : TableDefinition) → Contains (worked_definition ∷ []) d → d.layout ≡ worked_definition.layout
only d has = elim (Contains-push_cases [] worked_definition d has) [
  | inl none ↦ absurd (omega (arith, none.1))
  | inr same ↦ ap (λ (x : TableDefinition). x.layout) (sym same)
]

abbrev last_byte : List StoredRecord → ℕ
last_byte [] = 0
last_byte (t ∷ more) = get_or t.bytes 1 0

not_held : (stage : Stage) → AllByRecursion (Holds worked_definition.layout (worked_history worked_request.table) stage) reply.fragments → ⊥
unfolding bytes reply
not_held stage all = let e : 0xBC ≡ 0xBB = ap last_byte all.0.same in omega (arith, e)

pub returns : goal.returns
unfolding reply
returns c t =
    let a = truth-read worked_request worked_forgery worked_history worked_definition.layout reply t only reads refl in not_held a.stage a.holds
