-- The worked reply is true of each history in which the worked record is all that was stored.
use Rattle.std.proofs.Common.{◌≡◌, ℕ, None, List, [], ◌∷◌, false, length, take, refl, sym, ap, arith, inl}
use Rattle.std.specs.List.{Contains}
use Rattle.pb_base.specs.World.{StoredRecord}
use Rattle.pb_base.specs.History.{History}
use Rattle.pb_bmp5.specs.CollectReply.{whole, Begins}
use Rattle.pb_bmp5.specs.TrueReply.{IsTrueOf}
use Rattle.pb_bmp5.specs.WorkedReply.{second, worked_definition, worked_request, worked_reply}

bytes : List ℕ
bytes = 0 ∷ 0 ∷ 0 ∷ 7 ∷ 0 ∷ 0 ∷ 0 ∷ 0 ∷ 0xAA ∷ 0xBB ∷ []

abbrev stored : StoredRecord
stored = record { time = second 7; bytes = 0xAA ∷ 0xBB ∷ [] }

unfoldable pub worked_says : (h : History) → Contains h.definitions worked_definition → h.records ≡ stored ∷ []
    → IsTrueOf worked_request worked_reply.message h
unfolding bytes
worked_says h stood records = record {
  definition = worked_definition;
  stood = stood;
  reply = record { tran = 1; resp = 0; more = false; fragments = whole 0 1 bytes ∷ [] };
  reads = record { body = _; parts = refl; has = (0, (0 ∷ [], begins, refl), refl) };
  answer = record {
    stage = record { next = 1; oldest = 0 };
    lies = record { held = omega arith; stored = omega (arith, ap length records); overwritten = omega arith };
    holds = (record { not_lost = omega arith; there = omega arith; same = ap (take 1) (sym records) }, tt);
    answers = record { begins = refl; below = (omega arith, tt); ends = (λ e. inl (inl (refl, tt)), λ ends. refl) };
  };
}
  where
    begins : Begins 1 worked_definition.layout None (whole 0 1 bytes) (0 ∷ 1 ∷ 0 ∷ 0 ∷ 0 ∷ 0 ∷ 0 ∷ 1 ∷ 0 ∷ 0 ∷ 0 ∷ 7 ∷ 0 ∷ 0 ∷ 0 ∷ 0 ∷ 0xAA ∷ 0xBB ∷ 0 ∷ []) (0 ∷ [])
    begins = record {
      after = 0 ∷ [];
      leads = record { parts = refl; number = omega arith; fits = (omega arith, omega arith); its_bytes = refl; some = omega arith };
      ends = tt;
      formed = record { goes_on = tt; of_layout = λ interval k lt. absurd cc; numbered = omega arith };
      goes = refl;
    }
