use Rattle.std.proofs.Common.{ℕ, None, List, [], ◌∷◌, false, refl, arith, inl, inr}
use Rattle.std.proofs.lemmas.List.Elements.{Contains-push}
use Rattle.pb_base.specs.Time.{time_bytes}
use Rattle.pb_base.specs.World.{StoredRecord}
use Rattle.pb_bmp5.specs.CollectReply.{part, Begins}
use Rattle.pb_bmp5.specs.TrueReply.{IsTrueOf}
use Rattle.pb_bmp5.specs.WorkedReply.{second, worked_definition, worked_history, worked_request, worked_reply, worked_rest_request, worked_rest}
use Rattle.pb_bmp5.proofs.WorkedLemmas.{worked_says}
use Rattle.pb_bmp5.proofs.true_reply.the_only_record_is_sent.Goals as goal

whole_says : IsTrueOf worked_request worked_reply.message (worked_history worked_request.table)
whole_says = worked_says (worked_history worked_request.table) (Contains-push [] worked_definition) refl

pub returns-clause-whole : goal.returns-clause-whole
unfolding whole_says worked_says
returns-clause-whole c = record {
  is_true = record { src = refl; dst = refl; proto = refl; resp = 0; body = _; parts = refl; says = λ complete. whole_says };
  full = λ complete. record { some = λ lt none. none; uncut = λ short. (tt, tt); long = (tt, tt) };
}

fields : List ℕ
fields = 0xAA ∷ 0xBB ∷ []

stored : StoredRecord
stored = record { time = second 7; bytes = 0xAA ∷ 0xBB ∷ [] }

rest_says : IsTrueOf worked_rest_request worked_rest.message (worked_history worked_rest_request.table)
unfolding fields stored
rest_says = record {
  definition = worked_definition;
  stood = Contains-push [] worked_definition;
  reply = record { tran = 1; resp = 0; more = false; fragments = part 0 8 fields ∷ [] };
  reads = record { body = _; parts = refl; has = (0, (0 ∷ [], begins, refl), refl) };
  answer = record {
    stage = record { next = 1; oldest = 0 };
    lies = record { held = omega arith; stored = omega arith; overwritten = omega arith };
    holds = (
      record {
        not_lost = omega arith;
        there = omega arith;
        stored = stored;
        is = refl;
        sized = refl;
        before = time_bytes (second 7);
        after = [];
        parts = refl;
        place = refl;
      },
      tt,
    );
    answers = inl (record { bytes = fields; one = refl; ends = (λ e. (refl, refl), λ ends. refl) });
  };
}
  where
    begins : Begins 1 worked_definition.layout None (part 0 8 fields) (0 ∷ 1 ∷ 0 ∷ 0 ∷ 0 ∷ 0 ∷ 0x80 ∷ 0 ∷ 0 ∷ 8 ∷ 0xAA ∷ 0xBB ∷ 0 ∷ []) (0 ∷ [])
    begins = record {
      after = 0 ∷ [];
      leads = record { parts = refl; number = omega arith; fits = (omega arith, omega arith); its_bytes = refl; some = omega arith };
      ends = tt;
      formed = record { goes_on = tt; of_layout = (omega arith, omega arith); numbered = omega arith };
      goes = refl;
    }

pub returns-clause-rest : goal.returns-clause-rest
unfolding rest_says fields
returns-clause-rest c = record {
  is_true = record { src = refl; dst = refl; proto = refl; resp = 0; body = _; parts = refl; says = λ complete. rest_says };
  full = λ complete. record { some = λ lt none. none; uncut = λ short. (refl, tt); long = (inr refl, tt) };
}
