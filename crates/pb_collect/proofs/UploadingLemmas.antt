-- The requests of an upload, one after the other.
use Rattle.std.proofs.Common.{◌≡◌, ℕ, suc, ◌≤◌, List, [], length, drop, refl, ◌∙◌, subst}
use Rattle.pb_io.specs.Disk.{ReadsOnly}
use Rattle.pb_io.specs.View.{View, Link}
use Rattle.pb_tdf.specs.Definition.{file_bytes_max}
use Rattle.pb_trans.specs.declared.asked.Limits.{Limits}
use Rattle.pb_ask.specs.Asking.{Asks, Stops}
use Rattle.pb_ask.specs.Listening.{Listening}
use Rattle.pb_ask.specs.declared.question.Conclusion.{Conclusion}
use Rattle.pb_ask.specs.declared.question.Conclusion.TheVariants as conclusion
use Rattle.pb_collect.specs.Tables.{Channel, channel}
use Rattle.pb_collect.specs.Upload.{Brings, wanted_piece}
use Rattle.pb_collect.specs.Uploads.{AskedFrom, Brought, Joined, PieceStops, StepIs}
use Rattle.pb_collect.specs.declared.command.Contact.{Contact}
use Rattle.pb_collect.specs.declared.upload.FileReply.{FileReply}
use Rattle.pb_collect.specs.declared.upload.FileReply.TheVariants as reply
use Rattle.pb_collect.specs.declared.upload.UploadCommand.{UploadCommand}
use Rattle.pb_collect.specs.declared.uploading.Step.TheVariants.{Came}

-- the command that asks for what comes from this place on
abbrev pub command_at : Contact → ℕ → ℕ → UploadCommand
command_at contact tran offset = record { contact = contact; tran = tran; offset = offset }

module _ (limits : Limits) (contact : Contact) (tran offset at : ℕ) (place : offset ≡ at) (old new : Listening) (a b : Link) where
  pub asked_at : (o p : Conclusion FileReply) → p ≡ o → Asks (wanted_piece (command_at contact tran offset)) limits old a p new b
      → AskedFrom limits contact at (channel old a) o (channel new b)
  asked_at o p is asks = record {
    command = command_at contact tran offset;
    from_here = record { contact_is = refl; offset = place };
    asks = subst (λ (q : Conclusion FileReply). Asks (wanted_piece (command_at contact tran offset)) limits old a q new b) is asks;
  }

  pub brought_at : (p : Conclusion FileReply) (bytes : List ℕ) → p ≡ conclusion.Answer reply.Data → Asks (wanted_piece (command_at contact tran offset)) limits old a p new b
      → Brings (command_at contact tran offset) bytes (drop 8 new.ear.content) → Brought limits contact at bytes (channel old a) (channel new b)
  brought_at p bytes is asks brings = record {
    command = command_at contact tran offset;
    from_here = record { contact_is = refl; offset = place };
    asks = subst (λ (q : Conclusion FileReply). Asks (wanted_piece (command_at contact tran offset)) limits old a q new b) is asks;
    brings = brings;
  }

  pub stops_at : Stops (wanted_piece (command_at contact tran offset)) limits old a new b → PieceStops limits contact at (channel old a) b
  stops_at stops = record {
    command = command_at contact tran offset;
    from_here = record { contact_is = refl; offset = place };
    last = new;
    stops = stops;
  }

-- nothing is joined before the first request
pub joined_none : (limits : Limits) (contact : Contact) (file : List ℕ) (from : Channel) → file ≡ [] → Joined limits contact file from from
joined_none limits contact file from none = record { pieces = 0; joins = (none, refl) }

-- an answer with bytes after those that were joined
pub joined_more : (limits : Limits) (contact : Contact) (old new : List ℕ) (from mid to : Channel) → Joined limits contact old from mid → length old ≤ file_bytes_max
    → StepIs limits contact Came old new mid to → Joined limits contact new from to
joined_more limits contact old new from mid to joined few step = record {
  pieces = suc joined.pieces;
  joins = (old, step.0, mid, step.1, joined.joins, few, step.2, step.3);
}

pub reads_trans : (a b c : View) → ReadsOnly a b → ReadsOnly b c → ReadsOnly a c
reads_trans a b c p q = record { file = q.file ∙ p.file; fewer = λ f is. p.fewer f (q.fewer f is); more = λ f is. q.more f (p.more f is) }

pub reads_none : (a : View) → ReadsOnly a a
reads_none a = record { file = refl; fewer = λ f is. is; more = λ f is. is }
