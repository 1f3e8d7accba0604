use Rattle.pb_collect.specs.Upload.{upload_frame}
use Rattle.pb_collect.proofs.AddingLemmas.{adds_asked}
use Rattle.pb_collect.proofs.uploading.ask_piece.Goals as goal

pub returns-in_err-conclusion-clause-adds : goal.returns-in_err-conclusion-clause-adds
returns-in_err-conclusion-clause-adds g c =
    adds_asked (upload_frame c.args.command.now) _ _ _ (g.met.S.Disk.lawful c.ask.new.site) c.asks_no_records.ensures c.ask.ensures.passes

pub returns-clause-adds : goal.returns-clause-adds
returns-clause-adds g c =
    adds_asked (upload_frame c.args.command.now) _ _ _ (g.met.S.Disk.lawful c.ask.new.site) c.asks_no_records.ensures c.ask.ensures.passes
