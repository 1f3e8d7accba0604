use Rattle.std.proofs.Common.{refl}
use Rattle.pb_bmp5.specs.Message.{Upload}
use Rattle.pb_collect.specs.Upload.{upload_keys, upload_message}
use Rattle.pb_collect.proofs.UploadLemmas.{no_records, valid}
use Rattle.pb_collect.proofs.upload.UploadCommand.asks_no_records.Goals as goal

pub returns : goal.returns
returns c =
    let a = c.args.self.now in
    no_records c.written_is_read.ensures.one_packet c.written_message_is_read.ensures.one_message a c.get.ensures.range c.get-2.ensures.range c.get-3.ensures.range
    (c.written_message_is_read.ensures.alone (Upload a.tran (upload_keys a)) (upload_message a)
    (record { valid = valid a.tran a.contact.code a.offset; fits = c.write_message.ensures.in_range; is = refl }))
