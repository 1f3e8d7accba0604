use Rattle.std.proofs.Common.{refl, sym, ap}
use Rattle.pb_bmp5.specs.declared.message.Bmp5.{Bmp5}
use Rattle.pb_bmp5.specs.Message.{message_of}
use Rattle.pb_io.proofs.PageLemmas.{Adds-as, Adds-three}
use Rattle.pb_show.specs.MessageText.{bmp5_text}
use Rattle.pb_show.proofs.bmp5.push_read.Goals as goal

pub returns-in-Collect : goal.returns-in-Collect
returns-in-Collect g c =
    Adds-as _ _ _ _ (ap (λ (m : Bmp5). bmp5_text (message_of m)) (sym c.in-Collect.is)) (Adds-three _ _ _ _ _ _ _ _ refl c.push_named.ensures c.push_parameters.ensures c.push_keys.ensures)

pub returns-in-StatsReply : goal.returns-in-StatsReply
returns-in-StatsReply g c = Adds-as _ _ _ _ (ap (λ (m : Bmp5). bmp5_text (message_of m)) (sym c.in-StatsReply.is)) c.push_answer-in-StatsReply.ensures

pub returns-in-DownloadReply : goal.returns-in-DownloadReply
returns-in-DownloadReply g c = Adds-as _ _ _ _ (ap (λ (m : Bmp5). bmp5_text (message_of m)) (sym c.in-DownloadReply.is)) c.push_answer-in-DownloadReply.ensures

pub returns-in-Upload : goal.returns-in-Upload
returns-in-Upload g c = Adds-as _ _ _ _ (ap (λ (m : Bmp5). bmp5_text (message_of m)) (sym c.in-Upload.is)) c.push_named-in-Upload.ensures
