use Rattle.std.proofs.Common.{◌≡◌, [], Option, inr, refl, sym, ◌∙◌, subst, append-nil}
use Rattle.std.proofs.lemmas.Result.{on_ok_weaker}
use Rattle.pb_io.specs.View.{Link}
use Rattle.pb_archive.specs.Opened.{register_of}
use Rattle.pb_collect.specs.Fetching.{FileReads, StationCame}
use Rattle.pb_collect.specs.Tables.{channel}
use Rattle.pb_collect.specs.Uploads.{UploadComes, UploadFails, Uploads}
use Rattle.pb_collect.specs.declared.report.Cause.{Cause}
use Rattle.pb_collect.proofs.AddingLemmas.{adds_trans, holds_open, open_reads}
use Rattle.pb_collect.proofs.FetchingLemmas.{memory_stops}
use Rattle.pb_collect.proofs.fetching.fetch_station.Goals as goal

pub returns-in-Err-clause-holds : goal.returns-in-Err-clause-holds
returns-in-Err-clause-holds g c =
    holds_open c.args.archive.now (g.S.Disk.view c.upload.new.site) (open_reads c.args.archive.now (g.S.Disk.view c.args.site.now) (g.S.Disk.view c.upload.new.site) c.upload.ensures.disk c.requires.opened)

pub returns-in-Ok-Some-clause-holds : goal.returns-in-Ok-Some-clause-holds
returns-in-Ok-Some-clause-holds g c =
    holds_open c.args.archive.now (g.S.Disk.view c.upload.new.site) (open_reads c.args.archive.now (g.S.Disk.view c.args.site.now) (g.S.Disk.view c.upload.new.site) c.upload.ensures.disk c.requires.opened)

pub returns-in-Ok-Some-clause-stops : goal.returns-in-Ok-Some-clause-stops
returns-in-Ok-Some-clause-stops g c =
    let from = channel c.args.listener.now (g.S.Disk.view c.args.site.now).link in
    let to = channel c.upload.new.listener (g.S.Disk.view c.upload.new.site).link in
    let contact = c.contact_of-contact.result in
    let comes : UploadFails c.args.limits contact c.in-Ok-Some.cause from to = subst (λ (o : Option Cause). UploadComes c.args.limits contact o c.upload.new.file.items from to) c.in-Ok-Some.field-0-is c.in-Ok-Some.ensures.comes in
    memory_stops c.push_failure.result (c.push_failure.new.report.lines ≡ c.args.report.now.lines) _ c.push_failure.ensures.fault c.push_failure.ensures.none
    (λ same. (
      [],
      same ∙ sym (append-nil c.args.report.now.lines),
      record {
        contact = contact;
        is = c.contact_of-contact.ensures;
        stops = inr (record { cause = c.in-Ok-Some.cause; to = to; upload = comes; same = refl; idle = record { no_lines = refl; nothing = refl } });
      },
    ))

pub returns-in-Ok-None-clause-came : goal.returns-in-Ok-None-clause-came
returns-in-Ok-None-clause-came g c =
    let from = channel c.args.listener.now (g.S.Disk.view c.args.site.now).link in
    let to = channel c.upload.new.listener (g.S.Disk.view c.upload.new.site).link in
    let contact = c.contact_of-contact.result in
    let comes : Uploads c.args.limits contact c.upload.new.file.items from to = subst (λ (o : Option Cause). UploadComes c.args.limits contact o c.upload.new.file.items from to) c.in-Ok-None.field-0-is c.in-Ok-None.ensures.comes in
    on_ok_weaker c.read_file.result (λ reads. (
      reads.0,
      reads.1,
      subst (λ (k : Link). StationCame c.args.limits c.args.archive.now.plan c.args.station reads.0 from (channel c.upload.new.listener k) (register_of c.args.archive.now) (register_of c.read_file.new.archive)) (sym c.read_file.ensures.keeps.link)
          (record {
            contact = contact;
            is = c.contact_of-contact.ensures;
            came = inr (record {
              file = c.upload.new.file.items;
              upload = comes;
              reads = subst (λ l. FileReads c.args.station l reads.0 (register_of c.args.archive.now) (register_of c.read_file.new.archive)) c.deref.ensures.value reads.2;
            });
          }),
    )) c.read_file.ensures.reads

pub returns-in-Ok-None-clause-adds : goal.returns-in-Ok-None-clause-adds
returns-in-Ok-None-clause-adds g c =
    adds_trans (g.S.Disk.view c.args.site.now) (g.S.Disk.view c.upload.new.site) (g.S.Disk.view c.read_file.new.disk) (g.met.S.Disk.lawful c.upload.new.site) c.upload.ensures.adds c.read_file.ensures.keeps.adds
