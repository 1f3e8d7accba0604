use Rattle.pb_archive.specs.Opened.{register_of}
use Rattle.pb_collect.proofs.FetchingLemmas.{fetched_stand, new_stand, until_stand}
use Rattle.pb_collect.proofs.collector.Collector.fetch_definitions.Goals as goal

pub returns-in-Ok-clause-stand : goal.returns-in-Ok-clause-stand
returns-in-Ok-clause-stand g c lines are =
    let f = c.in-Ok.ensures.fetched in
    let before = register_of c.self.inside.archive in
    let after = register_of c.fetch_all.new.archive in
    new_stand c.args.report.now.lines c.fetch_all.new.report.lines lines f.0 before after (g.S.Disk.view c.fetch_all.new.site) c.fetch_all.ensures.holds f.1
    (fetched_stand c.args.limits f.0 (g.S.Disk.view c.args.site.now).link (g.S.Disk.view c.fetch_all.new.site).link before after f.2) are

pub returns-in-Err-DiskFault-clause-stand : goal.returns-in-Err-DiskFault-clause-stand
returns-in-Err-DiskFault-clause-stand g c lines are =
    let f = c.in-Err-DiskFault.ensures.until in
    let before = register_of c.self.inside.archive in
    let after = register_of c.fetch_all.new.archive in
    new_stand c.args.report.now.lines c.fetch_all.new.report.lines lines f.0 before after (g.S.Disk.view c.fetch_all.new.site) c.fetch_all.ensures.holds f.1
    (until_stand c.in-Err-DiskFault.field-0 c.args.limits f.0 (g.S.Disk.view c.args.site.now).link (g.S.Disk.view c.fetch_all.new.site).link before after f.2) are

pub returns-in-Err-LinkFault-clause-stand : goal.returns-in-Err-LinkFault-clause-stand
returns-in-Err-LinkFault-clause-stand g c lines are =
    let f = c.in-Err-LinkFault.ensures.until in
    let before = register_of c.self.inside.archive in
    let after = register_of c.fetch_all.new.archive in
    new_stand c.args.report.now.lines c.fetch_all.new.report.lines lines f.0 before after (g.S.Disk.view c.fetch_all.new.site) c.fetch_all.ensures.holds f.1
    (until_stand c.in-Err-LinkFault.field-0 c.args.limits f.0 (g.S.Disk.view c.args.site.now).link (g.S.Disk.view c.fetch_all.new.site).link before after f.2) are

pub returns-in-Err-Memory-clause-stand : goal.returns-in-Err-Memory-clause-stand
returns-in-Err-Memory-clause-stand g c lines are =
    let f = c.in-Err-Memory.ensures.until in
    let before = register_of c.self.inside.archive in
    let after = register_of c.fetch_all.new.archive in
    new_stand c.args.report.now.lines c.fetch_all.new.report.lines lines f.0 before after (g.S.Disk.view c.fetch_all.new.site) c.fetch_all.ensures.holds f.1
    (until_stand c.in-Err-Memory.field-0 c.args.limits f.0 (g.S.Disk.view c.args.site.now).link (g.S.Disk.view c.fetch_all.new.site).link before after f.2) are
