use Rattle.pb_archive.proofs.row_tests.rows_of.Goals as goal

pub rest_of-requires : goal.rest_of-requires
rest_of-requires c f view =
    let b = c.in_ok-rows.ensures.begins f (c.in_ok-archive.ensures.opened.stands f view) in
    (_, b.4)
