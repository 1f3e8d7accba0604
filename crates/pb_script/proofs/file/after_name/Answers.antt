use Rattle.pb_script.proofs.FileLemmas.{spelled}
use Rattle.pb_script.proofs.file.after_name.Goals as goal

pub returns : goal.returns
returns c =
    spelled c.args.shape c.to_be_bytes.result c.to_be_bytes-2.result c.to_be_bytes-3.result c.code_of-code.result
    c.to_be_bytes.ensures c.to_be_bytes-2.ensures c.to_be_bytes-3.ensures c.code_of-code.ensures
