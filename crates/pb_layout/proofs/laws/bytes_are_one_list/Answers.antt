use Rattle.pb_layout.proofs.ItemLaws.{numbers_of-written, settings_of-written}
use Rattle.pb_layout.proofs.laws.bytes_are_one_list.Goals as goal

pub returns-clause-numbers : goal.returns-clause-numbers
returns-clause-numbers c = numbers_of-written

pub returns-clause-settings : goal.returns-clause-settings
returns-clause-settings c = settings_of-written
