use Rattle.std.proofs.Common.{rules}
use Rattle.pb_layout.specs.Reading.{key_at}
use Rattle.pb_layout.proofs.Lengths.{numbers-refused, numbers-found}
use Rattle.pb_layout.proofs.keys.Keys.numbers.Goals as goal

pub returns-then-left-len-lt2-clause-refused : goal.returns-then-left-len-lt2-clause-refused
unfolding key_at
returns-then-left-len-lt2-clause-refused c =
    numbers-refused c.args.self.now c.rest-left.result.now c.end.result c.numbers_len-len.result (search rules) c.numbers_len-len.ensures.is c.numbers_len-len.ensures.within (search rules) c.if-left-len-lt2.true

pub returns-clause-read : goal.returns-clause-read
unfolding key_at
returns-clause-read c =
    numbers-found c.args.self.now c.take.new.self c.rest-left.result.now c.unwrap.result.now c.numbers_len-len.result (search rules) c.numbers_len-len.ensures.is c.numbers_len-len.ensures.within c.if-left-len-lt2.false (search rules)
