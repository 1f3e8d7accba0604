use Rattle.std.proofs.Common.{subst, arith}
use Rattle.pb_ctrl.specs.declared.message.Ctrl.{Ctrl}
use Rattle.pb_ctrl.specs.Message.{message_of, Valid}
use Rattle.pb_ctrl.proofs.writing.write.Goals as goal

pub write_failure-requires-clause-to : goal.write_failure-requires-clause-to
write_failure-requires-clause-to c = (subst (λ (m : Ctrl). Valid (message_of m)) c.in-Failure.is c.requires).obeys.1.1.1.0

pub write_failure-requires-clause-from : goal.write_failure-requires-clause-from
write_failure-requires-clause-from c = (subst (λ (m : Ctrl). Valid (message_of m)) c.in-Failure.is c.requires).obeys.1.1.1.1.0

pub returns-in-Hello-clause-written : goal.returns-in-Hello-clause-written
returns-in-Hello-clause-written c = rw c.in-Hello.is c.write_greeting.ensures.written

pub returns-in-Hello-clause-in_range : goal.returns-in-Hello-clause-in_range
returns-in-Hello-clause-in_range c = let r = c.write_greeting.ensures.in_range in rw c.in-Hello.is (omega arith, (r.0, (r.1, (r.2, (r.3, tt)))))

pub returns-in-HelloReply-clause-written : goal.returns-in-HelloReply-clause-written
returns-in-HelloReply-clause-written c = rw c.in-HelloReply.is c.write_greeting-in-HelloReply.ensures.written

pub returns-in-HelloReply-clause-in_range : goal.returns-in-HelloReply-clause-in_range
returns-in-HelloReply-clause-in_range c = let r = c.write_greeting-in-HelloReply.ensures.in_range in rw c.in-HelloReply.is (omega arith, (r.0, (r.1, (r.2, (r.3, tt)))))

pub returns-in-Failure-clause-written : goal.returns-in-Failure-clause-written
returns-in-Failure-clause-written c = rw c.in-Failure.is c.write_failure.ensures.written

pub returns-in-Failure-clause-full : goal.returns-in-Failure-clause-full
returns-in-Failure-clause-full c = rw c.in-Failure.is c.write_failure.ensures.full

pub returns-in-Failure-clause-in_range : goal.returns-in-Failure-clause-in_range
returns-in-Failure-clause-in_range c = rw c.in-Failure.is c.write_failure.ensures.in_range

pub returns-in-GetSettings-clause-written : goal.returns-in-GetSettings-clause-written
returns-in-GetSettings-clause-written c = rw c.in-GetSettings.is c.write_get_settings.ensures.written

pub returns-in-GetSettings-clause-in_range : goal.returns-in-GetSettings-clause-in_range
returns-in-GetSettings-clause-in_range c = rw c.in-GetSettings.is c.write_get_settings.ensures.in_range

pub returns-in-GetSettingsReply-clause-written : goal.returns-in-GetSettingsReply-clause-written
returns-in-GetSettingsReply-clause-written c = rw c.in-GetSettingsReply.is c.write_get_settings_reply.ensures.written

pub returns-in-GetSettingsReply-clause-full : goal.returns-in-GetSettingsReply-clause-full
returns-in-GetSettingsReply-clause-full c = rw c.in-GetSettingsReply.is c.write_get_settings_reply.ensures.full

pub returns-in-GetSettingsReply-clause-in_range : goal.returns-in-GetSettingsReply-clause-in_range
returns-in-GetSettingsReply-clause-in_range c = rw c.in-GetSettingsReply.is c.write_get_settings_reply.ensures.in_range

pub returns-in-SetSettings-clause-written : goal.returns-in-SetSettings-clause-written
returns-in-SetSettings-clause-written c = rw c.in-SetSettings.is c.write_set_settings.ensures.written

pub returns-in-SetSettings-clause-full : goal.returns-in-SetSettings-clause-full
returns-in-SetSettings-clause-full c = rw c.in-SetSettings.is c.write_set_settings.ensures.full

pub returns-in-SetSettings-clause-in_range : goal.returns-in-SetSettings-clause-in_range
returns-in-SetSettings-clause-in_range c = rw c.in-SetSettings.is c.write_set_settings.ensures.in_range

pub returns-in-SetSettingsReply-clause-written : goal.returns-in-SetSettingsReply-clause-written
returns-in-SetSettingsReply-clause-written c = rw c.in-SetSettingsReply.is c.write_set_settings_reply.ensures.written

pub returns-in-SetSettingsReply-clause-in_range : goal.returns-in-SetSettingsReply-clause-in_range
returns-in-SetSettingsReply-clause-in_range c = rw c.in-SetSettingsReply.is c.write_set_settings_reply.ensures.in_range
