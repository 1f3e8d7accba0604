use Rattle.std.proofs.Common.{◌-◌, ◌∙◌, length, rules}
use Rattle.pb_base.specs.Fields.{Unread, unread}
use Rattle.pb_layout.proofs.Lengths.{settings-end, settings-more, settings-refused, settings-all}
use Rattle.pb_layout.proofs.lists.check_settings.Goals as goal

pub returns-then-is_empty-clause-read : goal.returns-then-is_empty-clause-read
returns-then-is_empty-clause-read c =
    let u : Unread = unread (c.args.message_len - length c.loop.left.now) c.loop.left.now in
    (u, c.loop.invariant.so_far ∙ settings-end _ u (search rules))

pub returns-in-Err-clause-refused : goal.returns-in-Err-clause-refused
returns-in-Err-clause-refused c = c.loop.invariant.so_far ∙ settings-refused _ _ _ _ c.loop-test.true c.if-is_empty.ensures c.in-Err.ensures.refused

pub loop-preserved : goal.loop-preserved
loop-preserved c = record {
  so_far = c.loop.invariant.so_far ∙ settings-more _ _ _ _ c.loop-test.true c.if-is_empty.ensures c.in-Ok.ensures.read;
  within = search rules;
}

pub returns-clause-read : goal.returns-clause-read
returns-clause-read c =
    let u : Unread = unread (c.args.message_len - length c.loop.left.now) c.loop.left.now in
    (u, c.loop.invariant.so_far ∙ settings-all _ _ u (search rules))
