use Rattle.std.proofs.Common.{◌≡◌, ◌-◌, ◌≤◌, length}
use Rattle.pb_base.specs.Fields.{unread}
use Rattle.pb_layout.specs.Reading.{settings_at}
use Rattle.pb_layout.proofs.lists.check_settings.Given as goal

abbrev pub invariant-loop : goal.invariant-loop
invariant-loop l = record {
  so_far : settings_at (length l.settings) (unread (l.message_len - length l.settings) l.settings) ≡ settings_at (length l.settings - l.counter) (unread (l.message_len - length l.left) l.left);
  within : length l.left ≤ length l.settings;
}
