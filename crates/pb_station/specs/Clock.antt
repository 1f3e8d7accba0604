-- Sums of times that a clock can show.
use Rattle.std.specs.Prelude.{◌*◌, ◌^◌, ℤ, pos, neg_ℤ, int_le, int_lt, Bool, ◌&&◌}
use Rattle.pb_base.specs.declared.nsec.Nsec.{Nsec}
use Rattle.pb_base.specs.Time.{nanos, time_after}

-- the nanoseconds are less than a second
abbrev pub is_normal : Nsec → Bool
is_normal t = int_le (pos 0) t.nano && int_lt t.nano (pos 1000000000)

-- the second that so many nanoseconds lie in is a signed number of four bytes
abbrev pub has_second : ℤ → Bool
has_second n = int_le (neg_ℤ (pos (2 ^ 31 * 1000000000))) n && int_lt n (pos (2 ^ 31 * 1000000000))

-- the sum of the time and the adjustment is a time
abbrev pub has_sum : Nsec → Nsec → Bool
has_sum t adjust = is_normal t && (is_normal adjust && has_second (nanos (time_after t adjust 1)))
