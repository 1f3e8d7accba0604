-- What is always true of the fields of `Ring`.
use Rattle.std.specs.Prelude.{◌≡◌, ◌+◌, ◌*◌, ◌^◌, ◌<◌, ◌≤◌, min, length}
use Rattle.pb_ring.specs.Ring.{Kept}
use Rattle.pb_ring.specs.declared.ring.Ring.TheInside as ring

-- what a ring keeps
abbrev pub kept : ring.Inside → Kept
kept r = record { record_len = r.record_len; capacity = r.capacity; next = r.next; bytes = r.bytes.items }

-- The room was taken when the ring was made, for whole contents, and it holds as many of them as were stored and fit.
pub record IsRing (r : ring.Inside) : Type 0 where
  pub some : 1 ≤ r.capacity
  pub few : r.capacity * (8 + r.record_len) ≤ 67108864
  pub room : r.bytes.capacity ≡ r.capacity * (8 + r.record_len)
  pub held : length r.bytes.items ≡ min r.next r.capacity * (8 + r.record_len)
  pub word : r.next < 2 ^ 32
