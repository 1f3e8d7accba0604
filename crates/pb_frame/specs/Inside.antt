-- What is true of the fields of every unframer.
use Rattle.std.specs.Prelude.{◌≡◌, ◌+◌, ◌*◌, ◌≤◌, ◌≢◌, take}
use Rattle.pb_frame.specs.declared.unframer.Unframer.TheInside.{Inside}
use Rattle.pb_frame.specs.declared.state.State.TheVariants.{Whole}
use Rattle.pb_frame.specs.Signature.{start, sig}

-- The signature is that of the body so far; a whole body has a body's size.
pub record IsUnframer (u : Inside) : Type 0 where
  pub room : u.length ≤ 1010
  pub signed : 256 * u.signer.high + u.signer.low ≡ sig (take u.length u.body) start
  pub size : u.state ≡ Whole → u.length ≢ 6 → 10 ≤ u.length
  pub some : u.state ≡ Whole → 6 ≤ u.length
