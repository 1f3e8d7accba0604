-- The calls of a form in memory: which of them fail, and what is counted of them.
use Rattle.std.specs.Prelude.{ℕ, Bool, List, ◌==◌, if◌then◌else◌}
use Rattle.std.specs.List.{list_any}
use Rattle.pb_io.specs.Faults.{counted}

pub record Calls : Type 0 where
  pub fails : List ℕ
  pub made : ℕ
  pub faults : ℕ

-- the number of the next call, from 0, is one of those that fail
abbrev pub is_listed : Calls → Bool
is_listed calls = list_any (λ n. n == calls.made) calls.fails

-- after one call more
abbrev pub after_call : Calls → Bool → Calls
after_call calls failed = record {
  fails = calls.fails;
  made = counted calls.made;
  faults = if failed then counted calls.faults else calls.faults;
}

-- before the first call
abbrev pub no_calls : List ℕ → Calls
no_calls fails = record { fails = fails; made = 0; faults = 0 }
