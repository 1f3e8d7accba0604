-- Tables by their numbers, and what they stand for.
use Rattle.std.proofs.Common.{◌≡◌, ℕ, zero, suc, List, [], ◌∷◌, slice_get, Option, Some, None, refl, subst}
use Rattle.pb_station.specs.State.{KeptTable, Table, TableStandsFor, TablesStandFor}
use Rattle.pb_station.specs.Collect.{numbered}
use Rattle.pb_station.specs.Inside.Commands.{numbered_in}

at-none : (kept : List KeptTable) (tables : List Table) (n : ℕ) → TablesStandFor kept tables → slice_get kept n ≡ None → slice_get tables n ≡ None
at-none [] [] n stand e = refl
at-none [] (t ∷ tables) n stand e = absurd stand
at-none (k ∷ kept) [] n stand e = absurd stand
at-none (k ∷ kept) (t ∷ tables) zero stand e = absurd cc
at-none (k ∷ kept) (t ∷ tables) (suc n) stand e = at-none kept tables n stand.1 e

pub record Found (at : Option Table) (kept : KeptTable) : Type 0 where
  pub table : Table
  pub is : at ≡ Some table
  pub stands : TableStandsFor kept table

pub at-some : (kept : List KeptTable) (tables : List Table) (n : ℕ) (k : KeptTable) → TablesStandFor kept tables → slice_get kept n ≡ Some k → Found (slice_get tables n) k
at-some [] tables n k stand e = absurd cc
at-some (j ∷ kept) [] n k stand e = absurd stand
at-some (j ∷ kept) (t ∷ tables) zero k stand e = let same : j ≡ k = cc in record { table = t; is = refl; stands = subst (λ (x : KeptTable). TableStandsFor x t) same stand.0 }
at-some (j ∷ kept) (t ∷ tables) (suc n) k stand e = at-some kept tables n k stand.1 e

pub none-numbered : (kept : List KeptTable) (tables : List Table) (n : ℕ) → TablesStandFor kept tables → numbered_in kept n ≡ None → numbered tables n ≡ None
none-numbered kept tables zero stand e = refl
none-numbered kept tables (suc n) stand e = at-none kept tables n stand e

pub some-numbered : (kept : List KeptTable) (tables : List Table) (n : ℕ) (k : KeptTable) → TablesStandFor kept tables → numbered_in kept n ≡ Some k → Found (numbered tables n) k
some-numbered kept tables zero k stand e = absurd cc
some-numbered kept tables (suc n) k stand e = at-some kept tables n k stand e
