-- What the first bytes of a file say of it.
use Rattle.std.proofs.Common.{◌≡◌, inl, inr, ⊎_elim, ℕ, ◌<◌, ◌≤◌, List, length, take, get_or, sym, ◌∙◌, ap, arith}
use Rattle.std.specs.Option.{ForSome}
use Rattle.std.specs.Prelude.{Option}
use Rattle.std.proofs.lemmas.Bool.{cases_lt}
use Rattle.std.proofs.lemmas.List.{take-take, get_or-take}
use Rattle.pb_journal.specs.Entries.{first_byte, header}
use Rattle.pb_journal.specs.Inside.{HeaderRefuses, HasHeader}
use Rattle.pb_journal.specs.Refusals.{IsCreated, DiffersAt, OpenRefuses}
use Rattle.pb_journal.specs.declared.fault.JournalFault.{JournalFault}
use Rattle.pb_journal.specs.declared.fault.JournalFault.TheVariants.{NotCreated, Exists, Format, DiskFault, MustReopen, Memory}

-- a file of this length that begins with these nine bytes
pub record BeginsWith (prefix : List ℕ) (len : ℕ) (f : List ℕ) : Type 0 where
  pub size : len ≡ length f
  pub long : 9 ≤ len
  pub bytes : prefix ≡ take 9 f

module _ (prefix : List ℕ) (len : ℕ) (f : List ℕ) (begins : BeginsWith prefix len f) where
  byte_at : (i : ℕ) → i < 9 → get_or prefix i 0 ≡ get_or f i 0
  byte_at i lt = ap (λ (l : List ℕ). get_or l i 0) begins.bytes ∙ get_or-take 9 f i 0 lt

  prefix_at : (i : ℕ) → i ≤ 9 → take i prefix ≡ take i f
  prefix_at i le = ap (λ (l : List ℕ). take i l) begins.bytes ∙ take-take i 9 f le

  pub differs_in_file : (at : ℕ) → DiffersAt prefix at → DiffersAt f at
  differs_in_file at differs = record {
    within = differs.within;
    same = sym (prefix_at at (omega (arith, differs.within))) ∙ differs.same;
    other = λ is. differs.other (byte_at at (omega (arith, differs.within)) ∙ is);
  }

  -- by its first byte
  pub created_by : get_or prefix 0 0 ≡ first_byte → IsCreated f
  created_by first = ⊎_elim (λ longer. inl (omega (arith, longer, begins.size))) (λ le. inr (omega (arith, le, begins.size, begins.long), sym (byte_at 0 (omega arith)) ∙ first)) (cases_lt 9 len)

  pub header_read : take 8 prefix ≡ header → HasHeader len f
  header_read is = record {
    size = begins.size;
    created = created_by (sym (get_or-take 8 prefix 0 0 (omega arith)) ∙ ap (λ (l : List ℕ). get_or l 0 0) is);
    header_is = sym (prefix_at 8 (omega arith)) ∙ is;
  }

pub header_refuses : (view : Option (List ℕ)) (prefix : List ℕ) (len : ℕ) (fault : JournalFault) → ForSome view (BeginsWith prefix len) → HeaderRefuses prefix len fault → OpenRefuses view fault
header_refuses view prefix len NotCreated begins refuses = λ f is. let b = begins f is in inr (omega (arith, refuses.0, b.size), λ same. refuses.1 (byte_at prefix len f b 0 (omega arith) ∙ same))
header_refuses view prefix len (Format at) begins refuses = λ f is.
    let b = begins f is in
    (⊎_elim (λ longer. inl (omega (arith, longer, b.size))) (λ first. created_by prefix len f b first) refuses.0, inl (differs_in_file prefix len f b at refuses.1))
header_refuses view prefix len Exists begins refuses = absurd refuses
header_refuses view prefix len DiskFault begins refuses = absurd refuses
header_refuses view prefix len MustReopen begins refuses = absurd refuses
header_refuses view prefix len Memory begins refuses = absurd refuses
