-- A disk in memory is lawful, whatever was done to it.
use Rattle.std.specs.Prelude.{◌≡◌, ℕ, ◌+◌, ◌≤◌, ◌&&◌, max, Bool, true, false, nat_le, if◌then◌else◌, List, [], ◌∷◌, ◌++◌, length, take, drop, Some, refl}
use Rattle.std.proofs.Common.{sym, ◌∙◌, ap, subst, inl, inr, arith, append_assoc, length-append, length-drop}
use Rattle.std.proofs.lemmas.Bool.{leb-true, le-leb, cond-true}
use Rattle.std.proofs.lemmas.List.{length-take, take_at, drop_at, take_all}
use Rattle.std.proofs.lemmas.Option.{same_Some}
use Rattle.pb_base.specs.World.{World}
use Rattle.pb_io.specs.Crash.{max_file_len, overlaid, Torn, Shortened}
use Rattle.pb_io.specs.DiskLog.{Change, Wrote, Cut, Synced, Linked, fits, file_of, image_of, world_of, left_after, DiskLog, disk_view}
use Rattle.pb_io.specs.View.{IsLawful}

pub length-overlaid : (f : List ℕ) (at : ℕ) (bytes : List ℕ) → at ≤ length f
    → length (overlaid f at bytes) ≡ max (length f) (at + length bytes)
length-overlaid f at bytes le =
    omega (
      arith,
      length-append (take at f) (bytes ++ drop (at + length bytes) f),
      length-append bytes
          (drop (at + length bytes) f),
      length-take at f,
      length-drop (at + length bytes) f,
    )

pub overlaid-torn : (f : List ℕ) (at : ℕ) (bytes : List ℕ) → at ≤ length f → Torn at (length bytes) f (overlaid f at bytes)
overlaid-torn f at bytes le =
    let size : length (take at f) ≡ at = omega (arith, length-take at f) in
    let both : length (take at f ++ bytes) ≡ at + length bytes = omega (arith, length-append (take at f) bytes, size) in
    record {
      before = take_at (take at f) (bytes ++ drop (at + length bytes) f) at size;
      after = ap (drop (at + length bytes)) (sym (append_assoc (take at f) bytes (drop (at + length bytes) f)))
          ∙ drop_at (take at f ++ bytes) (drop (at + length bytes) f) (at + length bytes) both;
      no_shorter = omega (arith, length-overlaid f at bytes le);
    }

pub take-shortened : (f : List ℕ) (len : ℕ) → Shortened len f (take len f)
take-shortened f len = record { before = take-take len f; no_longer = omega (arith, length-take len f) }
  where
    take-take : (n : ℕ) (l : List ℕ) → take n (take n l) ≡ take n l
    take-take n l = take_all n (take n l) (omega (arith, length-take n l))

both_true : (a b : Bool) → a && b ≡ true → (a ≡ true) × (b ≡ true)
both_true true b is = (refl, is)
both_true false b is = absurd (cc is)

-- a write that fits begins within the file and ends within its bound
pub fits-true : (f : List ℕ) (at : ℕ) (bytes : List ℕ) → fits f at bytes ≡ true
    → (at ≤ length f) × (at + length bytes ≤ max_file_len)
fits-true f at bytes is =
    let (within, short) = both_true (nat_le at (length f)) (nat_le (at + length bytes) max_file_len) is in
    (leb-true _ _ within, leb-true _ _ short)

pub true-fits : (f : List ℕ) (at : ℕ) (bytes : List ℕ) → at ≤ length f → at + length bytes ≤ max_file_len → fits f at bytes ≡ true
true-fits f at bytes within short =
    ap (λ b. b && nat_le (at + length bytes) max_file_len) (le-leb at (length f) within)
    ∙ le-leb (at + length bytes) max_file_len short

pub Torn-refl : (at n : ℕ) (f : List ℕ) → Torn at n f f
Torn-refl at n f = record { before = refl; after = refl; no_shorter = omega arith }

wrote-short : (f : List ℕ) (at : ℕ) (bytes : List ℕ) (b : Bool) → fits f at bytes ≡ b → length f ≤ max_file_len
    → length (if b then overlaid f at bytes else f) ≤ max_file_len
wrote-short f at bytes true is short =
    let fit = fits-true f at bytes is in omega (arith, fit.0, fit.1, length-overlaid f at bytes fit.0, short)
wrote-short f at bytes false is short = short

wrote-torn : (f : List ℕ) (at : ℕ) (bytes : List ℕ) (b : Bool) → fits f at bytes ≡ b
    → Torn at (length bytes) f (if b then overlaid f at bytes else f)
wrote-torn f at bytes true is = let fit = fits-true f at bytes is in overlaid-torn f at bytes fit.0
wrote-torn f at bytes false is = Torn-refl at (length bytes) f

pub file-short : (first : List ℕ) (changes : List Change) → length (file_of first changes) ≤ max_file_len
file-short first [] = omega (arith, length-take max_file_len first)
file-short first (Wrote at bytes ∷ earlier) =
    wrote-short (file_of first earlier) at bytes (fits (file_of first earlier) at bytes) refl (file-short first earlier)
file-short first (Cut len ∷ earlier) = omega (arith, length-take len (file_of first earlier), file-short first earlier)
file-short first (Synced ∷ earlier) = file-short first earlier
file-short first (Linked events ∷ earlier) = file-short first earlier

pub file-image : (first : List ℕ) (changes : List Change) → image_of first changes (file_of first changes)
file-image first [] = refl
file-image first (Wrote at bytes ∷ earlier) =
    let f = file_of first earlier in (
      wrote-short f at bytes (fits f at bytes) refl (file-short first earlier),
      (f, file-image first earlier, wrote-torn f at bytes (fits f at bytes) refl),
    )
file-image first (Cut len ∷ earlier) =
    (file_of first earlier, file-image first earlier, take-shortened (file_of first earlier) len)
file-image first (Synced ∷ earlier) = refl
file-image first (Linked events ∷ earlier) = file-image first earlier

image-short : (first : List ℕ) (changes : List Change) (c : List ℕ) → image_of first changes c → length c ≤ max_file_len
image-short first [] c is = omega (arith, ap length is, file-short first [])
image-short first (Wrote at bytes ∷ earlier) c (short, torn) = short
image-short first (Cut len ∷ earlier) c (d, was, step) = omega (arith, image-short first earlier d was, step.no_longer)
image-short first (Synced ∷ earlier) c is = omega (arith, ap length is, file-short first earlier)
image-short first (Linked events ∷ earlier) c was = image-short first earlier c was

left-early : (first : List ℕ) (changes : List Change) (t : ℕ) (w : World) (c : List ℕ) → left_after first changes t w c
    → t ≤ length changes
left-early first [] t w c left = left.0
left-early first (change ∷ earlier) t w c (inl now) = now.0
left-early first (change ∷ earlier) t w c (inr left) = omega (arith, left-early first earlier t w c left)

left-counts : (first : List ℕ) (changes : List Change) (t : ℕ) (w : World) (c : List ℕ) → t ≤ length changes
    → Some (world_of changes) ≡ Some w → image_of first changes c → left_after first changes t w c
left-counts first [] t w c le is image = (le, sym (same_Some _ _ is), image)
left-counts first (change ∷ earlier) t w c le is image = inl (le, sym (same_Some _ _ is), image)

left-only : (first : List ℕ) (changes : List Change) (w : World) (c : List ℕ)
    → left_after first changes (length changes) w c → (Some (world_of changes) ≡ Some w) × image_of first changes c
left-only first [] w c (le, is, image) = (ap (λ x. Some x) (sym is), image)
left-only first (change ∷ earlier) w c (inl (le, is, image)) = (ap (λ x. Some x) (sym is), image)
left-only first (change ∷ earlier) w c (inr left) =
    absurd (omega (arith, left-early first earlier (length (change ∷ earlier)) w c left))

pub disk_is_lawful : (disk : DiskLog) (link_faults quiets : ℕ) → IsLawful (disk_view disk link_faults quiets)
disk_is_lawful disk link_faults quiets = record {
  reads = λ f is. subst (image_of disk.first disk.changes) (same_Some _ _ is) (file-image disk.first disk.changes);
  known = λ c image. (file_of disk.first disk.changes, refl);
  short = image-short disk.first disk.changes;
  counts_now = left-counts disk.first disk.changes;
  only_now = left-only disk.first disk.changes;
}

-- what a disk holds at first is its file, where that isn't too long
pub first_whole : (first bytes : List ℕ) → bytes ≡ first → length first ≤ max_file_len → bytes ≡ file_of first []
first_whole first bytes is le = is ∙ sym (take_all max_file_len first le)

-- a write that is logged is in the file
pub file_wrote : (first : List ℕ) (earlier : List Change) (at : ℕ) (bytes : List ℕ) → at ≤ length (file_of first earlier)
    → at + length bytes ≤ max_file_len
    → file_of first (Wrote at bytes ∷ earlier) ≡ overlaid (file_of first earlier) at bytes
file_wrote first earlier at bytes within short =
    cond-true (fits (file_of first earlier) at bytes) _ _ (true-fits (file_of first earlier) at bytes within short)
