-- Settings that are given and set.
use Rattle.std.proofs.Common.{◌≡◌, ℕ, zero, suc, ◌-◌, ◌≤◌, ◌<◌, min, Bool, true, false, cond, leb, List, [], ◌∷◌, ◌++◌, length, get_or, take, drop, Option, Some, None, refl, sym, ap, ap₂, subst, ◌∙◌, append_assoc, append-nil, length-append, length-drop, arith}
use Rattle.std.specs.List.{AllByRecursion, flat_map}
use Rattle.std.specs.Int.{w16, from_be_bytes}
use Rattle.std.proofs.lemmas.List.{take-append-drop, drop-drop, take_min}
use Rattle.std.proofs.Math.Seq.{take-append_seam}
use Rattle.pb_base.specs.Put.{Writing, with_piece, IsWritten}
use Rattle.pb_layout.specs.Kind.{Setting, setting_bytes, IsSetting, AreSettings}
use Rattle.pb_ctrl.specs.Message.{GetSettingsReply, Valid}
use Rattle.pb_station.specs.State.{DeviceState}
use Rattle.pb_station.specs.Files.{name_max}
use Rattle.pb_station.specs.Settings.{WereSet, setting, settings_of, settings_in, set_one, set_all, given, settings_from}
use Rattle.pb_station.specs.Inside.Steps.{IsFirst, Became}

-- ---- pieces that are written one after another

abbrev pub joined : List (List ℕ) → List ℕ
joined pieces = flat_map (λ piece. piece) pieces

abbrev pub put_all : List (List ℕ) → Writing → Writing
put_all [] w = w
put_all (p ∷ ps) w = put_all ps (with_piece p w)

front-all : (ps : List (List ℕ)) (w : Writing) → (put_all ps w).front ≡ w.front ++ joined ps
front-all [] w = sym (append-nil w.front)
front-all (p ∷ ps) w = front-all ps (with_piece p w) ∙ append_assoc w.front p (joined ps)

room-all : (ps : List (List ℕ)) (w : Writing) → (put_all ps w).room ≡ drop (length (joined ps)) w.room
room-all [] w = refl
room-all (p ∷ ps) w =
    room-all ps (with_piece p w) ∙ drop-drop (length (joined ps)) (length p) w.room ∙ ap (λ (n : ℕ). drop n w.room) (sym (length-append p (joined ps)))

pub pieces-written : (ps : List (List ℕ)) (w v : Writing) (old new : List ℕ) (len n : ℕ) → w.front ≡ [] → w.room ≡ old → v ≡ put_all ps w → v.front ≡ take len new → v.room ≡ drop len new → n ≡ length v.front
    → IsWritten (joined ps) old new n
pieces-written ps w v old new len n ef er ev vf vr en =
    let f : v.front ≡ joined ps = ap (λ (x : Writing). x.front) ev ∙ front-all ps w ∙ ap (λ (x : List ℕ). x ++ joined ps) ef in
    let r : v.room ≡ drop (length (joined ps)) old = ap (λ (x : Writing). x.room) ev ∙ room-all ps w ∙ ap (drop (length (joined ps))) er in
    let size : n ≡ length (joined ps) = en ∙ ap length f in
    record {
      len = size;
      parts = sym (take-append-drop len new) ∙ ap₂ (λ (x y : List ℕ). x ++ y) (sym vf ∙ f) (sym vr ∙ r) ∙ ap (λ (k : ℕ). joined ps ++ drop k old) (sym size);
    }

-- ---- those that are given are settings

abbrev given-bytes : ℕ → Setting → Bool → List ℕ
given-bytes first s b = cond b (setting_bytes s) []

with-given : (first : ℕ) (s : Setting) (rest : List ℕ) (b : Bool) → IsSetting s → AreSettings rest → AreSettings (cond b (setting_bytes s) [] ++ rest)
with-given first s rest true is a = (s ∷ a.0, ap (λ (x : List ℕ). setting_bytes s ++ x) a.1, (is, a.2))
with-given first s rest false is a = a

given-all : (first : ℕ) (ss : List Setting) → AllByRecursion IsSetting ss → AreSettings (flat_map (given first) ss)
given-all first [] all = ([], refl, tt)
given-all first (s ∷ ss) all = with-given first s (flat_map (given first) ss) (leb first s.number) all.0 (given-all first ss all.1)

all-settings : (device : DeviceState) → length device.name ≤ name_max → AllByRecursion IsSetting (settings_of device)
all-settings device short = (
  record { number = omega arith; content = omega arith },
  (
    record { number = omega arith; content = omega arith },
    (
      record { number = omega arith; content = omega (arith, short) },
      (
        record { number = omega arith; content = omega arith },
        (record { number = omega arith; content = omega arith }, tt),
      ),
    ),
  ),
)

pub valid-given : (tran first : ℕ) (device : DeviceState) (bytes : List ℕ) → length device.name ≤ name_max → bytes ≡ settings_from first device → Valid (GetSettingsReply tran 0 0 bytes)
valid-given tran first device bytes short e =
    subst (λ (x : List ℕ). Valid (GetSettingsReply tran 0 0 x)) (sym e)
    (record { obeys = (tt, (tt, (tt, (tt, (given-all first (settings_of device) (all-settings device short), tt))))); makes = refl })

pub front-written : (bytes old new : List ℕ) (n : ℕ) → IsWritten bytes old new n → take n new ≡ bytes
front-written bytes old new n w = ap (take n) w.parts ∙ ap (λ (k : ℕ). take k (bytes ++ drop n old)) w.len ∙ take-append_seam bytes (drop n old)

-- ---- the first setting of bytes

four : (xs : List ℕ) → 4 ≤ length xs → xs ≡ get_or xs 0 0 ∷ (get_or xs 1 0 ∷ (get_or xs 2 0 ∷ (get_or xs 3 0 ∷ drop 4 xs)))
four [] le = absurd (omega (arith, le))
four (a ∷ []) le = absurd (omega (arith, le))
four (a ∷ b ∷ []) le = absurd (omega (arith, le))
four (a ∷ b ∷ c ∷ []) le = absurd (omega (arith, le))
four (a ∷ b ∷ c ∷ d ∷ xs) le = refl

nil-drop : (k : ℕ) (xs : List ℕ) → xs ≡ [] → drop k xs ≡ []
nil-drop zero xs e = e
nil-drop (suc k) [] e = refl
nil-drop (suc k) (x ∷ xs) e = absurd cc

drop-min : (n : ℕ) (xs : List ℕ) → drop (min n (length xs)) xs ≡ drop n xs
drop-min zero xs = let e : min 0 (length xs) ≡ 0 = omega arith in ap (λ (k : ℕ). drop k xs) e
drop-min (suc n) [] = nil-drop (min (suc n) 0) [] refl
drop-min (suc n) (x ∷ xs) = let e : min (suc n) (suc (length xs)) ≡ suc (min n (length xs)) = omega arith in ap (λ (k : ℕ). drop k (x ∷ xs)) e ∙ drop-min n xs

take-whole : (n : ℕ) (xs : List ℕ) → length xs ≤ n → take n xs ≡ xs
take-whole zero [] le = refl
take-whole zero (x ∷ xs) le = absurd (omega (arith, le))
take-whole (suc n) [] le = refl
take-whole (suc n) (x ∷ xs) le = ap (λ ys. x ∷ ys) (take-whole n xs (omega (arith, le)))

-- all from a place on
pub tail-all : (n : ℕ) (xs : List ℕ) → take (length xs - n) (drop n xs) ≡ drop n xs
tail-all n xs = take-whole (length xs - n) (drop n xs) (omega (arith, length-drop n xs))

pub is-first : (xs rest content after : List ℕ) (number len : ℕ) → 4 ≤ length xs → number ≡ from_be_bytes w16 (get_or xs 0 0 ∷ get_or xs 1 0 ∷ [])
    → rest ≡ drop 4 xs → len ≡ min (from_be_bytes w16 (get_or xs 2 0 ∷ get_or xs 3 0 ∷ [])) (length rest) → content ≡ take len rest → after ≡ drop len rest
    → IsFirst xs (setting number content) after
is-first xs rest content after number len le en er el ec ea = λ most.
    let size = from_be_bytes w16 (get_or xs 2 0 ∷ get_or xs 3 0 ∷ []) in
    let t : content ≡ take size (drop 4 xs) = ec ∙ ap (λ (k : ℕ). take k rest) el ∙ take_min size rest ∙ ap (take size) er in
    let d : after ≡ drop size (drop 4 xs) = ea ∙ ap (λ (k : ℕ). drop k rest) el ∙ drop-min size rest ∙ ap (drop size) er in
    ap (settings_in (suc most)) (four xs le)
    ∙ ap₂ (λ (s : Setting) (ss : List Setting). s ∷ ss) (ap₂ setting (sym en) (sym t)) (ap (settings_in most) (sym d))

pub no-first : (xs : List ℕ) → length xs < 4 → (most : ℕ) → settings_in most xs ≡ []
no-first xs lt zero = refl
no-first [] lt (suc most) = refl
no-first (a ∷ []) lt (suc most) = refl
no-first (a ∷ b ∷ []) lt (suc most) = refl
no-first (a ∷ b ∷ c ∷ []) lt (suc most) = refl
no-first (a ∷ b ∷ c ∷ d ∷ xs) lt (suc most) = absurd (omega (arith, lt))

-- ---- setting them

abbrev chosen : DeviceState → ℕ → List Setting → Option DeviceState → WereSet
chosen device number ss w =
    elim w as (λ set. WereSet) [
      | Some after ↦ set_all after ss
      | None ↦ record { outcome = 1; number = number; device = device }
    ]

pub set-next : (device : DeviceState) (s : Setting) (ss : List Setting) (w : Option DeviceState) (new : DeviceState) (done : Bool) → set_one device s ≡ w → Became w device new done → done ≡ true
    → set_all device (s ∷ ss) ≡ set_all new ss
set-next device s ss (Some x) new done e b t = ap (chosen device s.number ss) e ∙ ap (λ (d : DeviceState). set_all d ss) (sym b.1)
set-next device s ss None new done e b t = absurd cc

pub set-stops : (device : DeviceState) (s : Setting) (ss : List Setting) (w : Option DeviceState) (new : DeviceState) (done : Bool) → set_one device s ≡ w → Became w device new done → done ≡ false
    → set_all device (s ∷ ss) ≡ record { outcome = 1; number = s.number; device = new }
set-stops device s ss (Some x) new done e b t = absurd cc
set-stops device s ss None new done e b t = ap (chosen device s.number ss) e ∙ stopped b.1
  where
    stopped : new ≡ device → ◌≡◌ {A = WereSet} (record { outcome = 1; number = s.number; device = device }) (record { outcome = 1; number = s.number; device = new })
    stopped same = ap (λ (d : DeviceState). record { outcome = 1; number = s.number; device = d }) (sym same)
