-- Laws of the definitions: settings and their bytes, and how many records have room.
use Rattle.std.proofs.Common.{◌≡◌, ◌↔◌, ◌⊎◌, inl, inr, ℕ, zero, suc, ◌*◌, ◌/◌, ◌≤◌, ◌<◌, Bool, true, false, eqb, List, [], ◌∷◌, ◌++◌, length, take, drop, refl, ap, ap₂, ◌∙◌, length-append, arith}
use Rattle.std.specs.List.{AllByRecursion, flat_map}
use Rattle.std.specs.Int.{w16, to_be_bytes, from_be_bytes}
use Rattle.std.proofs.Math.Nat.{mul-le-mul_right}
use Rattle.std.proofs.Math.Seq.{take-append_seam, drop-append_seam}
use Rattle.std.proofs.lemmas.Bool.{eqb-true, eqb-false, cases_lt}
use Rattle.std.proofs.lemmas.Nat.{from_be_bytes-to_be_bytes_2}
use Rattle.pb_base.specs.declared.layout.Layout.{Layout}
use Rattle.pb_base.specs.Record.{content_len, run_len}
use Rattle.pb_layout.specs.Kind.{Setting, setting_bytes, IsSetting}
use Rattle.pb_station.specs.Settings.{setting, settings_in}
use Rattle.pb_station.specs.Collect.{room_of, bytes_max, records_max}

-- ---- settings

first-setting : (s : Setting) (rest : List ℕ) (most : ℕ) → IsSetting s → settings_in (suc most) (setting_bytes s ++ rest) ≡ s ∷ settings_in most rest
first-setting s rest most is =
    let len = from_be_bytes-to_be_bytes_2 (length s.content) is.content in
    let content : take (from_be_bytes w16 (to_be_bytes w16 (length s.content))) (s.content ++ rest) ≡ s.content =
    ap (λ (n : ℕ). take n (s.content ++ rest)) len ∙ take-append_seam s.content rest in
    let after : drop (from_be_bytes w16 (to_be_bytes w16 (length s.content))) (s.content ++ rest) ≡ rest =
    ap (λ (n : ℕ). drop n (s.content ++ rest)) len ∙ drop-append_seam s.content rest in
    ap₂ (λ (x : Setting) (xs : List Setting). x ∷ xs) (ap₂ setting (from_be_bytes-to_be_bytes_2 s.number is.number) content) (ap (settings_in most) after)

pub all-settings : (settings : List Setting) (most : ℕ) → AllByRecursion IsSetting settings → length (flat_map setting_bytes settings) ≤ most → settings_in most (flat_map setting_bytes settings) ≡ settings
all-settings [] zero all le = refl
all-settings [] (suc most) all le = refl
all-settings (s ∷ settings) zero all le = absurd (omega (arith, le, length-append (setting_bytes s) (flat_map setting_bytes settings)))
all-settings (s ∷ settings) (suc most) all le =
    first-setting s (flat_map setting_bytes settings) most all.0
    ∙ ap (λ (xs : List Setting). s ∷ xs) (all-settings settings most all.1 (omega (arith, le, length-append (setting_bytes s) (flat_map setting_bytes settings))))

-- ---- records that have room

times-fit : (x c n : ℕ) → 0 < c → n ≤ x / c → n * c ≤ x
times-fit x c n some le = let p : n * c ≤ x / c * c = mul-le-mul_right c le in omega (arith, p)

fit-times : (x c n : ℕ) → 0 < c → n * c ≤ x → n ≤ x / c
fit-times x c n some le = by (cases_lt (x / c) n)
  where
    by : (x / c < n) ⊎ (n ≤ x / c) → n ≤ x / c
    by (inl lt) = let p : suc (x / c) * c ≤ n * c = mul-le-mul_right c lt in absurd (omega (arith, p, le))
    by (inr fits) = fits

few-fit : (x c : ℕ) → 0 < c → x / c ≤ x
few-fit x zero some = absurd (omega (arith, some))
few-fit x (suc c) some = let p : 1 * (x / suc c) ≤ suc c * (x / suc c) = mul-le-mul_right (x / suc c) (omega arith) in omega (arith, p)

pub room-fits : (layout : Layout) (n : ℕ) → content_len layout ≤ bytes_max → 1 ≤ n → (n ≤ room_of layout) ↔ ((n ≤ records_max) × (run_len layout n ≤ bytes_max))
room-fits layout zero short some = absurd (omega (arith, some))
room-fits layout (suc n) short some = by layout.event (eqb layout.record_len 0) refl refl
  where
    by : (b e : Bool) → layout.event ≡ b → eqb layout.record_len 0 ≡ e → (suc n ≤ room_of layout) ↔ ((suc n ≤ records_max) × (run_len layout (suc n) ≤ bytes_max))
    by true e be ee =
        rw be (
          λ le. (omega (arith, le, few-fit 960 (content_len layout) (omega arith)), times-fit 960 (content_len layout) (suc n) (omega arith) le),
          λ both. fit-times 960 (content_len layout) (suc n) (omega arith) both.1,
        )
    by false true be ee =
        let none = eqb-true layout.record_len 0 ee in
        let zeros : suc n * layout.record_len ≡ suc n * 0 = ap (λ (k : ℕ). suc n * k) none in
        rw (be, ee) (λ le. (le, omega (arith, zeros)), λ both. both.0)
    by false false be ee =
        let nonzero : layout.record_len ≡ 0 → ⊥ = eqb-false layout.record_len 0 ee in
        rw (be, ee) (
          λ le. let fits = times-fit 952 layout.record_len (suc n) (omega (arith, nonzero)) (omega (arith, le)) in (omega (arith, le), omega (arith, fits)),
          λ both. let fits = fit-times 952 layout.record_len (suc n) (omega (arith, nonzero)) (omega (arith, both.1)) in omega (arith, both.0, fits),
        )
