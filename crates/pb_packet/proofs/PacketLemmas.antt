-- What reads as a packet has that packet's bytes, and the bytes of a packet read as it.
use Rattle.std.proofs.Common.{◌≡◌, ℕ, ◌+◌, ◌*◌, ◌/◌, ◌%◌, ◌<◌, ◌≤◌, ◌⊎◌, Bool, true, false, cond, eqb, List, [], ◌∷◌, ◌++◌, length, drop, get_or, Result, Ok, Err, IfOk, IsOkAnd, MatchResult, refl, sym, ap, subst, ◌∙◌, inl, inr, arith}
use Rattle.std.proofs.lemmas.List.{drop_more, drop_all}
use Rattle.std.proofs.lemmas.Bool.{eqb-true, eqb-false, ne_eqb, cond-false}
use Rattle.pb_packet.specs.declared.headers.LinkState.{LinkState}
use Rattle.pb_packet.specs.declared.headers.LinkState.TheVariants.{OffLine, Ring, Ready, Finished, Pause}
use Rattle.pb_packet.specs.declared.headers.Phys.{Phys}
use Rattle.pb_packet.specs.declared.headers.Header.{Header}
use Rattle.pb_packet.specs.declared.headers.PacketFault.{PacketFault}
use Rattle.pb_packet.specs.declared.headers.PacketFault.TheVariants.{ReservedState, NullAddress}
use Rattle.pb_packet.specs.declared.headers.Packet.{Packet}
use Rattle.pb_packet.specs.Packet.{Seen, seen_of, link, full, code_of, word, phys_bytes, packet_bytes, IsValidPhys, IsValidHeader, IsValid, PacketBytes, bits_at, address_at, with_state, with_address, phys_of, header_of, behind, packet_of}

-- ---- steps that may refuse

chosen : {X : Type 0} (b : Bool) (x y z : X) → cond b x y ≡ z → ((b ≡ true) × (x ≡ z)) ⊎ ((b ≡ false) × (y ≡ z))
chosen true x y z e = inl (refl, e)
chosen false x y z e = inr (refl, e)

no_error : {X : Type 0} (e : PacketFault) (y : X) → Err e ≡ Ok y → ⊥
no_error e y h = cc

pub ok_same : {X : Type 0} (x y : X) → ◌≡◌ {A = Result X PacketFault} (Ok x) (Ok y) → x ≡ y
ok_same x y e = cc

behind-ok : {X Y : Type 0} (r : Result X PacketFault) (f : X → Result Y PacketFault) (y : Y) → behind r f ≡ Ok y → (x : X) × (r ≡ Ok x) × (f x ≡ Ok y)
behind-ok (Ok x) f y e = (x, refl, e)
behind-ok (Err w) f y e = absurd (no_error w y e)

with_address-ok : {X : Type 0} (k : ℕ) (content : List ℕ) (f : ℕ → Result X PacketFault) (y : X) → with_address k content f ≡ Ok y
    → (1 ≤ address_at k content) × (f (address_at k content) ≡ Ok y)
with_address-ok k content f y e =
    elim (chosen (eqb (address_at k content) 0) (Err (NullAddress k)) (f (address_at k content)) (Ok y) e) [
      | inl w ↦ absurd (no_error (NullAddress k) y w.1)
      | inr w ↦ (let no = eqb-false (address_at k content) 0 w.0 in omega arith, w.1)
    ]

with_state-ok : {X : Type 0} (n : ℕ) (f : LinkState → Result X PacketFault) (y : X) → with_state n f ≡ Ok y
    → (s : LinkState) × (code_of s ≡ n) × (f s ≡ Ok y)
with_state-ok n f y e =
    elim (chosen (eqb n 8) (f OffLine) _ (Ok y) e) [
      | inl w ↦ (OffLine, sym (eqb-true n 8 w.0), w.1)
      | inr w ↦
          elim (chosen (eqb n 9) (f Ring) _ (Ok y) w.1) [
            | inl v ↦ (Ring, sym (eqb-true n 9 v.0), v.1)
            | inr v ↦
                elim (chosen (eqb n 10) (f Ready) _ (Ok y) v.1) [
                  | inl u ↦ (Ready, sym (eqb-true n 10 u.0), u.1)
                  | inr u ↦
                      elim (chosen (eqb n 11) (f Finished) _ (Ok y) u.1) [
                        | inl t ↦ (Finished, sym (eqb-true n 11 t.0), t.1)
                        | inr t ↦
                            elim (chosen (eqb n 12) (f Pause) (Err (ReservedState n)) (Ok y) t.1) [
                              | inl s ↦ (Pause, sym (eqb-true n 12 s.0), s.1)
                              | inr s ↦
                                  absurd (no_error (ReservedState n) y s.1)
                            ]
                      ]
                ]
          ]
    ]

with_state-code : {X : Type 0} (s : LinkState) (f : LinkState → Result X PacketFault) → with_state (code_of s) f ≡ f s
with_state-code OffLine f = refl
with_state-code Ring f = refl
with_state-code Ready f = refl
with_state-code Finished f = refl
with_state-code Pause f = refl

-- ---- the cells of a word

-- the first byte of a word, from its four bits and its address
high_cell : (h l : ℕ) → l < 256 → (h / 16) * 16 + ((h % 16) * 256 + l) / 256 ≡ h
high_cell h l small = omega arith

low_cell : (h l : ℕ) → l < 256 → ((h % 16) * 256 + l) % 256 ≡ l
low_cell h l small = omega arith

quarters : (b : ℕ) → (b / 4) * 4 + b % 4 ≡ b
quarters b = omega arith

address_fits : (h l : ℕ) → l < 256 → (h % 16) * 256 + l ≤ 4095
address_fits h l small = omega arith

first_four : (xs : List ℕ) → 4 ≤ length xs → xs ≡ get_or xs 0 0 ∷ get_or xs 1 0 ∷ get_or xs 2 0 ∷ get_or xs 3 0 ∷ drop 4 xs
first_four (a ∷ b ∷ c ∷ d ∷ xs) h = refl
first_four (a ∷ b ∷ c ∷ []) h = absurd (omega arith)
first_four (a ∷ b ∷ []) h = absurd (omega arith)
first_four (a ∷ []) h = absurd (omega arith)
first_four [] h = absurd (omega arith)

next_four : (xs : List ℕ) → 8 ≤ length xs → drop 4 xs ≡ get_or xs 4 0 ∷ get_or xs 5 0 ∷ get_or xs 6 0 ∷ get_or xs 7 0 ∷ drop 8 xs
next_four xs h =
    drop_more xs 4 0 (omega arith) ∙ ap (λ l. get_or xs 4 0 ∷ l) (drop_more xs 5 0 (omega arith)
    ∙ ap (λ l. get_or xs 5 0 ∷ l) (drop_more xs 6 0 (omega arith) ∙ ap (λ l. get_or xs 6 0 ∷ l) (drop_more xs 7 0 (omega arith))))

-- two words and what follows them
two_words : (a b c d high second : ℕ) (rest : List ℕ) → b < 256 → d < 256 → high ≡ a / 16 → second ≡ c / 16
    → word high ((a % 16) * 256 + b) ++ word second ((c % 16) * 256 + d) ++ rest ≡ a ∷ b ∷ c ∷ d ∷ rest
two_words a b c d high second rest small_b small_d is_high is_second =
    let one : high * 16 + ((a % 16) * 256 + b) / 256 ≡ a = omega (arith, high_cell a b small_b) in
    let two = low_cell a b small_b in
    let three : second * 16 + ((c % 16) * 256 + d) / 256 ≡ c = omega (arith, high_cell c d small_d) in
    let four = low_cell c d small_d in
    cc

-- ---- what is read

abbrev pub IsBytes : List ℕ → Type 0
IsBytes bytes = (i : ℕ) → get_or bytes i 0 < 256

abbrev made_phys : List ℕ → LinkState → ℕ → ℕ → Phys
made_phys content state dst src = record { state = state; dst = dst; more = bits_at 1 content / 4; priority = bits_at 1 content % 4; src = src }

abbrev made_header : List ℕ → Phys → ℕ → ℕ → Header
made_header content phys dst src = record { phys = phys; proto = bits_at 2 content; dst = dst; hops = bits_at 3 content; src = src }

phys_of-parts : (content : List ℕ) (p : Phys) → phys_of content ≡ Ok p
    → (s : LinkState) × (code_of s ≡ bits_at 0 content) × (1 ≤ address_at 0 content) × (1 ≤ address_at 1 content)
    × (made_phys content s (address_at 0 content) (address_at 1 content) ≡ p)
phys_of-parts content p e =
    let s = with_state-ok (bits_at 0 content) (λ (state : LinkState). with_address 0 content (λ dst. with_address 1 content (λ src. Ok (made_phys content state dst src)))) p e in
    let d = with_address-ok 0 content (λ (dst : ℕ). with_address 1 content (λ src. Ok (made_phys content s.0 dst src))) p s.2 in
    let r = with_address-ok 1 content (λ (src : ℕ). Ok (made_phys content s.0 (address_at 0 content) src)) p d.1 in
    (s.0, s.1, d.0, r.0, ok_same _ _ r.1)

header_of-parts : (phys : Phys) (content : List ℕ) (h : Header) → header_of phys content ≡ Ok h
    → (1 ≤ address_at 2 content) × (1 ≤ address_at 3 content) × (made_header content phys (address_at 2 content) (address_at 3 content) ≡ h)
header_of-parts phys content h e =
    let d = with_address-ok 2 content (λ (dst : ℕ). with_address 3 content (λ src. Ok (made_header content phys dst src))) h e in
    let r = with_address-ok 3 content (λ (src : ℕ). Ok (made_header content phys (address_at 2 content) src)) h d.1 in
    (d.0, r.0, ok_same _ _ r.1)

phys_of-valid : (content : List ℕ) (p : Phys) → IsBytes content → phys_of content ≡ Ok p → IsValidPhys p
phys_of-valid content p bytes e =
    let q = phys_of-parts content p e in
    subst IsValidPhys q.4 (record {
      dst = (q.2, address_fits (get_or content 0 0) (get_or content 1 0) (bytes 1));
      more = let b = bytes 2 in omega arith;
      priority = omega arith;
      src = (q.3, address_fits (get_or content 2 0) (get_or content 3 0) (bytes 3));
    })

phys_of-bytes : (content : List ℕ) (p : Phys) → IsBytes content → 4 ≤ length content → phys_of content ≡ Ok p → content ≡ phys_bytes p ++ drop 4 content
phys_of-bytes content p bytes long e =
    let q = phys_of-parts content p e in
    subst (λ (x : Phys). content ≡ phys_bytes x ++ drop 4 content) q.4
    (first_four content long ∙ sym (two_words (get_or content 0 0) (get_or content 1 0) (get_or content 2 0) (get_or content 3 0)
    (code_of q.0) ((bits_at 1 content / 4) * 4 + bits_at 1 content % 4) (drop 4 content) (bytes 1) (bytes 3) q.1 (quarters (bits_at 1 content))))

header_of-valid : (phys : Phys) (content : List ℕ) (h : Header) → IsBytes content → IsValidPhys phys → header_of phys content ≡ Ok h → IsValidHeader h
header_of-valid phys content h bytes valid e =
    let q = header_of-parts phys content h e in
    subst IsValidHeader q.2 (record {
      phys = valid;
      proto = let b = bytes 4 in omega arith;
      dst = (q.0, address_fits (get_or content 4 0) (get_or content 5 0) (bytes 5));
      hops = let b = bytes 6 in omega arith;
      src = (q.1, address_fits (get_or content 6 0) (get_or content 7 0) (bytes 7));
    })

header_of-bytes : (phys : Phys) (content : List ℕ) (h : Header) → IsBytes content → 8 ≤ length content → header_of phys content ≡ Ok h
    → (h.phys ≡ phys) × (drop 4 content ≡ word h.proto h.dst ++ word h.hops h.src ++ drop 8 content)
header_of-bytes phys content h bytes long e =
    let q = header_of-parts phys content h e in
    subst (λ (x : Header). (x.phys ≡ phys) × (drop 4 content ≡ word x.proto x.dst ++ word x.hops x.src ++ drop 8 content)) q.2 (
      refl,
      next_four content long ∙ sym (two_words (get_or content 4 0) (get_or content 5 0) (get_or content 6 0) (get_or content 7 0)
          (bits_at 2 content) (bits_at 3 content) (drop 8 content) (bytes 5) (bytes 7) refl refl),
    )

link_found : (content : List ℕ) (phys : Phys) → IsBytes content → length content ≡ 4 → phys_of content ≡ Ok phys → PacketBytes (link phys) content
link_found content phys bytes four e = record {
  valid = phys_of-valid content phys bytes e;
  bytes = phys_of-bytes content phys bytes (omega arith) e ∙ ap (λ l. phys_bytes phys ++ l) (drop_all 4 content (omega arith));
}

full_found : (content : List ℕ) (phys : Phys) (h : Header) → IsBytes content → 8 ≤ length content → phys_of content ≡ Ok phys → header_of phys content ≡ Ok h
    → PacketBytes (full h (drop 8 content)) content
full_found content phys h bytes long e f =
    let b = header_of-bytes phys content h bytes long f in
    record {
      valid = header_of-valid phys content h bytes (phys_of-valid content phys bytes e) f;
      bytes = phys_of-bytes content phys bytes (omega arith) e ∙ ap (λ l. phys_bytes phys ++ l) b.1
          ∙ ap (λ (x : Phys). phys_bytes x ++ (word h.proto h.dst ++ word h.hops h.src ++ drop 8 content)) (sym b.0);
    }

pub packet_of-found : (content : List ℕ) (p : Seen) → IsBytes content → (length content ≡ 4) ⊎ (8 ≤ length content) → packet_of content ≡ Ok p → PacketBytes p content
packet_of-found content p bytes long e =
    let rest : Header → Result Seen PacketFault = λ h. Ok (full h (drop 8 content)) in
    let b = behind-ok (phys_of content) (λ (phys : Phys). cond (eqb (length content) 4) (Ok (link phys)) (behind (header_of phys content) rest)) p e in
    elim (chosen (eqb (length content) 4) (Ok (link b.0)) (behind (header_of b.0 content) rest) (Ok p) b.2) [
      | inl w ↦ subst (λ (x : Seen). PacketBytes x content) (ok_same _ _ w.1) (link_found content b.0 bytes (eqb-true (length content) 4 w.0) b.1)
      | inr w ↦ let h = behind-ok (header_of b.0 content) rest p w.1 in
          let no = eqb-false (length content) 4 w.0 in
          let long_enough : 8 ≤ length content = elim long [ inl four ↦ absurd (no four) | inr eight ↦ eight ] in
          subst (λ (x : Seen). PacketBytes x content) (ok_same _ _ h.2) (full_found content b.0 h.0 bytes long_enough b.1 h.1)
    ]

-- ---- what is written is read

with_address-is : {X : Type 0} (k : ℕ) (content : List ℕ) (f : ℕ → Result X PacketFault) (a : ℕ) → address_at k content ≡ a → 1 ≤ a → with_address k content f ≡ f a
with_address-is k content f a is some =
    cond-false (eqb (address_at k content) 0) (Err (NullAddress k)) (f (address_at k content)) (ne_eqb (address_at k content) 0 (λ e. omega arith)) ∙ ap f is

with_state-is : {X : Type 0} (n : ℕ) (s : LinkState) (f : LinkState → Result X PacketFault) → n ≡ code_of s → with_state n f ≡ f s
with_state-is n s f is = ap (λ k. with_state k f) is ∙ with_state-code s f

-- the four bits and the address of a word that was written
written_bits : (bits address : ℕ) → address ≤ 4095 → (bits * 16 + address / 256) / 16 ≡ bits
written_bits bits address small = omega arith

written_address : (bits address : ℕ) → address ≤ 4095 → ((bits * 16 + address / 256) % 16) * 256 + address % 256 ≡ address
written_address bits address small = omega arith

abbrev phys_with : LinkState → ℕ → ℕ → ℕ → ℕ → Phys
phys_with state dst src more priority = record { state = state; dst = dst; more = more; priority = priority; src = src }

abbrev header_with : Phys → ℕ → ℕ → ℕ → ℕ → Header
header_with phys dst src proto hops = record { phys = phys; proto = proto; dst = dst; hops = hops; src = src }

pub phys_of-again : (p : Phys) (rest : List ℕ) → IsValidPhys p → phys_of (phys_bytes p ++ rest) ≡ Ok p
phys_of-again p rest valid =
    let content = phys_bytes p ++ rest in
    let second : bits_at 1 content ≡ p.more * 4 + p.priority = written_bits (p.more * 4 + p.priority) p.src valid.src.1 in
    let more : bits_at 1 content / 4 ≡ p.more = omega (arith, second, valid.priority) in
    let priority : bits_at 1 content % 4 ≡ p.priority = omega (arith, second, valid.priority) in
    with_state-is (bits_at 0 content) p.state (λ (state : LinkState). with_address 0 content (λ dst. with_address 1 content (λ src. Ok (made_phys content state dst src))))
    (written_bits (code_of p.state) p.dst valid.dst.1)
    ∙ with_address-is 0 content (λ (dst : ℕ). with_address 1 content (λ src. Ok (made_phys content p.state dst src))) p.dst
    (written_address (code_of p.state) p.dst valid.dst.1) valid.dst.0
    ∙ with_address-is 1 content (λ (src : ℕ). Ok (made_phys content p.state p.dst src)) p.src
    (written_address (p.more * 4 + p.priority) p.src valid.src.1) valid.src.0
    ∙ ap (λ (m : ℕ). Ok (phys_with p.state p.dst p.src m (bits_at 1 content % 4))) more
    ∙ ap (λ (n : ℕ). Ok (phys_with p.state p.dst p.src p.more n)) priority

pub header_of-again : (h : Header) (message : List ℕ) → IsValidHeader h → header_of h.phys (packet_bytes (full h message)) ≡ Ok h
header_of-again h message valid =
    let content = packet_bytes (full h message) in
    with_address-is 2 content (λ (dst : ℕ). with_address 3 content (λ src. Ok (made_header content h.phys dst src))) h.dst
    (written_address h.proto h.dst valid.dst.1) valid.dst.0
    ∙ with_address-is 3 content (λ (src : ℕ). Ok (made_header content h.phys h.dst src)) h.src
    (written_address h.hops h.src valid.src.1) valid.src.0
    ∙ ap (λ (n : ℕ). Ok (header_with h.phys h.dst h.src n (bits_at 3 content))) (written_bits h.proto h.dst valid.dst.1)
    ∙ ap (λ (n : ℕ). Ok (header_with h.phys h.dst h.src h.proto n)) (written_bits h.hops h.src valid.src.1)

pub packet_of-bytes : (p : Seen) → IsValid p → packet_of (packet_bytes p) ≡ Ok p
packet_of-bytes (link p) valid =
    ap (λ r. behind r (λ (phys : Phys). Ok (link phys))) (phys_of-again p [] valid)
packet_of-bytes (full h message) valid =
    let content = packet_bytes (full h message) in
    let rest : Header → Result Seen PacketFault = λ x. Ok (full x message) in
    let long : eqb (length content) 4 ≡ false = ne_eqb (length content) 4 (λ e. omega arith) in
    ap (λ r. behind r (λ (phys : Phys). cond (eqb (length content) 4) (Ok (link phys)) (behind (header_of phys content) rest))) (phys_of-again h.phys (drop 4 content) valid.phys)
    ∙ cond-false (eqb (length content) 4) (Ok (link h.phys)) (behind (header_of h.phys content) rest) long
    ∙ ap (λ r. behind r rest) (header_of-again h message valid)

-- ---- the answers of a read

pub read_found : (r : Result Packet PacketFault) (content : List ℕ) → IsBytes content → (length content ≡ 4) ⊎ (8 ≤ length content)
    → MatchResult r (λ p. packet_of content ≡ Ok (seen_of p)) (λ e. packet_of content ≡ Err e) → IfOk r (λ p. PacketBytes (seen_of p) content)
read_found (Ok p) content bytes long is = packet_of-found content (seen_of p) bytes long is
read_found (Err e) content bytes long is = tt

pub read_only : (r : Result Packet PacketFault) (content : List ℕ)
    → MatchResult r (λ p. packet_of content ≡ Ok (seen_of p)) (λ e. packet_of content ≡ Err e)
    → (p : Seen) → PacketBytes p content → IsOkAnd r (λ q. seen_of q ≡ p)
read_only (Ok q) content is p of = ok_same _ _ (sym is ∙ ap packet_of of.bytes ∙ packet_of-bytes p of.valid)
read_only (Err e) content is p of = absurd (no_error e p (sym is ∙ ap packet_of of.bytes ∙ packet_of-bytes p of.valid))
