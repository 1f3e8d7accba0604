-- Texts that are added a step at a time: of bytes, each of which has a text, and of lists.
use Rattle.std.proofs.Common.{◌≡◌, ℕ, ◌+◌, ◌<◌, ◌≤◌, get_or, List, [], ◌∷◌, ◌++◌, take, drop, map, length, refl, sym, ap, ◌∙◌, append_assoc, Bool, true, false, eqb}
use Rattle.std.specs.Prelude.{codes, decimal}
use Rattle.std.specs.List.{flat_map}
use Rattle.std.proofs.lemmas.List.{append-nil, take-append-drop, take_more, take_all, nil_from_length}
use Rattle.std.proofs.lemmas.Bool.{eqb-true, false≢true}
use Rattle.std.proofs.lemmas.Grind.{flat_map-append}
use Rattle.std.proofs.lemmas.List.{map-append}
use Rattle.pb_io.specs.Page.{Printing, Adds, joined}
use Rattle.pb_io.proofs.PageLemmas.{Adds-nothing, Adds-trans, Adds-as, Adds-two}
use Rattle.pb_show.specs.declared.message.Key as code
use Rattle.pb_show.specs.Inside.{key_view}
use Rattle.pb_show.specs.MessageText.{Key, Number, key, after_comma, list_text, or_dash, key_text, keys_text, named_text, answer_keys}
use Rattle.pb_value.specs.Escape.{name_text, name_char_text}
use Rattle.pb_value.specs.Hex.{hex, digits_of}

-- the text of some bytes is that of the first ones and then that of the others
pub record Spells (text : List ℕ → List ℕ) : Type 0 where
  pub nil : text [] ≡ []
  pub more : (a b : List ℕ) → text (a ++ b) ≡ text a ++ text b

pub hex-spells : Spells hex
unfolding hex
hex-spells = record { nil = refl; more = flat_map-append digits_of }

pub name_text-spells : Spells name_text
unfolding name_text
name_text-spells = record { nil = refl; more = flat_map-append name_char_text }

-- the text of a prefix of the bytes was added, and these are left
pub record Spelled (text : List ℕ → List ℕ) (bytes left : List ℕ) (a b : Printing) : Type 0 where
  pub done : List ℕ
  pub split : bytes ≡ done ++ left
  pub adds : Adds (text done) a b

pub Spelled-none : (text : List ℕ → List ℕ) (spells : Spells text) (bytes : List ℕ) (a : Printing) → Spelled text bytes bytes a a
Spelled-none text spells bytes a =
    record { done = []; split = refl; adds = Adds-as [] (text []) a a (sym spells.nil) (Adds-nothing a) }

pub Spelled-more : (text : List ℕ → List ℕ) (spells : Spells text) (bytes left chunk rest : List ℕ) (n : ℕ) (a b c : Printing) → Spelled text bytes left a b
    → chunk ≡ take n left → rest ≡ drop n left → Adds (text chunk) b c → Spelled text bytes rest a c
Spelled-more text spells bytes left chunk rest n a b c s first after adds =
    let split : left ≡ chunk ++ rest = sym (take-append-drop n left) ∙ rw (first, after) refl in
    record {
      done = s.done ++ chunk;
      split = s.split ∙ ap (λ l. s.done ++ l) split ∙ sym (append_assoc s.done chunk rest);
      adds = Adds-as _ _ a c (sym (spells.more s.done chunk)) (Adds-trans _ _ a b c s.adds adds);
    }

pub Spelled-all : (text : List ℕ → List ℕ) (bytes left : List ℕ) (a b : Printing) → left ≡ [] → Spelled text bytes left a b → Adds (text bytes) a b
Spelled-all text bytes left a b none s =
    Adds-as (text s.done) (text bytes) a b (ap text (sym (append-nil s.done) ∙ ap (λ l. s.done ++ l) (sym none) ∙ sym s.split)) s.adds

pub nil_by : (b : Bool) (xs : List ℕ) → b ≡ eqb (length xs) 0 → b ≡ true → xs ≡ []
nil_by b xs is empty = nil_from_length xs (eqb-true (length xs) 0 (sym is ∙ empty))

pub or_dash-none : (b : Bool) (bytes text : List ℕ) (a c : Printing) → b ≡ eqb (length bytes) 0 → b ≡ true → Adds (codes "-") a c → Adds (or_dash bytes text) a c
or_dash-none b bytes text a c is empty adds =
    Adds-as _ _ a c (ap (λ l. or_dash l text) (sym (nil_by b bytes is empty))) adds

pub or_dash-some : (b : Bool) (bytes text : List ℕ) (a c : Printing) → b ≡ eqb (length bytes) 0 → b ≡ false → Adds text a c → Adds (or_dash bytes text) a c
or_dash-some b [] text a c is some adds = absurd (false≢true (sym some ∙ is))
or_dash-some b (x ∷ bytes) text a c is some adds = adds

-- ---- lists

-- the texts of the first items were added, at least of one, and these items are left
pub record Listed {A : Type 0} (text : A → List ℕ) (items left : List A) (a b : Printing) : Type 0 where
  pub first : A
  pub done : List A
  pub split : items ≡ first ∷ (done ++ left)
  pub adds : Adds (text first ++ flat_map after_comma (map text done)) a b

pub Listed-first : {A : Type 0} (text : A → List ℕ) (items left : List A) (first : A) (a b : Printing) → items ≡ first ∷ left → Adds (text first) a b → Listed text items left a b
Listed-first text items left first a b split adds =
    record { first = first; done = []; split = split; adds = Adds-as _ _ a b (sym (append-nil (text first))) adds }

commas-more : {A : Type 0} (text : A → List ℕ) (done : List A) (item : A)
    → flat_map after_comma (map text (done ++ item ∷ [])) ≡ flat_map after_comma (map text done) ++ after_comma (text item)
commas-more text [] item = append-nil (after_comma (text item))
commas-more text (x ∷ done) item =
    ap (λ l. after_comma (text x) ++ l) (commas-more text done item) ∙ sym (append_assoc (after_comma (text x)) (flat_map after_comma (map text done)) (after_comma (text item)))

pub Listed-more : {A : Type 0} (text : A → List ℕ) (items left rest : List A) (item : A) (a b c : Printing) → Listed text items left a b → left ≡ item ∷ rest
    → Adds (after_comma (text item)) b c → Listed text items rest a c
Listed-more {A} text items left rest item a b c s next adds = record {
  first = s.first;
  done = s.done ++ item ∷ [];
  split = s.split ∙ ap (λ (l : List A). s.first ∷ (s.done ++ l)) next ∙ ap (λ (l : List A). s.first ∷ l) (sym (append_assoc s.done (item ∷ []) rest));
  adds = Adds-as _ _ a c (append_assoc (text s.first) (flat_map after_comma (map text s.done)) (after_comma (text item)) ∙ ap (λ l. text s.first ++ l) (sym (commas-more text s.done item)))
      (Adds-trans _ _ a b c s.adds adds);
}

pub Listed-none : {A : Type 0} (text : A → List ℕ) (items : List A) (a b : Printing) → items ≡ [] → Adds (codes "-") a b → Adds (list_text (map text items)) a b
unfolding list_text
Listed-none {A} text items a b none adds = Adds-as _ _ a b (ap (λ (l : List A). list_text (map text l)) (sym none)) adds

pub Listed-all : {A : Type 0} (text : A → List ℕ) (items left : List A) (a b : Printing) → left ≡ [] → Listed text items left a b → Adds (list_text (map text items)) a b
unfolding list_text
Listed-all {A} text items left a b none s =
    let all : items ≡ s.first ∷ s.done = s.split ∙ ap (λ (l : List A). s.first ∷ (s.done ++ l)) none ∙ ap (λ (l : List A). s.first ∷ l) (append-nil s.done) in
    Adds-as _ _ a b (ap (λ (l : List A). list_text (map text l)) (sym all)) s.adds

-- ---- keys

pub keys-none : (a : Printing) → Adds (keys_text []) a a
unfolding keys_text
keys-none a = Adds-nothing a

keys_text-next : (keys : List code.Key) (i : ℕ) (d : code.Key) → i < length keys
    → keys_text (map key_view (take (i + 1) keys)) ≡ keys_text (map key_view (take i keys)) ++ key_text (key_view (get_or keys i d))
unfolding keys_text
keys_text-next keys i d lt =
    ap (λ (l : List code.Key). flat_map key_text (map key_view l)) (take_more keys i d lt)
    ∙ ap (λ (l : List Key). flat_map key_text l) (map-append key_view (take i keys) (get_or keys i d ∷ []))
    ∙ flat_map-append key_text (map key_view (take i keys)) (key_view (get_or keys i d) ∷ [])
    ∙ ap (λ l. flat_map key_text (map key_view (take i keys)) ++ l) (append-nil (key_text (key_view (get_or keys i d))))

pub keys-next : (keys : List code.Key) (i : ℕ) (d : code.Key) (a b c : Printing) → i < length keys → Adds (keys_text (map key_view (take i keys))) a b
    → Adds (key_text (key_view (get_or keys i d))) b c → Adds (keys_text (map key_view (take (i + 1) keys))) a c
keys-next keys i d a b c lt f g =
    Adds-as _ _ a c (sym (keys_text-next keys i d lt)) (Adds-trans _ _ a b c f g)

pub keys-every : (keys : List code.Key) (i : ℕ) (a b : Printing) → length keys ≤ i → Adds (keys_text (map key_view (take i keys))) a b → Adds (keys_text (map key_view keys)) a b
keys-every keys i a b all adds =
    Adds-as _ _ a b (ap (λ (l : List code.Key). keys_text (map key_view l)) (take_all i keys all)) adds

four_parts : (n t d k l : List ℕ) → n ++ (t ++ (d ++ ((k ++ l) ++ []))) ≡ (n ++ (t ++ (d ++ (k ++ [])))) ++ l
four_parts n t d k l = simp (append_assoc, append-nil) refl

named_text-more : (name : List ℕ) (tran : ℕ) (keys more : List Key) → named_text name tran (keys ++ more) ≡ named_text name tran keys ++ keys_text more
unfolding named_text keys_text
named_text-more name tran keys more =
    ap (λ l. joined (name ∷ codes " tran " ∷ decimal tran ∷ l ∷ [])) (flat_map-append key_text keys more)
    ∙ four_parts name (codes " tran ") (decimal tran) (flat_map key_text keys) (flat_map key_text more)

-- a reply's code, and the keys of an answer where it is 0
pub answer-zero : (name : List ℕ) (tran resp : ℕ) (keys : List Key) (a b c : Printing) → resp ≡ 0
    → Adds (named_text name tran (key (codes "resp") (Number resp) ∷ [])) a b → Adds (keys_text keys) b c → Adds (named_text name tran (answer_keys resp keys)) a c
answer-zero name tran resp keys a b c zero f g =
    let same : answer_keys resp keys ≡ key (codes "resp") (Number resp) ∷ keys = rw zero refl in
    Adds-two _ _ _ a b c (sym (named_text-more name tran (key (codes "resp") (Number resp) ∷ []) keys) ∙ ap (λ (l : List Key). named_text name tran l) (sym same)) f g
