-- What a field of a form gives.
use Rattle.std.proofs.Common.{◌≡◌, ℕ, ◌+◌, ◌-◌, ◌*◌, ◌<◌, ◌≤◌, ◌^◌, Bool, true, false, ◌&&◌, List, length, Option, Some, None, Ok, Err, refl, ap, ◌∙◌, subst, arith}
use Rattle.std.specs.Prelude.{if◌then◌else◌, ◌==◌, slice_index, take, drop, nat_le, option_map, option_and_then}
use Rattle.std.proofs.lemmas.Bool.Decides.{nat_tests}
use Rattle.serde_json.specs.Data.{Data, Items, no_items, item}
use Rattle.serde_json.specs.Find.{as_str, as_array}
use Rattle.and_policy.specs.declared.entry.Prefix.{Prefix}
use Rattle.and_script.specs.declared.tables.Form.{Form}
use Rattle.and_script.specs.declared.tables.Form.TheVariants.{Whole, Mac, Cidr, Ports}
use Rattle.and_script.specs.declared.tables.Given.{Given}
use Rattle.and_script.specs.declared.tables.Given.TheVariants as givens
use Rattle.and_script.specs.declared.tables.Cause.TheVariants.{Range}
use Rattle.and_script.specs.Words.{ip_of, mac_of, prefix_of, is_digit, hex_digit, hex_pair, hex_four, six_pairs, has_colons, is_decimal, digits_value, decimal, first_at, masked}
use Rattle.and_script.specs.Forms.{whole, in_range, or_range, text_given, texted, ports_read, ports_in, read_form}

-- the value is one that the form gives
abbrev pub Gives : Form → Given → Type 0
Gives (Whole low high) (givens.Number n) = (low ≤ n) × (n ≤ high)
Gives (Whole low high) _ = ⊥
Gives Mac (givens.Address mac) = mac < 2 ^ 48
Gives Mac _ = ⊥
Gives Cidr (givens.Within p) = p.length ≤ 32
Gives Cidr _ = ⊥
Gives Ports (givens.Between low high) = low ≤ high
Gives Ports _ = ⊥
Gives _ _ = Unit {0}

-- ---- numbers

ranged : (low high n : ℕ) (gives : ℕ → Given) (P : Given → Type 0) (b : Bool) → (nat_le low n && nat_le n high) ≡ b → (low ≤ n → n ≤ high → P (gives n))
    → (g : Given) → (if b then Ok (gives n) else Err Range) ≡ Ok g → P g
ranged low high n gives P true within p g e =
    let same : gives n ≡ g = cc in subst P same (p (grind (arith, nat_tests, within)) (grind (arith, nat_tests, within)))
ranged low high n gives P false within p g e = absurd (cc)

number_gives : (low high : ℕ) (gives : ℕ → Given) (P : Given → Type 0) → ((n : ℕ) → low ≤ n → n ≤ high → P (gives n)) → (o : Option ℕ) (g : Given)
    → in_range low high gives o ≡ Ok g → P g
number_gives low high gives P p None g e = absurd (cc)
number_gives low high gives P p (Some n) g e = ranged low high n gives P (nat_le low n && nat_le n high) refl (p n) g e

-- ---- texts

texts_give : (form : Form) → ((text : List ℕ) (g : Given) → text_given form text ≡ Some g → Gives form g) → (o : Option (List ℕ)) (g : Given) → texted form o ≡ Ok g → Gives form g
texts_give form p None g e = absurd (cc)
texts_give form p (Some text) g e = by_given (text_given form text) refl e
  where
    by_given : (o : Option Given) → text_given form text ≡ o → or_range o ≡ Ok g → Gives form g
    by_given None told e = absurd (cc)
    by_given (Some given) told e = let same : given ≡ g = cc in p text g (told ∙ ap Some same)

mapped : {A : Type 0} (f : A → Given) (P : Given → Type 0) (o : Option A) → ((a : A) → o ≡ Some a → P (f a)) → (g : Given) → option_map f o ≡ Some g → P g
mapped f P None p g e = absurd (cc)
mapped f P (Some a) p g e = let same : f a ≡ g = cc in subst P same (p a refl)

-- ---- Ethernet addresses

then_some : {A B : Type 0} (f : A → Option B) (o : Option A) (m : B) → option_and_then f o ≡ Some m → (a : A) × (o ≡ Some a) × (f a ≡ Some m)
then_some f None m e = absurd (cc)
then_some f (Some a) m e = (a, refl, e)

map_some : {A B : Type 0} (f : A → B) (o : Option A) (m : B) → option_map f o ≡ Some m → (a : A) × (o ≡ Some a) × (f a ≡ m)
map_some f None m e = absurd (cc)
map_some f (Some a) m e = (a, refl, cc)

some_if : (b : Bool) (n m limit : ℕ) (other : Option ℕ) → (if b then Some n else other) ≡ Some m → (b ≡ true → n < limit) → (other ≡ Some m → m < limit) → m < limit
some_if true n m limit other e here there = let same : n ≡ m = cc in subst (λ k. k < limit) same (here refl)
some_if false n m limit other e here there = there e

digit_small : (x n : ℕ) → hex_digit x ≡ Some n → n < 16
digit_small x n e =
    some_if (is_digit x) (x - 48) n 16 (if nat_le 97 x && nat_le x 102 then Some (x - 87) else (if nat_le 65 x && nat_le x 70 then Some (x - 55) else None)) e
    (λ h. grind (arith, nat_tests, h))
    (λ e'. some_if (nat_le 97 x && nat_le x 102) (x - 87) n 16 (if nat_le 65 x && nat_le x 70 then Some (x - 55) else None) e'
    (λ h. grind (arith, nat_tests, h))
    (λ e''. some_if (nat_le 65 x && nat_le x 70) (x - 55) n 16 None e'' (λ h. grind (arith, nat_tests, h)) (λ e'''. absurd (cc))))

pair_small : (i : ℕ) (text : List ℕ) (n : ℕ) → hex_pair i text ≡ Some n → n < 256
pair_small i text n e =
    let (h, high, e1) = then_some (λ h. option_map (λ l. 16 * h + l) (hex_digit (slice_index text (i + 1)))) (hex_digit (slice_index text i)) n e in
    let (l, low, is) = map_some (λ l. 16 * h + l) (hex_digit (slice_index text (i + 1))) n e1 in
    let a = digit_small (slice_index text i) h high in
    let b = digit_small (slice_index text (i + 1)) l low in
    grind (arith, a, b, is)

four_small : (i : ℕ) (text : List ℕ) (n : ℕ) → hex_four i text ≡ Some n → n < 65536
four_small i text n e =
    let (h, high, e1) = then_some (λ h. option_map (λ l. 256 * h + l) (hex_pair (i + 3) text)) (hex_pair i text) n e in
    let (l, low, is) = map_some (λ l. 256 * h + l) (hex_pair (i + 3) text) n e1 in
    let a = pair_small i text h high in
    let b = pair_small (i + 3) text l low in
    grind (arith, a, b, is)

six_small : (text : List ℕ) (n : ℕ) → six_pairs text ≡ Some n → n < 2 ^ 48
six_small text n e =
    let (a, first, e1) = then_some (λ a. option_and_then (λ b. option_map (λ c. 65536 * (65536 * a + b) + c) (hex_four 12 text)) (hex_four 6 text)) (hex_four 0 text) n e in
    let (b, second, e2) = then_some (λ b. option_map (λ c. 65536 * (65536 * a + b) + c) (hex_four 12 text)) (hex_four 6 text) n e1 in
    let (c, third, is) = map_some (λ c. 65536 * (65536 * a + b) + c) (hex_four 12 text) n e2 in
    let x = four_small 0 text a first in
    let y = four_small 6 text b second in
    let z = four_small 12 text c third in
    grind (arith, x, y, z, is)

mac_small : (text : List ℕ) (n : ℕ) → mac_of text ≡ Some n → n < 2 ^ 48
mac_small text n e = by_form ((length text == 17) && has_colons text) e
  where
    by_form : (b : Bool) → (if b then six_pairs text else None) ≡ Some n → n < 2 ^ 48
    by_form true e = six_small text n e
    by_form false e = absurd (cc)

-- ---- prefixes

decimal_small : (most limit : ℕ) (text : List ℕ) (n : ℕ) → decimal most limit text ≡ Some n → n ≤ limit
decimal_small most limit text n e = by_form (is_decimal most text && nat_le (digits_value text) limit) refl e
  where
    by_form : (b : Bool) → (is_decimal most text && nat_le (digits_value text) limit) ≡ b → (if b then Some (digits_value text) else None) ≡ Some n → n ≤ limit
    by_form true is e = let same : digits_value text ≡ n = cc in subst (λ k. k ≤ limit) same (grind (arith, nat_tests, is))
    by_form false is e = absurd (cc)

prefix_small : (text : List ℕ) (p : Prefix) → prefix_of text ≡ Some p → p.length ≤ 32
prefix_small text p e =
    let (i, at, e1) = then_some (λ i. option_and_then (λ a. option_map (masked a) (decimal 2 32 (drop (i + 1) text))) (ip_of (take i text))) (first_at 47 text) p e in
    let (a, address, e2) = then_some (λ a. option_map (masked a) (decimal 2 32 (drop (i + 1) text))) (ip_of (take i text)) p e1 in
    let (n, bits, is) = map_some (masked a) (decimal 2 32 (drop (i + 1) text)) p e2 in
    subst (λ q. q.length ≤ 32) is (decimal_small 2 32 (drop (i + 1) text) n bits)

-- ---- ports

ports_give : (low high : ℕ) (b : Bool) → (nat_le low high && nat_le high 65535) ≡ b → (g : Given) → (if b then Ok (givens.Between low high) else Err Range) ≡ Ok g → Gives Ports g
ports_give low high true within g e =
    let same : givens.Between low high ≡ g = cc in subst (Gives Ports) same (grind (arith, nat_tests, within))
ports_give low high false within g e = absurd (cc)

read_gives : (low high : Option ℕ) (g : Given) → ports_read low high ≡ Ok g → Gives Ports g
read_gives None high g e = absurd (cc)
read_gives (Some low) None g e = absurd (cc)
read_gives (Some low) (Some high) g e = ports_give low high (nat_le low high && nat_le high 65535) refl g e

list_gives : (o : Option Items) (g : Given) → ports_in o ≡ Ok g → Gives Ports g
list_gives None g e = absurd (cc)
list_gives (Some no_items) g e = absurd (cc)
list_gives (Some (item low no_items)) g e = absurd (cc)
list_gives (Some (item low (item high no_items))) g e = read_gives (whole low) (whole high) g e
list_gives (Some (item low (item high (item more rest)))) g e = absurd (cc)

-- ---- all forms

pub form_gives : (form : Form) (d : Data) (g : Given) → read_form form d ≡ Ok g → Gives form g
form_gives (Whole low high) d g e = number_gives low high givens.Number (Gives (Whole low high)) (λ n a b. (a, b)) (whole d) g e
form_gives Mac d g e = texts_give Mac (λ text g e. mapped givens.Address (Gives Mac) (mac_of text) (mac_small text) g e) (as_str d) g e
form_gives Cidr d g e = texts_give Cidr (λ text g e. mapped givens.Within (Gives Cidr) (prefix_of text) (prefix_small text) g e) (as_str d) g e
form_gives Ports d g e = list_gives (as_array d) g e
form_gives form d g e = tt
