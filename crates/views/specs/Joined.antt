-- BYTES THAT ARE CUT, WITH THE HEADS TAKEN OUT (`within`): each byte stands where `inside` says (`within_byte`), and the content of a field is what they begin with (`within_content`). Assumes nothing.
use Rattle.std.specs.Prelude.{◌≡◌, List, [], ◌++◌, ℕ, zero, suc, ◌+◌, ◌-◌, ◌≤◌, ◌<◌, take, drop}
use Rattle.std.proofs.Common.{sym, ap₂, subst, ◌∙◌, append_assoc, length-append, take-append-drop, take_at, drop_at, get_or-append-add}
use Rattle.std.proofs.Math.Path.{ap}
use native.Mathlib.Omega.{arith}
use Rattle.std.proofs.Math.Decide.{dec_le}
use Rattle.std.proofs.Math.ListN.{length, get_or, length-take, length-drop, get_or-append}
use Rattle.std.proofs.Math.Seq.{get_or-drop, get_or-take, length-take-le, take-append-add}
use Rattle.stored.specs.Form.{tagged, head, widest, PART, cut, inside}
use Rattle.stored.specs.Parts.{widest_some, Parts, end, part, parts, inside_first, inside_later}
use Rattle.stored.proofs.PartsLaws.{cut_short, cut_long, cut_length}
use Rattle.stored.specs.Bytes.{At}

-- the heads, one before each 65,535 bytes, taken out; there are fewer of them than bytes
pub joined_of : ℕ → List ℕ → List ℕ
joined_of zero v = []
joined_of (suc n) v = take widest (drop head v) ++ joined_of n (drop (head + widest) v)

-- the content of the field at a place, and whatever is behind it
pub within : List ℕ → ℕ → List ℕ
within v a = joined_of (length v) (drop a v)

-- ---- where each byte stands

module _ (n : ℕ) (v : List ℕ) where
  first : List ℕ
  first = take widest (drop head v)

  rest : List ℕ
  rest = drop (head + widest) v

  first_length : (i : ℕ) → i < widest → head + i < length v → i < length first
  unfolding first
  first_length i l m = omega (arith, length-take widest (drop head v), length-drop head v)

  first_full : head + widest ≤ length v → length first ≡ widest
  unfolding first
  first_full l = length-take-le widest (drop head v) (omega (arith, length-drop head v))

  first_byte : (i : ℕ) → i < widest → get_or first i 0 ≡ get_or v (head + i) 0
  unfolding first
  first_byte i l = get_or-take widest (drop head v) i 0 l ∙ get_or-drop head v i 0

  -- a byte before the next head, and one behind it
  here : (i : ℕ) → i < widest → head + i < length v → get_or (joined_of (suc n) v) i 0 ≡ get_or v (inside i) 0
  unfolding joined_of first rest
  here i l m = get_or-append first (joined_of n rest) 0 i (first_length i l m) ∙ (first_byte i l ∙ ap (λ j. get_or v j 0) (sym (inside_first i l)))

  later : (i : ℕ) → widest ≤ i → inside i < length v → get_or (joined_of n rest) (i - widest) 0 ≡ get_or rest (inside (i - widest)) 0 → get_or (joined_of (suc n) v) i 0 ≡ get_or v (inside i) 0
  unfolding joined_of first rest
  later i l m h =
      let e = inside_later i l in
      let f = first_full (omega arith) in
      ap (λ j. get_or (first ++ joined_of n rest) j 0) (let z : i ≡ length first + (i - widest) = omega arith in z)
      ∙ (get_or-append-add first (joined_of n rest) (i - widest) 0
      ∙ (h ∙ (get_or-drop (head + widest) v (inside (i - widest)) 0 ∙ ap (λ j. get_or v j 0) (sym e))))

module _ (n : ℕ) (v : List ℕ) (i : ℕ) (l : widest ≤ i) where
  -- what is behind the next head
  shorter : length v ≤ suc n → length (rest n v) ≤ n
  unfolding rest
  shorter h = omega (arith, length-drop (head + widest) v, widest_some)

  nearer : inside i < length v → inside (i - widest) < length (rest n v)
  unfolding rest
  nearer h = let e = inside_later i l in omega (arith, length-drop (head + widest) v)

  farther : inside (i - widest) < length (rest n v) → inside i < length v
  unfolding rest
  farther h = let e = inside_later i l in omega (arith, length-drop (head + widest) v)

byte_by : (n : ℕ) (v : List ℕ) (i : ℕ) → inside i < length v → (widest ≤ i → get_or (joined_of n (rest n v)) (i - widest) 0 ≡ get_or (rest n v) (inside (i - widest)) 0) → get_or (joined_of (suc n) v) i 0 ≡ get_or v (inside i) 0
byte_by n v i m f = by (dec_le widest i)
  where
    by : Dec (widest ≤ i) → get_or (joined_of (suc n) v) i 0 ≡ get_or v (inside i) 0
    by (yes h) = later n v i h m (f h)
    by (no h) = let l : i < widest = omega arith in here n v i l (let e = inside_first i l in omega arith)

joined_byte : (n : ℕ) (v : List ℕ) (i : ℕ) → length v ≤ n → inside i < length v → get_or (joined_of n v) i 0 ≡ get_or v (inside i) 0
joined_byte zero v i l m = absurd (omega arith)
joined_byte (suc n) v i l m = byte_by n v i m (λ h. joined_byte n (rest n v) (i - widest) (shorter n v i h l) (nearer n v i h m))

-- ---- which bytes there are

joined_length : (n : ℕ) (v : List ℕ) → length (joined_of (suc n) v) ≡ length (first n v) + length (joined_of n (rest n v))
unfolding joined_of first rest
joined_length n v = length-append (take widest (drop head v)) (joined_of n (drop (head + widest) v))

first_most : (n : ℕ) (v : List ℕ) (i : ℕ) → i < length (first n v) → (i < widest) × (head + i < length v)
unfolding first
first_most n v i l = (omega (arith, length-take widest (drop head v)), omega (arith, length-take widest (drop head v), length-drop head v))

rest_some : (n : ℕ) (v : List ℕ) (j : ℕ) → j < length (rest n v) → head + widest + j < length v
unfolding rest
rest_some n v j l = omega (arith, length-drop (head + widest) v)

in_by : (n : ℕ) (v : List ℕ) (i : ℕ) → inside i < length v → (widest ≤ i → i - widest < length (joined_of n (rest n v))) → i < length (joined_of (suc n) v)
in_by n v i m f = by (dec_le widest i)
  where
    by : Dec (widest ≤ i) → i < length (joined_of (suc n) v)
    by (yes h) =
        let e = inside_later i h in
        let g = first_full n v (omega arith) in
        let j = f h in
        omega (arith, joined_length n v)
    by (no h) =
        let l : i < widest = omega arith in
        let e = inside_first i l in
        let g = first_length n v i l (omega arith) in
        omega (arith, joined_length n v)

joined_in : (n : ℕ) (v : List ℕ) (i : ℕ) → length v ≤ n → inside i < length v → i < length (joined_of n v)
joined_in zero v i l m = absurd (omega arith)
joined_in (suc n) v i l m = in_by n v i m (λ h. joined_in n (rest n v) (i - widest) (shorter n v i h l) (nearer n v i h m))

out_by : (n : ℕ) (v : List ℕ) (i : ℕ) → i < length (joined_of (suc n) v) → ((j : ℕ) → j < length (joined_of n (rest n v)) → inside j < length (rest n v)) → inside i < length v
out_by n v i m f = by (dec_le (length (first n v)) i)
  where
    by : Dec (length (first n v) ≤ i) → inside i < length v
    by (yes h) =
        let j = i - length (first n v) in
        let k = f j (omega (arith, joined_length n v)) in
        let q = rest_some n v (inside j) k in
        let g = first_full n v (omega arith) in
        farther n v i (omega arith) (subst (λ a. inside (i - a) < length (rest n v)) g k)
    by (no h) =
        let g = first_most n v i (omega arith) in
        let e = inside_first i g.0 in
        omega (arith, g.1)

joined_out : (n : ℕ) (v : List ℕ) (i : ℕ) → i < length (joined_of n v) → inside i < length v
unfolding joined_of
joined_out zero v i m = absurd (omega arith)
joined_out (suc n) v i m = out_by n v i m (λ j k. joined_out n (rest n v) j k)

-- ---- of the field at a place

module _ (v : List ℕ) (a i : ℕ) where
  pub within_in : a + inside i < length v → i < length (within v a)
  unfolding within
  within_in l = joined_in (length v) (drop a v) i (omega (arith, length-drop a v)) (omega (arith, length-drop a v))

  pub within_out : i < length (within v a) → a + inside i < length v
  unfolding within
  within_out l = let h = joined_out (length v) (drop a v) i l in omega (arith, length-drop a v)

  pub within_byte : i < length (within v a) → get_or (within v a) i 0 ≡ get_or v (a + inside i) 0
  unfolding within
  within_byte l =
      let h = joined_out (length v) (drop a v) i l in
      joined_byte (length v) (drop a v) i (omega (arith, length-drop a v)) h ∙ get_or-drop a v (inside i) 0

pub within_less : (v : List ℕ) (a : ℕ) → length (within v a) ≤ length v
within_less v a = by (dec_le (length (within v a)) (length v))
  where
    by : Dec (length (within v a) ≤ length v) → length (within v a) ≤ length v
    by (yes h) = h
    by (no h) = absurd (let k = within_out v a (length v) (omega arith) in omega arith)

-- ---- THE CONTENT of a field: what is left begins with it

record Begins (s c : List ℕ) : Type 0 where
  behind : List ℕ
  is : s ≡ c ++ behind

begins_end : (n k : ℕ) (c r : List ℕ) → length c ≤ widest → Begins (joined_of (suc n) (tagged k c ++ r)) c
unfolding joined_of
begins_end n k c r l =
    let z = take widest (c ++ r) in
    let e : z ≡ c ++ take (widest - length c) r = ap (λ i. take i (c ++ r)) (let y : widest ≡ length c + (widest - length c) = omega arith in y) ∙ take-append-add c r (widest - length c) in
    let j = joined_of n (drop (head + widest) (tagged k c ++ r)) in
    record { behind = take (widest - length c) r ++ j; is = ap (λ (w : List ℕ). w ++ j) e ∙ append_assoc c (take (widest - length c) r) j }

begins_part : (n : ℕ) (c w : List ℕ) → widest < length c → Begins (joined_of n w) (drop widest c) → Begins (joined_of (suc n) (tagged PART (take widest c) ++ w)) c
unfolding joined_of
begins_part n c w l b =
    let f = take widest c in
    let m : length f ≡ widest = length-take-le widest c (omega arith) in
    let e : take widest (f ++ w) ≡ f = take_at f w widest m in
    let d : drop (head + widest) (tagged PART f ++ w) ≡ w = drop_at (tagged PART f) w (head + widest) (omega arith) in
    record {
      behind = b.behind;
      is =
          ap₂ (λ (x y : List ℕ). x ++ y) e (ap (joined_of n) d ∙ b.is)
          ∙ (sym (append_assoc f (drop widest c) b.behind) ∙ ap (λ (x : List ℕ). x ++ b.behind) (take-append-drop widest c));
    }

begins : (n k : ℕ) {c : List ℕ} (r : List ℕ) → Parts c → length c < n → Begins (joined_of n (cut k c ++ r)) c
begins zero k r p l = absurd (omega arith)
begins (suc n) k {c} r (end h) l = subst (λ (w : List ℕ). Begins (joined_of (suc n) (w ++ r)) c) (sym (cut_short k c h)) (begins_end n k c r h)
begins (suc n) k {c} r (part h p) l =
    let b = begins n k r p (omega (arith, length-drop widest c, widest_some)) in
    subst (λ (w : List ℕ). Begins (joined_of (suc n) w) c) (sym (ap (λ (w : List ℕ). w ++ r) (cut_long k c h) ∙ append_assoc (tagged PART (take widest c)) (cut k (drop widest c)) r))
    (begins_part n c (cut k (drop widest c) ++ r) h b)

pub within_content : {v : List ℕ} {a : ℕ} (k : ℕ) (c : List ℕ) → At v a (cut k c) → At (within v a) 0 c
unfolding within
within_content {v} {a} k c x =
    let n : length c < length v = omega (arith, cut_length k c, ap length x.is, length-append (cut k c) x.behind, length-drop a v) in
    let b = begins (length v) k x.behind (parts c) n in
    record { behind = b.behind; is = ap (joined_of (length v)) x.is ∙ b.is }
