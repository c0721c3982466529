-- A CONTENT IN ITS PARTS: one field while it is at most 65,535 bytes (`cut_short`), else a part and the rest (`cut_long`); how long they are (`cut_length`), where each byte stands (`cut_byte`), and that
use Rattle.std.specs.Prelude.{◌≡◌, List, [], ◌∷◌, ◌++◌, length, get_or, take, drop}
use Rattle.std.proofs.Math.Path.{refl}
use Rattle.std.proofs.Common.{sym, ap, ap₂, ◌∙◌, append_assoc, arith, length-append, length-drop, take-append-drop, take_at, drop_at, get_or-append-add, get_or-drop, get_or-take, length-take-le, le-leb}
use Prim.Native.Nat.{ℕ, zero, suc, ◌+◌, ◌-◌, ◌*◌, ◌/◌, ◌%◌, ◌≤◌, ◌<◌}
use Rattle.std.proofs.Math.Decide.{dec_le}
use Rattle.std.proofs.Math.ListN.{get_or-append}
use Rattle.std.proofs.lemmas.Bool.{lt-leb}
use Rattle.stored.specs.Form.{tagged, head, widest, PART, parted, cut, inside}
use Rattle.stored.specs.Parts.{Fields, Parts, dropped, end, field_apart, field_byte, heads, heads_long, heads_short, inside_first, inside_later, part, parts}

-- one more of them: a content at most as long, and a longer one
module _ (k : ℕ) (s : List ℕ) where
  parted_end : (n : ℕ) → length s ≤ widest → parted n k s ≡ tagged k s
  unfolding parted
  parted_end zero l = refl
  parted_end (suc n) l = rw (le-leb (length s) widest l) refl

  parted_part : (n : ℕ) → widest < length s → parted (suc n) k s ≡ tagged PART (take widest s) ++ parted n k (drop widest s)
  unfolding parted
  parted_part n l = rw (lt-leb (length s) widest l) refl

  parted_same : (n m : ℕ) → (widest < length s → parted n k (drop widest s) ≡ parted m k (drop widest s)) → parted (suc n) k s ≡ parted (suc m) k s
  parted_same n m f = by (dec_le (length s) widest)
    where
      by : Dec (length s ≤ widest) → parted (suc n) k s ≡ parted (suc m) k s
      by (yes h) = parted_end (suc n) h ∙ sym (parted_end (suc m) h)
      by (no h) = let j : widest < length s = omega arith in parted_part n j ∙ (ap (λ (w : List ℕ). tagged PART (take widest s) ++ w) (f j) ∙ sym (parted_part m j))

parted_enough : (n m : ℕ) (k : ℕ) (s : List ℕ) → length s ≤ n → length s ≤ m → parted n k s ≡ parted m k s
parted_enough zero m k s l i = parted_end k s zero (omega arith) ∙ sym (parted_end k s m (omega arith))
parted_enough (suc n) zero k s l i = parted_end k s (suc n) (omega arith) ∙ sym (parted_end k s zero (omega arith))
parted_enough (suc n) (suc m) k s l i = parted_same k s n m (λ j. parted_enough n m k (drop widest s) (dropped s n j l) (dropped s m j i))

-- ONE FIELD
pub cut_short : (k : ℕ) (s : List ℕ) → length s ≤ widest → cut k s ≡ tagged k s
unfolding cut
cut_short k s l = parted_end k s (length s) l

-- A PART, AND THE REST
pub cut_long : (k : ℕ) (s : List ℕ) → widest < length s → cut k s ≡ tagged PART (take widest s) ++ cut k (drop widest s)
unfolding cut
cut_long k s l =
    let n = length s - 1 in
    ap (λ m. parted m k s) (let e : length s ≡ suc n = omega arith in e)
    ∙ (parted_part k s n l
    ∙ ap (λ (w : List ℕ). tagged PART (take widest s) ++ w) (parted_enough n (length (drop widest s)) k (drop widest s) (dropped s n l (omega arith)) (omega arith)))

lengths : (k : ℕ) {s : List ℕ} → Parts s → length (cut k s) ≡ length s + heads (length s)
lengths k {s} (end l) = ap length (cut_short k s l) ∙ omega (arith, heads_short (length s) l)
lengths k {s} (part l p) =
    let e = lengths k p in
    let f = length-drop widest s in
    let g = length-take-le widest s (omega arith) in
    let h = ap (λ n. heads n) f in
    ap length (cut_long k s l) ∙ omega (arith, length-append (take widest s) (cut k (drop widest s)), heads_long (length s) l)

pub cut_length : (k : ℕ) (s : List ℕ) → length (cut k s) ≡ length s + heads (length s)
cut_length k s = lengths k (parts s)

part_bytes : (k : ℕ) (s : List ℕ) → widest < length s → ((j : ℕ) → j < length (drop widest s) → get_or (cut k (drop widest s)) (inside j) 0 ≡ get_or (drop widest s) j 0) → (i : ℕ) → i < length s
    → get_or (cut k s) (inside i) 0 ≡ get_or s i 0
part_bytes k s l f i m = by (dec_le widest i)
  where
    whole : List ℕ
    whole = tagged PART (take widest s) ++ cut k (drop widest s)

    many : length (tagged PART (take widest s)) ≡ head + widest
    many = let g = length-take-le widest s (omega arith) in omega arith

    by : Dec (widest ≤ i) → get_or (cut k s) (inside i) 0 ≡ get_or s i 0
    by (yes h) =
        let j = i - widest in
        let e : inside i ≡ length (tagged PART (take widest s)) + inside j = inside_later i h ∙ ap (λ n. n + inside j) (sym many) in
        let a : get_or (cut k s) (inside i) 0 ≡ get_or whole (length (tagged PART (take widest s)) + inside j) 0 = ap₂ (λ (w : List ℕ) (n : ℕ). get_or w n 0) (cut_long k s l) e in
        let b = get_or-append-add (tagged PART (take widest s)) (cut k (drop widest s)) (inside j) 0 in
        let c : get_or s (widest + j) 0 ≡ get_or s i 0 = ap (λ n. get_or s n 0) (omega arith) in
        a ∙ (b ∙ (f j (omega (arith, length-drop widest s)) ∙ (get_or-drop widest s j 0 ∙ c)))
    by (no h) =
        let j : i < widest = omega arith in
        let a : get_or (cut k s) (inside i) 0 ≡ get_or whole (head + i) 0 = ap₂ (λ (w : List ℕ) (n : ℕ). get_or w n 0) (cut_long k s l) (inside_first i j) in
        let b = get_or-append-add (PART ∷ length (take widest s) / 256 ∷ length (take widest s) % 256 ∷ []) (take widest s ++ cut k (drop widest s)) i 0 in
        let c = get_or-append (take widest s) (cut k (drop widest s)) 0 i (omega (arith, length-take-le widest s (omega arith))) in
        a ∙ (b ∙ (c ∙ get_or-take widest s i 0 j))

cut_bytes : (k : ℕ) {s : List ℕ} → Parts s → (i : ℕ) → i < length s → get_or (cut k s) (inside i) 0 ≡ get_or s i 0
cut_bytes k {s} (end l) i m = ap₂ (λ (w : List ℕ) (j : ℕ). get_or w j 0) (cut_short k s l) (inside_first i (let j : i < widest = omega arith in j)) ∙ field_byte k s i
cut_bytes k {s} (part l p) i m = part_bytes k s l (λ j n. cut_bytes k p j n) i m

pub cut_byte : (k : ℕ) (s : List ℕ) (i : ℕ) → i < length s → get_or (cut k s) (inside i) 0 ≡ get_or s i 0
cut_byte k s i l = cut_bytes k (parts s) i l

-- .. and within the fields
pub inside_in : (k : ℕ) (s : List ℕ) (i : ℕ) → i < length s → inside i < length (cut k s)
unfolding widest
inside_in k s i l = omega (arith, cut_length k s)

-- the first field of parts: an end, or a part
ends_as : (k : ℕ) (s r : List ℕ) → length s ≤ widest → cut k s ++ r ≡ tagged k s ++ r
ends_as k s r l = ap (λ (w : List ℕ). w ++ r) (cut_short k s l)

parts_as : (k : ℕ) (s r : List ℕ) → widest < length s → cut k s ++ r ≡ tagged PART (take widest s) ++ (cut k (drop widest s) ++ r)
parts_as k s r l = ap (λ (w : List ℕ). w ++ r) (cut_long k s l) ∙ append_assoc (tagged PART (take widest s)) (cut k (drop widest s)) r

-- a true tag is no part's
apart : {k j : ℕ} {c d r w : List ℕ} → (k ≡ PART → ⊥) → (j ≡ PART → ⊥) → Parts c → Parts d → cut k c ++ r ≡ cut j d ++ w → Fields k j c d r w
apart {k} {j} {c} {d} {r} {w} f g (end l) (end m) e = field_apart (sym (ends_as k c r l) ∙ (e ∙ ends_as j d w m))
apart {k} {j} {c} {d} {r} {w} f g (end l) (part m q) e =
    let x : Fields k PART c (take widest d) r (cut j (drop widest d) ++ w) = field_apart (sym (ends_as k c r l) ∙ (e ∙ parts_as j d w m)) in
    absurd (f x.kind)
apart {k} {j} {c} {d} {r} {w} f g (part l p) (end m) e =
    let x : Fields PART j (take widest c) d (cut k (drop widest c) ++ r) w = field_apart (sym (parts_as k c r l) ∙ (e ∙ ends_as j d w m)) in
    absurd (g (sym x.kind))
apart {k} {j} {c} {d} {r} {w} f g (part l p) (part m q) e =
    let x : Fields PART PART (take widest c) (take widest d) (cut k (drop widest c) ++ r) (cut j (drop widest d) ++ w) = field_apart (sym (parts_as k c r l) ∙ (e ∙ parts_as j d w m)) in
    let y = apart f g p q x.rest in
    record {
      kind = y.kind;
      content = sym (take-append-drop widest c) ∙ (ap₂ (λ (a b : List ℕ). a ++ b) x.content y.content ∙ take-append-drop widest d);
      rest = y.rest;
    }

-- THE THEOREM
pub cut_apart : {k j : ℕ} (c d : List ℕ) {r w : List ℕ} → (k ≡ PART → ⊥) → (j ≡ PART → ⊥) → cut k c ++ r ≡ cut j d ++ w → Fields k j c d r w
cut_apart c d f g e = apart f g (parts c) (parts d) e
