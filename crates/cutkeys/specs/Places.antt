-- FIELDS OF A CONTENT BY THEIR HEADS: the bytes that the content of the field at a place has (`size_of`), the place behind it (`end_of`), and the content (`text_at`), as the heads of its parts tell them. Assumes nothing.
use Rattle.std.specs.Prelude.{◌≡◌, List, ℕ, zero, suc, ◌+◌, ◌≤◌, ◌<◌, eqb, get_or, take, drop}
use Rattle.std.proofs.Math.Path.{refl, ap}
use Rattle.std.proofs.Common.{sym, ◌∙◌, arith, take_at, length-take-le, eq-eqb, ne_eqb}
use Rattle.std.proofs.Math.Decide.{dec_le}
use Rattle.std.proofs.Math.ListN.{length, length-append, length-drop}
use Rattle.language.specs.Kind.{pick}
use Rattle.stored.specs.Form.{tagged, widest, PART, cut}
use Rattle.stored.specs.Parts.{widest_is, Parts, end, part, parts, heads}
use Rattle.stored.proofs.PartsLaws.{cut_short, cut_long, cut_length}
use Rattle.stored.specs.Bytes.{At, at_left, at_right, at_byte, at_as}
use Rattle.views.specs.Joined.{within, within_content}
use Rattle.views.specs.Extents.{length_of}

-- the bytes in fields from a place on, up to the first that is no part's; the first number is how many there may be
unfoldable pub sizes : List ℕ → ℕ → ℕ → ℕ
sizes v zero p = 0
sizes v (suc n) p = pick (eqb (get_or v p 0) 11) (65535 + sizes v n (p + 65538)) (length_of v p)

unfoldable pub size_of : List ℕ → ℕ → ℕ
size_of v p = sizes v (suc (length v)) p

-- the place behind the field
unfoldable pub end_of : List ℕ → ℕ → ℕ
end_of v p = p + size_of v p + heads (size_of v p)

-- its content
abbrev pub text_at : List ℕ → ℕ → List ℕ
text_at v p = take (size_of v p) (within v p)

-- the place of the key behind the one at p and its value
abbrev pub beyond : List ℕ → ℕ → ℕ
beyond v p = end_of v (end_of v p)

pub end_after : (v : List ℕ) (p : ℕ) → p + 3 ≤ end_of v p
unfolding end_of widest
end_after v p = omega arith

module _ (v : List ℕ) where
  -- what the first head of a content in its parts tells
  pub data Opens (p k : ℕ) (c : List ℕ) : Type 0 where
    opens_short : length c ≤ 65535 → get_or v p 0 ≡ k → length_of v p ≡ length c → Opens p k c
    opens_long : 65535 < length c → get_or v p 0 ≡ 11 → length_of v p ≡ 65535 → At v (p + 65538) (cut k (drop widest c)) → Opens p k c

  head_tells : {p : ℕ} (k : ℕ) (c : List ℕ) → At v p (tagged k c) → (get_or v p 0 ≡ k) × (length_of v p ≡ length c)
  head_tells {p} k c x =
      let t = at_byte (tagged k c) 0 x (omega arith) in
      let h = at_byte (tagged k c) 1 x (omega arith) in
      let l = at_byte (tagged k c) 2 x (omega arith) in
      (ap (λ i. get_or v i 0) (let e : p ≡ p + 0 = omega arith in e) ∙ t, omega arith)

  pub opens : {p : ℕ} (k : ℕ) (c : List ℕ) → At v p (cut k c) → Opens p k c
  opens {p} k c x = by (dec_le (length c) widest)
    where
      by : Dec (length c ≤ widest) → Opens p k c
      by (yes h) = let t = head_tells k c (at_as (cut_short k c h) x) in opens_short (omega (arith, widest_is)) t.0 t.1
      by (no h) =
          let y = at_as (cut_long k c (let l : widest < length c = omega arith in l)) x in
          let f = take widest c in
          let m : length f ≡ widest = length-take-le widest c (omega arith) in
          let t = head_tells PART f (at_left v (tagged PART f) (cut k (drop widest c)) y) in
          opens_long (omega (arith, widest_is)) t.0 (omega (arith, t.1, widest_is)) (at_right v (tagged PART f) (cut k (drop widest c)) (omega (arith, widest_is)) y)

  -- HOW MANY BYTES
  size_end : (n p : ℕ) → (get_or v p 0 ≡ 11 → ⊥) → sizes v (suc n) p ≡ length_of v p
  unfolding sizes
  size_end n p f = rw (ne_eqb (get_or v p 0) 11 f) refl

  size_part : (n p : ℕ) → get_or v p 0 ≡ 11 → sizes v (suc n) p ≡ 65535 + sizes v n (p + 65538)
  unfolding sizes
  size_part n p e = rw (eq-eqb (get_or v p 0) 11 e) refl

  sizes_of : (k : ℕ) → (k ≡ 11 → ⊥) → {c : List ℕ} → Parts c → (n p : ℕ) → length c ≤ n → At v p (cut k c) → sizes v (suc n) p ≡ length c
  sizes_of k f {c} (end l) n p m x = by (opens k c x)
    where
      by : Opens p k c → sizes v (suc n) p ≡ length c
      by (opens_short i t h) = size_end n p (λ e. f (sym t ∙ e)) ∙ h
      by (opens_long i t h y) = absurd (omega (arith, widest_is))
  sizes_of k f {c} (part l q) zero p m x = absurd (omega arith)
  sizes_of k f {c} (part l q) (suc n) p m x = by (λ i y. sizes_of k f q n (p + 65538) i y) (opens k c x)
    where
      by : (length (drop widest c) ≤ n → At v (p + 65538) (cut k (drop widest c)) → sizes v (suc n) (p + 65538) ≡ length (drop widest c)) → Opens p k c → sizes v (suc (suc n)) p ≡ length c
      by g (opens_short i t h) = absurd (omega (arith, widest_is))
      by g (opens_long i t h y) =
          let z = g (omega (arith, length-drop widest c, widest_is)) y in
          size_part (suc n) p t ∙ omega (arith, length-drop widest c, widest_is)

  module _ {p : ℕ} (k : ℕ) (c : List ℕ) (f : k ≡ 11 → ⊥) (x : At v p (cut k c)) where
    pub size_of_lem : size_of v p ≡ length c
    unfolding size_of
    size_of_lem =
        sizes_of k f (parts c) (length v) p
        (omega (arith, cut_length k c, ap length x.is, length-append (cut k c) x.behind, length-drop p v)) x

    pub end_of_lem : end_of v p ≡ p + length (cut k c)
    unfolding end_of
    end_of_lem = let e = size_of_lem in ap (λ n. p + n + heads n) e ∙ omega (arith, cut_length k c)

    pub text_of : text_at v p ≡ c
    text_of =
        let y = within_content k c x in
        ap (take (size_of v p)) y.is ∙ take_at c y.behind (size_of v p) (sym size_of_lem)
