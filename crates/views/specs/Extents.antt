-- A FIELD IN A CONTENT BY THE HEADS OF ITS PARTS: parts are passed one behind another (`Passed`), until an end stands there (`extent_of`) or what no field has (`None`). Assumes nothing.
use Rattle.std.specs.Prelude.{◌≡◌, refl, List, [], ◌++◌, ℕ, suc, ◌+◌, ◌-◌, ◌*◌, ◌/◌, ◌%◌, ◌≤◌, ◌<◌, length, get_or, take, drop}
use Rattle.std.proofs.Common.{sym, ap, ap₂, subst, ◌∙◌, append_assoc, arith, length-append, length-drop, take-append-drop, drop-cons, take_at, drop_at, length-take-le}
use Rattle.std.proofs.Math.Decide.{dec_le}
use Rattle.std.proofs.Math.Seq.{slice, length-slice}
use Rattle.stored.specs.Form.{tagged, head, widest, PART, cut}
use Rattle.stored.specs.Parts.{widest_is, Fields, field_apart}
use Rattle.stored.proofs.PartsLaws.{cut_short, cut_long, cut_length}
use Rattle.stored.specs.Bytes.{At, at_left, at_right, at_byte, at_join, at_as, slice_at}
use Rattle.std.specs.declared.option.Option.{Option}
use Rattle.std.specs.declared.option.Option.TheVariants.{Some, None}
use Rattle.views.specs.declared.parts.Span.{Span}

module _ (v : List ℕ) where
  -- the length that the head at a place tells
  abbrev pub length_of : ℕ → ℕ
  length_of p = 256 * get_or v (p + 1) 0 + get_or v (p + 2) 0

  -- the head at a place is one of bytes
  pub record Headed (p m : ℕ) : Type 0 where
    pub is : m ≡ length_of p
    pub high : get_or v (p + 1) 0 < 256
    pub low : get_or v (p + 2) 0 < 256

  -- WHAT IS TOLD of the field at a place, before `stop`: its content of n bytes under its true tag, and the place behind it; or that there is none
  pub record Whole (a stop tag n end : ℕ) : Type 0 where
    pub content : List ℕ
    pub count : length content ≡ n
    pub here : At v a (cut tag content)
    pub ends : end ≡ a + length (cut tag content)
    pub below : end ≤ stop
    pub true_tag : tag ≡ PART → ⊥

  abbrev pub Told : ℕ → ℕ → Option Span → Type 0
  Told a stop (Some s) = Whole a stop s.tag s.bytes s.end
  Told a stop None = (k : ℕ) (c : List ℕ) → (k ≡ PART → ⊥) → At v a (cut k c) → a + length (cut k c) ≤ stop → ⊥

  -- ---- one field

  pub field_at : {p m : ℕ} → Headed p m → p + head + m ≤ length v → At v p (tagged (get_or v p 0) (slice (p + head) (p + head + m) v))
  field_at {p} {m} h l =
      let c = slice (p + head) (p + head + m) v in
      let n : length c ≡ m = length-slice (p + head) (p + head + m) v l ∙ omega arith in
      let hi : length c / 256 ≡ get_or v (p + 1) 0 = omega (arith, h.is, h.low) in
      let lo : length c % 256 ≡ get_or v (p + 2) 0 = omega (arith, h.is, h.low) in
      let y = slice_at {stored = v} (p + head) (p + head + m) (omega arith) l in
      let e : suc p ≡ p + 1 = omega arith in
      let f : suc (p + 1) ≡ p + 2 = omega arith in
      let g : suc (p + 2) ≡ p + head = omega arith in
      let i = drop-cons v p 0 (omega arith) in
      let j = drop-cons v (p + 1) 0 (omega arith) in
      let k = drop-cons v (p + 2) 0 (omega arith) in
      let z = y.is in
      record { behind = y.behind; is = cc }

  -- two fields at one place are one
  one_field : {p k j : ℕ} {c d : List ℕ} → At v p (tagged k c) → At v p (tagged j d) → Fields k j c d [] []
  one_field {p} {k} {j} {c} {d} x y =
      let e : Fields k j c d x.behind y.behind = field_apart (sym x.is ∙ y.is) in
      record { kind = e.kind; content = e.content; rest = refl }

  -- ---- parts that are passed: p is the place behind them, and n bytes they have

  pub record Passed (a p n : ℕ) : Type 0 where
    pub bytes : List ℕ
    pub count : length bytes ≡ n
    pub far : p ≡ a + n + 3 * (n / 65535)
    pub join : (k : ℕ) (s : List ℕ) → (0 < n → 0 < length s) → At v p (cut k s) → At v a (cut k (bytes ++ s)) × (length (cut k (bytes ++ s)) ≡ p - a + length (cut k s))
    pub only : (k : ℕ) (c : List ℕ) → (k ≡ PART → ⊥) → At v a (cut k c) → (s : List ℕ) × (c ≡ bytes ++ s) × At v p (cut k s) × (0 < n → 0 < length s) × (a + length (cut k c) ≡ p + length (cut k s))

  pub passed_none : (a : ℕ) → Passed a a 0
  passed_none a =
      record {
        bytes = [];
        count = refl;
        far = omega arith;
        join = λ k s f x. (x, omega arith);
        only = λ k c f x. (c, refl, x, λ l. absurd (omega arith), refl);
      }

  -- what a head tells of the field that stands there
  head_tells : {p : ℕ} (k : ℕ) (c : List ℕ) → At v p (tagged k c) → (get_or v p 0 ≡ k) × (length_of p ≡ length c)
  head_tells {p} k c x =
      let t = at_byte (tagged k c) 0 x (omega arith) in
      let h = at_byte (tagged k c) 1 x (omega arith) in
      let l = at_byte (tagged k c) 2 x (omega arith) in
      (ap (λ i. get_or v i 0) (let e : p ≡ p + 0 = omega arith in e) ∙ t, omega arith)

  -- the first of parts: an end, or a part
  data First (p k : ℕ) (s : List ℕ) : Type 0 where
    first_end : length s ≤ widest → At v p (tagged k s) → length (cut k s) ≡ head + length s → First p k s
    first_part : widest < length s → At v p (tagged PART (take widest s) ++ cut k (drop widest s)) → length (cut k s) ≡ head + widest + length (cut k (drop widest s)) → First p k s

  first_of : {p : ℕ} (k : ℕ) (s : List ℕ) → At v p (cut k s) → First p k s
  first_of {p} k s x = by (dec_le (length s) widest)
    where
      by : Dec (length s ≤ widest) → First p k s
      by (yes h) = first_end h (at_as (cut_short k s h) x) (ap length (cut_short k s h) ∙ omega arith)
      by (no h) =
          let l : widest < length s = omega arith in
          let e = cut_long k s l in
          let m = length-take-le widest s (omega arith) in
          first_part l (at_as e x) (ap length e ∙ omega (arith, length-append (take widest s) (cut k (drop widest s))))

  part_at : {p : ℕ} (k : ℕ) (s : List ℕ) → At v p (tagged PART (take widest s) ++ cut k (drop widest s)) → At v p (tagged PART (take widest s))
  part_at k s x = at_left v (tagged PART (take widest s)) (cut k (drop widest s)) x

  -- ---- no field stands there

  module _ {a p n : ℕ} (w : Passed a p n) where
    none_by : (stop : ℕ) → ((k : ℕ) (s : List ℕ) → (k ≡ PART → ⊥) → (0 < n → 0 < length s) → First p k s → p + length (cut k s) ≤ stop → ⊥) → Told a stop None
    none_by stop f k c g x l =
        let o = w.only k c g x in
        f k o.0 g o.3 (first_of k o.0 o.2) (omega (arith, o.4))

    -- less is left than a head
    pub none_over : {stop : ℕ} → stop < p + 3 → Told a stop None
    none_over {stop} l = none_by stop (λ k s g f x m. omega (arith, cut_length k s))

    -- .. or than the length that it tells
    pub none_long : {stop m : ℕ} → Headed p m → stop - (p + 3) < m → p + 3 ≤ stop → Told a stop None
    none_long {stop} {m} h l o = none_by stop (λ k s g f x b. by k s x b)
      where
        by : (k : ℕ) (s : List ℕ) → First p k s → p + length (cut k s) ≤ stop → ⊥
        by k s (first_end i x e) b = let t = head_tells k s x in omega (arith, t.1, h.is)
        by k s (first_part i x e) b =
            let t = head_tells PART (take widest s) (part_at k s x) in
            let q = length-take-le widest s (omega arith) in
            omega (arith, t.1, h.is)

    -- a part that is not full
    pub none_part : {stop m : ℕ} → Headed p m → get_or v p 0 ≡ 11 → (m ≡ 65535 → ⊥) → Told a stop None
    none_part {stop} {m} h t f = none_by stop (λ k s g i x b. by k s g x)
      where
        by : (k : ℕ) (s : List ℕ) → (k ≡ PART → ⊥) → First p k s → ⊥
        by k s g (first_end i x e) = g (sym (head_tells k s x).0 ∙ t)
        by k s g (first_part i x e) =
            let u = head_tells PART (take widest s) (part_at k s x) in
            let q = length-take-le widest s (omega arith) in
            f (omega (arith, u.1, h.is, widest_is))

    -- an empty end behind a part
    pub none_empty : {stop m : ℕ} → Headed p m → (get_or v p 0 ≡ 11 → ⊥) → 0 < n → m ≡ 0 → Told a stop None
    none_empty {stop} {m} h t l e = none_by stop (λ k s g i x b. by k s (i l) x)
      where
        by : (k : ℕ) (s : List ℕ) → 0 < length s → First p k s → ⊥
        by k s o (first_end i x j) = let u = head_tells k s x in omega (arith, u.1, h.is)
        by k s o (first_part i x j) = t (head_tells PART (take widest s) (part_at k s x)).0

    -- ---- an end

    pub extent_of : {stop m : ℕ} → Headed p m → (get_or v p 0 ≡ 11 → ⊥) → (0 < n → 0 < m) → p + 3 + m ≤ stop → stop ≤ length v → Whole a stop (get_or v p 0) (n + m) (p + 3 + m)
    extent_of {stop} {m} h t f l o =
        let c = slice (p + head) (p + head + m) v in
        let q : length c ≡ m = length-slice (p + head) (p + head + m) v (omega arith) ∙ omega arith in
        let e = cut_short (get_or v p 0) c (omega (arith, widest_is, h.is, h.high, h.low)) in
        let x = at_as (sym e) (field_at h (omega arith)) in
        let j = w.join (get_or v p 0) c (λ i. let y = f i in omega arith) x in
        let b = w.far in
        record {
          content = w.bytes ++ c;
          count = length-append w.bytes c ∙ omega (arith, w.count);
          here = j.0;
          ends = omega (arith, j.1, ap length e);
          below = l;
          true_tag = t;
        }

    -- ---- a part more

    module _ {m : ℕ} (h : Headed p m) (t : get_or v p 0 ≡ 11) (f : m ≡ 65535) (l : p + 3 + 65535 ≤ length v) where
      filled : List ℕ
      filled = slice (p + head) (p + head + m) v

      filled_length : length filled ≡ widest
      unfolding filled
      filled_length = length-slice (p + head) (p + head + m) v (omega arith) ∙ omega (arith, widest_is)

      filled_at : At v p (tagged PART filled)
      unfolding filled
      filled_at = at_as (ap (λ i. tagged i (slice (p + head) (p + head + m) v)) t) (field_at h (omega arith))

      -- a part and what is behind it
      cut_more : (k : ℕ) (s : List ℕ) → 0 < length s → cut k (filled ++ s) ≡ tagged PART filled ++ cut k s
      cut_more k s o =
          cut_long k (filled ++ s) (omega (arith, length-append filled s, filled_length))
          ∙ ap₂ (λ (b r : List ℕ). tagged PART b ++ cut k r) (take_at filled s widest filled_length) (drop_at filled s widest filled_length)

      more_length : (k : ℕ) (s : List ℕ) → 0 < length s → length (cut k (filled ++ s)) ≡ head + widest + length (cut k s)
      more_length k s o = ap length (cut_more k s o) ∙ omega (arith, length-append filled (cut k s), filled_length)

      join_more : (k : ℕ) (s : List ℕ) → 0 < length s → At v (p + 65538) (cut k s) → At v a (cut k (w.bytes ++ filled ++ s)) × (length (cut k (w.bytes ++ filled ++ s)) ≡ p + 65538 - a + length (cut k s))
      join_more k s o x =
          let y : At v p (cut k (filled ++ s)) = at_as (sym (cut_more k s o)) (at_join (tagged PART filled) (cut k s) filled_at x (omega (arith, filled_length, widest_is))) in
          let j = w.join k (filled ++ s) (λ i. omega (arith, length-append filled s)) y in
          let e = append_assoc w.bytes filled s in
          let b = w.far in
          (at_as (ap (cut k) (sym e)) j.0, ap (λ (r : List ℕ). length (cut k r)) e ∙ omega (arith, j.1, more_length k s o, widest_is))

      only_more : (k : ℕ) (c s : List ℕ) → (k ≡ PART → ⊥) → c ≡ w.bytes ++ s → First p k s → a + length (cut k c) ≡ p + length (cut k s)
          → (r : List ℕ) × (c ≡ w.bytes ++ filled ++ r) × At v (p + 65538) (cut k r) × (0 < n + 65535 → 0 < length r) × (a + length (cut k c) ≡ p + 65538 + length (cut k r))
      only_more k c s g e (first_end i x j) z = absurd (g (sym (head_tells k s x).0 ∙ t))
      only_more k c s g e (first_part i x j) z =
          let r = drop widest s in
          let y : Fields PART PART (take widest s) filled [] [] = one_field {c = take widest s} {d = filled} (part_at k s x) filled_at in
          let q = length-take-le widest s (omega arith) in
          let u : s ≡ filled ++ r = sym (take-append-drop widest s) ∙ ap (λ (b : List ℕ). b ++ r) y.content in (
            r,
            e ∙ (ap (λ (b : List ℕ). w.bytes ++ b) u ∙ sym (append_assoc w.bytes filled r)),
            at_right v (tagged PART (take widest s)) (cut k r) (omega (arith, widest_is)) x,
            λ o. omega (arith, length-drop widest s),
            omega (arith, widest_is),
          )

      pub passed_more : Passed a (p + 65538) (n + 65535)
      passed_more =
          record {
            bytes = w.bytes ++ filled;
            count = length-append w.bytes filled ∙ omega (arith, w.count, filled_length, widest_is);
            far = omega (arith, w.far);
            join = λ k s g x. join_more k s (g (omega arith)) x;
            only = λ k c g x. let o = w.only k c g x in only_more k c o.0 g o.1 (first_of k o.0 o.2) o.4;
          }

-- what `ended` gives behind parts with n bytes
abbrev pub Ended : ℕ → ℕ → ℕ → ℕ → Option Span → Type 0
Ended tag n m end (Some s) = (s.tag ≡ tag) × (s.bytes ≡ n + m) × (s.end ≡ end) × (0 < n → 0 < m)
Ended tag n m end None = (0 < n) × (m ≡ 0)

pub ended_told : (v : List ℕ) (a p n stop m tag end : ℕ) (q : Option Span) → Passed v a p n → Headed v p m → tag ≡ get_or v p 0 → (tag ≡ 11 → ⊥) → p + 3 ≤ stop → m ≤ stop - (p + 3) → stop ≤ length v → end ≡ p + 3 + m → Ended tag n m end q
    → Told v a stop q
ended_told v a p n stop m tag end (Some s) w h g f l i o z (b, c, d, j) =
    let x = extent_of v w h (λ y. f (g ∙ y)) j (omega arith) o in
    subst (λ r. Whole v a stop r s.bytes s.end) (sym (b ∙ g)) (subst (λ r. Whole v a stop (get_or v p 0) r s.end) (sym c) (subst (λ r. Whole v a stop (get_or v p 0) (n + m) r) (sym (d ∙ z)) x))
ended_told v a p n stop m tag end None w h g f l i o z (b, c) = none_empty v w h (λ y. f (g ∙ y)) b c
