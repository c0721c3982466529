-- CONTENTS THAT ARE THE SAME, compared a run at a time (`Alike`); the text of a key is the content of a view. Assumes nothing.
use Rattle.std.specs.Prelude.{◌≡◌, refl, List, ◌++◌, Bool, true, false, ℕ, ◌+◌, ◌-◌, ◌≤◌, ◌<◌}
use Rattle.std.proofs.Common.{sym, ap, ap₂, subst, ◌∙◌, arith, length-take-le, take-take, Fits, rules}
use lib.ListN.{length, take, drop, length-take}
use Rattle.std.proofs.Math.Seq.{slice}
use Rattle.std.specs.Int.{w64}
use Rattle.exact.specs.Tells.{Tells, tells_yes, tells_no}
use Rattle.language.specs.Lent.{lent}
use Rattle.distinct.specs.Names.{Part}
use Rattle.views.specs.Joined.{within}
use Rattle.views.specs.Views.{viewed, view_less, Seen, Reached, run_slice, Content, Deeper, deeper_view}
use Rattle.cutkeys.specs.declared.keys.Size.{Size}
use Rattle.cutkeys.specs.Places.{size_of, text_at, size_of_lem, text_of}
use Rattle.cutkeys.specs.Keys.{Stands, Keyed}
use Rattle.cutkeys.specs.Found.{Sized, stop_few}
use Rattle.cutkeys.specs.Whole.{text_inside}

-- two contents of n bytes, of which the first i are the same
pub record Alike (stored a : List ℕ) (d : ℕ) (stored' b : List ℕ) (d' n i : ℕ) : Type 0 where
  pub one : Content stored a d n
  pub two : Content stored' b d' n
  pub order : i ≤ n
  pub same : take i (viewed stored a d) ≡ take i (viewed stored' b d')

module _ (stored a : List ℕ) (d : ℕ) (stored' b : List ℕ) (d' n : ℕ) where
  pub alike_none : Content stored a d n → (m : ℕ) → Content stored' b d' m → n ≡ m → Alike stored a d stored' b d' n 0
  alike_none x m y e = record { one = x; two = subst (Content stored' b d') (sym e) y; order = omega arith; same = refl }

  module _ (i : ℕ) (h : Alike stored a d stored' b d' n i) where
    pub alike_over : n ≤ i → (m : ℕ) → n ≡ m → take n (viewed stored a d) ≡ take m (viewed stored' b d')
    alike_over l m e = subst (λ (c : ℕ). take c (viewed stored a d) ≡ take c (viewed stored' b d')) (let z : i ≡ n = omega (arith, h.order) in z) h.same ∙ ap (λ (c : ℕ). take c (viewed stored' b d')) e

    module _ (l : i < n) where
      pub alike_low : d ≤ 34
      alike_low = h.one.low

      pub alike_low_two : d' ≤ 34
      alike_low_two = h.two.low

      pub alike_one : Seen a d i
      alike_one = record { stored = stored; few = h.one.few; inside_view = omega (arith, h.one.fits) }

      pub alike_two : Seen b d' i
      alike_two = record { stored = stored'; few = h.two.few; inside_view = omega (arith, h.two.fits) }

      module _ (p left q m : ℕ) (x : Reached a d i (n - i) p left) (y : Reached b d' i left q m) where
        run_one : (p + m ≤ length stored) × (slice i (i + m) (viewed stored a d) ≡ slice p (p + m) stored)
        run_one = run_slice stored a d i (n - i) p left x (omega (arith, h.one.fits)) (omega (arith, x.least, h.one.fits)) m y.least

        run_two : (q + m ≤ length stored') × (slice i (i + m) (viewed stored' b d') ≡ slice q (q + m) stored')
        run_two = run_slice stored' b d' i left q m y (omega (arith, h.two.fits)) (omega (arith, x.least, y.least, h.two.fits)) m (omega arith)

        pub alike_part : Part stored p (p + m)
        alike_part = record { order = omega arith; fits = run_one.0 }

        pub alike_part_two : Part stored' q (q + m)
        alike_part_two = record { order = omega arith; fits = run_two.0 }

        pub alike_few : Fits w64 (p + m)
        alike_few = omega (arith, run_one.0, h.one.few)

        pub alike_few_two : Fits w64 (q + m)
        alike_few_two = omega (arith, run_two.0, h.two.few)

        pub alike_next_few : Fits w64 (i + m)
        alike_next_few = omega (arith, x.least, y.least, h.one.fits, h.one.few, view_less stored a d)

        pub alike_less : n - (i + m) < n - i
        alike_less = let s = y.some (x.some (omega arith)) in omega arith

        module _ (r : Bool) (t : Tells (slice p (p + m) stored ≡ slice q (q + m) stored') r) where
          pub alike_more : r ≡ true → Alike stored a d stored' b d' n (i + m)
          alike_more e =
              record {
                one = h.one;
                two = h.two;
                order = omega (arith, x.least, y.least);
                same = join (viewed stored a d) ∙ (ap₂ (λ (u w : List ℕ). u ++ w) h.same (run_one.1 ∙ (tells_yes r e t ∙ sym run_two.1)) ∙ sym (join (viewed stored' b d')));
              }
            where
              join : (v : List ℕ) → take (i + m) v ≡ take i v ++ slice i (i + m) v
              join v = sym (lib.ListN.take-append-drop i (take (i + m) v)) ∙ ap (λ (u : List ℕ). u ++ slice i (i + m) v) (take-take i (i + m) v (omega arith))

          pub alike_not : r ≡ false → (k : ℕ) → n ≡ k → take n (viewed stored a d) ≡ take k (viewed stored' b d') → ⊥
          alike_not e k f z = tells_no r e t (sym run_one.1 ∙ (ap (drop i) (sym (short (viewed stored a d)) ∙ (ap (take (i + m)) (z ∙ ap (λ (c : ℕ). take c (viewed stored' b d')) (sym f)) ∙ short (viewed stored' b d'))) ∙ run_two.1))
            where
              short : (v : List ℕ) → take (i + m) (take n v) ≡ take (i + m) v
              short v = take-take (i + m) n v (omega (arith, x.least, y.least))

pub ruleset likening = (alike_none, alike_over, alike_low, alike_low_two, alike_one, alike_two, alike_part, alike_part_two, alike_few, alike_few_two, alike_next_few, alike_less, alike_more, alike_not, rules)

-- ---- THE TEXT OF A KEY

module _ (stored starts : List ℕ) (d stop q : ℕ) (k : Keyed stored starts d stop q) where
  abbrev v : List ℕ
  v = viewed stored starts d

  text_is : text_at v q ≡ k.key.inner
  text_is = text_of v k.key.kind k.key.inner k.key.true_tag k.key.here

  text_long : length (text_at v q) ≡ size_of v q
  text_long = ap length text_is ∙ sym (size_of_lem v k.key.kind k.key.inner k.key.true_tag k.key.here)

  pub own_field : Stands v stop q
  own_field = k.key

  pub own_deep : d < 34
  own_deep = k.frame.deep

  pub own_few : q ≤ lent
  own_few = let l = text_inside stored starts d k.frame k.key in let f = stop_few stored starts d stop q k in omega arith

  -- it is the content of the view in
  module _ (r : Size) (z : Sized v q r) (new : List ℕ) (h : Deeper starts d q new) where
    pub own_content : Content stored new (d + 1) r.bytes
    own_content =
        record {
          low = omega (arith, k.frame.deep);
          few = k.frame.few;
          fits = omega (arith, ap length (deeper_view stored h), z.bytes, text_long, length-take (size_of v q) (within v q));
        }

    pub own_text : take r.bytes (viewed stored new (d + 1)) ≡ text_at v q
    own_text = ap₂ (λ (i : ℕ) (l : List ℕ). take i l) z.bytes (deeper_view stored h)

    -- a text is the key's if it is that content
    pub own_same : (t : List ℕ) (b : Bool) → Tells (t ≡ take r.bytes (viewed stored new (d + 1))) b → Tells (t ≡ text_at v q) b
    own_same t b x = subst (λ (l : List ℕ). Tells (t ≡ l) b) own_text x

  module _ (r : Size) (z : Sized v q r) (stored' a : List ℕ) (e n : ℕ) (c : Content stored' a e n) where
    pub own_other : (r.bytes ≡ n → ⊥) → take n (viewed stored' a e) ≡ text_at v q → ⊥
    own_other f y = f (z.bytes ∙ (sym text_long ∙ (ap length (sym y) ∙ length-take-le n (viewed stored' a e) c.fits)))

pub ruleset owning = (own_field, own_deep, own_few, own_content, own_other, own_same, rules)
