-- A KEY'S FIELD AND ITS VALUE'S IN BYTES THAT ARE NOT CUT (`Pairs`): they tell what the content does of the key that stands there (`pair_names`). Assumes nothing.
use Rattle.std.specs.Prelude.{◌≡◌, List, Bool, true, ℕ, ◌+◌, ◌-◌, ◌*◌, ◌≤◌, ◌<◌}
use Rattle.std.proofs.Common.{sym, subst, ◌∙◌, ext_get_or, rules}
use Rattle.std.proofs.Math.Path.{refl, ap}
use native.Mathlib.Omega.{arith}
use Rattle.std.proofs.Math.ListN.{length, get_or}
use Rattle.std.proofs.Math.Seq.{slice, length-slice}
use Rattle.exact.specs.Class.{clash}
use Rattle.exact.specs.Tells.{Tells, tells_yes}
use Rattle.uncut.specs.Heads as heads
use Rattle.uncut.specs.Heads.{end_at, Behind}
use Rattle.views.specs.Views.{viewed, place_of}
use Rattle.std.specs.Prelude.{Option, Some, None, is_some}
use Rattle.cutkeys.specs.declared.keys.Text.{Text}
use Rattle.cutkeys.specs.declared.keys.Named.{Named}
use Rattle.cutkeys.specs.declared.keys.Pair.{Pair}
use Rattle.cutkeys.specs.Places.{size_of, end_of, text_at, beyond, Opens, opens, opens_short, opens_long, size_of_lem}
use Rattle.cutkeys.specs.Keys.{Stands, Keyed}
use Rattle.cutkeys.specs.Runs.{Runs, get_d_slice, Made}
use Rattle.cutkeys.specs.Whole.{whole_of, whole_so, Names, same_text, text_inside, text_short}

-- the key's field at i ends at e, and behind it stands the head of a field that is no part and ends at f
pub record Pairs (s : List ℕ) (i e f : ℕ) : Type 0 where
  pub is : e ≡ end_at s i
  pub begins : i + 3 ≤ e
  pub fits : e + 3 ≤ length s
  pub true_tag : get_or s e 0 ≡ 11 → ⊥
  pub next : f ≡ end_at s e

-- what is told of the place i: that they stand there, if a pair is told
pub record Paired (s : List ℕ) (i : ℕ) (o : Option Pair) : Type 0 where
  pub near : (r : Pair) → o ≡ Some r → Pairs s i r.end r.next

pair_or : Pair → Option Pair → Pair
pair_or x (Some y) = y
pair_or x None = x

same_pair : {x y : Pair} → ◌≡◌ {A = Option Pair} (Some x) (Some y) → x ≡ y
unfolding pair_or
same_pair {x} e = ap (pair_or x) e

module _ (s : List ℕ) (i : ℕ) (o : i ≤ length s) (m : length s ≤ 65535) where
  pub pair_none : Paired s i None
  pair_none = record { near = λ r e. absurd (clash (ap is_some e) refl) }

  pub pair_lies : heads.Lies s i (length s)
  pair_lies = record { order = o; inside = omega arith; few = omega arith }

  module _ (b : Bool) (t : Tells (heads.Whole s i (length s)) b) (y : b ≡ true) where
    pub pair_head : i + 3 ≤ length s
    pair_head = (tells_yes b y t).begins

    pub pair_few : i ≤ 65538
    pair_few = omega arith

    module _ (e : ℕ) (h : Behind s i e) where
      pub pair_fits : e ≤ length s
      pair_fits = omega (arith, (tells_yes b y t).ends, h.is)

      module _ (l : 3 ≤ length s - e) where
        pub pair_value : e + 3 ≤ length s
        pair_value = let k = pair_fits in omega arith

        pub pair_value_few : e ≤ 65538
        pair_value_few = let k = pair_fits in omega arith

        pub pair_stands : (get_or s e 0 ≡ 11 → ⊥) → (f : ℕ) → Behind s e f → Paired s i (Some (record { end = e; next = f }))
        pair_stands n f g = record { near = λ r z. subst (λ (k : Pair). Pairs s i k.end k.next) (same_pair z) (record { is = h.is; begins = omega (arith, h.is, heads.end_after s i); fits = pair_value; true_tag = n; next = g.is }) }

pub ruleset pairing = (pair_none, pair_lies, pair_head, pair_few, pair_fits, pair_value, pair_value_few, pair_stands, rules)

-- ---- in a content

module _ (stored starts : List ℕ) (d at stop place : ℕ) (s : List ℕ) (r : Runs stored starts d at stop place s) where
  abbrev v : List ℕ
  v = viewed stored starts d

  -- a field whose head stands there, and that is no part
  module _ (i : ℕ) (t : Stands v stop (at + i)) (l : i + 3 ≤ length s) (n : get_or s i 0 ≡ 11 → ⊥) where
    field_size : end_at s i ≡ i + 3 + size_of v (at + i)
    unfolding end_at
    field_size =
        let b = r.bytes i (omega arith) in
        let h = r.bytes (i + 1) (omega arith) in
        let k = r.bytes (i + 2) (omega arith) in
        let x = ap (λ j. get_or v j 0) (let z : at + (i + 1) ≡ at + i + 1 = omega arith in z) in
        let y = ap (λ j. get_or v j 0) (let z : at + (i + 2) ≡ at + i + 2 = omega arith in z) in
        let e = size_of_lem v t.kind t.inner t.true_tag t.here in
        by b h k x y e (opens v t.kind t.inner t.here)
      where
        by : get_or s i 0 ≡ get_or v (at + i) 0 → get_or s (i + 1) 0 ≡ get_or v (at + (i + 1)) 0 → get_or s (i + 2) 0 ≡ get_or v (at + (i + 2)) 0 → get_or v (at + (i + 1)) 0 ≡ get_or v (at + i + 1) 0 → get_or v (at + (i + 2)) 0 ≡ get_or v (at + i + 2) 0
            → size_of v (at + i) ≡ length t.inner → Opens v (at + i) t.kind t.inner → i + 3 + 256 * get_or s (i + 1) 0 + get_or s (i + 2) 0 ≡ i + 3 + size_of v (at + i)
        by b h k x y e (opens_short a c f) = omega arith
        by b h k x y e (opens_long a c f g) = absurd (n (b ∙ c))

    field_short : size_of v (at + i) ≤ 65535
    field_short = by (size_of_lem v t.kind t.inner t.true_tag t.here) (r.bytes i (omega arith)) (opens v t.kind t.inner t.here)
      where
        by : size_of v (at + i) ≡ length t.inner → get_or s i 0 ≡ get_or v (at + i) 0 → Opens v (at + i) t.kind t.inner → size_of v (at + i) ≤ 65535
        by e b (opens_short a c f) = omega arith
        by e b (opens_long a c f g) = absurd (n (b ∙ c))

    field_end : end_of v (at + i) ≡ at + end_at s i
    unfolding end_of Rattle.stored.specs.Form.widest
    field_end = let e = field_size in let f = field_short in omega arith

  module _ {i e f : ℕ} (k : Keyed stored starts d stop (at + i)) (p : Pairs s i e f) where
    -- the key's field is no part's, since a part is longer
    no_part : get_or s i 0 ≡ 11 → ⊥
    unfolding end_at
    no_part z = by (r.bytes i (omega (arith, p.begins, p.fits))) (r.bytes (i + 1) (omega (arith, p.begins, p.fits))) (r.bytes (i + 2) (omega (arith, p.begins, p.fits)))
        (ap (λ j. get_or v j 0) (let w : at + (i + 1) ≡ at + i + 1 = omega arith in w)) (ap (λ j. get_or v j 0) (let w : at + (i + 2) ≡ at + i + 2 = omega arith in w)) p.is (opens v k.key.kind k.key.inner k.key.here)
      where
        by : get_or s i 0 ≡ get_or v (at + i) 0 → get_or s (i + 1) 0 ≡ get_or v (at + (i + 1)) 0 → get_or s (i + 2) 0 ≡ get_or v (at + (i + 2)) 0 → get_or v (at + (i + 1)) 0 ≡ get_or v (at + i + 1) 0 → get_or v (at + (i + 2)) 0 ≡ get_or v (at + i + 2) 0
            → e ≡ i + 3 + 256 * get_or s (i + 1) 0 + get_or s (i + 2) 0 → Opens v (at + i) k.key.kind k.key.inner → ⊥
        by b h m x y q (opens_short a c g) = k.key.true_tag (sym c ∙ (sym b ∙ z))
        by b h m x y q (opens_long a c g j) = omega (arith, p.fits, r.short)

    key_size : e ≡ i + 3 + size_of v (at + i)
    key_size = p.is ∙ field_size i k.key (omega (arith, p.begins, p.fits)) no_part

    key_end : end_of v (at + i) ≡ at + e
    key_end = field_end i k.key (omega (arith, p.begins, p.fits)) no_part ∙ ap (λ j. at + j) (sym p.is)

    pub pair_next : beyond v (at + i) ≡ at + f
    pair_next =
        let t = subst (Stands v stop) key_end k.value in
        ap (end_of v) key_end ∙ (field_end e t p.fits p.true_tag ∙ ap (λ j. at + j) (sym p.next))

    pub pair_low : at + i < stop
    pair_low = omega (arith, p.begins, p.fits, r.below)

    pub pair_whole : whole_of starts d (at + i) (size_of v (at + i)) ≡ true
    pair_whole =
        let n = size_of v (at + i) in
        let g = key_size in
        let a = r.same (i + 2) (omega (arith, p.fits)) in
        let b = r.same (i + 2 + n) (omega (arith, p.fits)) in
        let x = ap (place_of starts d) (let z : at + (i + 2) ≡ at + i + 2 = omega arith in z) in
        let y = ap (place_of starts d) (let z : at + (i + 2 + n) ≡ at + i + 2 + n = omega arith in z) in
        whole_so starts d (at + i) n (field_short i k.key (omega (arith, p.begins, p.fits)) no_part) (omega arith)

    pub pair_text : text_at v (at + i) ≡ slice (i + 3) e s
    pair_text =
        let n = size_of v (at + i) in
        let g = key_size in
        text_short stored starts d k.frame k.key (field_short i k.key (omega (arith, p.begins, p.fits)) no_part)
        ∙ ext_get_or 0 (slice (at + i + 3) (at + i + 3 + n) v) (slice (i + 3) e s)
        (length-slice (at + i + 3) (at + i + 3 + n) v (let h = text_inside stored starts d k.frame k.key in omega (arith, k.frame.fits)) ∙ (omega arith ∙ sym (length-slice (i + 3) e s (omega (arith, p.fits)))))
        (λ j l. bytes j (omega (arith, length-slice (at + i + 3) (at + i + 3 + n) v (let h = text_inside stored starts d k.frame k.key in omega (arith, k.frame.fits)))))
      where
        bytes : (j : ℕ) → j < size_of v (at + i) → get_or (slice (at + i + 3) (at + i + 3 + size_of v (at + i)) v) j 0 ≡ get_or (slice (i + 3) e s) j 0
        bytes j l =
            let g = key_size in
            get_d_slice (at + i + 3) (at + i + 3 + size_of v (at + i)) v j (omega arith)
            ∙ (ap (λ m. get_or v m 0) (let z : at + i + 3 + j ≡ at + (i + 3 + j) = omega arith in z)
            ∙ (sym (r.bytes (i + 3 + j) (omega (arith, p.fits))) ∙ sym (get_d_slice (i + 3) e s j (omega arith))))

  -- THE KEY at `at`
  module _ (k : Keyed stored starts d stop at) (o : Option Pair) (w : Paired s 0 o) (q : Pair) (n : o ≡ Some q) where
    pub pair_beyond : beyond v at ≡ at + q.next
    pair_beyond =
        let z : at + 0 ≡ at = omega arith in
        sym (ap (beyond v) z) ∙ pair_next (subst (Keyed stored starts d stop) (sym z) k) (w.near q n)

    pub pair_names : (left : ℕ) (x : Named) → Made at place left q.end q.next x → Names starts d at (size_of v at) (beyond v at) x
    pair_names left x y =
        let z : at + 0 ≡ at = omega arith in
        let p = w.near q n in
        let k0 = subst (Keyed stored starts d stop) (sym z) k in
        let g = key_size k0 p in
        let a = r.same 2 (omega (arith, p.begins, p.fits)) in
        let m = ap (size_of v) z in
        record {
          text =
              record {
                whole = ap is_some y.text ∙ sym (subst (λ j. whole_of starts d j (size_of v j) ≡ true) z (pair_whole k0 p));
                from = λ t e. ap (λ (u : Text). u.from) (sym (same_text (sym y.text ∙ e))) ∙ omega arith;
                to = λ t e. ap (λ (u : Text). u.to) (sym (same_text (sym y.text ∙ e))) ∙ omega arith;
              };
          next = y.next ∙ sym pair_beyond;
        }
