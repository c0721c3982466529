-- KEYS THAT STAND WHOLE in the stored bytes (`whole_at`): places grow by one a byte at least (`place_grows`), so that a text whose last byte stands no farther than its bytes need stands there one behind another (`whole_text`). Assumes nothing.
use Rattle.std.specs.Prelude.{◌≡◌, List, [], ◌∷◌, Bool, true, false, ℕ, zero, suc, ◌+◌, ◌-◌, ◌/◌, ◌%◌, ◌≤◌, ◌<◌, leb, eqb, length, get_or, take, drop}
use Rattle.std.proofs.Math.Path.{refl}
use Rattle.std.proofs.Common.{sym, ap, ap₂, ◌∙◌, arith, drop-drop, Fits, le-leb, eqb-true, eq-eqb}
use Rattle.std.proofs.Math.Decide.{dec_le}
use Rattle.std.proofs.Math.Seq.{slice}
use Rattle.std.specs.Int.{w64}
use Rattle.std.proofs.lemmas.Bool.{lt-leb}
use borrow.Author.Tests.{ne_eqb}
use Rattle.exact.specs.Class.{clash}
use Rattle.language.specs.Lent.{lent}
use Rattle.language.specs.Kind.{pick}
use Rattle.stored.specs.Form.{widest, inside}
use Rattle.stored.specs.Parts.{widest_is}
use Rattle.stored.proofs.PartsLaws.{cut_short, cut_length}
use Rattle.stored.specs.Bytes.{At, at_as, at_right, at_slice}
use Rattle.distinct.specs.Names.{Part}
use Rattle.distinct.specs.Roads.{Road}
use Rattle.views.specs.Views.{viewed, place_of, view_place, view_less, Seen, Reached, run_slice, Content}
use Rattle.std.specs.Prelude.{Option, Some, None, is_some}
use Rattle.cutkeys.specs.declared.keys.Text.{Text}
use Rattle.cutkeys.specs.declared.keys.Named.{Named}
use Rattle.cutkeys.specs.Places.{size_of, text_at, size_of_lem, text_of}
use Rattle.cutkeys.specs.Keys.{Stands, Framed, all_keys}
use Rattle.cutkeys.specs.Kept.{kept_road}

-- PLACES GROW
pub place_grows : (starts : List ℕ) (d i k : ℕ) → place_of starts d i + k ≤ place_of starts d (i + k)
unfolding place_of widest
place_grows starts zero i k = omega arith
place_grows starts (suc d) i k =
    let a = get_or starts d 0 + inside i in
    let b = get_or starts d 0 + inside (i + k) in
    let l : a + k ≤ b = omega arith in
    let e : a + (b - a) ≡ b = omega arith in
    let h = place_grows starts d a (b - a) in
    let g = ap (place_of starts d) e in
    omega arith

-- a key's text of n bytes from p + 3 on stands whole: it has no parts, and its last byte stands no farther from the head than those bytes need
unfoldable pub whole_of : List ℕ → ℕ → ℕ → ℕ → Bool
whole_of starts d p n = pick (leb n 65535) (eqb (place_of starts d (p + 2 + n)) (place_of starts d (p + 2) + n)) false

whole_wide : (starts : List ℕ) (d p n : ℕ) → 65535 < n → whole_of starts d p n ≡ false
unfolding whole_of
whole_wide starts d p n l = rw (lt-leb n 65535 l) refl

whole_short : (starts : List ℕ) (d p n : ℕ) → n ≤ 65535 → whole_of starts d p n ≡ eqb (place_of starts d (p + 2 + n)) (place_of starts d (p + 2) + n)
unfolding whole_of
whole_short starts d p n l = rw (le-leb n 65535 l) refl

whole_yes : (starts : List ℕ) (d p n : ℕ) → whole_of starts d p n ≡ true → (n ≤ 65535) × (place_of starts d (p + 2 + n) ≡ place_of starts d (p + 2) + n)
whole_yes starts d p n e = by (dec_le n 65535)
  where
    by : Dec (n ≤ 65535) → (n ≤ 65535) × (place_of starts d (p + 2 + n) ≡ place_of starts d (p + 2) + n)
    by (yes h) = (h, eqb-true (place_of starts d (p + 2 + n)) (place_of starts d (p + 2) + n) (sym (whole_short starts d p n h) ∙ e))
    by (no h) = absurd (clash e (whole_wide starts d p n (let l : 65535 < n = omega arith in l)))

pub whole_so : (starts : List ℕ) (d p n : ℕ) → n ≤ 65535 → place_of starts d (p + 2 + n) ≡ place_of starts d (p + 2) + n → whole_of starts d p n ≡ true
whole_so starts d p n l e = whole_short starts d p n l ∙ eq-eqb (place_of starts d (p + 2 + n)) (place_of starts d (p + 2) + n) e

-- what is told of where the text of n bytes of the key at p stands
pub record Texts (starts : List ℕ) (d p n : ℕ) (t : Option Text) : Type 0 where
  pub whole : is_some t ≡ whole_of starts d p n
  pub from : (x : Text) → t ≡ Some x → x.from ≡ place_of starts d (p + 2) + 1
  pub to : (x : Text) → t ≡ Some x → x.to ≡ place_of starts d (p + 2) + 1 + n

-- what is told of the key at p, with a text of n bytes
pub record Names (starts : List ℕ) (d p n q : ℕ) (k : Named) : Type 0 where
  pub text : Texts starts d p n k.text
  pub next : k.next ≡ q

-- a text that is there
text_or : Text → Option Text → Text
text_or x (Some y) = y
text_or x None = x

pub same_text : {x y : Text} → ◌≡◌ {A = Option Text} (Some x) (Some y) → x ≡ y
unfolding text_or
same_text {x} e = ap (text_or x) e

pub no_text : {x : Text} → ◌≡◌ {A = Option Text} None (Some x) → ⊥
no_text e = clash (ap is_some e) refl

pub record KeyAsked (starts : List ℕ) (d p n : ℕ) : Type 0 where
  pub low : d ≤ 34
  pub small : p + n ≤ lent
  pub first : Seen starts d (p + 2)
  pub last : Seen starts d (p + 2 + n)

-- .. of a key whose text ends before the content does
pub text_asked : {stored starts : List ℕ} {d stop : ℕ} → Content stored starts d stop → (p n : ℕ) → p + 3 + n ≤ stop → KeyAsked starts d p n
text_asked {stored} {starts} {d} c p n l =
    record {
      low = c.low;
      small = omega (arith, view_less stored starts d, c.few, c.fits);
      first = record { stored = stored; few = c.few; inside_view = omega (arith, c.fits) };
      last = record { stored = stored; few = c.few; inside_view = omega (arith, c.fits) };
    }

pub seen_few : {starts : List ℕ} {d i : ℕ} → Seen starts d i → place_of starts d i < lent
seen_few {starts} {d} {i} h = omega (arith, view_place h.stored starts d i h.inside_view, h.few)

module _ (starts : List ℕ) (d p n : ℕ) where
  pub names_wide : 65535 < n → Texts starts d p n None
  names_wide l = record { whole = sym (whole_wide starts d p n l); from = λ x e. absurd (no_text e); to = λ x e. absurd (no_text e) }

  module _ (h : KeyAsked starts d p n) (a : ℕ) (f : a ≡ place_of starts d (p + 2)) where
    pub names_first : Fits w64 (a + 1)
    names_first = let l = seen_few h.first in omega arith

    pub names_sum : Fits w64 (a + n)
    names_sum = let l = seen_few h.first in omega (arith, h.small)

    module _ (l : n ≤ 65535) (e : ℕ) (g : e ≡ place_of starts d (p + 2 + n)) where
      pub names_last : Fits w64 (e + 1)
      names_last = let m = seen_few h.last in omega arith

      is_short : eqb e (a + n) ≡ whole_of starts d p n
      is_short = ap (λ i. eqb i (a + n)) g ∙ (ap (λ i. eqb (place_of starts d (p + 2 + n)) (i + n)) f ∙ sym (whole_short starts d p n l))

      pub names_short : e ≡ a + n → Texts starts d p n (Some (record { from = a + 1; to = e + 1 }))
      names_short y =
          record {
            whole = sym (eq-eqb e (a + n) y) ∙ is_short;
            from = λ x z. ap (λ (t : Text). t.from) (sym (same_text z)) ∙ omega arith;
            to = λ x z. ap (λ (t : Text). t.to) (sym (same_text z)) ∙ omega arith;
          }

      pub names_cut : (e ≡ a + n → ⊥) → Texts starts d p n None
      names_cut y = record { whole = sym (ne_eqb e (a + n) y) ∙ is_short; from = λ x z. absurd (no_text z); to = λ x z. absurd (no_text z) }

pub ruleset naming = (text_asked, names_wide, names_first, names_sum, names_last, names_short, names_cut)

module _ (stored starts : List ℕ) (d : ℕ) where
  abbrev v : List ℕ
  v = viewed stored starts d

  -- WHETHER THE KEY at p stands whole
  unfoldable pub whole_at : ℕ → Bool
  whole_at p = whole_of starts d p (size_of (viewed stored starts d) p)

  pub whole_at_lem : (p : ℕ) → whole_at p ≡ whole_of starts d p (size_of v p)
  unfolding whole_at
  whole_at_lem p = refl

  -- those that do
  abbrev pub whole_keys : ℕ → Road
  whole_keys stop = kept_road (all_keys stored starts d stop) whole_at

  module _ {stop p : ℕ} (f : Framed stored starts d stop) (s : Stands v stop p) where
    pub size_is : size_of v p ≡ length s.inner
    size_is = size_of_lem v s.kind s.inner s.true_tag s.here

    -- the text and a byte before it are bytes of the content
    pub text_inside : p + 3 + size_of v p ≤ stop
    text_inside = omega (arith, size_is, cut_length s.kind s.inner, s.below)

    -- a text without parts
    pub text_short : size_of v p ≤ 65535 → text_at v p ≡ slice (p + 3) (p + 3 + size_of v p) v
    text_short l =
        let e = cut_short s.kind s.inner (omega (arith, size_is, widest_is)) in
        let x : At v (p + 3) s.inner = at_right v {n = 3} (s.kind ∷ length s.inner / 256 ∷ length s.inner % 256 ∷ []) s.inner refl (at_as e s.here) in
        text_of v s.kind s.inner s.true_tag s.here ∙ sym (at_slice {e = p + 3 + size_of v p} s.inner x (omega (arith, size_is)) (let i = text_inside in omega (arith, f.fits)))

    module _ (w : whole_at p ≡ true) where
      facts : (size_of v p ≤ 65535) × (place_of starts d (p + 2 + size_of v p) ≡ place_of starts d (p + 2) + size_of v p)
      facts = whole_yes starts d p (size_of v p) (sym (whole_at_lem p) ∙ w)

      reached : Reached starts d (p + 2) (size_of v p + 1) (place_of starts d (p + 2)) (size_of v p + 1)
      reached =
          record {
            here = refl;
            same = λ j l.
                let n = size_of v p in
                let a = place_grows starts d (p + 2) j in
                let b = place_grows starts d (p + 2 + j) (n - j) in
                let c = ap (place_of starts d) (let e : p + 2 + j + (n - j) ≡ p + 2 + n = omega arith in e) in
                omega (arith, facts.1);
            least = omega arith;
            some = λ l. omega arith;
            few = let i = text_inside in omega (arith, view_place stored starts d (p + 2) (omega (arith, f.fits)), f.few);
          }

      run_is : (place_of starts d (p + 2) + (size_of v p + 1) ≤ length stored) × (slice (p + 2) (p + 2 + (size_of v p + 1)) v ≡ slice (place_of starts d (p + 2)) (place_of starts d (p + 2) + (size_of v p + 1)) stored)
      run_is =
          let i = text_inside in
          run_slice stored starts d (p + 2) (size_of v p + 1) (place_of starts d (p + 2)) (size_of v p + 1) reached (omega (arith, f.fits)) (omega (arith, f.fits)) (size_of v p + 1) (omega arith)

      pub whole_part : (a e : ℕ) → a ≡ place_of starts d (p + 2) + 1 → e ≡ place_of starts d (p + 2) + 1 + size_of v p → Part stored a e
      whole_part a e g h = record { order = omega arith; fits = let r = run_is in omega (arith, r.0) }

      -- THE TEXT
      pub whole_text : (a e : ℕ) → a ≡ place_of starts d (p + 2) + 1 → e ≡ place_of starts d (p + 2) + 1 + size_of v p → text_at v p ≡ slice a e stored
      whole_text a e g h =
          let n = size_of v p in
          let b = place_of starts d (p + 2) in
          let i : p + 3 ≡ p + 2 + 1 = omega arith in
          let j : p + 3 + n ≡ p + 2 + (n + 1) = omega arith in
          let k : e ≡ b + (n + 1) = omega arith in
          text_short facts.0
          ∙ (ap₂ (λ (x y : ℕ). slice x y v) i j
          ∙ (sym (drop-drop 1 (p + 2) (take (p + 2 + (n + 1)) v))
          ∙ (ap (drop 1) run_is.1
          ∙ (drop-drop 1 b (take (b + (n + 1)) stored) ∙ ap₂ (λ (x y : ℕ). slice x y stored) (sym g) (sym k)))))
