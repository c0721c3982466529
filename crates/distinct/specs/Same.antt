-- TWO TEXTS COMPARED byte by byte: they are the same exactly if what is left of them is (`Same`). Assumes nothing.
use Rattle.std.specs.Prelude.{◌≡◌, List, ◌∷◌, Bool, true, false, ℕ, suc, ◌+◌, ◌-◌, ◌≤◌, ◌<◌, eqb, length, get_or, take, drop}
use Rattle.std.proofs.Common.{sym, ap, ap₂, ◌∙◌, arith, add-zero, rules}
use Rattle.std.specs.Cmp.Lexicographic.{pointwise}
use Rattle.std.proofs.lemmas.Bool.{false≢true}
use Rattle.std.proofs.lemmas.Slice.Eq.{bytes_eq-Decides}
use Rattle.std.proofs.lemmas.Slice.{between_is}
use Rattle.std.proofs.Math.Seq.{slice, slice-cons, slice_empty, length-slice}
use Rattle.exact.specs.Tells.{Tells}
use Rattle.distinct.specs.Names.{Part}

-- the texts are the same exactly if what is left of them is
pub record Same (text : List ℕ) (a e : ℕ) (words : List ℕ) (b f n i : ℕ) : Type 0 where
  pub few : i ≤ n
  pub first : a + n ≡ e
  pub second : b + n ≡ f
  pub to : slice a e text ≡ slice b f words → slice (a + i) e text ≡ slice (b + i) f words
  pub from : slice (a + i) e text ≡ slice (b + i) f words → slice a e text ≡ slice b f words

pub same_uneven : (text : List ℕ) (a e : ℕ) (words : List ℕ) (b f : ℕ) → Part text a e → Part words b f → (f - b ≡ e - a → ⊥) → Tells (slice a e text ≡ slice b f words) false
same_uneven text a e words b f p q d z = d (omega (arith, length-slice a e text p.fits, length-slice b f words q.fits, ap length z))

pub same_first : (text : List ℕ) (a e : ℕ) (words : List ℕ) (b f : ℕ) → Part text a e → Part words b f → f - b ≡ e - a → Same text a e words b f (e - a) 0
same_first text a e words b f p q d =
    record { few = omega arith; first = omega (arith, p.order); second = omega (arith, p.order, q.order); to = λ z. rw (add-zero a, add-zero b) z; from = λ z. rw (add-zero a, add-zero b) at z }

module _ (text : List ℕ) (a e : ℕ) (words : List ℕ) (b f n : ℕ) where
  pub same_yes : (i : ℕ) → Same text a e words b f n i → n ≤ i → Tells (slice a e text ≡ slice b f words) true
  same_yes i x h =
      let z : a + i ≡ e = omega (arith, x.few, x.first) in
      let y : b + i ≡ f = omega (arith, x.few, x.second) in
      x.from (rw (z, y, slice_empty e text, slice_empty f words))

  module _ (i : ℕ) (x : Same text a e words b f n i) (p : Part text a e) (q : Part words b f) (h : i < n) where
    pub same_at : a + i < length text
    same_at = omega (arith, x.first, p.fits)

    pub same_other : b + i < length words
    same_other = omega (arith, x.second, q.fits)

    heads : slice (a + i) e text ≡ get_or text (a + i) 0 ∷ slice (a + (i + 1)) e text
    heads =
        let z : suc (a + i) ≡ a + (i + 1) = omega arith in
        slice-cons (a + i) e text 0 (omega (arith, x.first)) p.fits ∙ ap (λ (j : ℕ). get_or text (a + i) 0 ∷ slice j e text) z

    heads' : slice (b + i) f words ≡ get_or words (b + i) 0 ∷ slice (b + (i + 1)) f words
    heads' =
        let z : suc (b + i) ≡ b + (i + 1) = omega arith in
        slice-cons (b + i) f words 0 (omega (arith, x.second)) q.fits ∙ ap (λ (j : ℕ). get_or words (b + i) 0 ∷ slice j f words) z

    pub same_no : (get_or text (a + i) 0 ≡ get_or words (b + i) 0 → ⊥) → Tells (slice a e text ≡ slice b f words) false
    same_no k z = let y = x.to z in let u = heads in let v = heads' in k (cc)

    pub same_more : get_or text (a + i) 0 ≡ get_or words (b + i) 0 → Same text a e words b f n (i + 1)
    same_more k =
        record {
          few = omega arith;
          first = x.first;
          second = x.second;
          to = λ z. let y = x.to z in let u = heads in let v = heads' in cc;
          from = λ z. x.from (let u = heads in let v = heads' in cc);
        }

-- .. or as slices
pub same_slices : (text : List ℕ) (a e : ℕ) (words : List ℕ) (b f : ℕ) (r : Bool) → r ≡ pointwise eqb (take (e - a) (drop a text)) (take (f - b) (drop b words)) → Tells (slice a e text ≡ slice b f words) r
same_slices text a e words b f r h = by r (h ∙ ap₂ (pointwise eqb) (between_is text a e) (between_is words b f))
  where
    by : (r : Bool) → r ≡ pointwise eqb (slice a e text) (slice b f words) → Tells (slice a e text ≡ slice b f words) r
    by true k = (bytes_eq-Decides (slice a e text) (slice b f words)).0 (sym k)
    by false k = λ z. false≢true (k ∙ (bytes_eq-Decides (slice a e text) (slice b f words)).1 z)

pub ruleset comparing = (same_uneven, same_first, same_yes, same_at, same_other, same_no, same_more, rules)
