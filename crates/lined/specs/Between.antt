-- HOW MANY BYTES of a class stand between two places of a document. Assumes nothing.
use Rattle.std.specs.Prelude.{◌≡◌, ℕ, suc, ◌+◌, ◌-◌, ◌≤◌, ◌<◌, length, take, drop}
use Rattle.std.proofs.Common.{sym, ◌∙◌, add-one, take-append-drop, length-take, take-take}
use Rattle.std.proofs.Math.Path.{ap}
use mathlib.Core.List.{List, [], ◌∷◌, ◌++◌}
use native.Mathlib.Omega.{arith}
use Rattle.std.proofs.Math.ListN.{get_or}
use Rattle.std.proofs.Math.Seq.{slice, slice-cons, slice_empty, length-slice}
use Rattle.std.proofs.lemmas.List.{drop-append-le}
use Rattle.notation.specs.Class.{Class}
use Rattle.lined.specs.Counted.{hit, counted, counted_append, counted_most}

unfoldable pub between : Class → List ℕ → ℕ → ℕ → ℕ
between c doc a e = counted c (slice a e doc)

-- what stands before a place, cut at an earlier one
pub take_cut : (doc : List ℕ) (b e : ℕ) → b ≤ e → take e doc ≡ take b doc ++ slice b e doc
take_cut doc b e h = sym (take-append-drop b (take e doc)) ∙ ap (λ (s : List ℕ). s ++ slice b e doc) (take-take b e doc h)

slice_cut : (doc : List ℕ) (a b e : ℕ) → a ≤ b → b ≤ e → e ≤ length doc → slice a e doc ≡ slice a b doc ++ slice b e doc
slice_cut doc a b e h k l =
    ap (drop a) (take_cut doc b e k) ∙ drop-append-le a (take b doc) (slice b e doc) (omega (arith, length-take b doc))

module _ (c : Class) (doc : List ℕ) where
  pub between_none : (a : ℕ) → between c doc a a ≡ 0
  unfolding between counted
  between_none a = ap (counted c) (slice_empty a doc)

  pub between_cut : (a b e : ℕ) → a ≤ b → b ≤ e → e ≤ length doc → between c doc a e ≡ between c doc a b + between c doc b e
  unfolding between
  between_cut a b e h k l = ap (counted c) (slice_cut doc a b e h k l) ∙ counted_append c (slice a b doc) (slice b e doc)

  between_one : (i : ℕ) → i < length doc → between c doc i (suc i) ≡ hit c (get_or doc i 0)
  unfolding between counted
  between_one i h =
      let z : slice i (suc i) doc ≡ get_or doc i 0 ∷ [] = slice-cons i (suc i) doc 0 (omega arith) (omega arith) ∙ ap (λ (s : List ℕ). get_or doc i 0 ∷ s) (slice_empty (suc i) doc) in
      ap (counted c) z ∙ omega arith

  -- one byte more, behind or before
  pub between_more : (a i : ℕ) → a ≤ i → i < length doc → between c doc a (i + 1) ≡ between c doc a i + hit c (get_or doc i 0)
  between_more a i h l = rw (add-one i) (between_cut a i (suc i) h (omega arith) (omega arith) ∙ ap (λ (n : ℕ). between c doc a i + n) (between_one i l))

  pub between_less : (i e : ℕ) → i < e → e ≤ length doc → between c doc i e ≡ hit c (get_or doc i 0) + between c doc (i + 1) e
  between_less i e h l = rw (add-one i) (between_cut i (suc i) e (omega arith) h l ∙ ap (λ (n : ℕ). n + between c doc (suc i) e) (between_one i (omega arith)))

  pub between_most : (a e : ℕ) → e ≤ length doc → between c doc a e ≤ e - a
  unfolding between
  between_most a e l = omega (arith, counted_most c (slice a e doc), length-slice a e doc l)
