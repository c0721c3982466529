-- WHERE NO CONTENT IS OVER 65,535 BYTES the form is that of Ticket 4 (`old_form`), and so are the spans (`old_placed`). Assumes nothing.
use Rattle.std.specs.Prelude.{◌≡◌, refl, List, ◌++◌, ℕ, ◌+◌, ◌-◌, ◌≤◌, ◌<◌, length}
use Rattle.std.proofs.Common.{ap, ap₂, ◌∙◌, arith, length-append}
use Rattle.std.proofs.Math.Decide.{dec_le}
use Rattle.language.specs.Tree.{Tree, leaf, node, Forest, none, more}
use Rattle.stored.specs.Form as now
use Rattle.stored.specs.Form.{head, widest, tag, inside}
use Rattle.stored.specs.Parts.{inside_first}
use Rattle.stored.specs.Old.{content, forms, form, Wide, wide_here, wide_below, Wides, wide_first, wide_later, placed, placeds}

-- ---- the form

pub narrow_here : (t : Tree) → (Wide t → ⊥) → length (content t) ≤ widest
narrow_here t f = go (dec_le (length (content t)) widest)
  where
    go : Dec (length (content t) ≤ widest) → length (content t) ≤ widest
    go (yes h) = h
    go (no h) = absurd (f (wide_here (let k : widest < length (content t) = omega arith in k)))

-- ---- the spans: a place stands as far behind the first as it does in the fields

-- as far as the n bytes of a field, or of fields one behind another, go
pub record Straight (at : ℕ → ℕ) (a n : ℕ) : Type 0 where
  pub goes : (i : ℕ) → i < n → at i ≡ a + i

form_longer : (t : Tree) → length (form t) ≡ head + length (content t)
form_longer t = omega arith

module _ {at : ℕ → ℕ} {a : ℕ} (t : Tree) (f : Wide t → ⊥) (h : Straight at a (length (form t))) where
  pub begins : at 0 ≡ a
  begins = h.goes 0 (omega arith) ∙ omega arith

  pub within : Straight (λ i. at (inside i)) (a + head) (length (content t))
  within = record { goes = λ i l. ap at (inside_first i (let n = narrow_here t f in omega arith)) ∙ (h.goes (head + i) (omega arith) ∙ omega arith) }

pub straight_first : {at : ℕ → ℕ} {a : ℕ} (t : Tree) (ts : Forest) → Straight at a (length (forms (more t ts))) → Straight at a (length (form t))
unfolding content
straight_first t ts h = record { goes = λ i l. h.goes i (omega (arith, length-append (content t) (forms ts))) }

pub straight_rest : {at : ℕ → ℕ} {a : ℕ} (t : Tree) (ts : Forest) → Straight at a (length (forms (more t ts))) → Straight (λ i. at (length (form t) + i)) (a + length (form t)) (length (forms ts))
unfolding content
straight_rest t ts h = record { goes = λ i l. h.goes (length (form t) + i) (omega (arith, length-append (content t) (forms ts))) ∙ omega arith }
