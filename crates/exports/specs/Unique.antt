-- EACH C FUNCTION HAS ONE ANSWER ONLY (01, What each statement has to settle); that of `yay_read` is proved of the promise. Assumes nothing.
use Rattle.std.specs.Prelude.{◌≡◌, List, ℕ, ℤ}
use Rattle.std.proofs.Common.{sym, ap, ◌∙◌}
use Rattle.questions.specs.Walk.{Reply}
use Rattle.questions.specs.Unique.{one_find}
use Rattle.integers.specs.Order.{Verdict}
use Rattle.exports.specs.Exports.{FoundAt, ComparedTo, TextAt}

pub one_found_at : (table : List ℕ) (R : ℕ) (room : List ℕ) (r : ℕ) (key : List ℕ) (n v m w : ℕ) → FoundAt table R room r key n v → FoundAt table R room r key m w
    → (n ≡ m) × (v ≡ w)
one_found_at table R room r key n v m w x y = let e = one_find x y in (ap (λ (p : Reply). p.number) e, ap (λ (p : Reply). p.value) e)

pub one_compared_to : (left right : List ℕ) (n m : ℕ) (v w : ℤ) → ComparedTo left right n v → ComparedTo left right m w → (n ≡ m) × (v ≡ w)
one_compared_to left right n m v w x y = let e = sym x ∙ y in (ap (λ (z : Verdict). z.number) e, ap (λ (z : Verdict). z.value) e)

pub one_text_at : (table : List ℕ) (R : ℕ) (room : List ℕ) (r n from to m from₂ to₂ : ℕ) → TextAt table R room r n from to → TextAt table R room r m from₂ to₂
    → (n ≡ m) × (from ≡ from₂) × (to ≡ to₂)
one_text_at table R room r n from to m from₂ to₂ x y = (x.number_is ∙ sym y.number_is, x.from_is ∙ sym y.from_is, x.to_is ∙ sym y.to_is)
