-- FURTHER ON: what is left of a text at a place, and what is left of it at a later one. Assumes nothing.
use Rattle.std.specs.Prelude.{◌≡◌, refl, List, [], ◌++◌, ℕ, ◌+◌, length}
use Rattle.std.proofs.Common.{ap, sym, ◌∙◌, append_assoc, arith, length-append}

-- s is left at `at`; behind the bytes `passed`, at the place at' that they lead to, t is left
pub record Onward (at : ℕ) (s : List ℕ) (at' : ℕ) (t : List ℕ) : Type 0 where
  pub passed : List ℕ
  pub text : s ≡ passed ++ t
  pub place : at' ≡ at + length passed

pub onward_none : (at : ℕ) (s : List ℕ) → Onward at s at s
onward_none at s = record { passed = []; text = refl; place = omega arith }

pub onward_then : {a b c : ℕ} {s t u : List ℕ} → Onward a s b t → Onward b t c u → Onward a s c u
onward_then {u = u} x y =
    let p = x.passed in
    let q = y.passed in
    let h = x.place in
    let k = y.place in
    record { passed = p ++ q; text = x.text ∙ (ap (λ (l : List ℕ). p ++ l) y.text ∙ sym (append_assoc p q u)); place = omega (arith, length-append p q) }

-- as many bytes are passed as places
pub onward_length : {at : ℕ} {s : List ℕ} {at' : ℕ} {t : List ℕ} → Onward at s at' t → at' + length t ≡ at + length s
onward_length {t = t} x =
    let h = x.place in
    let k = ap (λ (l : List ℕ). length l) x.text in
    omega (arith, length-append x.passed t)
