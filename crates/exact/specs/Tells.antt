-- AN ANSWER THAT TELLS whether something holds. Assumes nothing.
use Rattle.std.specs.Prelude.{◌≡◌, refl, Bool, true, false, ℕ, eqb}
use Rattle.std.proofs.Common.{eqb-true}
use Rattle.std.proofs.lemmas.Bool.{eqb-false}

-- an answer that tells whether A holds
abbrev pub Tells : Type 0 → Bool → Type 0
Tells A true = A
Tells A false = A → ⊥

pub tells_yes : {A : Type 0} (r : Bool) → r ≡ true → Tells A r → A
tells_yes r e t = rw e at t

pub tells_no : {A : Type 0} (r : Bool) → r ≡ false → Tells A r → A → ⊥
tells_no r e t = rw e at t

pub tells_map : {A B : Type 0} → (A → B) → (B → A) → (r : Bool) → Tells A r → Tells B r
tells_map f g true t = f t
tells_map f g false t = λ b. t (g b)

pub tells_eqb : (a b : ℕ) → Tells (a ≡ b) (eqb a b)
tells_eqb a b = by (eqb a b) refl
  where
    by : (r : Bool) → eqb a b ≡ r → Tells (a ≡ b) r
    by true e = eqb-true a b e
    by false e = eqb-false a b e
