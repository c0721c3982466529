-- BYTES WRITTEN AT A PLACE (`Puts`), one behind another. A store past the output's end changes nothing. Assumes nothing.
use Rattle.std.specs.Prelude.{◌≡◌, refl, List, [], ◌++◌, ℕ, ◌+◌, length}
use Rattle.std.proofs.Common.{sym, ap, subst, ◌∙◌, arith, length-append}
use Rattle.std.proofs.lemmas.List.Edits.{sets}
use Rattle.rooms.specs.Stores.{sets_append}

-- the bytes w, from x up to y
pub record Puts (w : List ℕ) (x y : ℕ) (out out' : List ℕ) : Type 0 where
  pub ends : y ≡ x + length w
  pub holds : out' ≡ sets out x w

pub puts_none : {x : ℕ} {out : List ℕ} → Puts [] x x out out
puts_none {x} = record { ends = omega arith; holds = refl }

pub puts_as : {w u : List ℕ} {x y : ℕ} {out out' : List ℕ} → w ≡ u → Puts w x y out out' → Puts u x y out out'
puts_as {x = x} {y = y} {out = out} {out' = out'} e h = subst (λ (l : List ℕ). Puts l x y out out') e h

-- one behind another
pub puts_then : {u w : List ℕ} {x y z : ℕ} {out out' out'' : List ℕ} → Puts u x y out out' → Puts w y z out' out'' → Puts (u ++ w) x z out out''
puts_then {u} {w} {x} {y} {z} {out} {out'} {out''} h k =
    record {
      ends = omega (arith, h.ends, k.ends, length-append u w);
      holds =
          k.holds
          ∙ (ap (λ (n : ℕ). sets out' n w) h.ends ∙ (ap (λ (l : List ℕ). sets l (x + length u) w) h.holds ∙ sym (sets_append out x u w)));
    }
