-- TEXTS ONE BEHIND ANOTHER: what was read before stands in front, and its escapes are added. Assumes nothing.
use Rattle.std.specs.Prelude.{◌≡◌, refl, List, [], ◌++◌, ℕ, ◌+◌}
use Rattle.std.proofs.Common.{sym, ap, ◌∙◌, append_assoc, append-nil, arith}
use Rattle.language.specs.Tree.{Decoded, unescaped, ◌then◌}
use Rattle.exact.specs.Out.{Out, ok, soft, bad, fmap}
use Rattle.exact.specs.Answers.{fmap_join}

pub then_assoc : (u v w : Decoded) → (u then v) then w ≡ u then (v then w)
then_assoc u v w =
    let a = append_assoc u.bytes v.bytes w.bytes in
    let b : u.escapes + v.escapes + w.escapes ≡ u.escapes + (v.escapes + w.escapes) = omega arith in
    ap (λ (s : List ℕ). record { bytes = s; escapes = u.escapes + v.escapes + w.escapes }) a
    ∙ ap (λ (n : ℕ). record { bytes = u.bytes ++ (v.bytes ++ w.bytes); escapes = n }) b

pub none_then : (v : Decoded) → unescaped [] then v ≡ v
none_then v = let h : 0 + v.escapes ≡ v.escapes = omega arith in ap (λ (n : ℕ). record { bytes = v.bytes; escapes = n }) h

pub then_nil : (v : Decoded) → v then unescaped [] ≡ v
then_nil v =
    let h : v.escapes + 0 ≡ v.escapes = omega arith in
    ap (λ (s : List ℕ). record { bytes = s; escapes = v.escapes + 0 }) (append-nil v.bytes) ∙ ap (λ (n : ℕ). record { bytes = v.bytes; escapes = n }) h

pub then_none : (o : Out Decoded) → fmap (unescaped [] then◌) o ≡ o
then_none (ok v a t) = ap (λ x. ok x a t) (none_then v)
then_none (soft p v a t) = ap (λ x. soft p x a t) (none_then v)
then_none (bad p) = refl

pub then_join : (u v : Decoded) (o : Out Decoded) → fmap (u then◌) (fmap (v then◌) o) ≡ fmap ((u then v) then◌) o
then_join u v (ok w a t) = ap (λ x. ok x a t) (sym (then_assoc u v w))
then_join u v (soft p w a t) = ap (λ x. soft p x a t) (sym (then_assoc u v w))
then_join u v (bad p) = refl

-- values that stand in front of one another as their texts do: texts themselves, and bytes without escapes
pub record Fronted {X : Type 0} (reads : X → Decoded) (front : X → X → X) : Type 0 where
  pub join : (u v : X) (o : Out X) → fmap (front u) (fmap (front v) o) ≡ fmap (front (front u v)) o
  pub reading : (u v : X) → reads (front u v) ≡ reads u then reads v

abbrev pub itself : Decoded → Decoded
itself v = v

pub texts : Fronted itself ◌then◌
texts = record { join = then_join; reading = λ u v. refl }

pub lists : Fronted unescaped ◌++◌
lists = record { join = fmap_join; reading = λ u v. refl }
