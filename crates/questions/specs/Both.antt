-- Two tests, one behind the other. Assumes nothing.
use Rattle.std.specs.Prelude.{◌≡◌, refl, Bool, true, false, ◌&&◌}
use Rattle.std.proofs.Common.{sym, true≢false}
use Rattle.std.proofs.lemmas.Bool.{false≢true}

pub both_left : (a b : Bool) → (a && b) ≡ true → a ≡ true
both_left true b h = refl
both_left false b h = h

pub both_right : (a b : Bool) → (a && b) ≡ true → b ≡ true
both_right true b h = h
both_right false b h = absurd (false≢true h)

pub not_left : (a b : Bool) → a ≡ false → false ≡ (a && b)
not_left true b h = absurd (true≢false h)
not_left false b h = refl

pub not_right : (a b : Bool) → b ≡ false → false ≡ (a && b)
not_right true b h = sym h
not_right false b h = refl

pub then_right : (a b c : Bool) → a ≡ true → c ≡ b → c ≡ (a && b)
then_right true b c h k = k
then_right false b c h k = absurd (false≢true h)
